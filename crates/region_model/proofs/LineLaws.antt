-- Lines of a journal: one that is added, one that ends, and the edits that they are.
use Rattle.std.proofs.Common.{◌≡◌, ◌≢◌, ℕ, zero, suc, ◌+◌, ◌<◌, ◌≤◌, ◌==◌, get_or, eq-eqb, ne_eqb, Bool, true, false, cond, List, [], ◌∷◌, ◌++◌, length, set, refl, sym, ap, ◌∙◌, arith}
use Rattle.cell_model.specs.Order.{Content, put_cells}
use Rattle.region_model.specs.Journal.{Outcome, Edit, Follows, put_edits}
use Rattle.region_model.specs.Lines.{Line, edit_in, edits_in, ended, with_outcome, put_lines}

pub edits_in-append : (r : ℕ) (xs ys : List Line) → edits_in r (xs ++ ys) ≡ edits_in r xs ++ edits_in r ys
edits_in-append r [] ys = refl
edits_in-append r (x ∷ xs) ys = ap (λ (es : List Edit). edit_in r x ∷ es) (edits_in-append r xs ys)

pub length-edits_in : (r : ℕ) (xs : List Line) → length (edits_in r xs) ≡ length xs
length-edits_in r [] = refl
length-edits_in r (x ∷ xs) = ap suc (length-edits_in r xs)

pub put_edits-lines : (r : ℕ) (m : Content) (xs : List Line) → put_edits m (edits_in r xs) ≡ put_lines m xs
put_edits-lines r m [] = refl
put_edits-lines r m (x ∷ xs) = put_edits-lines r (put_cells m x.number x.batch.cells) xs

pub put_lines-append : (m : Content) (xs ys : List Line) → put_lines m (xs ++ ys) ≡ put_lines (put_lines m xs) ys
put_lines-append m [] ys = refl
put_lines-append m (x ∷ xs) ys = put_lines-append (put_cells m x.number x.batch.cells) xs ys

-- the lines of two lists are the same but for their outcomes
abbrev pub AreAlike : List Line → List Line → Type 0
AreAlike [] [] = Unit {0}
AreAlike [] (y ∷ ys) = ⊥
AreAlike (x ∷ xs) [] = ⊥
AreAlike (x ∷ xs) (y ∷ ys) = (x.number ≡ y.number) × (x.caller ≡ y.caller) × (x.batch ≡ y.batch) × AreAlike xs ys

ended_number : (b : Bool) (x y : Line) → x.number ≡ y.number → (cond b y x).number ≡ x.number
ended_number true x y e = sym e
ended_number false x y e = refl

ended_caller : (b : Bool) (x y : Line) → x.caller ≡ y.caller → (cond b y x).caller ≡ x.caller
ended_caller true x y e = sym e
ended_caller false x y e = refl

ended_cells : (b : Bool) (x y : Line) → x.batch ≡ y.batch → (cond b y x).batch ≡ x.batch
ended_cells true x y e = sym e
ended_cells false x y e = refl

pub alike_ended : (n : ℕ) (o : Outcome) (xs : List Line) → AreAlike xs (with_outcome n o xs)
alike_ended n o [] = tt
alike_ended n o (x ∷ xs) =
    let y : Line = record x { outcome = o } in
    let b = x.number == n in
    (sym (ended_number b x y refl), sym (ended_caller b x y refl), sym (ended_cells b x y refl), alike_ended n o xs)

pub length-with_outcome : (n : ℕ) (o : Outcome) (xs : List Line) → length (with_outcome n o xs) ≡ length xs
length-with_outcome n o [] = refl
length-with_outcome n o (x ∷ xs) = ap suc (length-with_outcome n o xs)

-- ---- numbers that follow

-- lines after n stay
pub others_stay : (r last n : ℕ) (o : Outcome) (xs : List Line) → Follows last (edits_in r xs) → n ≤ last → with_outcome n o xs ≡ xs
others_stay r last n o [] f le = refl
others_stay r last n o (x ∷ xs) f le =
    let number : x.number ≡ last + 1 = f.0 in
    let other : x.number ≢ n = λ e. absurd (omega arith) in
    (λ i. ap (λ (b : Bool). cond b (record x { outcome = o }) x) (ne_eqb x.number n other) i ∷ others_stay r (last + 1) n o xs f.1 (omega arith) i)

-- the line at k is the one numbered last + k + 1
pub set_outcome : (r last k n : ℕ) (o : Outcome) (xs : List Line) (x y : Line) → Follows last (edits_in r xs) → n ≡ last + k + 1 → k < length xs
    → ((d : Line) → get_or xs k d ≡ x) → y ≡ record x { outcome = o } → set xs k y ≡ with_outcome n o xs
set_outcome r last k n o [] x y f is lt at e = absurd (omega arith)
set_outcome r last zero n o (w ∷ xs) x y f is lt at e =
    let number : w.number ≡ last + 1 = f.0 in
    let here : w.number ≡ n = omega arith in
    let rest = others_stay r (last + 1) n o xs f.1 (omega arith) in
    let first : y ≡ ended n o w = e ∙ ap (λ (v : Line). record v { outcome = o }) (sym (at w)) ∙ sym (ap (λ (b : Bool). cond b (record w { outcome = o }) w) (eq-eqb w.number n here)) in
    (λ i. first i ∷ sym rest i)
set_outcome r last (suc k) n o (w ∷ xs) x y f is lt at e =
    let number : w.number ≡ last + 1 = f.0 in
    let other : w.number ≢ n = λ q. absurd (omega arith) in
    let first : w ≡ ended n o w = sym (ap (λ (b : Bool). cond b (record w { outcome = o }) w) (ne_eqb w.number n other)) in
    (λ i. first i ∷ set_outcome r (last + 1) k n o xs x y f.1 (omega arith) (omega arith) at e i)
