-- Lines and words, a step at a time.
use Rattle.std.proofs.Common.{◌≡◌, ◌≢◌, ℕ, zero, suc, ◌+◌, ◌<◌, ◌≤◌, Bool, true, false, List, [], ◌∷◌, ◌++◌, length, take, drop, get_or, filter, refl, sym, ap, ◌∙◌, arith, nat_eq, nat_lt, append_assoc, not, map, add-one}
use Rattle.std.proofs.lemmas.List.{map_push}
use Rattle.std.proofs.lemmas.Bool.{ltb-true, ltb-false, ne_eqb, eq-eqb}
use Rattle.std.proofs.lemmas.List.{length-take-le, take_all, drop_all}
use Rattle.script_model.specs.Text.{lines_of, pieces_of, words_of}

-- a first piece ends in front of the first separator
pub lines_cut : (bs : List ℕ) (n : ℕ) → n ≤ length bs → ((k : ℕ) → k < n → get_or bs k 0 ≢ 10) → (n < length bs → get_or bs n 0 ≡ 10) → 0 < length bs
    → lines_of bs ≡ take n bs ∷ lines_of (drop (suc n) bs)
lines_cut [] n le before found some = absurd omega arith
lines_cut (b ∷ bs) zero le before found some = rw (eq-eqb b 10 (found (omega arith))) refl
lines_cut (b ∷ []) (suc n) le before found some =
    let last : n ≡ 0 = omega arith in
    rw (ne_eqb b 10 (before 0 (omega arith)), last) refl
lines_cut (b ∷ c ∷ bs) (suc n) le before found some =
    rw (ne_eqb b 10 (before 0 (omega arith)), lines_cut (c ∷ bs) n (omega arith) (λ k h. before (suc k) (omega arith)) (λ h. found (omega arith)) (omega arith)) refl

pub pieces_cut : (bs : List ℕ) (n : ℕ) → n < length bs → ((k : ℕ) → k < n → get_or bs k 0 ≢ 32) → get_or bs n 0 ≡ 32
    → pieces_of bs ≡ take n bs ∷ pieces_of (drop (suc n) bs)
pieces_cut [] n le before found = absurd omega arith
pieces_cut (b ∷ bs) zero le before found = rw (eq-eqb b 32 found) refl
pieces_cut (b ∷ bs) (suc n) le before found =
    rw (ne_eqb b 32 (before 0 (omega arith)), pieces_cut bs n (omega arith) (λ k h. before (suc k) (omega arith)) found) refl

pub pieces_last : (bs : List ℕ) → ((k : ℕ) → k < length bs → get_or bs k 0 ≢ 32) → pieces_of bs ≡ bs ∷ []
pieces_last [] before = refl
pieces_last (b ∷ bs) before = rw (ne_eqb b 32 (before 0 (omega arith)), pieces_last bs (λ k h. before (suc k) (omega arith))) refl

abbrev IsWord : List ℕ → Bool
IsWord w = not (nat_eq (length w) 0)

kept : (w : List ℕ) (ws : List (List ℕ)) → 0 < length w → filter IsWord (w ∷ ws) ≡ w ∷ filter IsWord ws
kept w ws lt = rw (ne_eqb (length w) 0 (omega arith)) refl

pub words_cut : (bs : List ℕ) (n : ℕ) → n ≤ length bs → ((k : ℕ) → k < n → get_or bs k 0 ≢ 32) → (n < length bs → get_or bs n 0 ≡ 32) → 0 < n
    → words_of bs ≡ take n bs ∷ words_of (drop (suc n) bs)
words_cut bs n le before found some = by (nat_lt n (length bs)) refl
  where
    by : (t : Bool) → nat_lt n (length bs) ≡ t → words_of bs ≡ take n bs ∷ words_of (drop (suc n) bs)
    by true e =
        let lt : n < length bs = ltb-true _ _ e in
        ap (filter IsWord) (pieces_cut bs n lt before (found lt)) ∙ kept (take n bs) (pieces_of (drop (suc n) bs)) (rw (length-take-le n bs le) some)
    by false e =
        let all : length bs ≤ n = ltb-false _ _ e in
        let same : n ≡ length bs = omega arith in
        ap (filter IsWord) (pieces_last bs (λ k h. before k (omega arith))) ∙ kept bs [] (omega arith)
        ∙ (λ i. sym (take_all n bs all) i ∷ words_of (sym (drop_all (suc n) bs (omega arith)) i))

pub words_at : (bs word behind : List ℕ) → (length word ≤ length bs) × ((word ≡ take (length word) bs) × (behind ≡ drop (length word + 1) bs))
    → ((k : ℕ) → k < length word → get_or bs k 0 ≢ 32) → (length word < length bs → get_or bs (length word) 0 ≡ 32) → 0 < length word
    → words_of bs ≡ word ∷ words_of behind
words_at bs word behind at before found some =
    words_cut bs (length word) at.0 before found some
    ∙ (λ i. sym at.1.0 i ∷ words_of ((ap (λ (m : ℕ). drop m bs) (sym (add-one (length word))) ∙ sym at.1.1) i))

pub pushed : {X : Type 0} (f : X → List ℕ) (said new : List X) (x : X) (all left rest : List (List ℕ)) → new ≡ said ++ x ∷ []
    → all ≡ map f said ++ left → left ≡ f x ∷ rest → all ≡ map f new ++ rest
pushed f said new x all left rest e told step =
    told ∙ (λ i. map f said ++ step i) ∙ sym (append_assoc (map f said) (f x ∷ []) rest) ∙ (λ i. (sym (map_push f said x) ∙ ap (map f) (sym e)) i ++ rest)
