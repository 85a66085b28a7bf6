-- What is shown of a region stays a beginning of its journal.
use Rattle.std.proofs.Common.{◌≡◌, ◌≢◌, ℕ, zero, suc, ◌+◌, ◌<◌, ◌≤◌, Bool, true, false, true≢false, cond, List, [], ◌∷◌, ◌++◌, length, refl, sym, ap, ◌∙◌, subst, arith, Result, Ok, Err, OnOk, OnErr, take, get_or, ne_eqb}
use Rattle.std.specs.List.{AllPass}
use mathlib.Core.List.{IsPrefix}
use Rattle.region_model.specs.Journal.{Outcome, Follows, is_completed}
use Rattle.region_model.specs.Lines.{Line, edits_in, ended, with_outcome, IsPending, is_completed_line}
use Rattle.region_versions.specs.Histories.{Beginning, beginning}
use Rattle.region_versions.proofs.Fronts.{prefix_self, prefix_trans}
use Rattle.region_lock.specs.Histories.{HasShown}
use Rattle.region_lock.proofs.Ties.{above_last}

-- a pending line is behind a completed beginning
pub pending_behind : (r last n : ℕ) (xs rest : List Line) → Follows last (edits_in r (xs ++ rest)) → AllPass is_completed_line xs → IsPending (xs ++ rest) n → last + length xs < n
pending_behind r last n [] rest f all p = let lt : last < p.0.number = above_last r last rest p.0 f p.1 in let same : p.0.number ≡ n = p.2 in omega arith
pending_behind r last n (x ∷ xs) rest f all (y, (zero, lt, e), number, outcome) =
    let done : is_completed_line x ≡ true = all 0 x (omega arith) in
    let not_done : is_completed_line x ≡ false = ap is_completed_line e ∙ ap is_completed outcome in
    absurd (true≢false (sym done ∙ not_done))
pending_behind r last n (x ∷ xs) rest f all (y, (suc k, lt, e), number, outcome) =
    let rec : last + 1 + length xs < n = pending_behind r (last + 1) n xs rest f.1 (λ i d short. all (suc i) d (omega arith)) (y, (k, omega (arith, lt), e), number, outcome) in
    omega arith

front_stays : (r last n : ℕ) (o : Outcome) (xs rest : List Line) → Follows last (edits_in r (xs ++ rest)) → last + length xs < n → with_outcome n o (xs ++ rest) ≡ xs ++ with_outcome n o rest
front_stays r last n o [] rest f lt = refl
front_stays r last n o (x ∷ xs) rest f lt =
    let number : x.number ≡ last + 1 = f.0 in
    let other : x.number ≢ n = λ e. absurd (omega (arith, e)) in
    let same : ended n o x ≡ x = ap (λ (b : Bool). cond b (record x { outcome = o }) x) (ne_eqb x.number n other) in
    (λ i. same i ∷ front_stays r (last + 1) n o xs rest f.1 (omega arith) i)

pub shown_ended : (r last n : ℕ) (o : Outcome) (xs : List Line) (history seen : Beginning) → HasShown r xs history seen → Follows last (edits_in r xs) → IsPending xs n → HasShown r (with_outcome n o xs) history seen
shown_ended r last n o xs history seen h f p =
    let rest = h.front.0 in
    let whole : history.lines ++ rest ≡ xs = h.front.1 in
    let follows : Follows last (edits_in r (history.lines ++ rest)) = subst (λ (l : List Line). Follows last (edits_in r l)) (sym whole) f in
    let pending : IsPending (history.lines ++ rest) n = subst (λ (l : List Line). IsPending l n) (sym whole) p in
    let behind = pending_behind r last n history.lines rest follows h.completed pending in
    record { region = h.region; of = h.of; front = (with_outcome n o rest, sym (front_stays r last n o history.lines rest follows behind) ∙ ap (with_outcome n o) whole); completed = h.completed; shown = h.shown }

-- lines are added after
pub shown_begun : (r : ℕ) (xs ys : List Line) (history seen : Beginning) → HasShown r xs history seen → HasShown r (xs ++ ys) history seen
shown_begun r xs ys history seen h = record { region = h.region; of = h.of; front = prefix_trans history.lines xs (xs ++ ys) h.front (ys, refl); completed = h.completed; shown = h.shown }

-- there is no line, and nothing is shown
pub shown_none : (r : ℕ) (xs : List Line) (history seen : Beginning) → xs ≡ [] → history ≡ beginning r [] → seen ≡ history → HasShown r xs history seen
shown_none r xs history seen none new same =
    let empty : history.lines ≡ [] = ap (λ (b : Beginning). b.lines) new in
    record {
      region = ap (λ (b : Beginning). b.region) new;
      of = ap (λ (b : Beginning). b.region) (same ∙ new);
      front = (xs, ap (λ (l : List Line). l ++ xs) empty);
      completed = subst (AllPass is_completed_line) (sym empty) (λ k d lt. absurd (omega (arith, lt)));
      shown = subst (λ (b : Beginning). IsPrefix b.lines history.lines) (sym same) (prefix_self history.lines);
    }

-- ---- the history catches up

pub prefix_more : (xs ys : List Line) (d : Line) → IsPrefix xs ys → length xs < length ys → IsPrefix (xs ++ get_or ys (length xs) d ∷ []) ys
prefix_more [] [] d p lt = absurd (omega arith)
prefix_more [] (y ∷ ys) d p lt = (ys, refl)
prefix_more (x ∷ xs) [] d p lt = absurd (omega arith)
prefix_more (x ∷ xs) (y ∷ ys) d p lt =
    let heads : x ≡ y = cc (p.1) in
    let r = prefix_more xs ys d (p.0, cc (p.1)) (omega arith) in
    (r.0, cc (heads, r.1))

pub completed_prefix : (xs ys : List Line) (n : ℕ) → IsPrefix xs ys → length xs ≤ n → AllPass is_completed_line (take n ys) → AllPass is_completed_line xs
completed_prefix [] ys n p le all k d lt = absurd (omega arith)
completed_prefix (x ∷ xs) [] n p le all k d lt = absurd (cc (p.1))
completed_prefix (x ∷ xs) (y ∷ ys) zero p le all k d lt = absurd (omega arith)
completed_prefix (x ∷ xs) (y ∷ ys) (suc n) p le all zero d lt = let heads : x ≡ y = cc (p.1) in ap is_completed_line heads ∙ all 0 d (omega arith)
completed_prefix (x ∷ xs) (y ∷ ys) (suc n) p le all (suc k) d lt = completed_prefix xs ys n (p.0, cc (p.1)) (omega arith) (λ i e short. all (suc i) e (omega arith)) k d (omega arith)

-- the history goes on, and what is shown stays
pub shown_caught : (r : ℕ) (xs : List Line) (history history' seen : Beginning) (n : ℕ) → HasShown r xs history seen → history'.region ≡ history.region → IsPrefix history.lines history'.lines → IsPrefix history'.lines xs → length history'.lines ≤ n
    → AllPass is_completed_line (take n xs) → HasShown r xs history' seen
shown_caught r xs history history' seen n h region later front within all = record {
  region = region ∙ h.region;
  of = h.of;
  front = front;
  completed = completed_prefix history'.lines xs n front within all;
  shown = prefix_trans seen.lines history.lines history'.lines h.shown later;
}

-- what is shown is all of the history
pub shown_whole : (r : ℕ) (xs : List Line) (history seen seen' : Beginning) → HasShown r xs history seen → seen' ≡ history → HasShown r xs history seen'
shown_whole r xs history seen seen' h is = record {
  region = h.region;
  of = ap (λ (b : Beginning). b.region) is ∙ h.region;
  front = h.front;
  completed = h.completed;
  shown = subst (λ (b : Beginning). IsPrefix b.lines history.lines) (sym is) (prefix_self history.lines);
}

pub shown_after : {A E : Type 0} (res : Result A E) (r : ℕ) (xs : List Line) (history front seen seen' : Beginning) → HasShown r xs history seen → front ≡ history → OnOk res (seen' ≡ front) → OnErr res (seen' ≡ seen) → HasShown r xs history seen'
shown_after (Ok a) r xs history front seen seen' h same ok err = shown_whole r xs history seen seen' h (ok ∙ same)
shown_after (Err e) r xs history front seen seen' h same ok err = subst (HasShown r xs history) (sym err) h

-- as many of the lines as the cut has are the cut, so completed
pub cut_completed : (xs cut : List Line) (n : ℕ) → n ≡ length cut → cut ≡ take (length cut) xs → AllPass is_completed_line cut → AllPass is_completed_line (take n xs)
cut_completed xs cut n long is all = subst (AllPass is_completed_line) (is ∙ ap (λ (k : ℕ). take k xs) (sym long)) all
