-- The write queue's marks and the journal's lines.
use Rattle.std.proofs.Common.{◌≡◌, ℕ, zero, suc, ◌+◌, ◌-◌, ◌<◌, ◌≤◌, Bool, true, false, cond, List, [], ◌∷◌, length, map, filter, take, get_or, slice_get, Some, refl, sym, ap, ◌∙◌, subst, arith}
use Rattle.std.specs.List.{AllPass}
use Rattle.region_model.specs.Journal.{Base, Outcome, Pending, Follows, IsPoint, is_completed}
use Rattle.region_model.specs.Lines.{Line, edits_in, is_completed_line, completed_in, last_in, IsPending}
use Rattle.write_queue.specs.Numbers.{completed_behind}
use Rattle.write_queue.proofs.MarkLaws.{is_completed as mark_completed, was_completed}
use Rattle.region_state.specs.States.{marks}

-- the queue's completed numbers are those of the completed lines
pub same_completed : (r last : ℕ) (xs : List Line) → Follows last (edits_in r xs) → completed_behind last (marks xs) ≡ completed_in xs
same_completed r last [] f = refl
same_completed r last (x ∷ xs) f = one (is_completed_line x) f.0 (same_completed r (last + 1) xs f.1)
  where
    one : (c : Bool) → x.number ≡ last + 1 → completed_behind (last + 1) (marks xs) ≡ completed_in xs
        → completed_behind last (c ∷ marks xs) ≡ map (λ (y : Line). y.number) (cond c (x ∷ filter is_completed_line xs) (filter is_completed_line xs))
    one true n rest = (λ i. sym n i ∷ rest i)
    one false n rest = rest

pub number_at : (r last : ℕ) (xs : List Line) (i : ℕ) (d : Line) → Follows last (edits_in r xs) → i < length xs → (get_or xs i d).number ≡ last + i + 1
number_at r last [] i d f lt = absurd (omega arith)
number_at r last (x ∷ xs) zero d f lt = let n : x.number ≡ last + 1 = f.0 in omega arith
number_at r last (x ∷ xs) (suc i) d f lt = let n = number_at r (last + 1) xs i d f.1 (omega arith) in omega arith

-- each line up to the point is completed
pub completed_upto : (last p : ℕ) (xs : List Line) → IsPoint last (completed_behind last (marks xs)) p → (i : ℕ) (d : Line) → i < p - last → is_completed_line (get_or xs i d) ≡ true
completed_upto last p xs point i d lt =
    let w = was_completed last (marks xs) (last + i + 1) (point.upto (last + i + 1) (omega arith) (omega arith)) in
    let e : last + i + 1 ≡ last + w.0 + 1 = w.1 in
    let same : w.0 ≡ i = omega arith in
    mark_of xs i d (subst (λ (k : ℕ). slice_get (marks xs) k ≡ Some true) same w.2)
  where
    mark_of : (ys : List Line) (k : ℕ) (d : Line) → slice_get (marks ys) k ≡ Some true → is_completed_line (get_or ys k d) ≡ true
    mark_of [] k d e = absurd (cc e)
    mark_of (y ∷ ys) zero d e = cc e
    mark_of (y ∷ ys) (suc k) d e = mark_of ys k d e

mark_within : (xs : List Line) (k : ℕ) (b : Bool) → slice_get (marks xs) k ≡ Some b → k < length xs
mark_within [] k b e = absurd (cc e)
mark_within (x ∷ xs) zero b e = omega arith
mark_within (x ∷ xs) (suc k) b e = let r = mark_within xs k b e in omega arith

-- the point lies within the journal
pub point_within : (last p : ℕ) (xs : List Line) → IsPoint last (completed_behind last (marks xs)) p → p - last ≤ length xs
point_within last p xs point = go (p - last) refl
  where
    go : (k : ℕ) → p - last ≡ k → k ≤ length xs
    go zero e = omega arith
    go (suc k) e =
        let least : last ≤ p = point.least in
        let w = was_completed last (marks xs) p (point.upto p (omega arith) (omega arith)) in
        let at : p ≡ last + w.0 + 1 = w.1 in
        let lt = mark_within xs w.0 true w.2 in
        omega arith

mark_at : (xs : List Line) (k : ℕ) (d : Line) → k < length xs → slice_get (marks xs) k ≡ Some (is_completed_line (get_or xs k d))
mark_at [] k d lt = absurd (omega arith)
mark_at (x ∷ xs) zero d lt = refl
mark_at (x ∷ xs) (suc k) d lt = mark_at xs k d (omega arith)

get_take : (xs : List Line) (t k : ℕ) (d : Line) → k < t → get_or (take t xs) k d ≡ get_or xs k d
get_take [] zero k d lt = refl
get_take [] (suc t) k d lt = refl
get_take (x ∷ xs) zero k d lt = absurd (omega arith)
get_take (x ∷ xs) (suc t) zero d lt = refl
get_take (x ∷ xs) (suc t) (suc k) d lt = get_take xs t k d (omega arith)

length_take_le : (xs : List Line) (t : ℕ) → length (take t xs) ≤ t
length_take_le [] zero = omega arith
length_take_le [] (suc t) = omega arith
length_take_le (x ∷ xs) zero = omega arith
length_take_le (x ∷ xs) (suc t) = let r = length_take_le xs t in omega arith

pub length_take : (xs : List Line) (t : ℕ) → t ≤ length xs → length (take t xs) ≡ t
length_take xs zero le = let r = length_take_le xs zero in omega arith
length_take [] (suc t) le = absurd (omega arith)
length_take (x ∷ xs) (suc t) le = let r = length_take xs t (omega arith) in omega arith

pub all_completed : (last p : ℕ) (xs : List Line) (t : ℕ) → IsPoint last (completed_behind last (marks xs)) p → t ≤ p - last → AllPass is_completed_line (take t xs)
all_completed last p xs t point le k d lt =
    let short = length_take_le xs t in
    ap is_completed_line (get_take xs t k d (omega arith)) ∙ completed_upto last p xs point k d (omega arith)

front_mark : (xs : List Line) (t k : ℕ) → k < t → t ≤ length xs → AllPass is_completed_line (take t xs) → slice_get (marks xs) k ≡ Some true
front_mark [] t k lt le all = absurd (omega arith)
front_mark (x ∷ xs) zero k lt le all = absurd (omega arith)
front_mark (x ∷ xs) (suc t) zero lt le all = ap Some (all 0 x (omega arith))
front_mark (x ∷ xs) (suc t) (suc k) lt le all = front_mark xs t k (omega arith) (omega arith) (λ i d short. all (suc i) d (omega arith))

-- what is completed at the front isn't longer than the point
pub front_le : (last p : ℕ) (xs : List Line) (t : ℕ) → IsPoint last (completed_behind last (marks xs)) p → t ≤ length xs → AllPass is_completed_line (take t xs) → t ≤ p - last
front_le last p xs t point le all =
    let least : last ≤ p = point.least in
    let no : p - last < t → ⊥ = λ lt. point.greatest (mark_completed last (marks xs) (p - last) (p + 1) (front_mark xs t (p - last) lt le all) (omega arith)) in
    omega (arith, no)

-- a line that is pending is at its place, after what is completed at the front
pub record IsAt (last : ℕ) (xs : List Line) (n : ℕ) : Type 0 where
  pub line : Line
  pub after : last < n
  pub within : n - last - 1 < length xs
  pub there : (d : Line) → get_or xs (n - last - 1) d ≡ line
  pub outcome : line.outcome ≡ Pending

any_default : (xs : List Line) (k : ℕ) (d e : Line) → k < length xs → get_or xs k d ≡ get_or xs k e
any_default [] k d e lt = absurd (omega arith)
any_default (x ∷ xs) zero d e lt = refl
any_default (x ∷ xs) (suc k) d e lt = any_default xs k d e (omega arith)

pub pending_at : (r last n : ℕ) (xs : List Line) → Follows last (edits_in r xs) → IsPending xs n → IsAt last xs n
pending_at r last n xs f p =
    let x = p.0 in
    let k = p.1.0 in
    let lt = p.1.1 in
    let at : get_or xs k x ≡ x = p.1.2 in
    let number = number_at r last xs k x f lt in
    let n' : n ≡ last + k + 1 = sym p.2 ∙ ap (λ (y : Line). y.number) (sym at) ∙ number in
    let place : n - last - 1 ≡ k = omega arith in
    record {
      line = x;
      after = omega arith;
      within = omega arith;
      there = λ d. ap (λ (i : ℕ). get_or xs i d) place ∙ any_default xs k d x lt ∙ at;
      outcome = p.3;
    }

-- its mark isn't set
pub mark_out : (last n : ℕ) (xs : List Line) → IsAt last xs n → slice_get (marks xs) (n - last - 1) ≡ Some false
mark_out last n xs a = mark_at xs (n - last - 1) a.line a.within ∙ ap (λ (x : Line). Some (is_completed_line x)) (a.there a.line) ∙ ap (λ (o : Outcome). Some (is_completed o)) a.outcome

-- it stands after the front
pub behind_front : (last n t : ℕ) (xs : List Line) → IsAt last xs n → AllPass is_completed_line (take t xs) → t ≤ length xs → t ≤ n - last - 1
behind_front last n t xs a all le =
    let no : n - last - 1 < t → ⊥ = λ lt. absurd (cc (sym (mark_out last n xs a) ∙ front_mark xs t (n - last - 1) lt le all)) in
    omega (arith, no)

-- the line at a number's place has that number
pub line_numbered : (r : ℕ) (base : Base) (xs : List Line) (n last : ℕ) (x : Line) → Follows base.last (edits_in r xs) → last ≡ base.last → base.last < n → n ≤ last_in base xs
    → x ≡ get_or xs (n - last - 1) x → x.number ≡ n
line_numbered r base xs n last x f same behind within is =
    let at = number_at r base.last xs (n - last - 1) x f (omega arith) in
    let number : x.number ≡ (get_or xs (n - last - 1) x).number = ap (λ (y : Line). y.number) is in
    omega arith
