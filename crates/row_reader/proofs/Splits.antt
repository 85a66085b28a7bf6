-- A list of cells, parted at a place.
use Rattle.std.proofs.Common.{◌≡◌, ℕ, zero, suc, ◌+◌, ◌<◌, List, [], ◌∷◌, ◌++◌, length, take, drop, get_or, Contains, refl, sym, ap, ◌∙◌, subst, arith}
use Rattle.std.proofs.Math.Seq.{get_or-append_seam, drop-cons}
use Rattle.std.proofs.lemmas.List.{length-append, take_more, take-append-drop}
use Rattle.cell_model.specs.Order.{NumberedCell}

pub regrouped : (xs ys zs : List NumberedCell) → (xs ++ ys) ++ zs ≡ xs ++ (ys ++ zs)
regrouped [] ys zs = refl
regrouped (x ∷ xs) ys zs = ap (λ l. x ∷ l) (regrouped xs ys zs)

-- a list that isn't empty ends with a cell
pub last_of : (xs : List NumberedCell) → 0 < length xs → (front : List NumberedCell) × (y : NumberedCell) × (xs ≡ front ++ y ∷ [])
last_of [] lt = absurd (omega (arith, lt))
last_of (x ∷ []) lt = ([], x, refl)
last_of (x ∷ z ∷ zs) lt = let l = last_of (z ∷ zs) (omega arith) in (x ∷ l.0, l.1, ap (λ t. x ∷ t) l.2)

-- the cell at the place of the seam
pub at_seam : (cells before after : List NumberedCell) (x y : NumberedCell) (place : ℕ) → cells ≡ before ++ x ∷ after → length before ≡ place → y ≡ get_or cells place y → y ≡ x
at_seam cells before after x y place split here is =
    is ∙ ap (λ l. get_or l place y) split ∙ ap (λ n. get_or (before ++ x ∷ after) n y) (sym here) ∙ get_or-append_seam before x after y

-- the cell before the place, and the split there
pub record IsEnding (cells before after : List NumberedCell) (x y : NumberedCell) : Type 0 where
  pub front : List NumberedCell
  pub before_is : before ≡ front ++ y ∷ []
  pub split : cells ≡ front ++ y ∷ (x ∷ after)
  pub long : suc (length front) ≡ length before

pub before_seam : (cells before after : List NumberedCell) (x y : NumberedCell) (place k : ℕ) → cells ≡ before ++ x ∷ after → length before ≡ place → suc k ≡ place → y ≡ get_or cells k y
    → IsEnding cells before after x y
before_seam cells before after x y place k split here next is =
    let l = last_of before (omega (arith, here, next)) in
    let long : length before ≡ length l.0 + 1 = ap length l.2 ∙ length-append l.0 (l.1 ∷ []) in
    let apart : cells ≡ l.0 ++ l.1 ∷ (x ∷ after) = split ∙ ap (λ b. b ++ x ∷ after) l.2 ∙ regrouped l.0 (l.1 ∷ []) (x ∷ after) in
    let same : y ≡ l.1 = at_seam cells l.0 (x ∷ after) l.1 y k apart (omega (arith, long, here, next)) is in
    record {
      front = l.0;
      before_is = subst (λ z. before ≡ l.0 ++ z ∷ []) (sym same) l.2;
      split = subst (λ z. cells ≡ l.0 ++ z ∷ (x ∷ after)) (sym same) apart;
      long = omega (arith, long);
    }

pub behind_none : (xs : List NumberedCell) → xs ++ [] ≡ xs
behind_none [] = refl
behind_none (x ∷ xs) = ap (λ l. x ∷ l) (behind_none xs)

pub one_there : (y e : NumberedCell) → Contains (y ∷ []) e → y ≡ e
one_there y e (zero, lt, s) = s
one_there y e (suc k, lt, s) = absurd (omega (arith, lt))

pub none_in_front : (cells before after : List NumberedCell) (x : NumberedCell) → cells ≡ before ++ x ∷ after → length before ≡ 0 → cells ≡ x ∷ after
none_in_front cells [] after x split none = split
none_in_front cells (y ∷ before) after x split none = absurd (omega (arith, none))

pub next_front : (cells : List NumberedCell) (i : ℕ) (w : NumberedCell) → i < length cells → w ≡ get_or cells i w → take i cells ++ w ∷ [] ≡ take (i + 1) cells
next_front cells i w lt is = ap (λ z. take i cells ++ z ∷ []) is ∙ sym (take_more cells i w lt)

-- a list parted at a cell of it
pub parted : (cells : List NumberedCell) (i : ℕ) (w : NumberedCell) → i < length cells → w ≡ get_or cells i w → cells ≡ take i cells ++ w ∷ drop (suc i) cells
parted cells i w lt is = sym (take-append-drop i cells) ∙ ap (λ l. take i cells ++ l) (drop-cons cells i w lt ∙ ap (λ z. z ∷ drop (suc i) cells) (sym is))
