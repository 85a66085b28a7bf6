-- Cells in order: those of a family stand together, and so do those of a column, the latest first.
use Rattle.std.proofs.Common.{◌≡◌, ℕ, zero, suc, ◌<◌, ◌≤◌, ◌&&◌, Bool, true, false, T, List, [], ◌∷◌, ◌++◌, map, Contains, refl, sym, ap, ◌∙◌, subst, arith}
use Rattle.std.specs.declared.cmp.Ordering.{Ordering}
use Rattle.std.specs.declared.cmp.Ordering.TheVariants.{Less, Equal, Greater}
use Rattle.std.specs.Ordering.{nat_cmp, ordering_then, ordering_reverse, is_eq, is_lt}
use Rattle.std.specs.Cmp.Lexicographic.{slice_cmp, nat_list_cmp_total}
use Rattle.std.specs.FinMap.{nat_cmp-IsAntisymmetric, slice_cmp-IsAntisymmetric}
use Rattle.std.proofs.lemmas.Cmp.{nat_cmp_total, tied_itself, ranked}
use Rattle.std.proofs.lemmas.List.Elements.{Contains-append_right}
use Rattle.std.specs.FinMap.Entries.{below_all}
use Rattle.cell_model.specs.Order.{NumberedCell, numbered_cmp, version_cmp, version_of}
use Rattle.cell_model.specs.Merge.{IsRising, entry_of}
use Rattle.mask_model.specs.Masked.{same}

abbrev pub Less_than : NumberedCell → NumberedCell → Type 0
Less_than x y = numbered_cmp x y ≡ Less

-- ---- the parts of the order

not_greater : (a b : Ordering) → ordering_then a b ≡ Less → a ≡ Greater → ⊥
not_greater Less b e g = absurd cc
not_greater Equal b e g = absurd cc
not_greater Greater b e g = absurd cc

behind_tie : (a b : Ordering) → ordering_then a b ≡ Less → a ≡ Equal → b ≡ Less
behind_tie a b e t = sym (ap (λ o. ordering_then o b) t) ∙ e

pub equal_from : (a b : List ℕ) → same a b ≡ true → a ≡ b
equal_from a b e = slice_cmp-IsAntisymmetric nat_cmp-IsAntisymmetric a b (is_equal (slice_cmp nat_cmp a b) e)
  where
    is_equal : (o : Ordering) → is_eq o ≡ true → o ≡ Equal
    is_equal Less e = absurd cc
    is_equal Equal e = refl
    is_equal Greater e = absurd cc

pub same_itself : (a : List ℕ) → same a a ≡ true
same_itself a = ap is_eq (tied_itself nat_list_cmp_total a)

-- of two lists, where the first is not greater and the second not less, they are the same
tied : (a b : List ℕ) → (slice_cmp nat_cmp a b ≡ Greater → ⊥) → (slice_cmp nat_cmp b a ≡ Greater → ⊥) → slice_cmp nat_cmp a b ≡ Equal
tied a b not_above not_below = elim (slice_cmp nat_cmp a b) as (λ o. slice_cmp nat_cmp a b ≡ o → o ≡ Equal) [
  | Less ↦ λ e. absurd (not_below (nat_list_cmp_total.antisymm b a ∙ ap ordering_reverse e))
  | Equal ↦ λ e. refl
  | Greater ↦ λ e. absurd (not_above e)
] refl

-- by row, then the rest
abbrev behind_row : NumberedCell → NumberedCell → Ordering
behind_row x y =
    ordering_then (slice_cmp nat_cmp x.1.family y.1.family) (ordering_then (slice_cmp nat_cmp x.1.qualifier y.1.qualifier) (ordering_then (nat_cmp y.1.ts x.1.ts) (ordering_then (nat_cmp y.1.kind x.1.kind) (nat_cmp y.0 x.0))))

flat : (r f q t k n : Ordering) → ordering_then (ordering_then r (ordering_then f (ordering_then q (ordering_then t k)))) n ≡ ordering_then r (ordering_then f (ordering_then q (ordering_then t (ordering_then k n))))
flat Less f q t k n = refl
flat Greater f q t k n = refl
flat Equal Less q t k n = refl
flat Equal Greater q t k n = refl
flat Equal Equal Less t k n = refl
flat Equal Equal Greater t k n = refl
flat Equal Equal Equal Less k n = refl
flat Equal Equal Equal Greater k n = refl
flat Equal Equal Equal Equal k n = refl

by_parts : (x y : NumberedCell) → Less_than x y → ordering_then (slice_cmp nat_cmp x.1.row y.1.row) (behind_row x y) ≡ Less
by_parts x y e = sym (flat (slice_cmp nat_cmp x.1.row y.1.row) (slice_cmp nat_cmp x.1.family y.1.family) (slice_cmp nat_cmp x.1.qualifier y.1.qualifier) (nat_cmp y.1.ts x.1.ts) (nat_cmp y.1.kind x.1.kind) (nat_cmp y.0 x.0)) ∙ e

-- ---- what stands between two cells of a family is of it, and so it is of a column

pub record IsFamily (x y : NumberedCell) : Type 0 where
  pub row : x.1.row ≡ y.1.row
  pub family : x.1.family ≡ y.1.family

pub record IsColumn (x y : NumberedCell) : Type 0 where
  pub of : IsFamily x y
  pub qualifier : x.1.qualifier ≡ y.1.qualifier

pub family_between : (x y z : NumberedCell) → Less_than x y → Less_than y z → IsFamily x z → IsFamily x y
family_between x y z xy yz xz =
    let px = by_parts x y xy in
    let py = by_parts y z yz in
    let row : slice_cmp nat_cmp x.1.row y.1.row ≡ Equal = tied x.1.row y.1.row (λ g. not_greater (slice_cmp nat_cmp x.1.row y.1.row) (behind_row x y) px g)
    (λ g. not_greater (slice_cmp nat_cmp y.1.row z.1.row) (behind_row y z) py (subst (λ r. slice_cmp nat_cmp y.1.row r ≡ Greater) xz.row g)) in
    let rows : x.1.row ≡ y.1.row = slice_cmp-IsAntisymmetric nat_cmp-IsAntisymmetric x.1.row y.1.row row in
    let row' : slice_cmp nat_cmp y.1.row z.1.row ≡ Equal = subst (λ r. slice_cmp nat_cmp y.1.row r ≡ Equal) (sym rows ∙ xz.row) (tied_itself nat_list_cmp_total y.1.row) in
    let fx = behind_tie _ (behind_row x y) px row in
    let fy = behind_tie _ (behind_row y z) py row' in
    let family : slice_cmp nat_cmp x.1.family y.1.family ≡ Equal = tied x.1.family y.1.family (λ g. not_greater (slice_cmp nat_cmp x.1.family y.1.family) _ fx g)
    (λ g. not_greater (slice_cmp nat_cmp y.1.family z.1.family) _ fy (subst (λ r. slice_cmp nat_cmp y.1.family r ≡ Greater) xz.family g)) in
    record { row = rows; family = slice_cmp-IsAntisymmetric nat_cmp-IsAntisymmetric x.1.family y.1.family family }

-- after the family
abbrev behind_family : NumberedCell → NumberedCell → Ordering
behind_family x y = ordering_then (slice_cmp nat_cmp x.1.qualifier y.1.qualifier) (ordering_then (nat_cmp y.1.ts x.1.ts) (ordering_then (nat_cmp y.1.kind x.1.kind) (nat_cmp y.0 x.0)))

tie_of : (a b : List ℕ) → a ≡ b → slice_cmp nat_cmp a b ≡ Equal
tie_of a b e = subst (λ c. slice_cmp nat_cmp a c ≡ Equal) e (tied_itself nat_list_cmp_total a)

in_the_family : (x y : NumberedCell) → Less_than x y → IsFamily x y → behind_family x y ≡ Less
in_the_family x y e f = behind_tie _ (behind_family x y) (behind_tie _ (behind_row x y) (by_parts x y e) (tie_of x.1.row y.1.row f.row)) (tie_of x.1.family y.1.family f.family)

pub column_between : (x y z : NumberedCell) → Less_than x y → Less_than y z → IsColumn x z → IsColumn x y
column_between x y z xy yz xz =
    let f = family_between x y z xy yz xz.of in
    let fy : IsFamily y z = record { row = sym f.row ∙ xz.of.row; family = sym f.family ∙ xz.of.family } in
    let qx = in_the_family x y xy f in
    let qy = in_the_family y z yz fy in
    let qualifier : slice_cmp nat_cmp x.1.qualifier y.1.qualifier ≡ Equal = tied x.1.qualifier y.1.qualifier (λ g. not_greater (slice_cmp nat_cmp x.1.qualifier y.1.qualifier) _ qx g)
    (λ g. not_greater (slice_cmp nat_cmp y.1.qualifier z.1.qualifier) _ qy (subst (λ r. slice_cmp nat_cmp y.1.qualifier r ≡ Greater) xz.qualifier g)) in
    record { of = f; qualifier = slice_cmp-IsAntisymmetric nat_cmp-IsAntisymmetric x.1.qualifier y.1.qualifier qualifier }

-- ---- in one column the latest come first, and of one timestamp deletes before puts, and of one key the higher number

-- x stands before y in one column
pub record IsNewer (x y : NumberedCell) : Type 0 where
  pub ts : y.1.ts ≤ x.1.ts
  pub kind : y.1.ts ≡ x.1.ts → y.1.kind ≤ x.1.kind
  pub number : y.1.ts ≡ x.1.ts → y.1.kind ≡ x.1.kind → y.0 < x.0

below_or_tied : (a b : ℕ) (o : Ordering) → ordering_then (nat_cmp a b) o ≡ Less → a ≤ b
below_or_tied a b o e = elim (nat_cmp a b) as (λ r. r ≡ nat_cmp a b → ordering_then r o ≡ Less → a ≤ b) [
  | Less ↦ λ is e. let lt : a < b = ranked a b Less is in omega (arith, lt)
  | Equal ↦ λ is e. let same : a ≡ b = ranked a b Equal is in omega (arith, same)
  | Greater ↦ λ is e. absurd cc
] refl e

tied_at : (a b : ℕ) (o : Ordering) → ordering_then (nat_cmp a b) o ≡ Less → a ≡ b → o ≡ Less
tied_at a b o e same = behind_tie (nat_cmp a b) o e (subst (λ c. nat_cmp a c ≡ Equal) same (tied_itself nat_cmp_total a))

pub newer : (x y : NumberedCell) → Less_than x y → IsColumn x y → IsNewer x y
newer x y e c =
    let k = behind_tie _ (ordering_then (nat_cmp y.1.ts x.1.ts) (ordering_then (nat_cmp y.1.kind x.1.kind) (nat_cmp y.0 x.0))) (in_the_family x y e c.of) (tie_of x.1.qualifier y.1.qualifier c.qualifier) in
    record {
      ts = below_or_tied y.1.ts x.1.ts _ k;
      kind = λ t. below_or_tied y.1.kind x.1.kind _ (tied_at y.1.ts x.1.ts _ k t);
      number = λ t s. let lt : y.0 < x.0 = ranked y.0 x.0 Less (sym (tied_at y.1.kind x.1.kind _ (tied_at y.1.ts x.1.ts _ k t) s)) in lt;
    }

-- ---- lists in order

less_of : (o : Ordering) → T (is_lt o) → o ≡ Less
less_of Less p = refl
less_of Equal p = absurd p
less_of Greater p = absurd p

first_part : (a b : Bool) → T (a && b) → T a
first_part true b p = tt
first_part false b p = p

second_part : (a b : Bool) → T (a && b) → T b
second_part true b p = p
second_part false b p = absurd p

all_above : (x y : NumberedCell) (ys : List NumberedCell) → T (below_all version_cmp (version_of x) (map entry_of ys)) → Contains ys y → Less_than x y
all_above x y [] b is = absurd (omega (arith, is.1))
all_above x y (z ∷ zs) b (zero, lt, e) = subst (Less_than x) e (less_of _ (first_part _ _ b))
all_above x y (z ∷ zs) b (suc k, lt, e) = all_above x y zs (second_part _ _ b) (k, omega (arith, lt), e)

-- of a list in order each cell before one is less, and each after it is greater
pub above : (before after : List NumberedCell) (p a : NumberedCell) → IsRising (before ++ p ∷ after) → Contains after a → Less_than p a
above [] after p a r is = all_above p a after (first_part _ _ r) is
above (b ∷ before) after p a r is = above before after p a (second_part _ _ r) is

pub below : (before after : List NumberedCell) (p b : NumberedCell) → IsRising (before ++ p ∷ after) → Contains before b → Less_than b p
below [] after p b r is = absurd (omega (arith, is.1))
below (c ∷ before) after p b r (zero, lt, e) = subst (λ z. Less_than z p) e (all_above c p (before ++ p ∷ after) (first_part _ _ r) (Contains-append_right before (p ∷ after) p (0, omega arith, refl)))
below (c ∷ before) after p b r (suc k, lt, e) = below before after p b (second_part _ _ r) (k, omega (arith, lt), e)
