-- Of two rows with different words in front the order is that of the words.
use Rattle.std.specs.Prelude.{◌≡◌, ℕ, zero, suc, ◌<◌, List, [], ◌∷◌, get_or}
use Rattle.std.proofs.Common.{refl, sym, ap, ◌∙◌, subst, arith}
use Rattle.std.specs.declared.cmp.Ordering.{Ordering}
use Rattle.std.specs.declared.cmp.Ordering.TheVariants.{Less, Equal, Greater}
use Rattle.std.specs.Ordering.{nat_cmp, ordering_then, ordering_reverse}
use Rattle.std.specs.Cmp.{nat_cmp_is}
use Rattle.std.specs.Cmp.Lexicographic.{slice_cmp, nat_list_cmp_total}
use Rattle.std.proofs.lemmas.Cmp.{ranked}
use Rattle.cell_model.specs.Order.{NumberedCell, numbered_cmp}
use Rattle.mem_segments.specs.Prefix.{word_of, IsPrefix}

abbrev AreBytes : ℕ → List ℕ → Type 0
AreBytes n row = (i : ℕ) → i < n → get_or row i 0 < 256

fewer : (n : ℕ) (row : List ℕ) → AreBytes (suc n) row → AreBytes n row
fewer n row bytes i lt = bytes i (omega arith)

-- ---- the first bytes that differ decide

first_below : (n : ℕ) (xs ys : List ℕ) → ((i : ℕ) → i < n → get_or xs i 0 ≡ get_or ys i 0) → get_or xs n 0 < get_or ys n 0 → slice_cmp nat_cmp xs ys ≡ Less
first_below n [] [] same lt = absurd (omega arith)
first_below n [] (y ∷ ys) same lt = refl
first_below n (x ∷ xs) [] same lt = absurd (omega arith)
first_below zero (x ∷ xs) (y ∷ ys) same lt = ap (λ o. ordering_then o (slice_cmp nat_cmp xs ys)) (sym (nat_cmp_is x y Less lt))
first_below (suc n) (x ∷ xs) (y ∷ ys) same lt =
    ap (λ o. ordering_then o (slice_cmp nat_cmp xs ys)) (sym (nat_cmp_is x y Equal (same 0 (omega arith))))
    ∙ first_below n xs ys (λ i below. same (suc i) (omega arith)) lt

-- ---- equal words are of equal bytes

same_bytes : (n : ℕ) (xs ys : List ℕ) → AreBytes n xs → AreBytes n ys → word_of n xs ≡ word_of n ys → (i : ℕ) → i < n → get_or xs i 0 ≡ get_or ys i 0
same_bytes zero xs ys a b e i lt = absurd (omega arith)
same_bytes (suc n) xs ys a b e i lt =
    elim (nat_cmp i n) as (λ o. o ≡ nat_cmp i n → get_or xs i 0 ≡ get_or ys i 0) [
      | Less ↦ λ o. same_bytes n xs ys (fewer n xs a) (fewer n ys b) (omega (arith, a n (omega arith), b n (omega arith), e)) i (ranked i n Less o)
      | Equal ↦ λ o. subst (λ k. get_or xs k 0 ≡ get_or ys k 0) (sym (ranked i n Equal o)) (omega (arith, a n (omega arith), b n (omega arith), e))
      | Greater ↦ λ o. absurd (omega (arith, lt, ranked i n Greater o))
    ] refl

-- ---- the words decide

below : (n : ℕ) (xs ys : List ℕ) → AreBytes n xs → AreBytes n ys → word_of n xs < word_of n ys → slice_cmp nat_cmp xs ys ≡ Less
below zero xs ys a b lt = absurd (omega arith)
below (suc n) xs ys a b lt =
    let x = word_of n xs in
    let y = word_of n ys in
    let last_x = a n (omega arith) in
    let last_y = b n (omega arith) in
    elim (nat_cmp x y) as (λ o. o ≡ nat_cmp x y → slice_cmp nat_cmp xs ys ≡ Less) [
      | Less ↦ λ o. below n xs ys (fewer n xs a) (fewer n ys b) (ranked x y Less o)
      | Equal ↦ λ o. first_below n xs ys (same_bytes n xs ys (fewer n xs a) (fewer n ys b) (ranked x y Equal o)) (omega (arith, lt, ranked x y Equal o))
      | Greater ↦ λ o. absurd (omega (arith, lt, last_x, last_y, ranked x y Greater o))
    ] refl

-- the order of two cells of one row
abbrev behind : NumberedCell → NumberedCell → Ordering
behind x y =
    ordering_then (slice_cmp nat_cmp x.1.family y.1.family)
    (ordering_then (slice_cmp nat_cmp x.1.qualifier y.1.qualifier) (ordering_then (nat_cmp y.1.ts x.1.ts) (nat_cmp y.1.kind x.1.kind)))

by_rows : (x y : NumberedCell) (o : Ordering) → slice_cmp nat_cmp x.1.row y.1.row ≡ o → ordering_then (ordering_then o (behind x y)) (nat_cmp y.0 x.0) ≡ numbered_cmp x y
by_rows x y o e = sym (ap (λ r. ordering_then (ordering_then r (behind x y)) (nat_cmp y.0 x.0)) e)

-- where the words differ they tell the order of the numbered cells
pub prefixes_decide : (x y : NumberedCell) (p q : ℕ) (o : Ordering) → IsPrefix p x.1.row → IsPrefix q y.1.row → o ≡ nat_cmp p q → (o ≡ Equal → ⊥) → o ≡ numbered_cmp x y
prefixes_decide x y p q Less a b e other =
    by_rows x y Less (below 8 x.1.row y.1.row a.bytes b.bytes (omega (arith, a.word, b.word, ranked p q Less e)))
prefixes_decide x y p q Equal a b e other = absurd (other refl)
prefixes_decide x y p q Greater a b e other =
    by_rows x y Greater (nat_list_cmp_total.antisymm x.1.row y.1.row ∙ ap ordering_reverse (below 8 y.1.row x.1.row b.bytes a.bytes (omega (arith, a.word, b.word, ranked p q Greater e))))
