-- What stands before a dash and after it, where no dash stands before.
use Rattle.std.proofs.Common.{◌≡◌, ℕ, ◌<◌, ◌+◌, ◌%◌, ◌^◌, ◌==◌, Bool, true, false, ◌&&◌, not, List, [], ◌∷◌, ◌++◌, refl, sym, ap, ◌∙◌, arith}
use Rattle.std.specs.List.{list_all}
use Rattle.std.specs.Fmt.{decimal}
use Rattle.std.proofs.lemmas.Fmt.{decimal_by_steps}
use Rattle.std.proofs.lemmas.Bool.Decides.{nat_tests}

abbrev pub is_within : ℕ → Bool
is_within b = not (b == 45)

-- no dash stands in it
abbrev pub is_part : List ℕ → Bool
is_part w = list_all is_within w

both : (a b : Bool) → a && b ≡ true → (a ≡ true) × (b ≡ true)
both true b e = (refl, e)
both false b e = let no : ⊥ = cc in absurd no

part_append : (w v : List ℕ) → is_part w ≡ true → is_part v ≡ true → is_part (w ++ v) ≡ true
part_append [] v hw hv = hv
part_append (x ∷ w) v hw hv = grind (arith, part_append w v)

pub decimal_part : (n : ℕ) → n < 2 ^ 64 → is_part (decimal n) ≡ true
decimal_part = decimal_by_steps (λ n ds. is_part ds ≡ true) (λ n h. grind (arith, nat_tests)) (λ n ds h is. part_append ds ((48 + n % 10) ∷ []) is (grind (arith, nat_tests)))

-- a text with a dash is no part
has_dash : (a b : List ℕ) → is_part (a ++ (45 ∷ b)) ≡ true → ⊥
has_dash [] b e = let no : false ≡ true = e in cc
has_dash (x ∷ a) b e = has_dash a b (both (is_within x) (is_part (a ++ (45 ∷ b))) e).1

-- a text round a dash, with no other dash, is so in one way
pub parts_apart : (a w b s : List ℕ) → is_part w ≡ true → is_part s ≡ true → a ++ (45 ∷ b) ≡ w ++ (45 ∷ s) → (a ≡ w) × (b ≡ s)
parts_apart [] [] b s hw hs e = (refl, cc)
parts_apart [] (y ∷ w) b s hw hs e =
    let here : is_within y ≡ true = (both (is_within y) (is_part w) hw).0 in
    let same : 45 ≡ y = cc in
    let no : ⊥ = cc (ap is_within same, here) in
    absurd no
parts_apart (x ∷ a) [] b s hw hs e =
    let rest : s ≡ a ++ (45 ∷ b) = cc in
    absurd (has_dash a b (sym (ap is_part rest) ∙ hs))
parts_apart (x ∷ a) (y ∷ w) b s hw hs e =
    let rest : a ++ (45 ∷ b) ≡ w ++ (45 ∷ s) = cc in
    let first : x ≡ y = cc in
    let r = parts_apart a w b s (both (is_within y) (is_part w) hw).1 hs rest in
    let parts : (x ∷ a) ≡ (y ∷ w) = cc (first, r.0) in
    (parts, r.1)

-- what stands round the dash of two numbers
pub numbers_round : (text a b : List ℕ) (r n : ℕ) → r < 2 ^ 64 → n < 2 ^ 64 → text ≡ a ++ (45 ∷ b) → text ≡ decimal r ++ (45 ∷ decimal n)
    → (a ≡ decimal r) × (b ≡ decimal n)
numbers_round text a b r n hr hn is same = parts_apart a (decimal r) b (decimal n) (decimal_part r hr) (decimal_part n hn) (sym is ∙ same)
