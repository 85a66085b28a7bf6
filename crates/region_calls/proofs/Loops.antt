-- Lists that a loop takes item by item.
use Rattle.std.proofs.Common.{◌≡◌, ℕ, ◌<◌, List, [], ◌∷◌, ◌++◌, length, Some, None, sym, ap, ◌∙◌, arith, length-append, append_assoc}

module _ {A : Type 0} where
  -- while one is there, fewer than all were given
  pub one_more : (ys rest all : List A) (x : A) (xs : List A) → ys ++ rest ≡ all → rest ≡ x ∷ xs → length ys < length all
  one_more ys rest all x xs is steps = omega (arith, ap length is, length-append ys rest, ap length steps)

  -- when none is there, all were given
  pub all_given : (ys rest all : List A) (n : ℕ) → ys ++ rest ≡ all → n ≡ length rest → n ≡ 0 → length ys ≡ length all
  all_given ys rest all n is len none = omega (arith, ap length is, length-append ys rest, len, none)

  -- one is given
  pub one_over : (ys rest all : List A) (x : A) (xs : List A) → ys ++ rest ≡ all → rest ≡ x ∷ xs → (ys ++ x ∷ []) ++ xs ≡ all
  one_over ys rest all x xs is steps = append_assoc ys (x ∷ []) xs ∙ ap (λ (l : List A). ys ++ l) (sym steps) ∙ is

  -- nothing is no item
  pub no_item : (x : A) → None ≡ Some x → ⊥
  no_item x e = cc e
