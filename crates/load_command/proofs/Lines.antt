-- Texts of several pieces, and the first name of a store.
use Rattle.std.proofs.Common.{◌≡◌, ℕ, ◌≤◌, List, [], ◌∷◌, ◌++◌, length, slice_index_or, ap, ◌∙◌, arith, append_assoc}
use Rattle.log_model.specs.declared.name.Name.{Name}

two : (o p q x y : List ℕ) → p ≡ o ++ x → q ≡ p ++ y → q ≡ o ++ (x ++ y)
two o p q x y first second = second ∙ ap (λ l. l ++ y) first ∙ append_assoc o x y

-- six pieces, one after the other
pub six : (o p q r s t u a b c d e f : List ℕ) → p ≡ o ++ a → q ≡ p ++ b → r ≡ q ++ c → s ≡ r ++ d → t ≡ s ++ e → u ≡ t ++ f → u ≡ o ++ (a ++ (b ++ (c ++ (d ++ (e ++ f)))))
six o p q r s t u a b c d e f first second third fourth fifth sixth =
    two o p u a (b ++ (c ++ (d ++ (e ++ f)))) first (two p q u b (c ++ (d ++ (e ++ f))) second (two q r u c (d ++ (e ++ f)) third (two r s u d (e ++ f) fourth (two s t u e f fifth sixth))))

pub head_of : (names l : List Name) (d : Name) → names ≡ l → 1 ≤ length l → (rest : List Name) × (names ≡ slice_index_or l 0 d ∷ rest)
head_of names [] d is some = absurd (omega (arith, some))
head_of names (x ∷ l) d is some = (l, is)
