-- A file reads as one text, so the text is had back from the mere fact that there is one.
use Rattle.std.proofs.Common.{◌≡◌, ℕ, ◌≤◌, List, length, Option, Some, None, refl, ap, arith}
use Rattle.std.specs.Coded.{le_prop}
use Rattle.std.proofs.Math.Logic.{∥∥₁_elim}
use Rattle.log_model.specs.declared.name.Name.{Name}
use Rattle.log_model.specs.Files.{Files, content, Reads}

some_text : (image : Option (List ℕ)) (at : ℕ) → ∥ ((c : List ℕ) × (image ≡ Some c) × (at ≤ length c)) ∥₁ → (c : List ℕ) × (image ≡ Some c) × (at ≤ length c)
some_text None at h = absurd (∥∥₁_elim h (λ a b. absurd a) (λ r. absurd (cc (r.1))))
some_text (Some c) at h = (c, refl, ∥∥₁_elim h le_prop (λ r. (let same : c ≡ r.0 = cc (r.1) in omega (arith, r.2, ap length same))))

-- a file that is there, and as long
pub reads_back : (files : Files) (name : Name) (at : ℕ) → ∥ ((c : List ℕ) × Reads files name c × (at ≤ length c)) ∥₁ → (c : List ℕ) × Reads files name c × (at ≤ length c)
reads_back files name at h = some_text (content files name) at h

a_text : (image : Option (List ℕ)) → ∥ ((c : List ℕ) × (image ≡ Some c)) ∥₁ → (c : List ℕ) × (image ≡ Some c)
a_text None h = absurd (∥∥₁_elim h (λ a b. absurd a) (λ r. absurd (cc (r.1))))
a_text (Some c) h = (c, refl)

-- a file that is there
pub reads_some : (files : Files) (name : Name) → ∥ ((c : List ℕ) × Reads files name c) ∥₁ → (c : List ℕ) × Reads files name c
reads_some files name h = a_text (content files name) h
