-- How far a file is read into bytes that are as many as it has.
use Rattle.std.specs.Prelude.{◌≡◌, ℕ, ◌+◌, ◌-◌, ◌≤◌, List, [], ◌∷◌, ◌++◌, length, take, drop, min}
use Rattle.std.proofs.Common.{refl, sym, ap, subst, ◌∙◌, arith, append_assoc, length-append}
use Rattle.std.proofs.lemmas.List.{take_at, length-take, length-drop}
use Rattle.log_model.specs.declared.name.Name.{Name}
use Rattle.log_model.specs.Files.{Reads}
use Rattle.disk_images.specs.Crash.{DiskView}
use Rattle.file_base.specs.Looking.{OnlyLooks}
use Rattle.file_base.proofs.Pieces.{next_taken}

-- so many of the file's bytes stand in these, the first one from before, and each call brought one at least
pub record Fills (told : Type 0) (name : Name) (first now : DiskView) (bytes : List ℕ) (at : ℕ) : Type 0 where
  pub some : 1 ≤ at
  pub within : at ≤ length bytes
  pub part : told → (c : List ℕ) → Reads first.files name c → take at bytes ≡ take at c
  pub looks : told → OnlyLooks (at - 1) first now

-- with the piece that was read at that place, so many more stand there
pub filled : (bytes c new old rest : List ℕ) (at n room : ℕ) → at ≤ length bytes → take at bytes ≡ take at c → new ≡ take n (drop at c) ++ old → n ≡ min room (length c - at)
    → take (at + n) (take at bytes ++ (new ++ rest)) ≡ take (at + n) c
filled bytes c new old rest at n room le so_far is count =
    let piece = take n (drop at c) in
    let wide : length (take at bytes ++ piece) ≡ at + n = omega (arith, length-append (take at bytes) piece, length-take at bytes, length-take n (drop at c), length-drop at c, count, le) in
    ap (λ (l : List ℕ). take (at + n) (take at bytes ++ (l ++ rest))) is ∙ ap (λ (l : List ℕ). take (at + n) (take at bytes ++ l)) (append_assoc piece old rest)
    ∙ ap (take (at + n)) (sym (append_assoc (take at bytes) piece (old ++ rest))) ∙ take_at (take at bytes ++ piece) (old ++ rest) (at + n) wide
    ∙ ap (λ (l : List ℕ). l ++ piece) so_far ∙ next_taken at n c

-- the first byte, where there is one
pub first_read : (c new : List ℕ) (n : ℕ) → new ≡ take n (drop 0 c) ++ drop n (0 ∷ []) → n ≡ min 1 (length c - 0) → take 1 (take n new) ≡ take 1 c
first_read [] new n is count =
    let none : n ≡ 0 = omega (arith, count) in
    subst (λ (k : ℕ). take 1 (take k new) ≡ []) (sym none) refl
first_read (x ∷ c) new n is count =
    let one : n ≡ 1 = omega (arith, count) in
    let here : new ≡ x ∷ [] = subst (λ (k : ℕ). new ≡ take k (drop 0 (x ∷ c)) ++ drop k (0 ∷ [])) one is in
    ap (λ (k : ℕ). take 1 (take k new)) one ∙ ap (λ (l : List ℕ). take 1 (take 1 l)) here
