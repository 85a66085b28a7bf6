-- A spelling is of one name: its first letters tell the kind, and its numbers stand apart by a dash.
use Rattle.std.proofs.Common.{◌≡◌, ◌≢◌, ℕ, ◌<◌, ◌^◌, List, ◌∷◌, ◌++◌, refl, sym, ◌∙◌, arith, inl, inr}
use Rattle.std.specs.Fmt.{decimal}
use Rattle.std.proofs.lemmas.Fmt.{decimal_injective}
use Rattle.log_model.specs.declared.name.Name.{Name}
use Rattle.log_model.specs.declared.name.NameKind.{NameKind}
use Rattle.log_model.specs.declared.name.NameKind.TheVariants as kinds
use Rattle.log_model.specs.Files.{IsName}
use Rattle.script_model.specs.Outputs.{name_text}
use Rattle.disk_folder.specs.Spelling.{IsOneName}
use Rattle.disk_folder.proofs.Dashes.{decimal_part, parts_apart}

-- the text of a name with this kind and these numbers
abbrev text : NameKind → ℕ → ℕ → List ℕ
text kind r n = name_text (record { kind = kind; region = r; number = n })

-- two texts of region and number
numbers_apart : (r s m n : ℕ) → r < 2 ^ 32 → s < 2 ^ 32 → m < 2 ^ 64 → n < 2 ^ 64
    → decimal r ++ (45 ∷ decimal m) ≡ decimal s ++ (45 ∷ decimal n) → (r ≡ s) × (m ≡ n)
numbers_apart r s m n hr hs hm hn e =
    let small : r < 2 ^ 64 = omega (arith, hr) in
    let small2 : s < 2 ^ 64 = omega (arith, hs) in
    let parts = parts_apart (decimal r) (decimal s) (decimal m) (decimal n) (decimal_part s small2) (decimal_part n hn) e in
    (decimal_injective r s small small2 parts.0, decimal_injective m n hm hn parts.1)

same_name : (a b : Name) → a.kind ≡ b.kind → a.region ≡ b.region → a.number ≡ b.number → a ≡ b
same_name a b kind region number = λ i. record { kind = kind i; region = region i; number = number i }

-- texts with other first letters
others : {G : Type 0} (x y : ℕ) (xs ys : List ℕ) → x ≢ y → x ∷ xs ≡ y ∷ ys → G
others x y xs ys apart e = let same : x ≡ y = cc in absurd (apart same)

-- by the kinds of both
kinds_apart : (k j : NameKind) (r s m n : ℕ) → r < 2 ^ 32 → s < 2 ^ 32 → m < 2 ^ 64 → n < 2 ^ 64
    → IsName (record { kind = k; region = r; number = m }) → IsName (record { kind = j; region = s; number = n })
    → text k r m ≡ text j s n → (k ≡ j) × (r ≡ s) × (m ≡ n)
unfolding name_text
kinds_apart kinds.Log kinds.Log r s m n hr hs hm hn a b e = let d : decimal m ≡ decimal n = cc in (refl, a (inl refl) ∙ sym (b (inl refl)), decimal_injective m n hm hn d)
kinds_apart kinds.Log kinds.Old r s m n hr hs hm hn a b e = others 108 111 _ _ (λ h. omega (arith, h)) e
kinds_apart kinds.Log kinds.Store r s m n hr hs hm hn a b e = others 108 115 _ _ (λ h. omega (arith, h)) e
kinds_apart kinds.Log kinds.Edits r s m n hr hs hm hn a b e = others 108 101 _ _ (λ h. omega (arith, h)) e
kinds_apart kinds.Old kinds.Log r s m n hr hs hm hn a b e = others 111 108 _ _ (λ h. omega (arith, h)) e
kinds_apart kinds.Old kinds.Old r s m n hr hs hm hn a b e = let d : decimal m ≡ decimal n = cc in (refl, a (inr refl) ∙ sym (b (inr refl)), decimal_injective m n hm hn d)
kinds_apart kinds.Old kinds.Store r s m n hr hs hm hn a b e = others 111 115 _ _ (λ h. omega (arith, h)) e
kinds_apart kinds.Old kinds.Edits r s m n hr hs hm hn a b e = others 111 101 _ _ (λ h. omega (arith, h)) e
kinds_apart kinds.Store kinds.Log r s m n hr hs hm hn a b e = others 115 108 _ _ (λ h. omega (arith, h)) e
kinds_apart kinds.Store kinds.Old r s m n hr hs hm hn a b e = others 115 111 _ _ (λ h. omega (arith, h)) e
kinds_apart kinds.Store kinds.Store r s m n hr hs hm hn a b e =
    let d : decimal r ++ (45 ∷ decimal m) ≡ decimal s ++ (45 ∷ decimal n) = cc in let p = numbers_apart r s m n hr hs hm hn d in (refl, p.0, p.1)
kinds_apart kinds.Store kinds.Edits r s m n hr hs hm hn a b e = others 115 101 _ _ (λ h. omega (arith, h)) e
kinds_apart kinds.Edits kinds.Log r s m n hr hs hm hn a b e = others 101 108 _ _ (λ h. omega (arith, h)) e
kinds_apart kinds.Edits kinds.Old r s m n hr hs hm hn a b e = others 101 111 _ _ (λ h. omega (arith, h)) e
kinds_apart kinds.Edits kinds.Store r s m n hr hs hm hn a b e = others 101 115 _ _ (λ h. omega (arith, h)) e
kinds_apart kinds.Edits kinds.Edits r s m n hr hs hm hn a b e =
    let d : decimal r ++ (45 ∷ decimal m) ≡ decimal s ++ (45 ∷ decimal n) = cc in let p = numbers_apart r s m n hr hs hm hn d in (refl, p.0, p.1)

pub one_name : IsOneName
one_name a b ha hb fa fb e =
    let parts = kinds_apart a.kind b.kind a.region b.region a.number b.number fa.0 fb.0 fa.1 fb.1 ha hb e in
    same_name a b parts.0 parts.1 parts.2
