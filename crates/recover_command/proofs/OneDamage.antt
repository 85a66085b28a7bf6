-- What shows first that files aren't sound is one damage.
use Rattle.std.proofs.Common.{◌≡◌, ◌≢◌, inl, inr, ℕ, List, Some, refl, sym, ap, ◌∙◌, subst}
use Rattle.std.specs.declared.cmp.Ordering.{Ordering}
use Rattle.std.specs.declared.cmp.Ordering.TheVariants.{Less, Equal, Greater}
use Rattle.std.specs.Ordering.{nat_cmp, ordering_reverse}
use Rattle.std.specs.Cmp.{IsTotalOrder}
use Rattle.std.specs.FinMap.{get, nat_cmp-IsAntisymmetric}
use Rattle.std.proofs.lemmas.Cmp.{nat_cmp_total, on_total, then_total}
use Rattle.cell_model.proofs.OrderLaws.{then_ties}
use Rattle.log_model.specs.declared.name.Name.{Name}
use Rattle.log_model.specs.declared.name.NameKind.{NameKind}
use Rattle.log_model.specs.declared.name.NameKind.TheVariants as kinds
use Rattle.log_model.specs.declared.damage.Damage.{Damage}
use Rattle.log_model.specs.declared.damage.Damage.TheVariants as damages
use Rattle.log_model.specs.LogText.{IsDamaged}
use Rattle.log_model.specs.StoreText.{IsStoreDamaged}
use Rattle.log_model.specs.Files.{Files, HoldsEntries, key_of, name_cmp}
use Rattle.log_model.specs.Damage.{HasDamage, IsDamagedFile, IsFirstDamage, Disagreement, IsFirstDisagreement, disagreement_cmp}
use Rattle.log_model.specs.Damage.HasDamage.{Logged, Stored}
use Rattle.log_model.proofs.NameLaws.{name_cmp_total, name_cmp_exact}
use Rattle.log_model.proofs.TextLaws.{one_damage}
use Rattle.store_file.proofs.OneDamage.{one_place}
use Rattle.recover_command.specs.Recovered.{DamageIsOne}

-- of two that are not below one another
neither_below : {K : Type 0} (R : K → K → Ordering) → IsTotalOrder R → (a b : K) → R a b ≢ Less → R b a ≢ Less → R a b ≡ Equal
neither_below R total a b not_a not_b = go (R a b) refl
  where
    go : (o : Ordering) → R a b ≡ o → R a b ≡ Equal
    go Less is = absurd (not_a is)
    go Equal is = is
    go Greater is = absurd (not_b (total.antisymm b a ∙ ap ordering_reverse is))

one_name : (a b : Name) → name_cmp a b ≢ Less → name_cmp b a ≢ Less → a ≡ b
one_name a b not_a not_b = name_cmp_exact a b (neither_below name_cmp name_cmp_total a b not_a not_b)

-- ---- the place in a file

same_file : (files : Files) (name : Name) (b c : List ℕ) → get files name ≡ Some b → get files name ≡ Some c → b ≡ c
same_file files name b c x y = let same : Some b ≡ Some c = sym x ∙ y in cc (same)

no_store : (kind : NameKind) → HoldsEntries kind → kind ≡ kinds.Store → ⊥
no_store kind (inl log) store = absurd cc
no_store kind (inr edits) store = absurd cc

one_at : (files : Files) (name : Name) (m n : ℕ) → HasDamage files name m → HasDamage files name n → m ≡ n
one_at files name m n (Logged b there kind damaged) (Logged c also kind_too worse) =
    one_damage (key_of name) b m n damaged (subst (λ (x : List ℕ). IsDamaged (key_of name) x n) (same_file files name c b also there) worse)
one_at files name m n (Logged b there kind damaged) (Stored c also store worse) = absurd (no_store name.kind kind store)
one_at files name m n (Stored b there store damaged) (Logged c also kind worse) = absurd (no_store name.kind kind store)
one_at files name m n (Stored b there store damaged) (Stored c also too worse) =
    one_place name.region b m n damaged (subst (λ (x : List ℕ). IsStoreDamaged name.region x n) (same_file files name c b also there) worse)

place_is_one : (files : Files) (name : Name) (m n : ℕ) → IsDamagedFile files name m → IsDamagedFile files name n → m ≡ n
place_is_one files name m n (inl x) (inl y) = x.2 ∙ sym y.2
place_is_one files name m n (inl x) (inr y) = absurd (y.0 x.1)
place_is_one files name m n (inr x) (inl y) = absurd (x.0 y.1)
place_is_one files name m n (inr x) (inr y) = one_at files name m n x.1 y.1

one_first : (files : Files) (a b : Name) (m n : ℕ) → IsFirstDamage files a m → IsFirstDamage files b n → damages.Bytes a m ≡ damages.Bytes b n
one_first files a b m n x y =
    let name : a ≡ b = one_name a b (y.first a m x.here) (x.first b n y.here) in
    let place : m ≡ n = place_is_one files b m n (subst (λ (k : Name). IsDamagedFile files k m) name x.here) y.here in
    (λ i. damages.Bytes (name i) (place i))

-- ---- two files that disagree

disagreement_total : IsTotalOrder disagreement_cmp
disagreement_total =
    then_total (on_total (λ (x : Disagreement). x.region) nat_cmp_total) (then_total (on_total (λ (x : Disagreement). x.number) nat_cmp_total)
    (then_total (on_total (λ (x : Disagreement). x.first) name_cmp_total) (on_total (λ (x : Disagreement). x.second) name_cmp_total)))

disagreement_exact : (x y : Disagreement) → disagreement_cmp x y ≡ Equal → x ≡ y
disagreement_exact x y e =
    let r = then_ties (nat_cmp x.region y.region) _ e in
    let n = then_ties (nat_cmp x.number y.number) _ r.1 in
    let f = then_ties (name_cmp x.first y.first) _ n.1 in
    let region : x.region ≡ y.region = nat_cmp-IsAntisymmetric _ _ r.0 in
    let number : x.number ≡ y.number = nat_cmp-IsAntisymmetric _ _ n.0 in
    let first : x.first ≡ y.first = name_cmp_exact _ _ f.0 in
    let second : x.second ≡ y.second = name_cmp_exact _ _ f.1 in
    λ i. record { region = region i; number = number i; first = first i; second = second i }

two_of : Disagreement → Damage
two_of x = damages.Two x.first x.second x.region x.number

one_disagreement : (files : Files) (x y : Disagreement) → IsFirstDisagreement files x → IsFirstDisagreement files y → x ≡ y
one_disagreement files x y h g = disagreement_exact x y (neither_below disagreement_cmp disagreement_total x y (g.first x h.here) (h.first y g.here))

pub one_told : DamageIsOne
unfolding two_of
one_told files (damages.Bytes a m) (damages.Bytes b n) x y = one_first files a b m n x y
one_told files (damages.Bytes a m) (damages.Two first second region number) x y = absurd (y.whole a m x.here)
one_told files (damages.Two first second region number) (damages.Bytes b n) x y = absurd (x.whole b n y.here)
one_told files (damages.Two first second region number) (damages.Two front back r n) x y =
    ap two_of (one_disagreement files (record { region = region; number = number; first = first; second = second }) (record { region = r; number = n; first = front; second = back }) x y)
