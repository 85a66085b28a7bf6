-- Entries whose sequence ids rise, region by region.
use Rattle.std.proofs.Common.{◌≡◌, ◌⊎◌, inl, inr, ℕ, ◌<◌, ◌≤◌, ◌==◌, if◌then◌else◌, List, [], ◌∷◌, ◌++◌, Contains, refl, sym, ap, ◌∙◌, subst, arith}
use Rattle.std.proofs.lemmas.Bool.{cases_eq}
use Rattle.std.proofs.lemmas.Bool.Decides.{nat_tests}
use Rattle.log_model.specs.Entry.{Entry}
use Rattle.recovery_laws.specs.Change.{last_of}
use Rattle.recovery_laws.specs.Kept.{raised, lasts, AreRising}
use Rattle.recovery_laws.proofs.Lists.{none_in, first_or_later, is_first, is_later}

pub raised_here : (last : ℕ → ℕ) (e : Entry) (r : ℕ) → e.region ≡ r → raised last e r ≡ e.number
raised_here last e r is = grind (arith, nat_tests)

pub raised_other : (last : ℕ → ℕ) (e : Entry) (r : ℕ) → (e.region ≡ r → ⊥) → raised last e r ≡ last r
raised_other last e r other = grind (arith, nat_tests)

-- a region's last number never falls
pub raised_no_less : (last : ℕ → ℕ) (e : Entry) (r : ℕ) → last e.region < e.number → last r ≤ raised last e r
raised_no_less last e r above = elim (cases_eq e.region r) as (λ _. last r ≤ raised last e r) [
  | inl here ↦ let at : last e.region ≡ last r = ap last here in omega (arith, raised_here last e r here, at, above)
  | inr other ↦ omega (arith, raised_other last e r other)
]

pub lasts_no_less : (last : ℕ → ℕ) (es : List Entry) (r : ℕ) → AreRising last es → last r ≤ lasts last es r
lasts_no_less last [] r rise = omega arith
lasts_no_less last (e ∷ es) r rise = omega (arith, raised_no_less last e r rise.0, lasts_no_less (raised last e) es r rise.1)

pub above_last : (last : ℕ → ℕ) (es : List Entry) (e : Entry) → AreRising last es → Contains es e → last e.region < e.number
above_last last [] e rise h = absurd (none_in e h)
above_last last (x ∷ xs) e rise h = elim (first_or_later x xs e h) as (λ _. last e.region < e.number) [
  | inl is ↦ subst (λ (d : Entry). last d.region < d.number) is rise.0
  | inr later ↦ omega (arith, above_last (raised last x) xs e rise.1 later, raised_no_less last x e.region rise.0)
]

pub below_lasts : (last : ℕ → ℕ) (es : List Entry) (e : Entry) → AreRising last es → Contains es e → e.number ≤ lasts last es e.region
below_lasts last [] e rise h = absurd (none_in e h)
below_lasts last (x ∷ xs) e rise h = elim (first_or_later x xs e h) as (λ _. e.number ≤ lasts last (x ∷ xs) e.region) [
  | inl is ↦ omega (arith, raised_here last x e.region (ap (λ (d : Entry). d.region) is), ap (λ (d : Entry). d.number) is, lasts_no_less (raised last x) xs e.region rise.1)
  | inr later ↦ below_lasts (raised last x) xs e rise.1 later
]

-- no two have one region and number
pub one_numbered : (last : ℕ → ℕ) (es : List Entry) (d e : Entry) → AreRising last es → Contains es d → Contains es e → d.region ≡ e.region → d.number ≡ e.number → d ≡ e
one_numbered last [] d e rise hd he region number = absurd (none_in d hd)
one_numbered last (x ∷ xs) d e rise hd he region number =
    elim (first_or_later x xs d hd) as (λ _. d ≡ e) [
      | inl first ↦ elim (first_or_later x xs e he) as (λ _. d ≡ e) [
        | inl same ↦ sym first ∙ same
        | inr later ↦ absurd (behind x xs d e first later rise.1 region number)
      ]
      | inr later ↦ elim (first_or_later x xs e he) as (λ _. d ≡ e) [
        | inl first ↦ absurd (behind x xs e d first later rise.1 (sym region) (sym number))
        | inr both ↦ one_numbered (raised last x) xs d e rise.1 later both region number
      ]
    ]
  where
    behind : (x : Entry) (xs : List Entry) (d e : Entry) → x ≡ d → Contains xs e → AreRising (raised last x) xs → d.region ≡ e.region → d.number ≡ e.number → ⊥
    behind x xs d e is later rise region number =
        omega (arith, above_last (raised last x) xs e rise later, raised_here last x e.region (ap (λ (y : Entry). y.region) is ∙ region), ap (λ (y : Entry). y.number) is, number)

pub last_of-append : (r n : ℕ) (xs ys : List Entry) → last_of r n (xs ++ ys) ≡ last_of r (last_of r n xs) ys
last_of-append r n [] ys = refl
last_of-append r n (x ∷ xs) ys = last_of-append r (if x.region == r then x.number else n) xs ys

pub lasts-append : (last : ℕ → ℕ) (xs ys : List Entry) (r : ℕ) → lasts last (xs ++ ys) r ≡ lasts (lasts last xs) ys r
lasts-append last xs ys r = last_of-append r (last r) xs ys

pub one_higher : (last : ℕ → ℕ) (es : List Entry) (e : Entry) → AreRising last es → lasts last es e.region < e.number → AreRising last (es ++ e ∷ [])
one_higher last [] e rise above = (above, tt)
one_higher last (x ∷ xs) e rise above = (rise.0, one_higher (raised last x) xs e rise.1 above)

pub lasts_here : (last : ℕ → ℕ) (es : List Entry) (e : Entry) → lasts last (es ++ e ∷ []) e.region ≡ e.number
lasts_here last es e = lasts-append last es (e ∷ []) e.region ∙ raised_here (lasts last es) e e.region refl

pub lasts_other : (last : ℕ → ℕ) (es : List Entry) (e : Entry) (r : ℕ) → (e.region ≡ r → ⊥) → lasts last (es ++ e ∷ []) r ≡ lasts last es r
lasts_other last es e r other = lasts-append last es (e ∷ []) r ∙ raised_other (lasts last es) e r other

-- a region's last number is that of one of its entries, or the first one
pub last_is : (r n : ℕ) (es : List Entry) → ((e : Entry) × Contains es e × (e.region ≡ r) × (e.number ≡ last_of r n es)) ⊎ (last_of r n es ≡ n)
last_is r n [] = inr refl
last_is r n (x ∷ xs) = elim (last_is r (raised (λ _. n) x r) xs) as (λ _. ((e : Entry) × Contains (x ∷ xs) e × (e.region ≡ r) × (e.number ≡ last_of r n (x ∷ xs))) ⊎ (last_of r n (x ∷ xs) ≡ n)) [
  | inl e ↦ inl (e.0, is_later x xs e.0 e.1, e.2, e.3)
  | inr same ↦ elim (cases_eq x.region r) as (λ _. ((e : Entry) × Contains (x ∷ xs) e × (e.region ≡ r) × (e.number ≡ last_of r n (x ∷ xs))) ⊎ (last_of r n (x ∷ xs) ≡ n)) [
    | inl here ↦ inl (x, is_first x xs, here, sym (same ∙ raised_here (λ _. n) x r here))
    | inr other ↦ inr (same ∙ raised_other (λ _. n) x r other)
  ]
]
