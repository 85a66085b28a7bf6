-- The files of one region, and what is damaged of them.
use Rattle.std.specs.Prelude.{◌≡◌, ◌≢◌, ◌⊎◌, ◌==◌, ◌&&◌, ℕ, Bool, true, false, List, filter, Contains, AllPairs}
use Rattle.std.specs.declared.cmp.Ordering.TheVariants.{Less}
use Rattle.log_model.specs.declared.name.Name.{Name}
use Rattle.log_model.specs.declared.name.NameKind.{NameKind}
use Rattle.log_model.specs.declared.name.NameKind.TheVariants as kinds
use Rattle.log_model.specs.declared.damage.Damage.{Damage}
use Rattle.log_model.specs.declared.damage.Damage.TheVariants as damages
use Rattle.log_model.specs.Files.{Files, IsPresent, name_cmp}
use Rattle.log_model.specs.Damage.{HasDamage, Disagreement, IsDisagreement, IsFirstDamageOf, disagreement_cmp}

-- a store or edits file of the region
abbrev pub IsOfRegion : ℕ → Name → Type 0
IsOfRegion r m = (m.region ≡ r) × ((m.kind ≡ kinds.Store) ⊎ (m.kind ≡ kinds.Edits))

abbrev pub IsEditsOf : ℕ → Name → Type 0
IsEditsOf r m = (m.region ≡ r) × (m.kind ≡ kinds.Edits)

abbrev pub has_region : NameKind → Bool
has_region kinds.Log = false
has_region kinds.Old = false
has_region kinds.Store = true
has_region kinds.Edits = true

-- those of the region among names
abbrev pub names_of : ℕ → List Name → List Name
names_of r names = filter (λ (m : Name). has_region m.kind && (m.region == r)) names

-- these are the names of the region's store and edits files, in their order
pub record AreNamesOf (told : Type 0) (files : Files) (r : ℕ) (names : List Name) : Type 0 where
  pub each : (m : Name) → Contains names m → IsOfRegion r m
  pub there : told → (m : Name) → Contains names m → IsPresent files m
  pub all : told → (m : Name) → IsOfRegion r m → IsPresent files m → Contains names m
  pub rise : told → AllPairs (λ a b. name_cmp a b ≡ Less) names

-- no store or edits file of the region is damaged, whatever the numbers of names
abbrev pub IsWholeIn : Files → ℕ → Type 0
IsWholeIn files r = (m : Name) (at : ℕ) → IsOfRegion r m → ¬ HasDamage files m at

-- no file of the region is damaged, and this is the least of its edits files that disagrees
pub record IsFirstDisagreementIn (files : Files) (r : ℕ) (x : Disagreement) : Type 0 where
  pub whole : IsWholeIn files r
  pub here : IsDisagreement files x
  pub region : x.region ≡ r
  pub in_first : IsEditsOf r x.first
  pub in_second : IsEditsOf r x.second
  pub first : (y : Disagreement) → IsDisagreement files y → IsEditsOf r y.first → IsEditsOf r y.second → disagreement_cmp y x ≢ Less

-- of a region alone: its first damaged store or edits file, or the first two of its edits files that disagree where no file
-- of it is damaged
abbrev pub IsDamageIn : Files → ℕ → Damage → Type 0
IsDamageIn files r (damages.Bytes name at) = IsFirstDamageOf files r name at
IsDamageIn files r (damages.Two first second region number) =
    IsFirstDisagreementIn files r (record { region = region; number = number; first = first; second = second })

-- the first of these files whose bytes are damaged, and the place
pub record IsFirstHurt (files : Files) (names : List Name) (damage : Damage) : Type 0 where
  pub name : Name
  pub at : ℕ
  pub is : damage ≡ damages.Bytes name at
  pub among : Contains names name
  pub here : HasDamage files name at
  pub first : (other : Name) (place : ℕ) → Contains names other → HasDamage files other place → name_cmp other name ≢ Less
