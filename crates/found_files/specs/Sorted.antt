-- Entries of files in the order of regions, numbers and names.
use Rattle.std.specs.Prelude.{◌≡◌, ◌≢◌, ◌⊎◌, ◌↔◌, ◌<◌, ◌≤◌, ℕ, List, length, get_or, Contains}
use Rattle.std.specs.declared.cmp.Ordering.TheVariants.{Less}
use Rattle.log_model.specs.declared.damage.Damage.{Damage}
use Rattle.log_model.specs.declared.damage.Damage.TheVariants as damages
use Rattle.log_model.specs.Files.{name_cmp}
use Rattle.found_files.specs.declared.found.FoundEntry.{FoundEntry}

-- they have one region and number
abbrev pub IsOfSame : FoundEntry → FoundEntry → Type 0
IsOfSame x y = (x.entry.region ≡ y.entry.region) × (x.entry.number ≡ y.entry.number)

-- the first may stand before the second
abbrev pub IsUpTo : FoundEntry → FoundEntry → Type 0
IsUpTo x y = (x.entry.region < y.entry.region) ⊎ ((x.entry.region ≡ y.entry.region) × ((x.entry.number < y.entry.number) ⊎ ((x.entry.number ≡ y.entry.number) × (name_cmp y.name x.name ≢ Less))))

abbrev pub AreOrdered : List FoundEntry → Type 0
AreOrdered xs = (i j : ℕ) (d : FoundEntry) → i ≤ j → j < length xs → IsUpTo (get_or xs i d) (get_or xs j d)

-- of those before this place, two of one region and number are the same
abbrev pub AgreeBelow : List FoundEntry → ℕ → Type 0
AgreeBelow xs n = (i j : ℕ) (d : FoundEntry) → i < n → j < n → IsOfSame (get_or xs i d) (get_or xs j d) → (get_or xs i d).entry ≡ (get_or xs j d).entry

abbrev pub AllAgree : List FoundEntry → Type 0
AllAgree xs = AgreeBelow xs (length xs)

-- the entries at these places have one region and number, and differ
abbrev pub DifferAt : List FoundEntry → ℕ → ℕ → Type 0
DifferAt xs first at = (d : FoundEntry) → IsOfSame (get_or xs first d) (get_or xs at d) × ((get_or xs first d).entry ≢ (get_or xs at d).entry)

-- the one here has another region or number, or is the same
abbrev pub GoesOn : List FoundEntry → ℕ → ℕ → ℕ → Type 0
GoesOn xs first at next =
    ((next ≡ at) × ((d : FoundEntry) → ¬ IsOfSame (get_or xs first d) (get_or xs at d)))
    ⊎ ((next ≡ first) × ((d : FoundEntry) → IsOfSame (get_or xs first d) (get_or xs at d) × ((get_or xs first d).entry ≡ (get_or xs at d).entry)))

-- Two entries of one region and number differ. What stands before the second agrees, and the first is the first of its
-- region and number.
pub record IsFirstPair (xs : List FoundEntry) (damage : Damage) : Type 0 where
  pub at : ℕ
  pub first : ℕ
  pub within : at < length xs
  pub before : first < at
  pub damage_is : (d : FoundEntry) → damage ≡ damages.Two (get_or xs first d).name (get_or xs at d).name (get_or xs first d).entry.region (get_or xs first d).entry.number
  pub differ : DifferAt xs first at
  pub agree : AgreeBelow xs at
  pub none_before : (k : ℕ) (d : FoundEntry) → k < first → IsOfSame (get_or xs k d) (get_or xs first d) → ⊥

-- the same of these entries in order
abbrev pub IsFirstPairOf : List FoundEntry → Damage → Type 0
IsFirstPairOf xs damage = (es : List FoundEntry) × AreOrdered es × ((x : FoundEntry) → Contains es x ↔ Contains xs x) × IsFirstPair es damage
