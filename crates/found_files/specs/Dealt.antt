-- Entries dealt to the lists of their regions.
use Rattle.std.specs.Prelude.{◌≡◌, ◌↔◌, ◌<◌, ◌++◌, ◌∷◌, [], ℕ, List, length, slice_index_or, slice_set, Contains}
use Rattle.std.specs.List.{flat_map}
use Rattle.found_files.specs.declared.found.FoundEntry.{FoundEntry}
use Rattle.found_files.specs.declared.by_region.RegionEntries.{RegionEntries}

abbrev pub entries_in : RegionEntries → List FoundEntry
entries_in l = l.entries.items

-- so many lists, without entries
pub record AreEmptyLists (count : ℕ) (lists : List RegionEntries) : Type 0 where
  pub long : length lists ≡ count
  pub none : (k : ℕ) (d : RegionEntries) → k < count → (slice_index_or lists k d).entries.items ≡ []

-- these entries and no others are in the lists
pub record AreDealt (xs : List FoundEntry) (lists : List RegionEntries) : Type 0 where
  pub long : length lists ≡ 65
  pub same : (x : FoundEntry) → Contains (flat_map entries_in lists) x ↔ Contains xs x

-- an entry goes after the others of its region, and no other list changes
abbrev pub AddsTo : FoundEntry → List RegionEntries → List RegionEntries → Type 0
AddsTo x old new =
    (list : RegionEntries) × (new ≡ slice_set old x.entry.region list)
    × ((d : RegionEntries) → entries_in list ≡ entries_in (slice_index_or old x.entry.region d) ++ x ∷ [])
