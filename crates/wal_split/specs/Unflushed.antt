-- Entries that are not flushed.
use Rattle.std.specs.Prelude.{◌≡◌, ◌≢◌, ◌⊎◌, ◌<◌, ℕ, Bool, true, false, List, [], ◌∷◌, ◌++◌, Contains, AllPairs}
use Rattle.log_model.specs.declared.name.NameKind.TheVariants as kinds
use Rattle.log_model.specs.Entry.{Entry}
use Rattle.log_model.specs.Files.{Files}
use Rattle.log_model.specs.Recovered.{FlushesTo, HasFamily}
use Rattle.found_files.specs.declared.found.FoundEntry.{FoundEntry}
use Rattle.wal_split.specs.declared.flushed.RegionFlushed.{RegionFlushed}
use Rattle.wal_split.specs.declared.gathered.Unflushed.{Unflushed}
use Rattle.wal_split.specs.Flushed.{flushed_at}

-- a cell of the entry is above what is flushed of the cell's family in these files; recovery's `IsFlushedEntry` is the opposite
abbrev pub IsUnflushedEntry : Files → Entry → Type 0
IsUnflushedEntry files e = (f : List ℕ) × HasFamily e f × ((n : ℕ) → FlushesTo files e.region f n → n < e.number)

-- the entry has a cell above what is flushed of the cell's family, where this is what is flushed of each family
abbrev pub IsAboveBy : (List ℕ → ℕ) → Entry → Type 0
IsAboveBy flushed e = (f : List ℕ) × HasFamily e f × (flushed f < e.number)

-- it has a lower region, or a lower number in the same one
abbrev pub IsBefore : Entry → Entry → Type 0
IsBefore d e = (d.region < e.region) ⊎ ((d.region ≡ e.region) × (d.number < e.number))

-- of its region
abbrev pub IsAbove : List RegionFlushed → Entry → Type 0
IsAbove flushed e = IsAboveBy (flushed_at flushed e.region) e

-- These are the entries that are not flushed: those that stand in a log, and the others. Each is among them once.
pub record AreUnflushedOf (xs : List FoundEntry) (flushed : List RegionFlushed) (logged kept : List Entry) : Type 0 where
  pub from_logs : (e : Entry) → Contains logged e → (x : FoundEntry) × Contains xs x × (x.entry ≡ e) × (x.name.kind ≡ kinds.Log) × IsAbove flushed e
  pub from_edits : (e : Entry) → Contains kept e → (x : FoundEntry) × Contains xs x × (x.entry ≡ e) × (x.name.kind ≢ kinds.Log) × IsAbove flushed e
  pub all : (x : FoundEntry) → Contains xs x → IsAbove flushed x.entry → Contains logged x.entry ⊎ Contains kept x.entry
  pub all_logged : (x : FoundEntry) → Contains xs x → x.name.kind ≡ kinds.Log → IsAbove flushed x.entry → Contains logged x.entry
  pub logged_rise : AllPairs IsBefore logged
  pub kept_rise : AllPairs IsBefore kept
  pub apart : (d e : Entry) → Contains logged d → Contains kept e → d.region ≡ e.region → d.number ≢ e.number

-- it is of another region or number than these, and not flushed
abbrev pub IsNew : FoundEntry → ℕ → ℕ → List RegionFlushed → Type 0
IsNew x region number flushed = (x.entry.region ≡ region → x.entry.number ≢ number) × IsAbove flushed x.entry

-- a new entry goes to the logged ones or to the others, one that isn't new nowhere
pub record Adds (x : FoundEntry) (is_new : Bool) (old new : Unflushed) : Type 0 where
  pub logged : is_new ≡ true → x.name.kind ≡ kinds.Log → (new.logged.items ≡ old.logged.items ++ x.entry ∷ []) × (new.kept.items ≡ old.kept.items)
  pub kept : is_new ≡ true → x.name.kind ≢ kinds.Log → (new.kept.items ≡ old.kept.items ++ x.entry ∷ []) × (new.logged.items ≡ old.logged.items)
  pub same : is_new ≡ false → (new.logged.items ≡ old.logged.items) × (new.kept.items ≡ old.kept.items)
