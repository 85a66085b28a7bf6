-- What a store recovers to where one of its files changes.
use Rattle.std.specs.Prelude.{◌≡◌, ◌≢◌, ◌⊎◌, ◌↔◌, ◌≤◌, ℕ, List, ◌++◌, Contains}
use Rattle.cell_model.specs.Order.{VersionKey, Payload, Content}
use Rattle.log_model.specs.declared.name.Name.{Name}
use Rattle.log_model.specs.declared.name.NameKind.TheVariants as kinds
use Rattle.log_model.specs.Entry.{Entry}
use Rattle.log_model.specs.StoreText.{Store}
use Rattle.log_model.specs.Files.{Files, content, IsAbsent, SameBut, HoldsEntries, IsLogged, IsStoreFile, IsFit}
use Rattle.log_model.specs.Recovered.{Holds, HasFamily, IsFor, FlushesTo, IsUnflushed, IsRecovered, IsSeen, IsLast, IsContent, RecoversAlike, put_entries, entries_of}
use Rattle.recovery_laws.specs.Change.{HasEntries}
use Rattle.recovery_laws.specs.Kept.{lasts, AreRising, IsNotThere, IsNotReplaced}

-- a file went from these entries to them and more, and nothing else changed
pub record Extends (name : Name) (entries more : List Entry) (old new : Files) : Type 0 where
  pub kind : HoldsEntries name.kind
  pub others : SameBut name old new
  pub before : HasEntries name entries (content old name)
  pub after : HasEntries name (entries ++ more) (content new name)

-- a file with these entries is gone, and but for old logs nothing else changed
pub record Goes (name : Name) (entries : List Entry) (old new : Files) : Type 0 where
  pub kind : HoldsEntries name.kind
  pub others : (m : Name) → m ≢ name → m.kind ≢ kinds.Old → content new m ≡ content old m
  pub had : HasEntries name entries (content old name)
  pub gone : IsAbsent new name

-- a store appears, and nothing else changed; it replaces none and is not replaced; it holds what the region's unflushed
-- entries put of its family, or of all where it has none, up to its last number, which was seen
pub record Appears (name : Name) (s : Store) (old new : Files) : Type 0 where
  pub kind : name.kind ≡ kinds.Store
  pub others : SameBut name old new
  pub before : IsNotThere (content old name)
  pub after : IsStoreFile new name.region name s
  pub scope : s.scope ≡ 0
  pub stands : IsNotReplaced old name
  pub holds : (v : VersionKey) (p : Payload) → Holds s v p ↔ (IsUnflushed old name.region v p × (v.number ≤ s.to) × IsFor s.family v.key.family)
  pub reached : (n : ℕ) × IsSeen old name.region n × (s.to ≤ n)

-- the files are fit, and recover for the region to this content, up to this sequence id
pub record RecoversTo (files : Files) (r : ℕ) (c : Content) (n : ℕ) : Type 0 where
  pub fit : IsFit files
  pub content : IsContent (IsRecovered files r) c
  pub last : IsLast files r n

-- each cell of the entry is flushed
abbrev pub IsFlushedEntry : Files → Entry → Type 0
IsFlushedEntry files e = (f : List ℕ) → HasFamily e f → (n : ℕ) × FlushesTo files e.region f n × (e.number ≤ n)

-- Where a batch of rising sequence ids goes into a file, each region recovers to the old content with the batch's
-- entries put in, up to the last of them.
abbrev pub CommitAdds : Type 0
CommitAdds = (old new : Files) (name : Name) (entries batch : List Entry) (last : ℕ → ℕ) → Extends name entries batch old new → IsFit old
    → ((r : ℕ) → IsLast old r (last r)) → AreRising last batch → (r : ℕ) (c : Content) → IsContent (IsRecovered old r) c
    → RecoversTo new r (put_entries c (entries_of r batch)) (lasts last batch r)

-- Where copies of logged entries go into a file, each region recovers alike.
abbrev pub CopiesAddNothing : Type 0
CopiesAddNothing = (old new : Files) (name : Name) (entries copies : List Entry) → Extends name entries copies old new → IsFit old
    → ((e : Entry) → Contains copies e → IsLogged old e) → (r : ℕ) → RecoversAlike old new r

-- Where a store appears with all that its region had not flushed of its family up to its last number, each region recovers
-- alike.
abbrev pub StoreChangesNothing : Type 0
StoreChangesNothing = (old new : Files) (name : Name) (s : Store) → Appears name s old new → IsFit old → (r : ℕ) → RecoversAlike old new r

-- Where a file goes whose entries are each flushed, or logged elsewhere, each region recovers alike.
abbrev pub FlushedLogMayGo : Type 0
FlushedLogMayGo = (old new : Files) (name : Name) (entries : List Entry) → Goes name entries old new → IsFit old
    → ((e : Entry) → Contains entries e → IsLogged new e ⊎ IsFlushedEntry old e) → (r : ℕ) → RecoversAlike old new r
