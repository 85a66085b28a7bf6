-- The edits files that a split writes.
use Rattle.std.specs.Prelude.{◌≡◌, ◌≢◌, ℕ, ◌+◌, ◌<◌, ◌≤◌, List, Contains, AllPairs}
use Rattle.log_model.specs.declared.name.Name.{Name}
use Rattle.log_model.specs.declared.name.NameKind.TheVariants as kinds
use Rattle.log_model.specs.Entry.{Entry}
use Rattle.log_model.specs.Files.{Files, content, IsAbsent, IsPresent, IsLogFile}
use Rattle.wal_split.specs.Grouped.{edits_name}
use Rattle.wal_split.specs.Unflushed.{IsUnflushedEntry}

-- the number of the next edits files: one above the greatest of a log, an old log or an edits file, 1 where there is none
pub record IsNextEdits (files : Files) (n : ℕ) : Type 0 where
  pub given : 1 ≤ n
  pub above : (m : Name) → m.kind ≢ kinds.Store → IsPresent files m → m.number < n
  pub least : (k : ℕ) → ((m : Name) → m.kind ≢ kinds.Store → IsPresent files m → m.number ≤ k) → n ≤ k + 1

-- the entry stands in a log
abbrev pub IsInLog : Files → Entry → Type 0
IsInLog files e = (name : Name) × (es : List Entry) × (name.kind ≡ kinds.Log) × IsLogFile files name es × Contains es e

-- each of these entries stands in a log, is of the region and has a cell that isn't flushed, and their numbers rise
pub record AreCopied (found : Files) (r : ℕ) (es : List Entry) : Type 0 where
  pub each : (e : Entry) → Contains es e → IsInLog found e × IsUnflushedEntry found e × (e.region ≡ r)
  pub rise : AllPairs (λ a b. a.number < b.number) es

-- Of each region one edits file at most is new. It has the next number, the same for each region, and the region's entries of logs
-- that have a cell that isn't flushed.
pub record EditsCopied (old new : Files) : Type 0 where
  pub number : ℕ
  pub next : IsNextEdits old number
  pub came : (m : Name) → m.kind ≡ kinds.Edits → IsAbsent old m → IsPresent new m
      → (m.number ≡ number) × ((es : List Entry) × IsLogFile new m es × AreCopied old m.region es)
  pub all : (e : Entry) → IsInLog old e → IsUnflushedEntry old e → (es : List Entry) × IsLogFile new (edits_name e.region number) es × Contains es e
  pub stay : (m : Name) → m.kind ≡ kinds.Edits → IsPresent old m → content new m ≡ content old m
