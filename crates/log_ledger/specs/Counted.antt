-- What the numbers say of a device's history.
use Rattle.std.specs.Prelude.{◌≡◌, ◌⊎◌, ◌↔◌, ℕ, ◌<◌, ◌≤◌, List, [], ◌∷◌, ◌++◌, map, get_or, Contains, Some, Option}
use Rattle.std.specs.FinMap.{get, empty}
use Rattle.cell_model.specs.Order.{VersionKey, Payload, NumberedCell}
use Rattle.cell_model.specs.Merge.{put_numbered}
use Rattle.log_model.specs.Entry.{Entry}
use Rattle.log_model.specs.Recovered.{IsGreatest, HasFamily, IsFor, IsWhollyFlushed, Puts}
use Rattle.recovery_laws.specs.Kept.{Kept, lasts, AreApart, IsOrderly}
use Rattle.seq_accounting.specs.Marks.{number_of}
use Rattle.seq_accounting.specs.Accounts.{ClosedFile, flushed_at}
use Rattle.seq_accounting.specs.Noted.{Note, HasNoted}
use Rattle.log_trucks.specs.Held.{Held, AreHeld}
use Rattle.log_ledger.specs.History.{History, ClosedLog, family_in}
use Rattle.log_ledger.specs.Numbers.{Numbers, IsServed}

-- the greatest sequence id that the region has in these entries, of those with a cell of this family, or 0
abbrev pub IsHighest : ℕ → List ℕ → List Entry → ℕ → Type 0
IsHighest r f entries n = IsGreatest (λ m. (e : Entry) × Contains entries e × (e.region ≡ r) × HasFamily e f × (e.number ≡ m)) n

-- the note of an entry
abbrev pub note_of : Entry → Note
note_of e = record { region = e.region; number = e.number; families = map (λ c. c.family) e.batch.cells }

-- what is noted of a closed file is what stands in it
pub record IsCountedLog (b : Numbers) (c : ClosedFile) (l : ClosedLog) : Type 0 where
  pub number : c.file ≡ l.number
  pub highest : (r : ℕ) (f : List ℕ) → IsHighest r f l.entries (number_of c.highest r f)
  pub ours : (e : Entry) → Contains l.entries e → IsServed b e.region
  pub given : (e : Entry) → Contains l.entries e → (f : List ℕ) × HasFamily e f

-- the same of each closed file, in order
abbrev pub AreCounted : Numbers → List ClosedFile → List ClosedLog → Type 0
AreCounted b [] [] = Unit {0}
AreCounted b [] (l ∷ ls) = ⊥
AreCounted b (c ∷ cs) [] = ⊥
AreCounted b (c ∷ cs) (l ∷ ls) = IsCountedLog b c l × AreCounted b cs ls

-- a family of the entry isn't flushed
abbrev pub IsUnflushedEntry : Kept → Entry → Type 0
IsUnflushedEntry k e = (f : List ℕ) × HasFamily e f × (k.flushed e.region f < e.number)

-- a chain of trucks keeps exactly the region's entries of which a family isn't flushed
pub record CarriesUnflushed (k : Kept) (r : ℕ) (chain : List Held) : Type 0 where
  pub entries : List Entry
  pub held : AreHeld chain entries
  pub apart : AreApart entries
  pub each : (e : Entry) → Contains entries e ↔ (Contains (k.durable ++ k.staged) e × (e.region ≡ r) × IsUnflushedEntry k e)

-- the numbers are those of this history
pub record IsCounted (b : Numbers) (h : History) : Type 0 where
  pub synced : (r : ℕ) → IsServed b r → get_or b.synced r 0 ≡ lasts h.kept.first h.kept.durable r
  pub drawn : (r : ℕ) → IsServed b r → get_or b.drawn r 0 ≡ lasts (lasts h.kept.first h.kept.durable) h.kept.staged r
  pub flushed : (r : ℕ) (f : List ℕ) → IsServed b r → flushed_at b.accounts r f ≡ h.kept.flushed r f
  -- each family of an entry up to the stored sequence id is flushed
  pub stored : (e : Entry) (f : List ℕ) → Contains h.kept.durable e → HasFamily e f → e.number ≤ get_or b.stored e.region 0 → e.number ≤ h.kept.flushed e.region f
  pub noted : HasNoted b.accounts (map note_of (h.kept.durable ++ h.kept.staged))
  -- what stands in the current file is newer than the roll
  pub newer : (e : Entry) → Contains (h.current ++ h.kept.staged) e → get_or b.closed e.region 0 < e.number
  pub ours : (e : Entry) → Contains (h.current ++ h.kept.staged) e ⊎ Contains h.kept.durable e → IsServed b e.region
  -- each entry there has a cell
  pub given : (e : Entry) → Contains (h.current ++ h.kept.staged) e → (f : List ℕ) × HasFamily e f
  pub current : (r : ℕ) (f : List ℕ) → IsHighest r f (h.current ++ h.kept.staged) (number_of b.accounts.current r f)
  pub logs : AreCounted b b.accounts.closed h.logs
  pub chains : (r : ℕ) → IsServed b r → CarriesUnflushed h.kept r (get_or b.chains r [])
  pub orderly : IsOrderly h.kept

-- each closed log has an entry that isn't flushed
abbrev pub NoneMayGo : History → Type 0
NoneMayGo h = (c : ClosedLog) → Contains h.logs c → IsWhollyFlushed h.kept.flushed c.entries → ⊥

-- each closed log above this number has an entry that isn't flushed
abbrev pub NoneMayGoAbove : History → ℕ → Type 0
NoneMayGoAbove h above = (c : ClosedLog) → Contains h.logs c → above < c.number → IsWhollyFlushed h.kept.flushed c.entries → ⊥

-- the least closed log above this number that has only flushed entries
pub record GoesNext (h : History) (above file : ℕ) : Type 0 where
  pub log : ClosedLog
  pub member : Contains h.logs log
  pub number : log.number ≡ file
  pub flushed : IsWhollyFlushed h.kept.flushed log.entries
  pub least : (c : ClosedLog) → Contains h.logs c → above < c.number → IsWhollyFlushed h.kept.flushed c.entries → file ≤ c.number

-- the closed logs that are left: those that aren't wholly flushed, and no other
abbrev pub LogsLeft : History → List ClosedLog → Type 0
LogsLeft h left = (c : ClosedLog) → Contains left c ↔ (Contains h.logs c × (IsWhollyFlushed h.kept.flushed c.entries → ⊥))

-- cells put exactly what the region's entries put of this family, or of all where it is empty, above what is flushed of each
-- family and up to a sequence id
abbrev pub PutsCut : Kept → ℕ → List ℕ → ℕ → List NumberedCell → Type 0
PutsCut k r family n cells = (v : VersionKey) (p : Payload) → (get (put_numbered empty cells) v ≡ Some p)
    ↔ ((e : Entry) × Contains k.durable e × (e.region ≡ r) × (k.flushed r v.key.family < e.number) × (e.number ≤ n) × IsFor family v.key.family × Puts e v p)

-- an entry of the region has a cell of this family, or of any where none is given, that isn't flushed
pub record HasUnflushed (k : Kept) (r : ℕ) (family : Option (List ℕ)) : Type 0 where
  pub entry : Entry
  pub of : List ℕ
  pub member : Contains (k.durable ++ k.staged) entry
  pub region : entry.region ≡ r
  pub has : HasFamily entry of
  pub for : IsFor (family_in family) of
  pub above : k.flushed r of < entry.number

-- no entry of the region has one
abbrev pub NoneUnflushed : Kept → ℕ → Option (List ℕ) → Type 0
NoneUnflushed k r family = (e : Entry) (f : List ℕ) → Contains (k.durable ++ k.staged) e → e.region ≡ r → HasFamily e f → IsFor (family_in family) f → e.number ≤ k.flushed r f
