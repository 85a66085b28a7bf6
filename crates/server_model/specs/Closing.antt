-- What close hands on.
use Rattle.std.specs.Prelude.{◌≡◌, ◌≢◌, ℕ, ◌^◌, ◌<◌, ◌≤◌, Bool, false, List, [], ◌∷◌, Contains}
use Rattle.std.specs.List.{flat_map, AllByRecursion}
use Rattle.cell_model.specs.Order.{VersionKey, Payload}
use Rattle.log_model.specs.declared.name.Name.{Name}
use Rattle.log_model.specs.declared.name.NameKind.TheVariants as kinds
use Rattle.log_model.specs.Entry.{Entry}
use Rattle.log_model.specs.Files.{Files, IsLogFile, IsSound, IsPresent, IsLastLog}
use Rattle.log_model.specs.Recovered.{IsRecovered, IsStored, IsFlushed, HasFamily, RecoversAlike}
use Rattle.region_model.specs.Journal.{Base, Edit, Caller, IsJournal, last_of}
use Rattle.region_model.specs.Calls.{IsFlushOf, Reply}
use Rattle.region_model.specs.Crash.{Fits}
use Rattle.disk_images.specs.Crash.{DiskView, IsImageNow}
use Rattle.cell_model.specs.Lists.{IsPrefix}
use Rattle.server_model.specs.Pass.{Pass, Naming, IsFresh, handled}
use Rattle.server_model.specs.Steps.{Runs}

-- a region's journal and the words of the log for it
pub record Region : Type 0 where
  pub base : Base
  pub edits : List Edit
  pub synced : ℕ
  pub stored : ℕ
  pub closed : ℕ

abbrev pub last_in : Region → ℕ
last_in x = last_of x.base.last x.edits

-- All that passes know of a region meets in its journal.
pub record IsClosedRegion (name : Naming) (r : ℕ) (passes : List Pass) (x : Region) : Type 0 where
  pub base : x.base ≡ name.bases r
  pub journal : IsJournal r x.base x.edits
  pub limit : last_in x < 2 ^ 48
  pub shown : (p : Pass) → Contains passes p → IsPrefix (p.known r).shown x.edits
  pub own : (p : Pass) → Contains passes p → (p.known r).own ≡ handled p.handler x.edits
  pub owners : (e : Edit) → Contains x.edits e → (p : Pass) × Contains passes p × (p.handler ≡ e.caller.handler)
  -- the words are at or above what each seat had seen, and at most the last number
  pub synced_seen : (p : Pass) → Contains passes p → (p.known r).synced ≤ x.synced
  pub stored_seen : (p : Pass) → Contains passes p → (p.known r).stored ≤ x.stored
  pub closed_seen : (p : Pass) → Contains passes p → (p.known r).closed ≤ x.closed
  pub synced : x.synced ≤ last_in x
  pub stored : x.stored ≤ last_in x
  pub stored_least : x.base.last ≤ x.stored
  pub spent : (p : Pass) (n : ℕ) → Contains passes p → Contains (p.known r).spent n → n ≤ last_in x

-- What a crash may leave of a region, where this disk is handed on.
pub record Survives (disk : DiskView) (broken : Bool) (r : ℕ) (x : Region) : Type 0 where
  -- the base with a beginning of the edits, all that was synced or stored among them, and all where the log isn't broken
  pub images : (J : Files) → IsImageNow disk J
      → (m : ℕ) × Fits J r x.base x.edits m × (x.synced ≤ m) × (x.stored ≤ m) × (broken ≡ false → m ≡ last_in x)
  pub stored : (J : Files) (v : VersionKey) (p : Payload) → IsImageNow disk J → IsRecovered J r v p → v.number ≤ x.stored → IsStored J r v p
  pub closed : (J : Files) (name : Name) (entries : List Entry) (e : Entry) → IsImageNow disk J → IsLastLog J name → IsLogFile J name entries
      → Contains entries e → e.region ≡ r → x.closed < e.number

-- What the disk handed on holds besides.
pub record Leaves (found : Files) (disk : DiskView) (broken : Bool) (regions : ℕ) : Type 0 where
  pub sound : (J : Files) → IsImageNow disk J → ((name : Name) → IsPresent found name → name.number ≤ 2 ^ 61) → IsSound J
  pub others : (J : Files) (r : ℕ) → IsImageNow disk J → regions < r → RecoversAlike found J r
  -- no log file but the last is wholly flushed
  pub archived : broken ≡ false → (name : Name) (entries : List Entry) → IsLogFile disk.files name entries → name.kind ≡ kinds.Log
      → (IsLastLog disk.files name → ⊥)
      → (e : Entry) × (f : List ℕ) × Contains entries e × HasFamily e f × ((n : ℕ) → IsFlushed disk.files e.region f n → n < e.number)

-- a handler's pass at the end, with its calls
pub record Handled : Type 0 where
  pub pass : Pass
  pub replies : List Reply

abbrev pub HasRun : Naming → ℕ → Handled → Type 0
HasRun name time h = (first : Pass) × IsFresh h.pass.handler first × Runs name time first h.replies h.pass

abbrev pub passes_of : List Handled → List Pass
passes_of [] = []
passes_of (h ∷ hs) = h.pass ∷ passes_of hs

abbrev pub replies_of : List Handled → List Reply
replies_of hs = flat_map (λ h. h.replies) hs

-- each two of a list
abbrev pub Pairs : {A : Type 0} → (A → A → Type 0) → List A → Type 0
Pairs {A} R [] = Unit {0}
Pairs {A} R (x ∷ xs) = ((y : A) → Contains xs y → R x y) × Pairs R xs

-- each handler's calls, from a fresh pass, and no two handlers with one number
pub record AllRun (name : Naming) (time : ℕ) (hs : List Handled) : Type 0 where
  pub each : AllByRecursion (HasRun name time) hs
  pub apart : Pairs (λ (a b : Handled). a.pass.handler ≢ b.pass.handler) hs

-- a call that the name lists as a flush of the region is one of these, and it is that flush
abbrev pub IsListed : Naming → ℕ → List Reply → Type 0
IsListed name r replies = (c : Caller) → Contains (name.flushes r) c
    → (other : Reply) × Contains replies other × (other.handler ≡ c.handler) × (other.number ≡ c.call) × IsFlushOf r other.call
