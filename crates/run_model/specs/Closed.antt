-- What a run has once its server is closed.
use Rattle.std.specs.Prelude.{◌≡◌, ℕ, ◌≤◌, ◌⊎◌, ◌==◌, Bool, true, false, List, filter, map, Contains, ◌<◌}
use Rattle.std.specs.List.{range_with_len}
use Rattle.log_model.specs.Files.{Files, IsSound}
use Rattle.log_model.specs.Recovered.{IsRecovered, IsContent, IsLast}
use Rattle.recovery_laws.specs.Alike.{AllAlike}
use Rattle.region_model.specs.Journal.{Base, Caller}
use Rattle.region_model.specs.Calls.{Call, Put, Scan, Flush, IsFlushOf, Roll}
use Rattle.region_model.specs.Crash.{Fits}
use Rattle.disk_images.specs.Crash.{DiskView, IsImageNow}
use Rattle.script_model.specs.Calls.{Script, Asked, asked, asked_by, IsScript}
use Rattle.server_model.specs.Pass.{Pass, Naming}
use Rattle.server_model.specs.Closing.{Region, IsClosedRegion, Survives, Leaves, Handled, AllRun, Pairs, passes_of, replies_of}

-- ---- the script's flushes

abbrev pub is_flush_of : ℕ → Call → Bool
is_flush_of r (Flush region family) = region == r
is_flush_of r (Put region sync batch) = false
is_flush_of r (Scan view region from to) = false
is_flush_of r Roll = false

abbrev pub caller_of : Asked → Caller
caller_of a = record { handler = a.handler; call = a.number }

-- the calls that are flushes of a region
abbrev pub flushes_in : ℕ → Script → List Caller
flushes_in r script = map caller_of (filter (λ a. is_flush_of r a.call) (asked script))

-- the server is one for this script
pub record IsNameFor (script : Script) (name : Naming) : Type 0 where
  pub regions : name.regions ≡ script.regions
  pub flushes : (r : ℕ) → name.flushes r ≡ flushes_in r script

-- ---- closed

-- by handler, then number
abbrev pub Before : Asked → Asked → Type 0
Before a b = (a.handler < b.handler) ⊎ ((a.handler ≡ b.handler) × (a.number < b.number))

-- a region by its number
pub record ClosedAt : Type 0 where
  pub region : ℕ
  pub it : Region

-- the base is what the files recover to
pub record IsFound (files : Files) (r : ℕ) (base : Base) : Type 0 where
  pub last : IsLast files r base.last
  pub content : IsContent (IsRecovered files r) base.content

-- What stands of a server and of those calls of a script's handlers that were made on it, once it is closed and the disk is handed on. What a
-- crash may leave is there, and which number it is isn't told.
pub record ClosedOn (asks : List Asked) (script : Script) (found : Files) (left : DiskView) (name : Naming) (hs : List Handled) (xs : List ClosedAt) (broken : Bool) : Type 0 where
  pub script_right : IsScript script
  pub named : IsNameFor script name
  pub runs : AllRun name script.time hs
  pub calls : map asked_by (replies_of hs) ≡ asks
  pub numbers : map (λ (x : ClosedAt). x.region) xs ≡ range_with_len 1 script.regions
  pub regions : (x : ClosedAt) → Contains xs x → IsClosedRegion name x.region (passes_of hs) x.it
  pub survives : (x : ClosedAt) → Contains xs x → ∥ Survives left broken x.region x.it ∥₁
  pub leaves : ∥ Leaves found left broken script.regions ∥₁
  -- where a pass has seen the fault word, the log is broken
  pub seen_broken : (p : Pass) → Contains (passes_of hs) p → p.broken ≡ true → broken ≡ true
  pub sound : IsSound found
  pub bases : (r : ℕ) → 1 ≤ r → r ≤ script.regions → IsFound found r (name.bases r)

-- all of the script's calls were made on it
abbrev pub Closed : Script → Files → DiskView → Naming → List Handled → List ClosedAt → Bool → Type 0
Closed script found left name hs xs broken = ClosedOn (asked script) script found left name hs xs broken

-- These are calls of the script, and all flushes of some of its regions.
pub record AreCallsOn (on : ℕ → Type 0) (script : Script) (asks : List Asked) : Type 0 where
  pub part : (a : Asked) → Contains asks a → Contains (asked script) a
  pub order : Pairs Before asks
  pub flushes : (a : Asked) (r : ℕ) → on r → Contains (asked script) a → IsFlushOf r a.call → Contains asks a

-- what a crash may leave of an opening: an image of the disk as found, or files that recover alike for every region
abbrev pub MayOpen : DiskView → Files → Type 0
MayOpen found J = IsImageNow found J ⊎ AllAlike found.files J

-- The server is begun at the moment `start`. Up to it a crash leaves what an opening may leave, and from it on files that are fit so.
pub record FitsFrom (found left : DiskView) (start : ℕ) (Fit : Files → Type 0) : Type 0 where
  pub begun : (found.clock ≤ start) × (start ≤ left.clock)
  pub before : (t : ℕ) (J : Files) → found.clock ≤ t → t ≤ start → left.image t J → MayOpen found J
  pub since : (t : ℕ) (J : Files) → start ≤ t → t ≤ left.clock → left.image t J → ∥ Fit J ∥₁

-- From the moment at which the server is begun a crash leaves of each of these regions the base with a beginning of its edits. Which moment that
-- is isn't told.
abbrev pub FitsThroughout : DiskView → DiskView → List ClosedAt → Type 0
FitsThroughout found left xs = ∥ ((start : ℕ) × FitsFrom found left start (λ J. (x : ClosedAt) → Contains xs x → (m : ℕ) × Fits J x.region x.it.base x.it.edits m)) ∥₁
