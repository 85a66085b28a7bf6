-- What a handler's passes know of several servers.
use Rattle.std.specs.Prelude.{◌≡◌, ◌≢◌, ℕ, zero, suc, ◌<◌, ◌≤◌, Bool, List, Result, Option, Contains}
use Rattle.cell_model.specs.Batch.{Batch}
use Rattle.region_model.specs.Calls.{Answer, Raw}
use Rattle.group_servers.specs.region_lock.declared.answers.PutRefusal.{PutRefusal}
use Rattle.group_servers.specs.region_lock.declared.naming.LockNaming.{Ghosts}
use Rattle.group_servers.specs.region_lock.Puts.{IsFaultExact}
use Rattle.server_model.specs.Pass.{Pass as ThePass, Naming}
use Rattle.server_model.specs.Steps.{Puts, Scans, Flushes, Rolls}
use Rattle.group_servers.specs.region_calls.Passes.{knows, IsPassOf}
use Rattle.group_servers.specs.Passes.{nobody, known_by, call_by, HasHandlerAt, IsPassAt, IsExactAt, Looks}
use Rattle.group_calls.specs.declared.groups.GroupPass.{GroupPass}
use Rattle.group_calls.specs.Servers.{Servers}

module _ {N1 N2 N3 N4 : Type 0} {g1 : Ghosts N1} {g2 : Ghosts N2} {g3 : Ghosts N3} {g4 : Ghosts N4} where
  -- what the pass of a group's server knows
  abbrev pub known : GroupPass N1 N2 N3 N4 g1 g2 g3 g4 → ℕ → ThePass
  known p zero = nobody
  known p (suc zero) = knows p.first
  known p (suc (suc zero)) = known_by p.second
  known p (suc (suc (suc zero))) = known_by p.third
  known p (suc (suc (suc (suc zero)))) = known_by p.fourth
  known p (suc (suc (suc (suc (suc n))))) = nobody

  -- the passes are of these servers, and all are one handler's
  pub record IsGroupPassOf (s : Servers) (p : GroupPass N1 N2 N3 N4 g1 g2 g3 g4) : Type 0 where
    pub first : IsPassOf s.first p.first
    pub second : IsPassAt s.second p.second
    pub third : IsPassAt s.third p.third
    pub fourth : IsPassAt s.fourth p.fourth
    pub second_same : HasHandlerAt (knows p.first).handler p.second
    pub third_same : HasHandlerAt (knows p.first).handler p.third
    pub fourth_same : HasHandlerAt (knows p.first).handler p.fourth

  -- when a put on a group's server that tells a fault may
  abbrev pub IsExactOn : Bool → ℕ → Result ℕ PutRefusal → GroupPass N1 N2 N3 N4 g1 g2 g3 g4 → GroupPass N1 N2 N3 N4 g1 g2 g3 g4 → ℕ → Type 0
  IsExactOn sync r result p q zero = Unit {0}
  IsExactOn sync r result p q (suc zero) = IsFaultExact sync r result p.first.seat.device.knows q.first.seat.device.knows
  IsExactOn sync r result p q (suc (suc zero)) = IsExactAt sync r result p.second q.second
  IsExactOn sync r result p q (suc (suc (suc zero))) = IsExactAt sync r result p.third q.third
  IsExactOn sync r result p q (suc (suc (suc (suc zero)))) = IsExactAt sync r result p.fourth q.fourth
  IsExactOn sync r result p q (suc (suc (suc (suc (suc n))))) = Unit {0}

-- of four names that of a group
abbrev pub named : Naming → Naming → Naming → Naming → ℕ → Naming
named a b c d zero = a
named a b c d (suc zero) = a
named a b c d (suc (suc zero)) = b
named a b c d (suc (suc (suc zero))) = c
named a b c d (suc (suc (suc (suc n)))) = d

-- what the passes of the others know stays
abbrev pub StayElsewhere : ℕ → (ℕ → ThePass) → (ℕ → ThePass) → Type 0
StayElsewhere group old new = (k : ℕ) → k ≢ group → new k ≡ old k

-- ---- each call, on the server of this group

abbrev pub PutsOn : (ℕ → Naming) → (time r : ℕ) → Bool → Batch → ℕ → Answer → (ℕ → ThePass) → (ℕ → ThePass) → ℕ → Type 0
PutsOn names time r sync batch call answer old new k = Puts (names k) time r sync batch (call_by (old k) call) answer (old k) (new k)

abbrev pub ScansOn : (ℕ → Naming) → ℕ → (from to : List ℕ) → Answer → (ℕ → ThePass) → (ℕ → ThePass) → ℕ → Type 0
ScansOn names r from to answer old new k = Scans (names k) Raw r from to answer (old k) (new k)

abbrev pub FlushesOn : (ℕ → Naming) → ℕ → Option (List ℕ) → ℕ → Answer → (ℕ → ThePass) → (ℕ → ThePass) → ℕ → Type 0
FlushesOn names r family call answer old new k = Flushes (names k) r family (call_by (old k) call) answer (old k) (new k)

abbrev pub RollsOn : Answer → (ℕ → ThePass) → (ℕ → ThePass) → ℕ → Type 0
RollsOn answer old new k = Rolls answer (old k) (new k)

abbrev pub LooksOn : (ℕ → Naming) → (r point : ℕ) → (ℕ → ThePass) → (ℕ → ThePass) → ℕ → Type 0
LooksOn names r point old new k = Looks (names k) r point (old k) (new k)

-- the region is one of its group's server
abbrev pub IsRegionOn : (ℕ → Naming) → ℕ → ℕ → Type 0
IsRegionOn names r k = (1 ≤ r) × (r ≤ (names k).regions)

-- the call's number is above those that the handler used at this server
abbrev pub IsNextOn : (ℕ → ThePass) → ℕ → ℕ → Type 0
IsNextOn old call k = (old k).calls < call

-- the call is listed as a flush of the region
abbrev pub IsListedOn : (ℕ → Naming) → ℕ → (ℕ → ThePass) → ℕ → ℕ → Type 0
IsListedOn names r old call k = Contains ((names k).flushes r) (call_by (old k) call)
