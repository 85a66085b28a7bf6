-- What stands once the servers that were started are closed.
use Rattle.std.specs.Prelude.{◌≡◌, ℕ, List, map, Option, Some, None}
use Rattle.disk_images.specs.declared.disk.Disk.{Ghosts}
use Rattle.script_model.specs.Calls.{Script}
use Rattle.server_model.specs.Pass.{Pass, Naming}
use Rattle.group_calls.specs.log_service.log_halves.declared.name.ServiceNaming.{Ghosts as LogGhosts}
use Rattle.group_calls.specs.region_calls.declared.naming.ServerNaming.{Ghosts as NameGhosts}
use Rattle.group_calls.specs.region_lock.declared.naming.LockNaming.{Ghosts as LockGhosts}
use Rattle.region_versions.specs.declared.naming.VersionsNaming.{Ghosts as VersionGhosts}
use Rattle.run_model.specs.Spent.{first_spent}
use Rattle.groups_model.specs.Closed.{GroupHandled, all_replies}
use Rattle.group_calls.specs.group_servers.group_lists.declared.lists.GroupList.{GroupList}
use Rattle.group_calls.specs.group_servers.declared.shutting.ServerEnd.{ServerEnd}
use Rattle.group_calls.specs.group_servers.Closing.{HasEnded}
use Rattle.groups_run.specs.Closing.{IsJoined}
use Rattle.group_calls.specs.Servers.{Servers}
use Rattle.groups_run.specs.Ends.{lines_of}
use Rattle.groups_run.specs.Ran.{AreHandled}
use Rattle.groups_run.specs.declared.started.RunEnd.{RunEnd}

-- what the handlers' passes of one group's server know at the end
abbrev pub passes_on : ℕ → List GroupHandled → List Pass
passes_on k hs = map (λ h. h.passes k) hs

-- a server was closed exactly where there is one
module _ {D N : Type 0} (f : Ghosts D) (s : NameGhosts N) (g : LockGhosts N) (l : LogGhosts N) (v : VersionGhosts N) where
  abbrev pub HasEndedOf : {A : Type 0} → Option A → List Pass → Option (ServerEnd D) → Type 0
  HasEndedOf None passes None = Unit {0}
  HasEndedOf None passes (Some e) = ⊥
  HasEndedOf (Some a) passes None = ⊥
  HasEndedOf (Some a) passes (Some e) = HasEnded f s g l v passes e

module _ {D N1 N2 N3 N4 : Type 0} (f : Ghosts D) (s1 : NameGhosts N1) (g1 : LockGhosts N1) (l1 : LogGhosts N1) (v1 : VersionGhosts N1)
    (s2 : NameGhosts N2) (g2 : LockGhosts N2) (l2 : LogGhosts N2) (v2 : VersionGhosts N2)
    (s3 : NameGhosts N3) (g3 : LockGhosts N3) (l3 : LogGhosts N3) (v3 : VersionGhosts N3)
    (s4 : NameGhosts N4) (g4 : LockGhosts N4) (l4 : LogGhosts N4) (v4 : VersionGhosts N4) where
  -- the handlers ran on these servers, and each server was closed, or gave its disk
  pub record HaveEnded (s : Servers) (names : ℕ → Naming) (script : Script) (end : RunEnd D) : Type 0 where
    pub handlers : List GroupHandled
    pub handled : AreHandled s.count names script handlers
    pub lines : end.replies.items ≡ map lines_of handlers
    pub first_told : first_spent (all_replies handlers) ≡ end.spent
    pub ends : GroupList (ServerEnd D)
    pub joined : IsJoined s.count ends end.closed
    pub first : HasEnded f s1 g1 l1 v1 (passes_on 1 handlers) ends.first
    pub second : HasEndedOf f s2 g2 l2 v2 s.second (passes_on 2 handlers) ends.second
    pub third : HasEndedOf f s3 g3 l3 v3 s.third (passes_on 3 handlers) ends.third
    pub fourth : HasEndedOf f s4 g4 l4 v4 s.fourth (passes_on 4 handlers) ends.fourth
