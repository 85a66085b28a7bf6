-- What stands once a script's handlers have returned, who called several servers.
use Rattle.std.specs.Prelude.{◌≡◌, ◌≢◌, ℕ, ◌≤◌, Bool, true, false, List, map, Option, None}
use Rattle.disk_images.specs.Crash.{DiskView}
use Rattle.disk_images.specs.Calls.{Rose}
use Rattle.script_model.specs.Calls.{Script}
use Rattle.script_model.specs.Report.{ReplyLine}
use Rattle.server_model.specs.Pass.{Naming}
use Rattle.run_model.specs.Closed.{ClosedAt}
use Rattle.run_model.specs.declared.spent.Spent.{Spent}
use Rattle.run_model.specs.Spent.{first_spent}
use Rattle.run_model.specs.Headline.{reply_line, KeepsFound}
use Rattle.group_calls.specs.region_calls.declared.closed.ClosedRegion.{ClosedRegion}
use Rattle.group_calls.specs.region_calls.declared.store.OpenedStore.{OpenedStore}
use Rattle.group_calls.specs.region_calls.Store.{disk_now}
use Rattle.script_run.specs.Ends.{closed_at}
use Rattle.groups_model.specs.Groups.{IsGroup}
use Rattle.groups_model.specs.Closed.{GroupHandled, all_replies, AreClosed, AreChosen}
use Rattle.group_calls.specs.group_servers.group_lists.declared.lists.GroupList.{GroupList}
use Rattle.group_calls.specs.group_servers.group_lists.Lists.{at_group}
use Rattle.groups_run.specs.Found.{value_of, views}
use Rattle.groups_run.specs.declared.served.GroupsServed.{GroupsServed}
use Rattle.groups_run.specs.declared.served.GroupsServed.TheVariants as served

abbrev pub lines_of : GroupHandled → List ReplyLine
lines_of h = map reply_line h.replies

-- The handlers ran and the servers were closed, with these replies. `rose` says of each group that the count of faults of its disk did.
pub record HaveClosed (groups : ℕ) (script : Script) (found left : ℕ → DiskView) (rose : ℕ → Type 0) (regions : List ClosedRegion)
    (replies : List (List ReplyLine)) (spent : Option Spent) (broken : Bool) : Type 0 where
  pub names : ℕ → Naming
  pub handlers : List GroupHandled
  pub closes : ℕ → List ClosedAt
  pub breaks : ℕ → Bool
  pub closed : AreClosed groups script found left names handlers closes breaks
  -- a group's log is broken only where the count of faults of its own disk rose
  pub causes : (k : ℕ) → IsGroup groups k → breaks k ≡ true → rose k
  pub chosen : AreChosen groups script closes (map closed_at regions)
  pub lines : replies ≡ map lines_of handlers
  pub first_told : first_spent (all_replies handlers) ≡ spent
  -- no group's log is broken where that isn't told
  pub none_broken : broken ≡ false → (k : ℕ) → IsGroup groups k → breaks k ≡ false

-- How it ends, on disks that tell what they hold, which were found so, and whose faults were so many when the stores were opened: closed, or left,
-- each with all cells that were found.
abbrev pub AreServed : {D : Type 0} → (D → DiskView) → (D → ℕ) → ℕ → Script → (ℕ → DiskView) → (ℕ → ℕ) → GroupsServed D → Type 0
AreServed view faults groups script found had (served.Closed disks regions replies spent broken) =
    HaveClosed groups script found (views view disks) (λ k. Rose (had k) (faults (value_of disks k))) regions.items replies.items spent broken
AreServed view faults groups script found had (served.Left disks) = (k : ℕ) → IsGroup groups k → KeepsFound (found k) (views view disks k)

abbrev pub disks_left : {D : Type 0} → GroupsServed D → GroupList D
disks_left (served.Closed disks regions replies spent broken) = disks
disks_left (served.Left disks) = disks

abbrev pub is_broken : {D : Type 0} → GroupsServed D → Bool
is_broken (served.Closed disks regions replies spent broken) = broken
is_broken (served.Left disks) = false

-- no disk's count of faults fell, and a broken log has its cause: the count of a disk that is there rose
pub record HaveCounts {D : Type 0} (faults : D → ℕ) (opened : GroupList (OpenedStore D)) (result : GroupsServed D) : Type 0 where
  pub later : (k : ℕ) → faults (disk_now (value_of opened k)) ≤ faults (value_of (disks_left result) k)
  pub cause : is_broken result ≡ true
      → (k : ℕ) × (at_group opened k ≢ None) × Rose (faults (disk_now (value_of opened k))) (faults (value_of (disks_left result) k))
