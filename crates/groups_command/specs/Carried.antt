-- What is left of a script that was run on several stores.
use Rattle.std.specs.Prelude.{◌≡◌, ℕ, ◌<◌, ◌⊎◌, true}
use Rattle.disk_images.specs.Crash.{DiskView}
use Rattle.log_model.specs.declared.damage.Damage.{Damage}
use Rattle.log_model.specs.Files.{IsSound}
use Rattle.script_model.specs.Calls.{Script}
use Rattle.run_model.specs.Headline.{KeepsFound, IsHalfOpened}
use Rattle.run_command.specs.recover_command.Recovered.{IsStoreDamage}
use Rattle.groups_model.specs.Groups.{IsGroup}
use Rattle.groups_run.specs.group_servers.group_lists.declared.lists.GroupList.{GroupList}
use Rattle.groups_run.specs.group_servers.group_lists.Lists.{count_of}
use Rattle.groups_run.specs.group_servers.declared.refusal.GroupsWhy.{GroupsWhy}
use Rattle.groups_run.specs.group_servers.declared.refusal.GroupsWhy.TheVariants as whys
use Rattle.groups_run.specs.Found.{views}
use Rattle.groups_run.specs.Ends.{HaveClosed}
use Rattle.groups_command.specs.Disks.{OfEach, RoseAt, SomeRose, HaveNoOthers, IsFirstWrong}
use Rattle.groups_command.specs.declared.ran.GroupsRan.{GroupsRan}
use Rattle.groups_command.specs.declared.ran.GroupsRan.TheVariants as rans

abbrev pub disks_of : {D : Type 0} → GroupsRan D → GroupList D
disks_of (rans.Closed disks regions replies spent broken) = disks
disks_of (rans.Left disks) = disks
disks_of (rans.NotOpened why disk disks) = disks

-- The stores could not be opened, for this cause, which is told of the disk of this number. Each recovers to the same. Damage is one of that
-- disk's files as found, and changed no file there.
pub record AreNotOpened (groups : ℕ) (before after : ℕ → DiskView) (why : GroupsWhy) (disk : ℕ) : Type 0 where
  pub there : IsGroup groups disk
  pub half : OfEach groups IsHalfOpened before after
  pub damaged : (damage : Damage) → why ≡ whys.Damaged damage → IsStoreDamage (before disk).files damage × ((after disk).files ≡ (before disk).files)
  pub wrong : (region : ℕ) → why ≡ whys.WrongGroup region → IsFirstWrong groups before disk region
  -- those before this disk are sound, and all are where it is another group's region that is told
  pub sound : (k : ℕ) → IsGroup groups k → (k < disk) ⊎ ((region : ℕ) × (why ≡ whys.WrongGroup region)) → IsSound (before k).files

-- What is left of a script on stores on these disks: closed servers, with what the headline wants of them, of which none had another group's region;
-- all cells that were found; or stores that could not be opened.
abbrev pub HaveRan : {D : Type 0} → (D → DiskView) → (D → ℕ) → Script → GroupList D → GroupsRan D → Type 0
HaveRan view faults script before (rans.Closed disks regions replies spent broken) =
    HaveNoOthers (count_of before) (views view before)
    × HaveClosed (count_of before) script (views view before) (views view disks) (RoseAt faults before disks) regions.items replies.items spent broken
HaveRan view faults script before (rans.Left disks) = OfEach (count_of before) KeepsFound (views view before) (views view disks)
HaveRan view faults script before (rans.NotOpened why disk disks) = AreNotOpened (count_of before) (views view before) (views view disks) why disk

-- a broken log, and stores that aren't opened for a fault of a disk, have their cause in a disk's count of faults
abbrev pub HaveRanCause : {D : Type 0} → (D → ℕ) → GroupList D → GroupsRan D → Type 0
HaveRanCause faults before (rans.Closed disks regions replies spent broken) = broken ≡ true → SomeRose faults before disks
HaveRanCause faults before (rans.Left disks) = Unit {0}
HaveRanCause faults before (rans.NotOpened why disk disks) = why ≡ whys.DiskFault → SomeRose faults before disks
