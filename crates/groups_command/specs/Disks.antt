-- What holds of groups' disks, each by its group's number, before and after.
use Rattle.std.specs.Prelude.{ℕ, ◌<◌, Option, Some, None}
use Rattle.log_model.specs.declared.damage.Damage.{Damage}
use Rattle.log_model.specs.Damage.{IsDamage}
use Rattle.log_model.specs.Files.{IsSound}
use Rattle.disk_images.specs.Crash.{DiskView}
use Rattle.disk_images.specs.Calls.{Rose}
use Rattle.groups_model.specs.Groups.{IsGroup}
use Rattle.groups_run.specs.group_servers.group_lists.declared.lists.GroupList.{GroupList}
use Rattle.groups_run.specs.group_servers.group_lists.Lists.{count_of}
use Rattle.groups_run.specs.group_servers.Refusals.{HasNoOthers, IsWrong}
use Rattle.groups_run.specs.Found.{value_of}

-- no disk stands after one that is left out
abbrev pub InARow : {A : Type 0} → Option A → Option A → Option A → Type 0
InARow None None None = Unit {0}
InARow (Some x) None None = Unit {0}
InARow (Some x) (Some y) z = Unit {0}
InARow None (Some y) z = ⊥
InARow None None (Some z) = ⊥
InARow (Some x) None (Some z) = ⊥

abbrev pub AreInARow : {A : Type 0} → GroupList A → Type 0
AreInARow xs = InARow xs.second xs.third xs.fourth

-- of each group's disk
abbrev pub OfEach : (groups : ℕ) → (DiskView → DiskView → Type 0) → (before after : ℕ → DiskView) → Type 0
OfEach groups P before after = (k : ℕ) → IsGroup groups k → P (before k) (after k)

-- the count of faults of this group's disk rose
abbrev pub RoseAt : {D : Type 0} → (D → ℕ) → (before after : GroupList D) → ℕ → Type 0
RoseAt faults before after k = Rose (faults (value_of before k)) (faults (value_of after k))

-- that of some disk rose
abbrev pub SomeRose : {D : Type 0} → (D → ℕ) → (before after : GroupList D) → Type 0
SomeRose faults before after = (k : ℕ) × IsGroup (count_of before) k × RoseAt faults before after k

-- all stores are sound as they were found
abbrev pub AreSound : (groups : ℕ) → (found : ℕ → DiskView) → Type 0
AreSound groups found = (k : ℕ) → IsGroup groups k → IsSound (found k).files

-- no disk has something of another group's region
abbrev pub HaveNoOthers : (groups : ℕ) → (found : ℕ → DiskView) → Type 0
HaveNoOthers groups found = (k : ℕ) → IsGroup groups k → HasNoOthers groups 64 k (found k).files

-- the disk of this number is the first that is damaged, and this shows it first
pub record IsFirstDamaged (groups : ℕ) (found : ℕ → DiskView) (disk : ℕ) (damage : Damage) : Type 0 where
  pub there : IsGroup groups disk
  pub unsound : ¬ IsSound (found disk).files
  pub damaged : IsDamage (found disk).files damage
  pub lower : (k : ℕ) → IsGroup groups k → k < disk → IsSound (found k).files

-- the disk of this number is the first that has something of another group's region, and this is the least one
pub record IsFirstWrong (groups : ℕ) (found : ℕ → DiskView) (disk region : ℕ) : Type 0 where
  pub there : IsGroup groups disk
  pub wrong : IsWrong groups disk region (found disk).files
  pub lower : (k : ℕ) → IsGroup groups k → k < disk → HasNoOthers groups 64 k (found k).files
