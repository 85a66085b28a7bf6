-- What a refusal to open groups tells.
use Rattle.std.specs.Prelude.{◌≡◌, ◌≢◌, ◌⊎◌, ℕ, ◌<◌, ◌≤◌, IsTrue, Some}
use Rattle.log_model.specs.declared.damage.Damage.{Damage}
use Rattle.log_model.specs.Damage.{IsDamage}
use Rattle.log_model.specs.Files.{Files, IsSound}
use Rattle.log_model.specs.Recovered.{IsLast}
use Rattle.disk_images.specs.declared.disk.Disk.{Ghosts}
use Rattle.disk_images.specs.Calls.{Rose}
use Rattle.wal_split.specs.Moments.{During, WasOrAlike}
use Rattle.found_files.specs.declared.refusal.SplitRefusal.{SplitRefusal}
use Rattle.found_files.specs.declared.refusal.SplitRefusal.TheVariants as splits
use Rattle.groups_model.specs.Groups.{group_of}
use Rattle.group_lists.specs.declared.lists.GroupList.{GroupList}
use Rattle.group_servers.specs.declared.refusal.GroupsWhy.{GroupsWhy}
use Rattle.group_servers.specs.declared.refusal.GroupsWhy.TheVariants as whys
use Rattle.group_lists.specs.Lists.{count_of, at_group, OfBoth}

abbrev pub why_split : SplitRefusal → GroupsWhy
why_split splits.Memory = whys.Memory
why_split splits.DiskFault = whys.DiskFault
why_split (splits.Damaged damage) = whys.Damaged damage

-- it tells of no other group's region
abbrev pub IsNotWrong : GroupsWhy → Type 0
IsNotWrong why = (region : ℕ) → why ≡ whys.WrongGroup region → ⊥

-- files of a group's disk that have nothing of those of the first so many regions that are of other groups
abbrev pub HasNoOthers : (groups limit group : ℕ) → Files → Type 0
HasNoOthers groups limit group files = (r : ℕ) → 1 ≤ r → r ≤ limit → group_of groups r ≢ group → IsLast files r 0

-- files of a group's disk whose least region of another group is this one
pub record IsWrong (groups group region : ℕ) (files : Files) : Type 0 where
  pub there : (1 ≤ region) × (region ≤ 64)
  pub other : group_of groups region ≢ group
  pub last : (n : ℕ) × IsLast files region n × (0 < n)
  pub lower : (r : ℕ) → 1 ≤ r → r < region → group_of groups r ≢ group → IsLast files r 0

module _ {D : Type 0} (g : Ghosts D) where
  -- At each moment each image is one of the first moment, or is fit and recovers alike for every region; no count of faults falls.
  pub record GoesOn (old new : D) : Type 0 where
    pub any_moment : IsTrue g.told → During (WasOrAlike (g.view old)) (g.view old) (g.view new)
    pub later : g.faults old ≤ g.faults new

  -- the files aren't sound, this is their damage, and they are as they were
  pub record IsDamagedSo (damage : Damage) (old new : D) : Type 0 where
    pub unsound : ¬ IsSound (g.view old).files
    pub damaged : IsDamage (g.view old).files damage
    pub same : (g.view new).files ≡ (g.view old).files

  -- what is so of a disk that was refused so, as it was and as it is
  abbrev pub Tells : GroupsWhy → D → D → Type 0
  Tells whys.Memory old new = Unit {0}
  Tells whys.DiskFault old new = Rose (g.faults old) (g.faults new)
  Tells (whys.Damaged damage) old new = IsTrue g.told → IsDamagedSo damage old new
  Tells (whys.WrongGroup region) old new = Unit {0}

  -- the disk of this number is the first that has something of another group's region, and this is the least one
  pub record IsFirstWrong (disks : GroupList D) (disk region : ℕ) : Type 0 where
    pub wrong : (d : D) × (at_group disks disk ≡ Some d) × IsWrong (count_of disks) disk region (g.view d).files
    pub lower : (k : ℕ) (d : D) → k < disk → at_group disks k ≡ Some d → HasNoOthers (count_of disks) 64 k (g.view d).files

  -- no disk has something of another group's region
  abbrev pub HaveNoOthers : GroupList D → Type 0
  HaveNoOthers disks = (k : ℕ) (d : D) → at_group disks k ≡ Some d → HasNoOthers (count_of disks) 64 k (g.view d).files

  -- the files of the disks of lower numbers are sound
  abbrev pub AreSoundBelow : GroupList D → ℕ → Type 0
  AreSoundBelow disks disk = (k : ℕ) (d : D) → k < disk → at_group disks k ≡ Some d → IsSound (g.view d).files

  -- These disks were refused so, and it is told of the one of this number, which is there. A wrong group is told only where this disk is the first
  -- that has something of another group's region, with the least such region. The disks before it are sound, and all are where a wrong group is told.
  pub record AreRefused (old new : GroupList D) (why : GroupsWhy) (disk : ℕ) : Type 0 where
    pub tells : OfBoth (Tells why) (at_group old disk) (at_group new disk)
    pub wrong : (region : ℕ) → why ≡ whys.WrongGroup region → IsTrue g.told → IsFirstWrong old disk region
    pub before : IsTrue g.told → (k : ℕ) (d : D) → (k < disk) ⊎ ((region : ℕ) × (why ≡ whys.WrongGroup region)) → at_group old k ≡ Some d
        → IsSound (g.view d).files
