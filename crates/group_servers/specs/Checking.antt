-- Whether something was found of another group's region.
use Rattle.std.specs.Prelude.{◌≡◌, ◌≢◌, ℕ, ◌+◌, ◌-◌, ◌<◌, ◌≤◌, List, length, Some, slice_get}
use Rattle.groups_model.specs.Groups.{group_of}
use Rattle.region_replay.specs.Ready.{Found}
use Rattle.group_lists.specs.declared.lists.GroupList.{GroupList}
use Rattle.group_servers.specs.declared.recovering.FoundStore.{FoundStore}
use Rattle.group_lists.specs.Lists.{at_group}

-- of the first so many regions none of another group has a sequence id
abbrev pub AreClear : ℕ → ℕ → List Found → ℕ → Type 0
AreClear groups group xs n = (i : ℕ) (x : Found) → i < n → slice_get xs i ≡ Some x → group_of groups (i + 1) ≢ group → x.base.last ≡ 0

-- this is the least one that has
pub record IsWrongIn (groups group : ℕ) (xs : List Found) (region : ℕ) : Type 0 where
  pub there : (1 ≤ region) × (region ≤ 64)
  pub other : group_of groups region ≢ group
  pub last : (x : Found) × (slice_get xs (region - 1) ≡ Some x) × (0 < x.base.last)
  pub lower : AreClear groups group xs (region - 1)

module _ {D : Type 0} where
  abbrev pub AllHave64 : GroupList (FoundStore D) → Type 0
  AllHave64 stores = (k : ℕ) (s : FoundStore D) → at_group stores k ≡ Some s → length s.recovered ≡ 64

  abbrev pub AllAreClear : ℕ → GroupList (FoundStore D) → Type 0
  AllAreClear groups stores = (k : ℕ) (s : FoundStore D) → at_group stores k ≡ Some s → AreClear groups k s.recovered 64

  pub record IsFirstIn (groups : ℕ) (stores : GroupList (FoundStore D)) (disk region : ℕ) : Type 0 where
    pub wrong : (s : FoundStore D) × (at_group stores disk ≡ Some s) × IsWrongIn groups disk s.recovered region
    pub lower : (k : ℕ) (s : FoundStore D) → k < disk → at_group stores k ≡ Some s → AreClear groups k s.recovered 64
