-- Each region of its own group's list.
use Rattle.std.specs.Prelude.{◌≡◌, ◌≢◌, ℕ, ◌+◌, ◌==◌, cond, List, length, Option, Some, None, IfSome, slice_get}
use Rattle.std.specs.Global.{Vec}
use Rattle.groups_model.specs.Groups.{group_of}
use Rattle.group_lists.specs.declared.lists.GroupList.{GroupList}
use Rattle.group_lists.specs.Lists.{at_group}

module _ {T : Type 0} where
  -- the regions of this group are those from here, and the others stay
  abbrev pub IsTakenFrom : (groups group : ℕ) → (old from new : List T) → Type 0
  IsTakenFrom groups group old from new =
      (k : ℕ) → slice_get new k ≡ cond (group_of groups (k + 1) == group) (slice_get from k) (slice_get old k)

  abbrev pub IsTakenAt : (groups group : ℕ) → List T → Option (Option (Vec T)) → List T → Type 0
  IsTakenAt groups group old None new = new ≡ old
  IsTakenAt groups group old (Some None) new = ⊥
  IsTakenAt groups group old (Some (Some from)) new = IsTakenFrom groups group old from.items new

  -- those lists that are there have so many regions
  abbrev pub AreAsMany : ℕ → GroupList (Option (Vec T)) → Type 0
  AreAsMany n lists = (k : ℕ) (xs : Vec T) → at_group lists k ≡ Some (Some xs) → length xs.items ≡ n

  -- a group's list, where it is there
  abbrev pub items_at : Option (Option (Vec T)) → Option (List T)
  items_at None = None
  items_at (Some None) = None
  items_at (Some (Some xs)) = Some xs.items

  -- all lists are there, and each region is its own group's
  pub record AreChosen (groups : ℕ) (lists : GroupList (Option (Vec T))) (chosen : List T) : Type 0 where
    pub there : (k : ℕ) → at_group lists k ≢ Some None
    pub count : IfSome lists.first (λ xs. length chosen ≡ length xs.items)
    pub each : (k : ℕ) → IfSome (items_at (at_group lists (group_of groups (k + 1)))) (λ xs. slice_get chosen k ≡ slice_get xs k)
