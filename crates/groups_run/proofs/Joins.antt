-- The regions of several ends, put together.
use Rattle.std.proofs.Common.{◌≡◌, ℕ, Option, Some, None, IfSome, IfNone, length, option_map, refl, sym, subst}
use Rattle.std.specs.Global.{Vec}
use Rattle.group_calls.specs.region_calls.declared.closed.ClosedRegion.{ClosedRegion}
use Rattle.group_calls.specs.group_servers.group_lists.declared.lists.GroupList.{GroupList}
use Rattle.group_calls.specs.group_servers.group_lists.Choosing.{AreAsMany, AreChosen}
use Rattle.group_calls.specs.group_servers.group_lists.Lists.{at_group}
use Rattle.group_calls.specs.group_servers.declared.shutting.ServerEnd.{ServerEnd}
use Rattle.groups_run.specs.Closing.{regions_in}

module _ {D : Type 0} (ends : GroupList (ServerEnd D)) (second third fourth : Option (Option (Vec ClosedRegion)))
    (two : second ≡ option_map (λ (e : ServerEnd D). e.regions) ends.second) (three : third ≡ option_map (λ (e : ServerEnd D). e.regions) ends.third)
    (four : fourth ≡ option_map (λ (e : ServerEnd D). e.regions) ends.fourth) where
  abbrev lists : GroupList (Option (Vec ClosedRegion))
  lists = record { first = ends.first.regions; second = second; third = third; fourth = fourth }

  pub lists_same : lists ≡ regions_in ends
  lists_same = rw (two, three, four) refl

  pub many_from : IfSome ends.first.regions (λ xs. AreAsMany (length xs.items) (regions_in ends)) → IfSome ends.first.regions (λ xs. AreAsMany (length xs.items) lists)
  many_from many = subst (λ (l : GroupList (Option (Vec ClosedRegion))). IfSome ends.first.regions (λ xs. AreAsMany (length xs.items) l)) (sym lists_same) many

pub chosen_from : (groups : ℕ) (r : Option (Vec ClosedRegion)) (a b : GroupList (Option (Vec ClosedRegion))) → a ≡ b
    → IfSome r (λ chosen. AreChosen groups a chosen.items) → IfSome r (λ chosen. AreChosen groups b chosen.items)
chosen_from groups r a b same is = subst (λ (l : GroupList (Option (Vec ClosedRegion))). IfSome r (λ chosen. AreChosen groups l chosen.items)) same is

pub none_from : (r : Option (Vec ClosedRegion)) (a b : GroupList (Option (Vec ClosedRegion))) → a ≡ b
    → IfNone r ((k : ℕ) × (at_group a k ≡ Some None)) → IfNone r ((k : ℕ) × (at_group b k ≡ Some None))
none_from r a b same is = subst (λ (l : GroupList (Option (Vec ClosedRegion))). IfNone r ((k : ℕ) × (at_group l k ≡ Some None))) same is
