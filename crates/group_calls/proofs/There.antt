-- Which groups' servers are there.
use Rattle.std.proofs.Common.{◌≡◌, ◌≢◌, ℕ, ◌≤◌, Option, None, sym, ap, ◌∙◌, arith}
use Rattle.groups_model.specs.Groups.{group_of}
use Rattle.group_servers.specs.log_service.Places.{ServiceId}
use Rattle.group_servers.specs.group_lists.Lists.{counted}
use Rattle.group_servers.proofs.group_lists_laws.Each.{some_count, count_second, count_third, count_fourth}
use Rattle.group_calls.specs.Servers.{Servers, AreServers}

-- as many servers as are counted
pub servers_there : (count : ℕ) (second third fourth : Option ServiceId) → count ≡ counted second third fourth → AreServers count second third fourth
servers_there count second third fourth is =
    let some = some_count second third fourth in
    record {
      some = (omega (arith, some.0, is), omega (arith, some.1, is));
      second_there = λ low. count_second second third fourth (omega (arith, low, is));
      third_there = λ low. count_third second third fourth (omega (arith, low, is));
      fourth_there = λ low. count_fourth second third fourth (omega (arith, low, is));
      counted_are = is;
    }

module _ (s now : Servers) (is : s ≡ now) (are : AreServers s.count s.second s.third s.fourth) (group : ℕ) (within : group ≤ now.count) where
  pub second_here : group ≡ 2 → s.second ≢ None
  second_here two = (let same = ap (λ (x : Servers). x.count) is in are.second_there (omega (arith, within, two, same)))

  pub third_here : group ≡ 3 → s.third ≢ None
  third_here three = (let same = ap (λ (x : Servers). x.count) is in are.third_there (omega (arith, within, three, same)))

  pub fourth_here : group ≡ 4 → s.fourth ≢ None
  fourth_here four = (let same = ap (λ (x : Servers). x.count) is in are.fourth_there (omega (arith, within, four, same)))

-- of which group a region is
pub in_group : (count region group k : ℕ) → group ≡ group_of count region → group ≡ k → group_of count region ≡ k
in_group count region group k is there = sym is ∙ there

-- of which group a handler's number is
pub on_group : (count handler number group k : ℕ) → number ≡ handler → group ≡ group_of count number → group ≡ k → group_of count handler ≡ k
on_group count handler number group k same is there = ap (group_of count) (sym same) ∙ sym is ∙ there
