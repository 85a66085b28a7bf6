-- Each region as its own group's server closed it.
use Rattle.std.proofs.Common.{◌≡◌, ◌≢◌, ℕ, zero, suc, ◌+◌, ◌≤◌, List, [], ◌∷◌, map, length, Contains, Option, Some, None, IfSome, slice_get, refl, sym, ap, subst, arith, ◌∙◌}
use Rattle.std.proofs.lemmas.List.{length-map}
use Rattle.std.proofs.lemmas.List.FromFn.{length-range_with_len}
use Rattle.std.specs.List.{range_with_len}
use Rattle.std.specs.Global.{Vec}
use Rattle.script_model.specs.Calls.{Script}
use Rattle.server_model.proofs.JournalLaws.{contains_cons}
use Rattle.run_model.specs.Closed.{ClosedAt}
use Rattle.run_model.proofs.Lists.{mapped, map_contains}
use Rattle.group_calls.specs.region_calls.declared.closed.ClosedRegion.{ClosedRegion}
use Rattle.group_calls.proofs.region_calls_laws.TakenLaws.{numbers_are}
use Rattle.script_run.specs.Ends.{closed_at}
use Rattle.groups_model.specs.Groups.{group_of, IsGroup}
use Rattle.groups_model.specs.Closed.{AreChosen}
use Rattle.groups_model.proofs.Parts.{group_there}
use Rattle.group_calls.specs.group_servers.group_lists.declared.lists.GroupList.{GroupList}
use Rattle.group_calls.specs.group_servers.group_lists.Choosing.{AreChosen as AreChosenOf, items_at}
use Rattle.group_calls.specs.group_servers.group_lists.Lists.{at_group}
use Rattle.groups_run.proofs.Closes.{at_map}

abbrev pub items_of : Option (Option (Vec ClosedRegion)) → List ClosedRegion
items_of None = []
items_of (Some None) = []
items_of (Some (Some xs)) = xs.items

-- each group's server's regions
abbrev pub closes_in : GroupList (Option (Vec ClosedRegion)) → ℕ → List ClosedAt
closes_in lists k = map closed_at (items_of (at_group lists k))

contains_get : {A : Type 0} (xs : List A) (x : A) → Contains xs x → (k : ℕ) × (slice_get xs k ≡ Some x)
contains_get [] x (k, lt, e) = absurd (omega (arith, lt))
contains_get (y ∷ ys) x (zero, lt, e) = (0, ap (λ z. Some z) e)
contains_get (y ∷ ys) x (suc k, lt, e) = let r = contains_get ys x (k, omega (arith, lt), e) in (suc r.0, r.1)

get_contains : {A : Type 0} (xs : List A) (k : ℕ) (x : A) → slice_get xs k ≡ Some x → Contains xs x
get_contains [] k x e = absurd (cc e)
get_contains (y ∷ ys) zero x e = (0, omega arith, cc e)
get_contains (y ∷ ys) (suc k) x e = contains_cons y ys x (get_contains ys k x e)

-- in a numbered list the region in a place has its number
number_at : (cs : List ClosedRegion) (s n : ℕ) → map (λ (x : ClosedRegion). x.region) cs ≡ range_with_len s n → (k : ℕ) (c : ClosedRegion) → slice_get cs k ≡ Some c → c.region ≡ s + k
number_at [] s n is k c e = absurd (cc e)
number_at (d ∷ ds) s zero is k c e = absurd (cc is)
number_at (d ∷ ds) s (suc n) is zero c e =
    let same : d ≡ c = cc e in
    let first : d.region ≡ s = cc is in
    sym (ap (λ (x : ClosedRegion). x.region) same) ∙ first ∙ omega arith
number_at (d ∷ ds) s (suc n) is (suc k) c e =
    let rest : map (λ (x : ClosedRegion). x.region) ds ≡ range_with_len (s + 1) n = cc is in
    number_at ds (s + 1) n rest k c e ∙ omega arith

module _ (groups : ℕ) (script : Script) (lists : GroupList (Option (Vec ClosedRegion))) (chosen : List ClosedRegion) (some : 1 ≤ groups) (right : AreChosenOf groups lists chosen)
    (each : (k : ℕ) → IsGroup groups k → (xs : Vec ClosedRegion) × (at_group lists k ≡ Some (Some xs)) × (map (λ (x : ClosedRegion). x.region) xs.items ≡ range_with_len 1 script.regions)) where
  -- the list of this place's group
  own : (i : ℕ) → (xs : Vec ClosedRegion) × (at_group lists (group_of groups (i + 1)) ≡ Some (Some xs)) × (map (λ (x : ClosedRegion). x.region) xs.items ≡ range_with_len 1 script.regions)
  own i = each (group_of groups (i + 1)) (group_there groups (i + 1) some)

  same_there : (i : ℕ) → slice_get chosen i ≡ slice_get (own i).0.items i
  same_there i = subst (λ (o : Option (Option (Vec ClosedRegion))). IfSome (items_at o) (λ ys. slice_get chosen i ≡ slice_get ys i)) (own i).1 (right.each i)

  number_there : (i : ℕ) (c : ClosedRegion) → slice_get chosen i ≡ Some c → c.region ≡ 1 + i
  number_there i c e = number_at (own i).0.items 1 script.regions (own i).2 i c (sym (same_there i) ∙ e)

  count : length chosen ≡ script.regions
  count =
      let x = each 1 (omega arith, some) in
      let first : lists.first ≡ Some x.0 = cc x.1 in
      subst (λ (o : Option (Vec ClosedRegion)). IfSome o (λ xs. length chosen ≡ length xs.items)) first right.count
      ∙ sym (length-map x.0.items (λ (c : ClosedRegion). c.region)) ∙ ap length x.2 ∙ length-range_with_len 1 script.regions

  from : (x : ClosedAt) → Contains (map closed_at chosen) x → Contains (closes_in lists (group_of groups x.region)) x
  from x is =
      let m = mapped closed_at chosen x is in
      let at = contains_get chosen m.0 m.1 in
      let number : m.0.region ≡ at.0 + 1 = number_there at.0 m.0 at.1 ∙ omega arith in
      let member = map_contains closed_at (own at.0).0.items m.0 (get_contains (own at.0).0.items at.0 m.0 (sym (same_there at.0) ∙ at.1)) in
      let here : Contains (closes_in lists (group_of groups (at.0 + 1))) (closed_at m.0) =
      subst (λ (o : Option (Option (Vec ClosedRegion))). Contains (map closed_at (items_of o)) (closed_at m.0)) (sym (own at.0).1) member in
      subst (λ (y : ClosedAt). Contains (closes_in lists (group_of groups y.region)) y) m.2
      (subst (λ (r : ℕ). Contains (closes_in lists (group_of groups r)) (closed_at m.0)) (sym number) here)

  pub are_chosen : AreChosen groups script (closes_in lists) (map closed_at chosen)
  are_chosen = record { numbers = at_map chosen ∙ numbers_are chosen 1 number_there ∙ ap (range_with_len 1) count; from = from }
