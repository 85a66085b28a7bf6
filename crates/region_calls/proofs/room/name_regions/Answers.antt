use Rattle.std.proofs.Common.{◌≡◌, ℕ, ◌+◌, List, [], ◌∷◌, ◌++◌, length, sym, ap, ◌∙◌, subst, arith, length-append, slice_get, Some}
use Rattle.std.specs.Vec.Iter.{into_iter_items}
use Rattle.region_calls.specs.declared.seeds.RegionSeeds.{RegionSeeds}
use Rattle.region_calls.specs.Seeds.{AreSeeds, IsSeed}
use Rattle.region_calls.specs.Named.{AreNamedSeeds, AreFrom}
use Rattle.region_calls.specs.Hands.{Deal, deal_of, AreDeals}
use Rattle.region_calls.proofs.Loops.{one_more, one_over, all_given, no_item}
use Rattle.region_calls.proofs.Seated.{deals_more, from_more}
use Rattle.region_calls.proofs.room.name_regions.Goals as goal

pub naming-preserved : goal.naming-preserved
naming-preserved g c =
    let h = c.args.handlers in
    let ys : List RegionSeeds = c.naming.yielded in
    let x : RegionSeeds = c.in-Some.one in
    let rest : List RegionSeeds = into_iter_items c.next.new.self in
    let inv = c.naming.invariant in
    let steps : into_iter_items c.naming.one-iterator ≡ x ∷ rest = c.in-Some.ensures.steps.0 in
    let seeds = subst (λ (l : List RegionSeeds). AreSeeds h (length ys + 1) l) steps inv.seeds in
    let named = subst (λ (l : List RegionSeeds). AreNamedSeeds g.N.LockNaming.desk g.N.LockNaming.spent g.N.VersionsNaming.book g.N.VersionsNaming.region_base g.N.ServiceNaming.lasts l) steps inv.named in
    let us : List ℕ = c.naming.unlocked.items in
    let ds : List Deal = c.naming.hands.items in
    let u : ℕ = c.in_ok-named.named.unlocked in
    let d : Deal = c.in_ok-named.named.hands in
    let longer = length-append ys (x ∷ []) in
    let more : length ys + 1 + 1 ≡ length (ys ++ x ∷ []) + 1 = omega (arith, longer) in
    let place : x.state.region ≡ length ds + 1 = omega (arith, seeds.0.region, inv.dealt) in
    record {
      seeds = subst (λ n. AreSeeds h n rest) more seeds.1;
      named = named.1;
      unlocked = subst (λ (l : List ℕ). AreFrom 1 l) (sym c.push_reserved.ensures.items) (from_more 1 us u inv.unlocked (omega (arith, c.in_ok-named.ensures.region, seeds.0.region, inv.regions)));
      hands = subst (λ (l : List Deal). AreDeals 1 h l) (sym c.push_reserved-in-naming.ensures.items) (deals_more 1 h ds d inv.hands (c.in_ok-named.ensures.hands ∙ ap (λ n. deal_of n 1 h) place));
      regions = ap length c.push_reserved.ensures.items ∙ omega (arith, length-append us (u ∷ []), longer, inv.regions);
      dealt = ap length c.push_reserved-in-naming.ensures.items ∙ omega (arith, length-append ds (d ∷ []), longer, inv.dealt);
      rest = one_over ys (into_iter_items c.naming.one-iterator) c.args.seeds.items x rest inv.rest steps;
      len = omega (arith, c.in-Some.ensures.steps.1, ap length steps, inv.len);
      room = (omega (arith, inv.room.0, c.push_reserved.ensures.capacity), omega (arith, inv.room.1, c.push_reserved-in-naming.ensures.capacity));
    }

pub push_reserved-requires : goal.push_reserved-requires
push_reserved-requires g c =
    let inv = c.naming.invariant in
    let fewer = one_more c.naming.yielded (into_iter_items c.naming.one-iterator) c.args.seeds.items c.in-Some.one (into_iter_items c.next.new.self) inv.rest c.in-Some.ensures.steps.0 in
    omega (arith, inv.regions, inv.room.0, fewer)

pub push_reserved-requires-in-naming : goal.push_reserved-requires-in-naming
push_reserved-requires-in-naming g c =
    let inv = c.naming.invariant in
    let fewer = one_more c.naming.yielded (into_iter_items c.naming.one-iterator) c.args.seeds.items c.in-Some.one (into_iter_items c.next.new.self) inv.rest c.in-Some.ensures.steps.0 in
    omega (arith, inv.dealt, inv.room.1, fewer)

pub returns-clause-unlocked : goal.returns-clause-unlocked
returns-clause-unlocked g c =
    let inv = c.naming.invariant in
    (inv.unlocked, inv.regions ∙ all_given c.naming.yielded (into_iter_items c.naming.one-iterator) c.args.seeds.items _ inv.rest inv.len c.in-None.ensures.steps.0)

pub returns-clause-hands : goal.returns-clause-hands
returns-clause-hands g c =
    let inv = c.naming.invariant in
    (inv.hands, inv.dealt ∙ all_given c.naming.yielded (into_iter_items c.naming.one-iterator) c.args.seeds.items _ inv.rest inv.len c.in-None.ensures.steps.0)

pub new-requires-clause-seed : goal.new-requires-clause-seed
new-requires-clause-seed g c =
    let h = c.args.handlers in
    let x : RegionSeeds = c.in-Some.one in
    let n = length c.naming.yielded + 1 in
    let seeds = subst (λ (l : List RegionSeeds). AreSeeds h n l) c.in-Some.ensures.steps.0 c.naming.invariant.seeds in
    subst (λ (m : ℕ). IsSeed h m x) (sym seeds.0.region) seeds.0

pub new-requires-clause-named : goal.new-requires-clause-named
new-requires-clause-named g c =
    (subst (λ (l : List RegionSeeds). AreNamedSeeds g.N.LockNaming.desk g.N.LockNaming.spent g.N.VersionsNaming.book g.N.VersionsNaming.region_base g.N.ServiceNaming.lasts l) c.in-Some.ensures.steps.0 c.naming.invariant.named).0

pub naming-init : goal.naming-init
naming-init g c =
    let gives = c.into_iter-one-iterator.ensures.into_iter_gives in
    record {
      seeds = subst (λ (l : List RegionSeeds). AreSeeds c.args.handlers 1 l) (sym gives.0) c.requires.seeds;
      named = subst (λ (l : List RegionSeeds). AreNamedSeeds g.N.LockNaming.desk g.N.LockNaming.spent g.N.VersionsNaming.book g.N.VersionsNaming.region_base g.N.ServiceNaming.lasts l) (sym gives.0) c.requires.named;
      unlocked = subst (λ (l : List ℕ). AreFrom 1 l) (sym c.in_ok-unlocked.ensures.items) tt;
      hands = λ k d at. absurd (no_item d (subst (λ (l : List Deal). slice_get l k ≡ Some d) c.in_ok-hands.ensures.items at));
      regions = ap length c.in_ok-unlocked.ensures.items;
      dealt = ap length c.in_ok-hands.ensures.items;
      rest = gives.0;
      len = omega (arith, gives.1, ap length gives.0);
      room = (omega (arith, c.in_ok-unlocked.ensures.capacity, c.len.ensures, c.args.seeds.ok.0), omega (arith, c.in_ok-hands.ensures.capacity, c.len-2.ensures, c.args.seeds.ok.0));
    }
