use Rattle.std.proofs.Common.{◌≡◌, inl, List, [], Contains, length, subst, ap, arith}
use Rattle.log_model.specs.declared.name.Name.{Name}
use Rattle.region_replay.specs.Dealt.{AreDealt, AreBegun}
use Rattle.region_replay.proofs.Shares.{all_begun, good_name}
use Rattle.region_replay.proofs.grouping.regions_of.Goals as goal

pub begin_regions-requires-clause-regions : goal.begin_regions-requires-clause-regions
begin_regions-requires-clause-regions c k j lt = ap (λ (m : Name). m.region) (c.requires.named k j lt)

pub deal_names-requires-clause-good : goal.deal_names-requires-clause-good
deal_names-requires-clause-good c m has =
    let x = c.args.split in
    good_name x.names m (c.requires.good m (subst (λ (l : List Name). Contains l m) c.as_slice.ensures has))

pub deal_names-requires-clause-regions : goal.deal_names-requires-clause-regions
deal_names-requires-clause-regions c =
    let long = c.in_ok-regions.ensures.long in
    let jobs = c.requires.long in
    omega (arith, long, jobs)

pub deal_stores-requires-clause-regions : goal.deal_stores-requires-clause-regions
deal_stores-requires-clause-regions c =
    let x = c.args.split in
    let jobs = x.plan.jobs.items in
    let flushed = x.plan.flushed.items in
    let begun : AreBegun jobs flushed c.in_ok-regions.regions.items = c.in_ok-regions.ensures in
    let start = all_begun jobs flushed c.in_ok-regions.regions.items c.requires.number c.requires.long c.requires.named begun in
    let named = subst (λ (l : List Name). AreDealt jobs flushed l [] [] c.deal_names.new.regions.items) c.as_slice.ensures (c.in_ok-deal_names.ensures jobs flushed start) in
    let long : length c.deal_names.new.regions.items ≡ 64 = named.long in
    omega (arith, long)

pub deal_stores-requires-clause-good : goal.deal_stores-requires-clause-good
deal_stores-requires-clause-good c y has =
    let x = c.args.split in
    let s = c.requires.stores y has in
    (good_name x.names y.name (c.requires.good y.name s.1)).region (inl s.2)

pub deal_kept-requires : goal.deal_kept-requires
deal_kept-requires c =
    let x = c.args.split in
    let jobs = x.plan.jobs.items in
    let flushed = x.plan.flushed.items in
    let begun : AreBegun jobs flushed c.in_ok-regions.regions.items = c.in_ok-regions.ensures in
    let start = all_begun jobs flushed c.in_ok-regions.regions.items c.requires.number c.requires.long c.requires.named begun in
    let named = subst (λ (l : List Name). AreDealt jobs flushed l [] [] c.deal_names.new.regions.items) c.as_slice.ensures (c.in_ok-deal_names.ensures jobs flushed start) in
    let long : length c.deal_stores.new.regions.items ≡ 64 = (c.in_ok-deal_stores.ensures jobs flushed x.names named).long in
    omega (arith, long)

pub returns : goal.returns
returns c =
    let x = c.args.split in
    let jobs = x.plan.jobs.items in
    let flushed = x.plan.flushed.items in
    let begun : AreBegun jobs flushed c.in_ok-regions.regions.items = c.in_ok-regions.ensures in
    let start = all_begun jobs flushed c.in_ok-regions.regions.items c.requires.number c.requires.long c.requires.named begun in
    let named = subst (λ (l : List Name). AreDealt jobs flushed l [] [] c.deal_names.new.regions.items) c.as_slice.ensures (c.in_ok-deal_names.ensures jobs flushed start) in
    c.in_ok-deal_kept.ensures jobs flushed x.names x.stores.items (c.in_ok-deal_stores.ensures jobs flushed x.names named)
