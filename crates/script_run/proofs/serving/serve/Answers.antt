use Rattle.std.proofs.Common.{ℕ, true, length, sym, ap, ◌∙◌, subst, arith}
use Rattle.std.proofs.lemmas.List.{length-map}
use Rattle.log_model.specs.Files.{Files}
use Rattle.run_model.specs.Headline.{KeepsFound, KeepsThroughout}
use Rattle.server_model.specs.Pass.{Naming}
use Rattle.server_model.specs.Closing.{Leaves}
use Rattle.script_handlers.specs.region_calls.Closes.{HasElapsed}
use Rattle.script_handlers.specs.region_calls.Seeds.{base_of}
use Rattle.script_handlers.specs.region_calls.Store.{disk_now, disk_found, regions_of, bases_of}
use Rattle.script_handlers.specs.region_calls.Deals.{passes_back}
use Rattle.script_run.specs.Ran.{pass_of}
use Rattle.script_run.proofs.AllRan.{all_ready, all_of, taken_length, closed_from, opened_keeps, left_of, bases_found}
use Rattle.script_run.proofs.Elapsed.{opened_throughout, closed_throughout, closed_moments, left_moments}
use Rattle.script_run.proofs.serving.serve.Goals as goal

pub returns-in_default-clause-served : goal.returns-in_default-clause-served
returns-in_default-clause-served g c told =
    subst (λ d. KeepsFound (g.D.Disk.view (disk_found c.args.opened)) (g.D.Disk.view d)) (sym c.into_disk.ensures) (opened_keeps (g.D.Disk.view (disk_found c.args.opened)) (g.D.Disk.view (disk_now c.args.opened)) (c.requires.any_moment told))

pub returns-in_default-with_capacity-clause-served : goal.returns-in_default-with_capacity-clause-served
returns-in_default-with_capacity-clause-served g c told =
    subst (λ d. KeepsFound (g.D.Disk.view (disk_found c.args.opened)) (g.D.Disk.view d)) (sym c.into_disk-in_default-with_capacity.ensures)
    (opened_keeps (g.D.Disk.view (disk_found c.args.opened)) (g.D.Disk.view (disk_now c.args.opened)) (c.requires.any_moment told))

pub returns-in-Err-clause-served : goal.returns-in-Err-clause-served
returns-in-Err-clause-served g c told =
    subst (λ d. KeepsFound (g.D.Disk.view (disk_found c.args.opened)) (g.D.Disk.view d)) (sym c.in-Err.ensures.refused.1) (opened_keeps (g.D.Disk.view (disk_found c.args.opened)) (g.D.Disk.view (disk_now c.args.opened)) (c.requires.any_moment told))

pub run_on-handlers-requires-clause-seats : goal.run_on-handlers-requires-clause-seats
run_on-handlers-requires-clause-seats g c κs within =
    let place = c.in-Ok-named.field-0.server in
    let one = c.in-Some.ensures.of place c.in-Ok-named.ensures.helpers.1 in
    let two = c.in-Some-next.ensures.of place one.0 in
    (one.1, two.1)

pub run_on-handlers-requires-clause-ready : goal.run_on-handlers-requires-clause-ready
run_on-handlers-requires-clause-ready g c κs within =
    let place = c.in-Ok-named.field-0.server in
    all_ready g.N.ServerNaming.name place c.args.time (regions_of c.args.opened) c.args.rooms.items c.take_passes.new.handlers.items c.requires.script c.requires.named c.requires.rooms c.take_passes.ensures.taken
    (c.take_passes.ensures.of place c.in-Ok-named.ensures.passes.2).1

pub give_back-spent-requires-clause-none : goal.give_back-spent-requires-clause-none
give_back-spent-requires-clause-none g c =
    let taken = taken_length 1 c.args.rooms.items c.take_passes.new.handlers.items c.take_passes.ensures.taken in
    (c.in-Ok-with_capacity.ensures.items, omega (arith, c.run_on-handlers.ensures.run.len, taken, c.in-Ok-with_capacity.ensures.capacity, c.len-2.ensures, c.run_on-handlers.result.0.ok, c.args.rooms.ok))

pub give_back-spent-requires-clause-of : goal.give_back-spent-requires-clause-of
give_back-spent-requires-clause-of g c =
    let place = c.in-Ok-named.field-0.server in (
      place,
      (c.take_passes.ensures.of place c.in-Ok-named.ensures.passes.2).0,
      all_of g.N.ServerNaming.name place c.args.time c.take_passes.new.handlers.items c.run_on-handlers.result.0.items c.run_on-handlers.ensures.run,
    )

pub give_back-spent-requires-clause-passes : goal.give_back-spent-requires-clause-passes
give_back-spent-requires-clause-passes g c =
    let taken = taken_length 1 c.args.rooms.items c.take_passes.new.handlers.items c.take_passes.ensures.taken in
    (c.take_passes.ensures.out, c.take_passes.ensures.back ∙ c.in-Ok-named.ensures.passes.1, omega (arith, c.run_on-handlers.ensures.run.len, taken, c.requires.few, c.requires.name.handlers_are, c.run_on-handlers.result.0.ok, c.args.rooms.ok))

pub close-requires : goal.close-requires
close-requires g c =
    let place = c.in-Ok-named.field-0.server in
    let one = c.in-Some.ensures.of place c.in-Ok-named.ensures.helpers.1 in
    let two = c.in-Some-next.ensures.of place one.0 in
    let first = c.put_back.ensures.of place two.0 c.run_on-handlers.ensures.seats.0 in
    let taken = taken_length 1 c.args.rooms.items c.take_passes.new.handlers.items c.take_passes.ensures.taken in
    let back = ap length c.give_back-spent.ensures.back ∙ length-map c.run_on-handlers.result.0.items pass_of in
    record {
      back = record {
        of = c.give_back-spent.ensures.of place (c.take_passes.ensures.of place c.in-Ok-named.ensures.passes.2).0
            (all_of g.N.ServerNaming.name place c.args.time c.take_passes.new.handlers.items c.run_on-handlers.result.0.items c.run_on-handlers.ensures.run);
        out = c.give_back-spent.ensures.out;
        back = omega (arith, back, c.run_on-handlers.ensures.run.len, taken, c.requires.few, c.requires.name.handlers_are, c.args.rooms.ok);
        seats = (
          omega (arith, c.put_back-2.ensures.count, c.put_back.ensures.count, c.in-Some.ensures.some, c.in-Some-next.ensures.some, c.in-Ok-named.ensures.helpers.0),
          c.put_back-2.ensures.of place first c.run_on-handlers.ensures.seats.1,
        );
      };
    }

pub into_disk-requires-in-Err-close : goal.into_disk-requires-in-Err-close
into_disk-requires-in-Err-close g c =
    let same = c.in-Err-close.ensures.same in
    rw (same.0, same.1, same.2) (close-requires g c.before.before)

pub returns-in-Ok-close-clause-served : goal.returns-in-Ok-close-clause-served
returns-in-Ok-close-clause-served g c told =
    let e = c.in-Ok-close.ensures in
    let place = c.in-Ok-named.field-0.server in
    let files : Files = (g.D.Disk.view (disk_found c.args.opened)).files in
    let left = g.D.Disk.view c.in-Ok-close.field-0.disk in
    let name : Naming = g.N.ServerNaming.name in
    let count = length-map c.args.opened.seeds.items base_of in
    let bases = bases_found files (bases_of c.args.opened) name (regions_of c.args.opened) (c.requires.store.recovered told) (omega (arith, count, c.requires.store.count))
    (λ r low high. ap (λ (n : Naming). n.bases r) c.requires.name.name_is ∙ (c.requires.name.tables_are r low high).base_is) in
    let closed = closed_from name place c.args.time (regions_of c.args.opened) c.args.rooms.items c.take_passes.new.handlers.items c.run_on-handlers.result.0.items files left c.in-Ok-close.field-0.regions.items c.in-Ok-close.field-0.broken
    (passes_back c.give_back-spent.new.passes) c.give_back-spent.new.parts.items c.give_back-spent.result c.requires.script c.requires.named c.take_passes.ensures.taken c.run_on-handlers.ensures.run c.give_back-spent.ensures.back
    c.give_back-spent.ensures.parts c.give_back-spent.ensures.spent (c.requires.sound told) bases e.numbers e.regions (e.survives told) (subst (λ (f : Files). ∥ Leaves f left c.in-Ok-close.field-0.broken name.regions ∥₁) c.requires.name.found_is.0 (e.leaves told))
    e.seen_broken in (
      closed,
      closed_throughout (g.D.Disk.view (disk_found c.args.opened)) (g.D.Disk.view (disk_now c.args.opened)) left g.N.ServiceNaming.start g.N.ServiceNaming.past c.requires.name.begins.1 c.requires.name.past_is (c.requires.any_moment told) c.in-Ok-close.field-0.regions.items closed.closed (e.survived told)
          (subst (λ (k : ℕ). ∥ HasElapsed g.N.ServiceNaming.start g.N.ServiceNaming.past files k left ∥₁) c.requires.named.regions
          (subst (λ (f : Files). ∥ HasElapsed g.N.ServiceNaming.start g.N.ServiceNaming.past f name.regions left ∥₁) c.requires.name.found_is.0 (e.elapsed told))),
    )

pub returns-in-Ok-close-clause-any_moment : goal.returns-in-Ok-close-clause-any_moment
returns-in-Ok-close-clause-any_moment g c told =
    let e = c.in-Ok-close.ensures in
    let place = c.in-Ok-named.field-0.server in
    let files : Files = (g.D.Disk.view (disk_found c.args.opened)).files in
    let left = g.D.Disk.view c.in-Ok-close.field-0.disk in
    let name : Naming = g.N.ServerNaming.name in
    let count = length-map c.args.opened.seeds.items base_of in
    let bases = bases_found files (bases_of c.args.opened) name (regions_of c.args.opened) (c.requires.store.recovered told) (omega (arith, count, c.requires.store.count))
    (λ r low high. ap (λ (n : Naming). n.bases r) c.requires.name.name_is ∙ (c.requires.name.tables_are r low high).base_is) in
    let closed = closed_from name place c.args.time (regions_of c.args.opened) c.args.rooms.items c.take_passes.new.handlers.items c.run_on-handlers.result.0.items files left c.in-Ok-close.field-0.regions.items c.in-Ok-close.field-0.broken
    (passes_back c.give_back-spent.new.passes) c.give_back-spent.new.parts.items c.give_back-spent.result c.requires.script c.requires.named c.take_passes.ensures.taken c.run_on-handlers.ensures.run c.give_back-spent.ensures.back
    c.give_back-spent.ensures.parts c.give_back-spent.ensures.spent (c.requires.sound told) bases e.numbers e.regions (e.survives told) (subst (λ (f : Files). ∥ Leaves f left c.in-Ok-close.field-0.broken name.regions ∥₁) c.requires.name.found_is.0 (e.leaves told))
    e.seen_broken in
    closed_moments (g.D.Disk.view (disk_found c.args.opened)) (g.D.Disk.view (disk_now c.args.opened)) left g.N.ServiceNaming.start g.N.ServiceNaming.past c.requires.name.begins.1 c.requires.name.past_is (c.requires.any_moment told) c.in-Ok-close.field-0.regions.items closed.closed (e.survived told)
    (subst (λ (k : ℕ). ∥ HasElapsed g.N.ServiceNaming.start g.N.ServiceNaming.past files k left ∥₁) c.requires.named.regions
    (subst (λ (f : Files). ∥ HasElapsed g.N.ServiceNaming.start g.N.ServiceNaming.past f name.regions left ∥₁) c.requires.name.found_is.0 (e.elapsed told)))

pub returns-in-Err-close-clause-served : goal.returns-in-Err-close-clause-served
returns-in-Err-close-clause-served g c told =
    let files : Files = (g.D.Disk.view (disk_found c.args.opened)).files in
    let left = g.D.Disk.view c.into_disk-in-Err-close.result in
    let name : Naming = g.N.ServerNaming.name in
    let count = length-map c.args.opened.seeds.items base_of in
    let bases = bases_found files (bases_of c.args.opened) name (regions_of c.args.opened) (c.requires.store.recovered told) (omega (arith, count, c.requires.store.count))
    (λ r low high. ap (λ (n : Naming). n.bases r) c.requires.name.name_is ∙ (c.requires.name.tables_are r low high).base_is) in
    left_of name (g.D.Disk.view (disk_found c.args.opened)) left (passes_back c.in-Err-close.refusal.passes) (regions_of c.args.opened) c.requires.script.some_region c.requires.named.regions bases g.N.ServiceNaming.start (c.into_disk-in-Err-close.ensures.left told)
    (subst (λ (f : Files). ∥ Leaves f left true name.regions ∥₁) c.requires.name.found_is.0 (c.into_disk-in-Err-close.ensures.leaves told))

pub returns-in-Err-close-clause-any_moment : goal.returns-in-Err-close-clause-any_moment
returns-in-Err-close-clause-any_moment g c told =
    let files : Files = (g.D.Disk.view (disk_found c.args.opened)).files in
    let left = g.D.Disk.view c.into_disk-in-Err-close.result in
    let name : Naming = g.N.ServerNaming.name in
    let count = length-map c.args.opened.seeds.items base_of in
    let bases = bases_found files (bases_of c.args.opened) name (regions_of c.args.opened) (c.requires.store.recovered told) (omega (arith, count, c.requires.store.count))
    (λ r low high. ap (λ (n : Naming). n.bases r) c.requires.name.name_is ∙ (c.requires.name.tables_are r low high).base_is) in
    left_moments (g.D.Disk.view (disk_found c.args.opened)) (g.D.Disk.view (disk_now c.args.opened)) left g.N.ServiceNaming.start g.N.ServiceNaming.past c.requires.name.begins.1 c.requires.name.past_is (c.requires.any_moment told) name
    (passes_back c.in-Err-close.refusal.passes) (regions_of c.args.opened) c.requires.script.some_region c.requires.named.regions bases
    (subst (λ (k : ℕ). ∥ HasElapsed g.N.ServiceNaming.start g.N.ServiceNaming.past files k left ∥₁) c.requires.named.regions
    (subst (λ (f : Files). ∥ HasElapsed g.N.ServiceNaming.start g.N.ServiceNaming.past f name.regions left ∥₁) c.requires.name.found_is.0 (c.into_disk-in-Err-close.ensures.elapsed told)))
    (c.into_disk-in-Err-close.ensures.left told)

pub returns-in_default-clause-any_moment : goal.returns-in_default-clause-any_moment
returns-in_default-clause-any_moment g c told =
    subst (λ d. KeepsThroughout (g.D.Disk.view (disk_found c.args.opened)) (g.D.Disk.view d)) (sym c.into_disk.ensures)
    (opened_throughout (g.D.Disk.view (disk_found c.args.opened)) (g.D.Disk.view (disk_now c.args.opened)) (c.requires.any_moment told))

pub returns-in_default-with_capacity-clause-any_moment : goal.returns-in_default-with_capacity-clause-any_moment
returns-in_default-with_capacity-clause-any_moment g c told =
    subst (λ d. KeepsThroughout (g.D.Disk.view (disk_found c.args.opened)) (g.D.Disk.view d)) (sym c.into_disk-in_default-with_capacity.ensures)
    (opened_throughout (g.D.Disk.view (disk_found c.args.opened)) (g.D.Disk.view (disk_now c.args.opened)) (c.requires.any_moment told))

pub returns-in-Err-clause-any_moment : goal.returns-in-Err-clause-any_moment
returns-in-Err-clause-any_moment g c told =
    subst (λ d. KeepsThroughout (g.D.Disk.view (disk_found c.args.opened)) (g.D.Disk.view d)) (sym c.in-Err.ensures.refused.1)
    (opened_throughout (g.D.Disk.view (disk_found c.args.opened)) (g.D.Disk.view (disk_now c.args.opened)) (c.requires.any_moment told))
