use Rattle.std.proofs.Common.{◌≡◌, length, Contains, true, sym, ap, ◌∙◌, subst, refl, arith}
use Rattle.std.proofs.lemmas.List.{length-map}
use Rattle.log_model.specs.Files.{Files}
use Rattle.run_model.specs.Headline.{KeepsThroughout, IsHalfOpened}
use Rattle.server_model.specs.Pass.{Naming}
use Rattle.server_model.specs.Closing.{IsClosedRegion, Leaves}
use Rattle.embedded.specs.region_calls.Closes.{HasElapsed, IsLeft}
use Rattle.embedded.specs.region_calls.Seeds.{base_of}
use Rattle.embedded.specs.region_calls.Store.{disk_now, disk_found, regions_of, bases_of}
use Rattle.embedded.specs.region_calls.Deals.{passes_back}
use Rattle.embedded.specs.region_calls.Wordings.{region_of}
use Rattle.embedded.specs.region_calls.declared.closed.ClosedRegion.{ClosedRegion}
use Rattle.embedded_run.specs.Seats.{pass_in}
use Rattle.embedded_run.specs.Deeds.{lasts_in}
use Rattle.embedded_run.specs.Ends.{HasEnded, disk_of}
use Rattle.embedded_run.proofs.Seating.{taken_length, seated_all}
use Rattle.embedded_run.proofs.Doing.{worked_at, told_all}
use Rattle.embedded_run.proofs.Receipts.{receipts_closed, receipts_left}
use Rattle.embedded_run.proofs.Elapsed.{opened_throughout, closed_moments, closed_since, left_moments, kept_open}
use Rattle.embedded_run.proofs.Ending.{all_named, bases_found}
use Rattle.embedded_run.proofs.serving.serve.Goals as goal

-- no server was started: the disk is as the opening left it
pub returns-in_default-clause-ends : goal.returns-in_default-clause-ends
returns-in_default-clause-ends g c =
    let found = g.D.Disk.view (disk_found c.args.opened) in
    subst (λ o. HasEnded g.D.Disk g.H.Handler.did c.args.time (regions_of c.args.opened) (disk_found c.args.opened) c.args.handlers.items o) (sym c.not_started.ensures)
    (refl, (λ told. (subst (λ d. IsHalfOpened found (g.D.Disk.view d)) (sym c.into_disk.ensures) ∣ c.requires.any_moment told ∣₁, tt)))

pub returns-in_default-clause-any_moment : goal.returns-in_default-clause-any_moment
returns-in_default-clause-any_moment g c told =
    let found = g.D.Disk.view (disk_found c.args.opened) in
    subst (λ o. KeepsThroughout found (g.D.Disk.view (disk_of o))) (sym c.not_started.ensures)
    (subst (λ d. KeepsThroughout found (g.D.Disk.view d)) (sym c.into_disk.ensures) (opened_throughout found (g.D.Disk.view (disk_now c.args.opened)) (c.requires.any_moment told)))

pub returns-in-Err-clause-ends : goal.returns-in-Err-clause-ends
returns-in-Err-clause-ends g c =
    let found = g.D.Disk.view (disk_found c.args.opened) in
    subst (λ o. HasEnded g.D.Disk g.H.Handler.did c.args.time (regions_of c.args.opened) (disk_found c.args.opened) c.args.handlers.items o) (sym c.not_started-in-Err.ensures)
    (refl, (λ told. (subst (λ d. IsHalfOpened found (g.D.Disk.view d)) (sym c.in-Err.ensures.refused.1) ∣ c.requires.any_moment told ∣₁, tt)))

pub returns-in-Err-clause-any_moment : goal.returns-in-Err-clause-any_moment
returns-in-Err-clause-any_moment g c told =
    let found = g.D.Disk.view (disk_found c.args.opened) in
    subst (λ o. KeepsThroughout found (g.D.Disk.view (disk_of o))) (sym c.not_started-in-Err.ensures)
    (subst (λ d. KeepsThroughout found (g.D.Disk.view d)) (sym c.in-Err.ensures.refused.1) (opened_throughout found (g.D.Disk.view (disk_now c.args.opened)) (c.requires.any_moment told)))

pub run_on-requires-clause-ready : goal.run_on-requires-clause-ready
run_on-requires-clause-ready g c κs within =
    let name : Naming = g.N.ServerNaming.name in
    let place = c.in-Ok-named.field-0.server in
    let regions_are : name.regions ≡ regions_of c.args.opened = ap (λ (n : Naming). n.regions) c.requires.name.name_is ∙ ap length c.requires.name.lasts_are ∙ all_named c.args.opened c.requires.store in
    seated_all name place c.args.time c.regions-count.result 1 c.args.handlers.items c.seat_all.new.seated.items
    record { some = omega (arith, c.regions-count.ensures, c.requires.store.some.0); regions_are = omega (arith, c.regions-count.ensures, regions_are); time_fits = c.requires.time; flushers = c.requires.flushers }
    c.seat_all.ensures.taken (c.seat_all.ensures.of place c.in-Ok-named.ensures.passes.2).1 (omega arith)
    (omega (arith, ap (λ (n : Naming). n.handlers) c.requires.name.name_is, c.requires.name.handlers_are, c.requires.few, c.args.handlers.ok))

pub give_back-requires-clause-none : goal.give_back-requires-clause-none
give_back-requires-clause-none g c =
    let taken = taken_length 1 c.args.handlers.items c.seat_all.new.seated.items c.seat_all.ensures.taken in
    (c.in-Ok.ensures.back.0, omega (arith, c.run_on.ensures.worked.len, taken, c.in-Ok.ensures.back.1, c.len.ensures, c.run_on.new.seated.ok, c.args.handlers.ok))

pub give_back-requires-clause-of : goal.give_back-requires-clause-of
give_back-requires-clause-of g c =
    let place = c.in-Ok-named.field-0.server in (
      place,
      (c.seat_all.ensures.of place c.in-Ok-named.ensures.passes.2).0,
      worked_at g.H.Handler.did g.N.ServerNaming.name place c.args.time c.seat_all.new.seated.items c.run_on.new.seated.items c.run_on.ensures.worked,
    )

pub give_back-requires-clause-passes : goal.give_back-requires-clause-passes
give_back-requires-clause-passes g c =
    let taken = taken_length 1 c.args.handlers.items c.seat_all.new.seated.items c.seat_all.ensures.taken in (
      c.seat_all.ensures.out,
      c.seat_all.ensures.back ∙ c.in-Ok-named.ensures.passes.1,
      omega (arith, c.run_on.ensures.worked.len, taken, c.requires.few, c.requires.name.handlers_are, c.run_on.new.seated.ok, c.args.handlers.ok),
    )

pub close-requires : goal.close-requires
close-requires g c =
    let place = c.in-Ok-named.field-0.server in
    let taken = taken_length 1 c.args.handlers.items c.seat_all.new.seated.items c.seat_all.ensures.taken in
    let back = ap length c.give_back.ensures.back ∙ length-map c.run_on.new.seated.items pass_in in
    record {
      back = record {
        of = c.give_back.ensures.of place (c.seat_all.ensures.of place c.in-Ok-named.ensures.passes.2).0
            (worked_at g.H.Handler.did g.N.ServerNaming.name place c.args.time c.seat_all.new.seated.items c.run_on.new.seated.items c.run_on.ensures.worked);
        out = c.give_back.ensures.out;
        back = omega (arith, back, c.run_on.ensures.worked.len, taken, c.requires.few, c.requires.name.handlers_are, c.args.handlers.ok);
        seats = c.run_on.ensures.helpers;
      };
    }

pub into_disk-requires-in-Err-close : goal.into_disk-requires-in-Err-close
into_disk-requires-in-Err-close g c =
    let same = c.in-Err-close.ensures.same in
    rw (same.0, same.1, same.2) (close-requires g c.before.before)

pub returns-in-Ok-close-clause-ends : goal.returns-in-Ok-close-clause-ends
returns-in-Ok-close-clause-ends g c =
    let e = c.in-Ok-close.ensures in
    let name : Naming = g.N.ServerNaming.name in
    let place = c.in-Ok-named.field-0.server in
    let regions_are : name.regions ≡ regions_of c.args.opened = ap (λ (n : Naming). n.regions) c.requires.name.name_is ∙ ap length c.requires.name.lasts_are ∙ all_named c.args.opened c.requires.store in
    let deeds = told_all g.H.Handler.did name place c.args.time c.args.handlers.items c.seat_all.new.seated.items c.run_on.new.seated.items c.seat_all.ensures.taken c.run_on.ensures.worked in
    let back : passes_back c.give_back.new.passes ≡ lasts_in deeds.0 = c.give_back.ensures.back ∙ sym deeds.1.lasts in
    let journals : (x : ClosedRegion) → Contains c.in-Ok-close.field-0.regions.items x → IsClosedRegion name x.region (lasts_in deeds.0) (region_of x) =
    λ x is. subst (λ ps. IsClosedRegion name x.region ps (region_of x)) back (e.regions x is) in (
      name,
      deeds.0,
      record {
        regions_are = regions_are;
        handlers_are = omega (arith, ap (λ (n : Naming). n.handlers) c.requires.name.name_is, c.requires.name.handlers_are, c.requires.few, c.args.handlers.ok);
        before = deeds.1.before;
        after = deeds.1.after ∙ sym c.give_back.ensures.handlers;
        each = deeds.1.each;
      },
      record {
        numbers = e.numbers;
        journals = journals;
        seen_broken = λ p is. e.seen_broken p (subst (λ ps. Contains ps p) (sym back) is);
      },
      (λ told.
          let found = g.D.Disk.view (disk_found c.args.opened) in
          let files : Files = found.files in
          let left = g.D.Disk.view c.in-Ok-close.field-0.disk in
          let count = length-map c.args.opened.seeds.items base_of in
          let bases = bases_found files (bases_of c.args.opened) name (c.requires.store.recovered told) (omega (arith, count, c.requires.store.count, regions_are))
          (λ r low high. ap (λ (n : Naming). n.bases r) c.requires.name.name_is ∙ (c.requires.name.tables_are r low (omega (arith, high, regions_are))).base_is) in
          record {
            opened = record { sound = c.requires.sound told; bases = bases };
            survives = e.survives told;
            receipts = receipts_closed left c.in-Ok-close.field-0.broken name (lasts_in deeds.0) c.in-Ok-close.field-0.regions.items e.numbers journals (e.survives told);
            leaves = subst (λ (f : Files). ∥ Leaves f left c.in-Ok-close.field-0.broken name.regions ∥₁) c.requires.name.found_is.0 (e.leaves told);
            since =
                closed_since found (g.D.Disk.view (disk_now c.args.opened)) left g.N.ServiceNaming.start g.N.ServiceNaming.past c.requires.name.begins.1 c.requires.name.past_is (c.requires.any_moment told) name
                (passes_back c.give_back.new.passes) c.in-Ok-close.field-0.regions.items (omega (arith, c.requires.store.some.0, regions_are)) e.numbers e.regions (e.survived told)
                (subst (λ (f : Files). ∥ HasElapsed g.N.ServiceNaming.start g.N.ServiceNaming.past f name.regions left ∥₁) c.requires.name.found_is.0 (e.elapsed told));
          }),
    )

pub returns-in-Ok-close-clause-any_moment : goal.returns-in-Ok-close-clause-any_moment
returns-in-Ok-close-clause-any_moment g c told =
    let e = c.in-Ok-close.ensures in
    let name : Naming = g.N.ServerNaming.name in
    let found = g.D.Disk.view (disk_found c.args.opened) in
    let files : Files = found.files in
    let left = g.D.Disk.view c.in-Ok-close.field-0.disk in
    let regions_are : name.regions ≡ regions_of c.args.opened = ap (λ (n : Naming). n.regions) c.requires.name.name_is ∙ ap length c.requires.name.lasts_are ∙ all_named c.args.opened c.requires.store in
    let count = length-map c.args.opened.seeds.items base_of in
    let bases = bases_found files (bases_of c.args.opened) name (c.requires.store.recovered told) (omega (arith, count, c.requires.store.count, regions_are))
    (λ r low high. ap (λ (n : Naming). n.bases r) c.requires.name.name_is ∙ (c.requires.name.tables_are r low (omega (arith, high, regions_are))).base_is) in
    closed_moments found (g.D.Disk.view (disk_now c.args.opened)) left g.N.ServiceNaming.start g.N.ServiceNaming.past c.requires.name.begins.1 c.requires.name.past_is (c.requires.any_moment told) name
    (passes_back c.give_back.new.passes) c.in-Ok-close.field-0.regions.items (omega (arith, c.requires.store.some.0, regions_are)) e.numbers e.regions (e.survived told)
    (subst (λ (f : Files). ∥ HasElapsed g.N.ServiceNaming.start g.N.ServiceNaming.past f name.regions left ∥₁) c.requires.name.found_is.0 (e.elapsed told)) bases

pub returns-in-Err-close-clause-ends : goal.returns-in-Err-close-clause-ends
returns-in-Err-close-clause-ends g c =
    let name : Naming = g.N.ServerNaming.name in
    let place = c.in-Ok-named.field-0.server in
    let same = c.in-Err-close.ensures.same in
    let regions_are : name.regions ≡ regions_of c.args.opened = ap (λ (n : Naming). n.regions) c.requires.name.name_is ∙ ap length c.requires.name.lasts_are ∙ all_named c.args.opened c.requires.store in
    let deeds = told_all g.H.Handler.did name place c.args.time c.args.handlers.items c.seat_all.new.seated.items c.run_on.new.seated.items c.seat_all.ensures.taken c.run_on.ensures.worked in
    let back : passes_back c.in-Err-close.refusal.passes ≡ lasts_in deeds.0 = ap passes_back same.1 ∙ c.give_back.ensures.back ∙ sym deeds.1.lasts in (
      name,
      deeds.0,
      record {
        regions_are = regions_are;
        handlers_are = omega (arith, ap (λ (n : Naming). n.handlers) c.requires.name.name_is, c.requires.name.handlers_are, c.requires.few, c.args.handlers.ok);
        before = deeds.1.before;
        after = deeds.1.after ∙ sym c.give_back.ensures.handlers;
        each = deeds.1.each;
      },
      (λ told.
          let found = g.D.Disk.view (disk_found c.args.opened) in
          let files : Files = found.files in
          let left = g.D.Disk.view c.into_disk-in-Err-close.result in
          let count = length-map c.args.opened.seeds.items base_of in
          let bases = bases_found files (bases_of c.args.opened) name (c.requires.store.recovered told) (omega (arith, count, c.requires.store.count, regions_are))
          (λ r low high. ap (λ (n : Naming). n.bases r) c.requires.name.name_is ∙ (c.requires.name.tables_are r low (omega (arith, high, regions_are))).base_is) in
          let regions = kept_open name (lasts_in deeds.0) g.N.ServiceNaming.start left (subst (λ ps. IsLeft name ps g.N.ServiceNaming.start left) back (c.into_disk-in-Err-close.ensures.left told)) in
          record {
            opened = record { sound = c.requires.sound told; bases = bases };
            regions = regions;
            receipts = receipts_left left name (lasts_in deeds.0) regions;
            leaves = subst (λ (f : Files). ∥ Leaves f left true name.regions ∥₁) c.requires.name.found_is.0 (c.into_disk-in-Err-close.ensures.leaves told);
          }),
    )

pub returns-in-Err-close-clause-any_moment : goal.returns-in-Err-close-clause-any_moment
returns-in-Err-close-clause-any_moment g c told =
    let name : Naming = g.N.ServerNaming.name in
    let found = g.D.Disk.view (disk_found c.args.opened) in
    let files : Files = found.files in
    let left = g.D.Disk.view c.into_disk-in-Err-close.result in
    let regions_are : name.regions ≡ regions_of c.args.opened = ap (λ (n : Naming). n.regions) c.requires.name.name_is ∙ ap length c.requires.name.lasts_are ∙ all_named c.args.opened c.requires.store in
    let count = length-map c.args.opened.seeds.items base_of in
    let bases = bases_found files (bases_of c.args.opened) name (c.requires.store.recovered told) (omega (arith, count, c.requires.store.count, regions_are))
    (λ r low high. ap (λ (n : Naming). n.bases r) c.requires.name.name_is ∙ (c.requires.name.tables_are r low (omega (arith, high, regions_are))).base_is) in
    left_moments found (g.D.Disk.view (disk_now c.args.opened)) left g.N.ServiceNaming.start g.N.ServiceNaming.past c.requires.name.begins.1 c.requires.name.past_is (c.requires.any_moment told) name
    (passes_back c.in-Err-close.refusal.passes) (omega (arith, c.requires.store.some.0, regions_are)) bases
    (subst (λ (f : Files). ∥ HasElapsed g.N.ServiceNaming.start g.N.ServiceNaming.past f name.regions left ∥₁) c.requires.name.found_is.0 (c.into_disk-in-Err-close.ensures.elapsed told))
    (c.into_disk-in-Err-close.ensures.left told)
