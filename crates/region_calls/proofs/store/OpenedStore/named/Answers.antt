use Rattle.std.proofs.Common.{ℕ, ◌≤◌, List, length, sym, ap, ◌∙◌, subst, arith}
use Rattle.log_model.specs.Files.{Files}
use Rattle.recovery_laws.specs.Alike.{AllAlike}
use Rattle.log_ledger.specs.History.{History}
use Rattle.pass_calls.specs.log_service.Begun.{BeginsAs}
use Rattle.region_model.specs.Journal.{Base}
use Rattle.region_replay.specs.Opened.{AtMostOneHigher}
use Rattle.append_ring.specs.Rules.{base_of as last_before}
use Rattle.region_calls.specs.Bases.{IsBaseOf}
use Rattle.region_calls.specs.Cleared.{AreCleared}
use Rattle.region_calls.specs.Seeds.{base_of}
use Rattle.region_calls.specs.Store.{bases_of, disk_now, disk_found, disk_begun}
use Rattle.region_calls.proofs.Begun.{len_map}
use Rattle.region_calls.proofs.NamedSeeds.{named_seeds, base_of_region, last_at_base}
use Rattle.pass_calls.specs.log_service.Places.{ServiceId}
use Rattle.region_calls.specs.Deals.{ArePassesOf}
use Rattle.region_calls.proofs.store.OpenedStore.named.Goals as goal

pub make_room-requires-clause-named : goal.make_room-requires-clause-named
make_room-requires-clause-named g c =
    named_seeds g.N.LockNaming.desk g.N.LockNaming.spent g.N.VersionsNaming.book g.N.VersionsNaming.region_base g.N.ServiceNaming.lasts c.args.self.handlers c.args.self c.requires.store.each c.requires.name.lasts_are
    (λ r low high. c.requires.name.tables_are r low (omega (arith, high, c.requires.store.count)))

pub start-requires-clause-whole : goal.start-requires-clause-whole
start-requires-clause-whole g c told =
    let o = c.args.self in
    subst (λ (F : Files). ∥ ((h : History) × BeginsAs F g.N.ServiceNaming.lasts o.device (g.D.Disk.view (disk_now o)) h) ∥₁) (sym c.requires.name.begins.0)
    (subst (λ (l : List ℕ). ∥ ((h : History) × BeginsAs (g.D.Disk.view (disk_begun o)).files l o.device (g.D.Disk.view (disk_now o)) h) ∥₁) (sym c.requires.name.lasts_are) (c.requires.store.begins told))

pub join-requires-clause-served : goal.join-requires-clause-served
join-requires-clause-served g c =
    let o = c.args.self in
    let store = c.requires.store in
    let service = c.in-Ok-start.ensures.service in
    let firsts = ap length c.requires.name.lasts_are in
    let lasts = len_map (λ (b : Base). b.last) (bases_of o) in
    let bases = len_map base_of o.seeds.items in
    record {
      named = c.requires.name.name_is;
      ring_is = service.0;
      some = (omega (arith, service.1, store.some.0), omega (arith, service.1, store.some.1));
      all = omega (arith, service.1, firsts, lasts, bases, store.count);
      seats = omega (arith, service.2, c.requires.name.handlers_are);
      alike = λ told. subst (λ (F : Files). AllAlike g.N.ServerNaming.found F) (sym c.requires.name.begins.0) (subst (λ (F : Files). AllAlike F (g.D.Disk.view (disk_begun o)).files) (sym c.requires.name.found_is.0) (store.alike told));
      higher = λ told.
          subst (λ (F : Files). AtMostOneHigher g.N.ServerNaming.found F) (sym c.requires.name.begins.0) (subst (λ (F : Files). AtMostOneHigher F (g.D.Disk.view (disk_begun o)).files) (sym c.requires.name.found_is.0) (store.higher told));
      recovered = λ told r low high.
          let within : r ≤ o.regions = omega (arith, high, service.1) in
          let base = base_of_region (g.D.Disk.view (disk_found o)).files (bases_of o) (store.recovered told) r low (omega (arith, within, bases, store.count)) in
          subst (λ (F : Files). IsBaseOf F r (g.N.VersionsNaming.region_base r)) (sym c.requires.name.found_is.0) (subst (λ (b : Base). IsBaseOf (g.D.Disk.view (disk_found o)).files r b) (sym (c.requires.name.tables_are r low within).base_is) base);
      cleared = λ told. subst (λ (F : Files). AreCleared F) (sym c.requires.name.begins.0) (store.cleared told);
      lasts_are = λ r low high.
          let within : r ≤ o.regions = omega (arith, high, service.1) in
          ap (λ (l : List ℕ). last_before l r) c.requires.name.lasts_are ∙ last_at_base (bases_of o) r low (omega (arith, within, bases, store.count)) ∙ ap (λ (b : Base). b.last) (sym (c.requires.name.tables_are r low within).base_is);
    }

pub start-requires-clause-regions : goal.start-requires-clause-regions
start-requires-clause-regions g c =
    let store = c.requires.store in
    let firsts = ap length c.requires.name.lasts_are in
    let lasts = len_map (λ (b : Base). b.last) (bases_of c.args.self) in
    let bases = len_map base_of c.args.self.seeds.items in
    (omega (arith, firsts, lasts, bases, store.count), store.some.0, store.some.1)

pub join-requires-clause-regions : goal.join-requires-clause-regions
join-requires-clause-regions g c =
    let made = c.in-Ok.ensures.regions in
    let count = c.requires.store.count ∙ sym c.in-Ok-start.ensures.service.1 in
    (made.0, made.1 ∙ count, made.2, made.3 ∙ count)

pub returns-in-Ok-start-clause-passes : goal.returns-in-Ok-start-clause-passes
returns-in-Ok-start-clause-passes g c =
    let joined = c.join.ensures.passes in
    (joined.0, joined.1, subst (λ (q : ServiceId). ArePassesOf q g.N.LockNaming.handlers c.join.result.passes) (sym c.join.ensures.server) joined.2)

pub start-requires-clause-came : goal.start-requires-clause-came
start-requires-clause-came g c = c.requires.name.came_none
