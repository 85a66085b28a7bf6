use Rattle.std.proofs.Common.{◌≡◌, ◌+◌, ◌^◌, ℕ, List, length, map, take, refl, sym, ap, ◌∙◌, subst, arith}
use Rattle.std.proofs.lemmas.List.{length-take-le}
use Rattle.crossbeam_queue.specs.Passes.{view}
use Rattle.recovery_laws.specs.Alike.{AllAlike}
use Rattle.disk_images.specs.Crash.{DiskView}
use Rattle.log_model.specs.Files.{Files}
use Rattle.pass_calls.specs.log_service.log_device.Opened.{IsOpened}
use Rattle.region_replay.specs.Ready.{Found}
use Rattle.region_replay.specs.Cleared.{IsReady}
use Rattle.region_replay.specs.Opened.{AreOf, AtMostOneHigher}
use Rattle.log_ledger.specs.declared.base.RegionBase.{RegionBase}
use Rattle.log_ledger.specs.Bases.{AreRegions}
use Rattle.log_ledger.specs.History.{started_in}
use Rattle.pass_calls.specs.log_service.Begun.{AreNewParts}
use Rattle.region_calls.specs.Bases.{AreBasesOf}
use Rattle.region_calls.specs.Cleared.{AreCleared}
use Rattle.region_calls.specs.Seeds.{base_of, bases_found, lasts_of, marks_from, flushed_of}
use Rattle.region_calls.proofs.Marks.{flushed_in, bases_of}
use Rattle.region_calls.proofs.Begun.{is_opened, moments, len_map, is_fresh, begins_as, few_marks}
use Rattle.log_model.specs.declared.damage.Damage.{Damage}
use Rattle.pass_calls.specs.log_service.log_device.declared.error.DeviceWhy.{DeviceWhy}
use Rattle.pass_calls.specs.log_service.log_device.declared.error.DeviceWhy.TheVariants as whys
use Rattle.region_calls.specs.declared.refusal.StartWhy.TheVariants as starts
use Rattle.region_calls.specs.Opening.{why_not}
use Rattle.region_calls.proofs.opening.begin_recovered.Goals as goal

-- the marks are those of the regions that were found
marks_are : (n : ℕ) (xs read cut : List Found) (ms now : List RegionBase) → now ≡ ms → ms ≡ marks_from 1 cut → cut ≡ take n read → read ≡ xs → now ≡ marks_from 1 (take n xs)
marks_are n xs read cut ms now a b c d = a ∙ b ∙ ap (marks_from 1) (c ∙ ap (take n) d)

opened_at : (v : DiskView) (F : Files) (n : ℕ) (xs : List Found) (ms : List RegionBase) → ms ≡ marks_from 1 (take n xs) → IsReady v → AreOf F v.files 1 xs → length xs ≡ 64 → IsOpened v ms (flushed_in xs)
opened_at v F n xs ms is ready of all = subst (λ (l : List RegionBase). IsOpened v l (flushed_in xs)) (sym is) (is_opened v F xs ready of all n)

pub start-requires-clause-opened : goal.start-requires-clause-opened
start-requires-clause-opened g c told =
    let n = c.args.regions in
    let is = marks_are n c.args.recovered _ _ _ _ c.as_slice.ensures.value c.in-Ok.ensures.marks.0 c.truncate.ensures.items c.into_regions-replayed.ensures in
    ∣ (flushed_in c.args.recovered, opened_at (g.D.Disk.view c.args.disk) _ n c.args.recovered _ is (c.requires.recovered.ready told) (c.requires.recovered.each told) c.requires.recovered.count) ∣₁

pub returns-in-Ok-start-clause-store : goal.returns-in-Ok-start-clause-store
returns-in-Ok-start-clause-store g c =
    let n = c.args.regions in
    let xs = c.args.recovered in
    let ms = c.as_slice.result.now in
    let d = c.in-Ok-start.device in
    let rings = c.in-Ok.sown.rings in
    let cut = c.truncate.new.self.items in
    let first : List ℕ = lasts_of (map base_of c.in-Ok.sown.seeds.items) in
    let is = marks_are n xs _ _ _ _ c.as_slice.ensures.value c.in-Ok.ensures.marks.0 c.truncate.ensures.items c.into_regions-replayed.ensures in
    let taken : cut ≡ take n xs = c.truncate.ensures.items ∙ ap (take n) c.into_regions-replayed.ensures in
    let firsts : first ≡ flushed_of ms = ap lasts_of c.in-Ok.ensures.seeds.1 ∙ sym c.in-Ok.ensures.marks.2 ∙ ap flushed_of (sym c.as_slice.ensures.value) in
    let lasts : lasts_of (bases_found cut) ≡ first = ap lasts_of (sym c.in-Ok.ensures.seeds.1) in
    record {
      some = c.requires.regions;
      hands = c.requires.handlers;
      count =
          let a = len_map base_of c.in-Ok.sown.seeds.items in
          let b = ap length c.in-Ok.ensures.seeds.1 in
          let e = len_map (λ (x : Found). x.base) cut in
          let f = ap length taken in
          let h = length-take-le n xs (omega (arith, c.requires.regions.1, c.requires.recovered.count)) in
          omega (arith, a, b, e, f, h);
      each = c.in-Ok.ensures.seeds.0;
      items = (c.in-Ok.ensures.items.0, subst (λ (l : List ℕ). AreNewParts rings.items.ring.id l rings.items.consumer.pass.table_id (view rings.items.consumer.pass) rings.items.passes) lasts c.in-Ok.ensures.items.1);
      chains = (c.in-Ok.ensures.chains.0, subst (λ (l : List ℕ). AreNewParts rings.chains.ring.id l rings.chains.consumer.pass.table_id (view rings.chains.consumer.pass) rings.chains.passes) lasts c.in-Ok.ensures.chains.1);
      fresh = is_fresh n xs ms first d is firsts c.in-Ok-start.ensures.unbroken c.in-Ok-start.ensures.idle c.in-Ok-start.ensures.served c.in-Ok-start.ensures.drawn c.in-Ok-start.ensures.numbers.0 c.in-Ok-start.ensures.numbers.1;
      begins = λ told.
          let v = g.D.Disk.view c.args.disk in
          let opened = opened_at v _ n xs ms is (c.requires.recovered.ready told) (c.requires.recovered.each told) c.requires.recovered.count in
          subst (λ e. ∥ ((h : _) × Rattle.pass_calls.specs.log_service.Begun.BeginsAs (g.D.Disk.view e).files first d (g.D.Disk.view d.disk) h) ∥₁) (sym c.of-split.ensures)
          ∣ (
            started_in v.files (flushed_in xs),
            begins_as n xs ms first d v.files (g.D.Disk.view d.disk) is firsts
                (λ limit up. c.in-Ok-start.ensures.few (limit + 2 ^ 48) (few_marks n xs ms _ v.files limit is (c.requires.recovered.each told) (subst AreRegions (sym c.as_slice.ensures.value) c.in-Ok.ensures.marks.1) up))
                (c.in-Ok-start.ensures.started told (flushed_in xs) opened),
          ) ∣₁;
      alike = λ told. subst (λ e. AllAlike (g.D.Disk.view c.args.found.value).files (g.D.Disk.view e).files) (sym c.of-split.ensures) (c.requires.recovered.alike told);
      higher = λ told. subst (λ e. AtMostOneHigher (g.D.Disk.view c.args.found.value).files (g.D.Disk.view e).files) (sym c.of-split.ensures) (c.requires.recovered.higher told);
      recovered = λ told. subst (AreBasesOf (g.D.Disk.view c.args.found.value).files 1) (sym (c.in-Ok.ensures.seeds.1 ∙ ap bases_found taken)) (bases_of _ _ n 1 xs (c.requires.recovered.each told));
      later = (let a = c.requires.recovered.later in let b = c.in-Ok-start.ensures.cause.later in omega (arith, a, b));
      cleared = λ told. subst (λ e. AreCleared (g.D.Disk.view e).files) (sym c.of-split.ensures) (record { no_logs = (c.requires.recovered.ready told).no_logs; regions = (c.requires.recovered.ready told).regions });
    }

pub returns-in-Ok-start-clause-any_moment : goal.returns-in-Ok-start-clause-any_moment
returns-in-Ok-start-clause-any_moment g c told =
    let n = c.args.regions in
    let xs = c.args.recovered in
    let v = g.D.Disk.view c.args.disk in
    let u = g.D.Disk.view c.args.found.value in
    let is = marks_are n xs _ _ _ _ c.as_slice.ensures.value c.in-Ok.ensures.marks.0 c.truncate.ensures.items c.into_regions-replayed.ensures in
    let opened = opened_at v u.files n xs c.as_slice.result.now is (c.requires.recovered.ready told) (c.requires.recovered.each told) c.requires.recovered.count in
    moments v u.files xs (c.requires.recovered.ready told) (c.requires.recovered.each told) c.requires.recovered.count u (g.D.Disk.view c.in-Ok-start.device.disk) refl (c.requires.recovered.alike told) (c.requires.recovered.so_far told)
    (c.in-Ok-start.ensures.any_moment told (flushed_in xs) opened)

pub returns-in-Err-start-clause-any_moment : goal.returns-in-Err-start-clause-any_moment
returns-in-Err-start-clause-any_moment g c told =
    let n = c.args.regions in
    let xs = c.args.recovered in
    let v = g.D.Disk.view c.args.disk in
    let u = g.D.Disk.view c.args.found.value in
    let is = marks_are n xs _ _ _ _ c.as_slice.ensures.value c.in-Ok.ensures.marks.0 c.truncate.ensures.items c.into_regions-replayed.ensures in
    let opened = opened_at v u.files n xs c.as_slice.result.now is (c.requires.recovered.ready told) (c.requires.recovered.each told) c.requires.recovered.count in
    moments v u.files xs (c.requires.recovered.ready told) (c.requires.recovered.each told) c.requires.recovered.count u (g.D.Disk.view c.in-Err-start.field-0.disk) refl (c.requires.recovered.alike told) (c.requires.recovered.so_far told)
    (c.in-Err-start.ensures.any_moment told (flushed_in xs) opened)

no_damage : (w : DeviceWhy) (d : Damage) → why_not w ≡ starts.Damaged d → ⊥
no_damage whys.Memory d e = cc e
no_damage whys.DiskFault d e = cc e

pub returns-in-Err-start-clause-whole : goal.returns-in-Err-start-clause-whole
returns-in-Err-start-clause-whole g c damage is = no_damage _ damage (sym c.device_why.ensures ∙ is)
