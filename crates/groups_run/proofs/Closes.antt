-- What the close of one group's server hands on.
use Rattle.std.proofs.Common.{◌≡◌, ℕ, ◌+◌, ◌≤◌, Bool, true, List, [], ◌∷◌, map, Contains, IsTrue, refl, sym, ap, subst, arith, ◌∙◌}
use Rattle.std.proofs.Math.Logic.{∥∥₁_elim, ∥∥₁_prop}
use Rattle.std.specs.List.{range_with_len}
use Rattle.log_model.specs.Files.{Files}
use Rattle.disk_images.specs.Crash.{DiskView}
use Rattle.disk_images.specs.declared.disk.Disk.{Ghosts}
use Rattle.script_model.specs.Calls.{Script, Asked, asked_by, IsScript}
use Rattle.server_model.specs.Pass.{Pass}
use Rattle.server_model.specs.Closing.{Handled, AllRun, IsClosedRegion, Survives, Leaves, passes_of, replies_of}
use Rattle.run_model.specs.Closed.{ClosedAt, ClosedOn, IsNameFor, FitsThroughout}
use Rattle.run_model.proofs.Lists.{mapped}
use Rattle.run_model.proofs.Moments.{fits_throughout}
use Rattle.group_calls.specs.log_service.log_halves.declared.name.ServiceNaming.{Ghosts as LogGhosts}
use Rattle.group_calls.specs.log_service.Moments.{GoesOnFrom}
use Rattle.group_calls.specs.region_calls.declared.naming.ServerNaming.{Ghosts as NameGhosts}
use Rattle.group_calls.specs.region_calls.declared.store.OpenedStore.{OpenedStore}
use Rattle.group_calls.specs.region_calls.declared.closed.ClosedRegion.{ClosedRegion}
use Rattle.group_calls.specs.region_calls.Closes.{HasElapsed, HasSurvived}
use Rattle.group_calls.specs.region_calls.Store.{disk_now, disk_found, regions_of}
use Rattle.group_calls.specs.region_calls.Wordings.{region_of}
use Rattle.group_calls.specs.region_lock.declared.naming.LockNaming.{Ghosts as LockGhosts}
use Rattle.region_versions.specs.declared.naming.VersionsNaming.{Ghosts as VersionGhosts}
use Rattle.script_run.specs.Ends.{closed_at}
use Rattle.group_calls.specs.group_servers.Starting.{IsNamedBy}
use Rattle.group_calls.specs.group_servers.Closing.{HasClosed}
use Rattle.groups_run.specs.Found.{IsFoundSo}
use Rattle.groups_run.proofs.Kept.{bases}

pub at_map : (cs : List ClosedRegion) → map (λ (x : ClosedAt). x.region) (map closed_at cs) ≡ map (λ (x : ClosedRegion). x.region) cs
at_map [] = refl
at_map (c ∷ cs) = ap (λ (l : List ℕ). c.region ∷ l) (at_map cs)

module _ {D N : Type 0} (f : Ghosts D) (s : NameGhosts N) (g : LockGhosts N) (l : LogGhosts N) (v : VersionGhosts N) (o : OpenedStore D)
    (named : IsNamedBy f s g l v o) (told : IsTrue f.told) (found : IsFoundSo f o) (script : Script) (right : IsScript script) (fits : IsNameFor script s.name)
    (same : script.regions ≡ regions_of o)
    (passes : List Pass) (disk : D) (broken : Bool) (regions : List ClosedRegion) (closed : HasClosed f s g l v passes disk broken regions) where
  -- with the calls of the handlers that were made on it
  pub closed_on : (asks : List Asked) (hs : List Handled) → AllRun s.name script.time hs → map asked_by (replies_of hs) ≡ asks → passes ≡ passes_of hs
      → ClosedOn asks script (f.view (disk_found o)).files (f.view disk) s.name hs (map closed_at regions) broken
  closed_on asks hs runs calls back = record {
    script_right = right;
    named = fits;
    runs = runs;
    calls = calls;
    numbers = at_map regions ∙ closed.numbers ∙ ap (range_with_len 1) fits.regions;
    regions = λ x is. let m = mapped closed_at regions x is in subst (λ (y : ClosedAt). IsClosedRegion s.name y.region (passes_of hs) y.it) m.2 (subst (λ ps. IsClosedRegion s.name m.0.region ps (region_of m.0)) back (closed.each m.0 m.1));
    survives = λ x is. let m = mapped closed_at regions x is in subst (λ (y : ClosedAt). ∥ Survives (f.view disk) broken y.region y.it ∥₁) m.2 (closed.survives told m.0 m.1);
    leaves = subst (λ r. ∥ Leaves (f.view (disk_found o)).files (f.view disk) broken r ∥₁) fits.regions (subst (λ (J : Files). ∥ Leaves J (f.view disk) broken s.name.regions ∥₁) named.name.found_is.0 (closed.leaves told));
    seen_broken = λ p is. closed.seen_broken p (subst (λ ps. Contains ps p) (sym back) is);
    sound = found.sound;
    bases = bases f s g l v o named told script.regions same;
  }

  -- from the moment at which it was begun a crash leaves of each region the base with a beginning of its edits
  pub closed_throughout : FitsThroughout (f.view (disk_found o)) (f.view disk) (map closed_at regions)
  closed_throughout = ∥∥₁_elim (closed.elapsed told) ∥∥₁_prop (λ e.
      fits_throughout (f.view (disk_found o)) (f.view (disk_now o)) (f.view disk) (map closed_at regions) found.any_moment.1.time.later (omega (arith, named.name.begins.1, e.goes_on.begun)) found.any_moment.1.each
      (λ t J low image. (named.name.past_is t J (omega (arith, named.name.begins.1, low))).1 (e.goes_on.past_stays t J (omega (arith, named.name.begins.1, low)) image))
      (λ x there u K low high image.
      let m = mapped closed_at regions x there in
      ∥∥₁_elim (subst (λ (y : ClosedAt). ∥ HasSurvived l.start (f.view disk) y.region y.it ∥₁) m.2 (closed.survived told m.0 m.1)) ∥∥₁_prop (λ s. s.each u K (omega (arith, named.name.begins.1, low)) high image)))
