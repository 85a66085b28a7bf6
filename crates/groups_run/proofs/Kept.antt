-- What one group's disk keeps of what was found on it, at each moment.
use Rattle.std.proofs.Common.{◌≡◌, ℕ, ◌⊎◌, ◌+◌, ◌<◌, ◌≤◌, Bool, true, List, map, length, Contains, Option, Some, None, IsTrue, refl, sym, ap, subst, arith, ◌∙◌, inl, inr, option_map}
use Rattle.std.proofs.lemmas.Bool.{cases_lt}
use Rattle.std.proofs.lemmas.List.{length-map}
use Rattle.std.proofs.Math.Logic.{∥∥₁_map, ∥∥₁_elim, ∥∥₁_prop}
use Rattle.log_model.specs.Files.{Files}
use Rattle.disk_images.specs.Crash.{DiskView, IsImageNow, Since, Throughout}
use Rattle.disk_images.specs.declared.disk.Disk.{Ghosts}
use Rattle.region_model.specs.Crash.{Fits}
use Rattle.server_model.specs.Pass.{Pass}
use Rattle.server_model.specs.Closing.{IsClosedRegion, Survives, Leaves}
use Rattle.run_model.specs.Closed.{IsFound}
use Rattle.run_model.specs.Headline.{KeepsFound, KeepsThroughout, MayKeep}
use Rattle.run_model.proofs.Lists.{mapped, range_has}
use Rattle.run_model.proofs.Moments.{HasStood}
use Rattle.group_calls.specs.log_service.log_halves.declared.name.ServiceNaming.{Ghosts as LogGhosts}
use Rattle.group_calls.specs.region_calls.declared.naming.ServerNaming.{Ghosts as NameGhosts}
use Rattle.group_calls.specs.region_calls.declared.store.OpenedStore.{OpenedStore}
use Rattle.group_calls.specs.region_calls.declared.closed.ClosedRegion.{ClosedRegion}
use Rattle.group_calls.specs.region_calls.Closes.{HasElapsed, HasSurvived}
use Rattle.group_calls.specs.region_calls.Seeds.{base_of}
use Rattle.group_calls.specs.region_calls.Store.{disk_now, disk_found, regions_of, bases_of}
use Rattle.group_calls.specs.region_calls.Wordings.{region_of}
use Rattle.group_calls.specs.region_lock.declared.naming.LockNaming.{Ghosts as LockGhosts}
use Rattle.region_versions.specs.declared.naming.VersionsNaming.{Ghosts as VersionGhosts}
use Rattle.std.specs.Global.{Vec}
use Rattle.std.specs.List.{range_with_len}
use Rattle.script_run.proofs.AllRan.{bases_found}
use Rattle.script_run.proofs.Elapsed.{opened_throughout, left_moments, moments}
use Rattle.group_calls.specs.group_servers.Starting.{IsNamedBy, HasLeft, HasLetGo}
use Rattle.group_calls.specs.group_servers.Closing.{HasClosed, EndsSo}
use Rattle.groups_run.specs.Found.{IsFoundSo}

-- what is kept at each moment is kept now
pub keeps_now : (found left : DiskView) → KeepsThroughout found left → KeepsFound found left
keeps_now found left kept J image = ∥∥₁_elim kept ∥∥₁_prop (λ k. k.1.each left.clock J k.1.time.later (omega arith) image)

module _ {D N : Type 0} (f : Ghosts D) (s : NameGhosts N) (g : LockGhosts N) (l : LogGhosts N) (v : VersionGhosts N) (o : OpenedStore D)
    (named : IsNamedBy f s g l v o) (told : IsTrue f.told) where
  -- the store's bases are what its files as found recovered to
  pub bases : (regions : ℕ) → regions ≡ regions_of o → (r : ℕ) → 1 ≤ r → r ≤ regions → IsFound (f.view (disk_found o)).files r (s.name.bases r)
  bases regions same =
      let count = length-map o.seeds.items base_of in
      bases_found (f.view (disk_found o)).files (bases_of o) s.name regions (named.store.recovered told) (omega (arith, count, same, named.store.count))
      (λ r low high. ap (λ n. n.bases r) named.name.name_is ∙ (named.name.tables_are r low (omega (arith, same, high))).base_is)

  module _ (same : s.name.regions ≡ regions_of o) (found : IsFoundSo f o) where
    elapsed_found : (disk : D) → ∥ HasElapsed l.start l.past s.found s.name.regions (f.view disk) ∥₁ → ∥ HasElapsed l.start l.past (f.view (disk_found o)).files s.name.regions (f.view disk) ∥₁
    elapsed_found disk e = subst (λ (J : Files). ∥ HasElapsed l.start l.past J s.name.regions (f.view disk) ∥₁) named.name.found_is.0 e

    -- of a server that was closed
    stood : (passes : List Pass) (disk : D) (broken : Bool) (regions : List ClosedRegion) → HasClosed f s g l v passes disk broken regions → (r : ℕ) → 1 ≤ r → r ≤ s.name.regions
        → ∥ HasStood (f.view (disk_found o)).files l.start r (f.view disk) ∥₁
    stood passes disk broken regions closed r low high =
        let x = mapped (λ (c : ClosedRegion). c.region) regions r (subst (λ (ns : List ℕ). Contains ns r) (sym closed.numbers) (range_has s.name.regions 1 r low (omega (arith, high)))) in
        let at = closed.each x.0 x.1 in
        let number = x.0.region in
        let base = subst (IsFound (f.view (disk_found o)).files number) (sym at.base) (bases s.name.regions same number (omega (arith, low, x.2)) (omega (arith, high, x.2))) in
        subst (λ (n : ℕ). ∥ HasStood (f.view (disk_found o)).files l.start n (f.view disk) ∥₁) x.2
        (∥∥₁_map (closed.survived told x.0 x.1) (λ v. ((region_of x.0).base, (region_of x.0).edits, at.journal.numbers, base, v)))

    pub closed_keeps : (passes : List Pass) (disk : D) (broken : Bool) (regions : List ClosedRegion) → HasClosed f s g l v passes disk broken regions
        → KeepsThroughout (f.view (disk_found o)) (f.view disk)
    closed_keeps passes disk broken regions closed = moments (f.view (disk_found o)) (f.view (disk_now o)) (f.view disk) l.start l.past named.name.begins.1 named.name.past_is found.any_moment
        s.name.regions (omega (arith, same, named.store.some.0)) (elapsed_found disk (closed.elapsed told)) (stood passes disk broken regions closed)

    -- of one that could not be closed
    pub left_keeps : (passes : List Pass) (disk : D) → HasLeft f s g l v passes disk → KeepsThroughout (f.view (disk_found o)) (f.view disk)
    left_keeps passes disk left = left_moments (f.view (disk_found o)) (f.view (disk_now o)) (f.view disk) l.start l.past named.name.begins.1 named.name.past_is found.any_moment s.name passes
        s.name.regions (omega (arith, same, named.store.some.0)) refl (bases s.name.regions same) (elapsed_found disk (left.elapsed told)) (left.left told)

    -- of one that was closed or not
    pub ended_keeps : (passes : List Pass) (disk : D) (broken : Bool) (regions : Option (Vec ClosedRegion)) → EndsSo f s g l v passes disk broken regions
        → KeepsThroughout (f.view (disk_found o)) (f.view disk)
    ended_keeps passes disk broken None ends = left_keeps passes disk ends.1
    ended_keeps passes disk broken (Some regions) ends = closed_keeps passes disk broken regions.items ends

-- a store that was not named yet
pub opened_keeps : {D : Type 0} (f : Ghosts D) (o : OpenedStore D) → IsFoundSo f o → (disk : D) → disk ≡ disk_now o → KeepsThroughout (f.view (disk_found o)) (f.view disk)
opened_keeps f o found disk is = subst (λ d. KeepsThroughout (f.view (disk_found o)) (f.view d)) (sym is) (opened_throughout (f.view (disk_found o)) (f.view (disk_now o)) found.any_moment)
