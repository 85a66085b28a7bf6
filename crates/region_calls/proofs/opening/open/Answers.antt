use Rattle.std.proofs.Common.{◌≡◌, ℕ, IsTrue, length, Result, Ok, Err, sym, ◌∙◌, subst}
use Rattle.region_calls.specs.Recovered.{WasRecovered}
use Rattle.std.specs.Prelude.{IfOk}
use Rattle.disk_images.specs.declared.disk.Disk.{Ghosts}
use Rattle.region_calls.specs.declared.refusal.StartRefusal.{StartRefusal}
use Rattle.region_calls.specs.declared.store.OpenedStore.{OpenedStore}
use Rattle.region_calls.specs.Bases.{AreBasesOf}
use Rattle.region_calls.specs.Seeds.{base_of}
use Rattle.region_calls.specs.Store.{IsStore, bases_of, disk_found, regions_of, handlers_of}
use Rattle.region_calls.proofs.Begun.{len_map}
use Rattle.region_calls.proofs.opening.open.Goals as goal

pub begin_recovered-requires-clause-recovered : goal.begin_recovered-requires-clause-recovered
begin_recovered-requires-clause-recovered g c =
    let e = c.in-Ok.ensures in
    subst (λ d. WasRecovered g.D.Disk d c.recover_all.new.disk c.in-Ok.recovered) (sym c.of-found.ensures)
    record { count = e.regions; each = e.recovered; so_far = e.any_moment; ready = e.ready; alike = e.alike; higher = e.names; later = e.cause.later }

bases_in : {D : Type 0} → (gs : Ghosts D) (r : Result (OpenedStore D) (StartRefusal D)) (regions handlers : ℕ) (disk found : D) → IsTrue gs.told → found ≡ disk → IfOk r (λ o. (regions_of o ≡ regions) × (handlers_of o ≡ handlers)) → IfOk r (λ o. IsStore gs o) → IfOk r (λ o. disk_found o ≡ found)
    → IfOk r (λ o. (length (bases_of o) ≡ regions) × AreBasesOf (gs.view disk).files 1 (bases_of o))
bases_in gs (Ok o) regions handlers disk found told same sizes store is = (len_map base_of o.seeds.items ∙ store.count ∙ sizes.0, subst (λ d. AreBasesOf (gs.view d).files 1 (bases_of o)) (is ∙ same) (store.recovered told))
bases_in gs (Err e) regions handlers disk found told same sizes store is = tt

pub returns-in-Ok-clause-bases : goal.returns-in-Ok-clause-bases
returns-in-Ok-clause-bases g c told =
    let done = c.begin_recovered.ensures in
    bases_in g.D.Disk c.begin_recovered.result c.args.regions c.args.handlers c.args.disk c.of-found.result.value told c.of-found.ensures done.sizes done.store done.found
