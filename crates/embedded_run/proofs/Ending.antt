-- What an opened store's name tells.
use Rattle.std.proofs.Common.{◌≡◌, ℕ, ◌≤◌, List, length, refl, sym, ◌∙◌, subst, arith}
use Rattle.std.proofs.lemmas.List.{length-map}
use Rattle.disk_images.specs.Crash.{DiskView}
use Rattle.disk_images.specs.declared.disk.Disk.{Ghosts}
use Rattle.log_model.specs.Damage.{IsDamage}
use Rattle.log_model.specs.Files.{Files, IsSound}
use Rattle.log_model.specs.declared.damage.Damage.{Damage}
use Rattle.region_model.specs.Journal.{Base}
use Rattle.server_model.specs.Pass.{Naming}
use Rattle.run_model.specs.Closed.{IsFound}
use Rattle.embedded.specs.region_calls.Bases.{AreBasesOf}
use Rattle.embedded.specs.region_calls.Seeds.{base_of, base_at, lasts_of}
use Rattle.embedded.specs.region_calls.Store.{IsStore, bases_of, regions_of}
use Rattle.embedded.specs.region_calls.declared.refusal.StartWhy.{StartWhy}
use Rattle.embedded.specs.region_calls.declared.refusal.StartWhy.TheVariants as whys
use Rattle.embedded.specs.region_calls.declared.store.OpenedStore.{OpenedStore}
use Rattle.embedded.proofs.region_calls_laws.NamedSeeds.{base_of_region}
use Rattle.embedded_run.specs.Ends.{IfDamaged}

-- the regions of a server's name are those that its store was opened with
pub all_named : {D : Type 0} {g : Ghosts D} (o : OpenedStore D) → IsStore g o → length (lasts_of (bases_of o)) ≡ regions_of o
all_named o store = length-map (bases_of o) (λ (b : Base). b.last) ∙ length-map o.seeds.items base_of ∙ store.count

-- the bases that a name tells are what the files recover to
pub bases_found : (files : Files) (bases : List Base) (name : Naming) → AreBasesOf files 1 bases → length bases ≡ name.regions
    → ((r : ℕ) → 1 ≤ r → r ≤ name.regions → name.bases r ≡ base_at bases r) → (r : ℕ) → 1 ≤ r → r ≤ name.regions → IsFound files r (name.bases r)
bases_found files bases name are count picks r low high =
    let is = base_of_region files bases are r low (omega (arith, count, high)) in
    subst (IsFound files r) (sym (picks r low high)) (record { last = is.last; content = is.content })

-- a store that isn't opened for damage is damaged so
pub if_damaged : (why : StartWhy) (found left : DiskView) → ((damage : Damage) → why ≡ whys.Damaged damage → (¬ IsSound found.files) × IsDamage found.files damage × (left.files ≡ found.files))
    → IfDamaged why found left
if_damaged whys.Memory found left is = tt
if_damaged whys.DiskFault found left is = tt
if_damaged (whys.Damaged damage) found left is = is damage refl
