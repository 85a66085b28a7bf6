-- What is left of a script, by what a server's opening and its close say.
use Rattle.std.proofs.Common.{◌≡◌, ℕ, ◌≤◌, Bool, List, map, length, Option, refl, ◌∙◌, subst, arith, inl}
use Rattle.std.proofs.lemmas.List.{length-map}
use Rattle.disk_images.specs.Crash.{DiskView}
use Rattle.disk_images.specs.declared.disk.Disk.{Ghosts}
use Rattle.recover_command.specs.Recovered.{IsStoreDamage}
use Rattle.log_model.specs.declared.damage.Damage.{Damage}
use Rattle.recover_command.specs.wal_split.Moments.{During, WasOrAlike}
use Rattle.region_model.specs.Journal.{Base}
use Rattle.script_model.specs.Calls.{Script}
use Rattle.script_model.specs.Report.{ReplyLine}
use Rattle.server_model.specs.Pass.{Naming}
use Rattle.run_model.specs.Closed.{FitsThroughout}
use Rattle.run_model.specs.Headline.{KeepsFound, KeepsThroughout, IsHalfOpened}
use Rattle.run_model.specs.declared.spent.Spent.{Spent}
use Rattle.script_run.specs.region_calls.Seeds.{base_of, lasts_of}
use Rattle.script_run.specs.region_calls.Store.{IsStore, bases_of, regions_of}
use Rattle.script_run.specs.region_calls.declared.store.OpenedStore.{OpenedStore}
use Rattle.script_run.specs.region_calls.declared.closed.ClosedRegion.{ClosedRegion}
use Rattle.script_run.specs.region_calls.declared.refusal.StartWhy.{StartWhy}
use Rattle.script_run.specs.region_calls.declared.refusal.StartWhy.TheVariants as whys
use Rattle.script_run.specs.Ends.{closed_at, HasClosed}
use Rattle.run_command.specs.Carried.{IfFoundDamaged}

-- the regions of a server's name are those that its store was opened with
pub all_named : {D : Type 0} {g : Ghosts D} (o : OpenedStore D) → IsStore g o → length (lasts_of (bases_of o)) ≡ regions_of o
all_named o store = length-map (bases_of o) (λ (b : Base). b.last) ∙ length-map o.seeds.items base_of ∙ store.count

pub untouched : (disk : DiskView) → KeepsFound disk disk
untouched disk J image = ∣ inl image ∣₁

-- a disk that nothing was done to
pub stays_throughout : (disk : DiskView) → KeepsThroughout disk disk
stays_throughout disk = ∣ (
  0,
  record {
    time = record { later = omega arith; by_most = omega arith; past = λ t J low image. image; kept = λ t J low image. image };
    each = λ t J low high image. ∣ inl (subst (λ (k : ℕ). disk.image k J) (same t low high) image) ∣₁;
  },
) ∣₁
  where
    same : (t : ℕ) → disk.clock ≤ t → t ≤ disk.clock → t ≡ disk.clock
    same t low high = omega (arith, low, high)

pub closed_ran : {X : Type 0} (view : X → DiskView) (script made : Script) (found first : X) (left : DiskView) (name : Naming) (regions : List ClosedRegion) (parts : List (List ReplyLine)) (spent : Option Spent) (broken : Bool)
    → found ≡ first → made ≡ script → HasClosed made (view found).files left name regions parts spent broken × FitsThroughout (view found) left (map closed_at regions)
    → (n : Naming) × HasClosed script (view first).files left n regions parts spent broken × FitsThroughout (view first) left (map closed_at regions)
closed_ran view script made found first left name regions parts spent broken same is c = (
  name,
  subst (λ d. HasClosed script (view d).files left name regions parts spent broken) same (subst (λ s. HasClosed s (view found).files left name regions parts spent broken) is c.0),
  subst (λ d. FitsThroughout (view d) left (map closed_at regions)) same c.1,
)

damage_at : (why : StartWhy) (P : Damage → Type 0) → ((damage : Damage) → why ≡ whys.Damaged damage → P damage) → IfFoundDamaged why P
damage_at whys.Memory P told = tt
damage_at whys.DiskFault P told = tt
damage_at (whys.Damaged damage) P told = told damage refl

pub not_opened : (why : StartWhy) (before after : DiskView) → During (WasOrAlike before) before after → ((damage : Damage) → why ≡ whys.Damaged damage → IsStoreDamage before.files damage × (after.files ≡ before.files))
    → IsHalfOpened before after × IfFoundDamaged why (λ damage. IsStoreDamage before.files damage × (after.files ≡ before.files))
not_opened why before after during damaged = (∣ during ∣₁, damage_at why _ damaged)
