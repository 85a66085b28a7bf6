-- Damage that is told is of the files that were left.
use Rattle.std.proofs.Common.{Err, ◌≡◌, List, sym, subst, inl, inr}
use Rattle.log_model.specs.Files.{Files, IsSound}
use Rattle.log_model.specs.Damage.{IsDamage}
use Rattle.log_model.specs.declared.damage.Damage.{Damage}
use Rattle.run_command.specs.found_files.Refusal.{IfDamage}
use Rattle.run_command.specs.found_files.declared.refusal.SplitRefusal.{SplitRefusal}
use Rattle.run_command.specs.found_files.declared.refusal.SplitRefusal.TheVariants as refusals
use Rattle.run_command.specs.region_replay.Ready.{Found}
use Rattle.run_command.specs.region_calls.declared.refusal.StartWhy.{StartWhy}
use Rattle.run_command.specs.region_calls.declared.refusal.StartWhy.TheVariants as whys
use Rattle.command_base.specs.Status.{IsDamageOf, IsPrintEnd}
use Rattle.command_base.specs.declared.status.Status.{Status}
use Rattle.command_base.specs.declared.status.Status.TheVariants as ends
use Rattle.run_command.specs.recover_command.Recovered.{IsStoreDamage}
use Rattle.run_command.specs.recover_command.Refusals.{refused_as}
use Rattle.run_command.specs.Carried.{IfFoundDamaged}
use Rattle.run_command.specs.Ends.{status_for}
use Rattle.load_command.specs.Statuses.{IsDecided, IsPrintedAs, IsStoreRefusal}

-- a status of which no damage is told
pub other_status : (status it : Status) (P : Damage → Type 0) → status ≡ it → IsDamageOf it P → IsDamageOf status P
other_status status it P is told = subst (λ (s : Status). IsDamageOf s P) (sym is) told

pub print_damage : (status : Status) (P : Damage → Type 0) → IsPrintEnd status → IsDamageOf status P
print_damage (ends.Damaged damage) P may = absurd may
print_damage _ P may = tt

pub first_damage : (status : Status) (P : Damage → Type 0) → IsStoreRefusal status → IsDamageOf status P
first_damage (ends.Damaged damage) P may = absurd may
first_damage _ P may = tt

decided_damage : (status : Status) (P : Damage → Type 0) → IsDecided status → IsDamageOf status P
decided_damage (ends.Damaged damage) P may = absurd may
decided_damage _ P may = tt

pub printed_damage : (status result : Status) (P : Damage → Type 0) → IsDecided status → IsPrintedAs status result → IsDamageOf result P
printed_damage status result P may printed = elim printed [
  | inl same ↦ other_status result status P same (decided_damage status P may)
  | inr either ↦ elim either [
    | inl memory ↦ other_status result ends.Memory P memory tt
    | inr sink ↦ other_status result ends.SinkFault P sink tt
  ]
]

-- what was found is what is left
here : (damage : Damage) (old new : Files) → IsStoreDamage old damage × (new ≡ old) → IsStoreDamage new damage
here damage old new told = subst (λ (f : Files). IsStoreDamage f damage) (sym told.1) told.0

-- so is what an opening tells
pub found_damage : (refusal : SplitRefusal) (old new : Files) → IfDamage {T = List Found} (Err refusal) (λ damage. IsDamage old damage × (new ≡ old)) → IfDamage {T = List Found} (Err refusal) (λ damage. ¬ IsSound old)
    → IfDamage {T = List Found} (Err refusal) (λ damage. IsStoreDamage old damage × (new ≡ old))
found_damage refusals.Memory old new told unsound = tt
found_damage refusals.DiskFault old new told unsound = tt
found_damage (refusals.Damaged damage) old new told unsound = ((unsound, told.0), told.1)

pub refused_damage : (refusal : SplitRefusal) (old new : Files) → IfDamage {T = List Found} (Err refusal) (λ damage. IsStoreDamage old damage × (new ≡ old)) → IsDamageOf (refused_as refusal) (IsStoreDamage new)
refused_damage refusals.Memory old new told = tt
refused_damage refusals.DiskFault old new told = tt
refused_damage (refusals.Damaged damage) old new told = here damage old new told

pub opened_damage : (why : StartWhy) (old new : Files) → IfFoundDamaged why (λ damage. IsStoreDamage old damage × (new ≡ old)) → IsDamageOf (status_for why) (IsStoreDamage new)
opened_damage whys.Memory old new told = tt
opened_damage whys.DiskFault old new told = tt
opened_damage (whys.Damaged damage) old new told = here damage old new told
