-- What an answer tells where it is damage.
use Rattle.std.proofs.Common.{◌≡◌, sym, subst}
use Rattle.std.specs.Prelude.{Result, Ok, Err}
use Rattle.std.specs.Result.{IsErr, IsErrAnd}
use Rattle.log_model.specs.declared.damage.Damage.{Damage}
use Rattle.found_files.specs.declared.refusal.SplitRefusal.{SplitRefusal}
use Rattle.found_files.specs.declared.refusal.SplitRefusal.TheVariants as refusals
use Rattle.found_files.specs.Refusal.{IfDamage}

pub if_damage : {T : Type 0} (P Q : Damage → Type 0) (r : Result T SplitRefusal) → ((d : Damage) → P d → Q d) → IfDamage r P → IfDamage r Q
if_damage P Q (Ok x) then told = tt
if_damage P Q (Err (refusals.Damaged d)) then told = then d told
if_damage P Q (Err refusals.Memory) then told = tt
if_damage P Q (Err refusals.DiskFault) then told = tt

-- the same of an error that was handed on
pub handed_on : (T U : Type 0) (P Q : Damage → Type 0) (e : SplitRefusal) (r : Result U SplitRefusal) → IsErr r → IsErrAnd r (λ x. x ≡ e) → ((d : Damage) → P d → Q d) → IfDamage {T = T} (Err e) P → IfDamage {T = U} r Q
handed_on T U P Q e (Ok x) err same then told = absurd same
handed_on T U P Q e (Err x) err same then told = subst (λ (y : SplitRefusal). IfDamage {T = U} (Err y) Q) (sym same) (at e told)
  where
    at : (y : SplitRefusal) → IfDamage {T = T} (Err y) P → IfDamage {T = U} (Err y) Q
    at (refusals.Damaged d) told = then d told
    at refusals.Memory told = tt
    at refusals.DiskFault told = tt
