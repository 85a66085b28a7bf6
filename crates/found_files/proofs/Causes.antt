-- What causes a failure that is handed on.
use Rattle.std.proofs.Common.{◌≡◌, ℕ, ◌≤◌, arith}
use Rattle.std.specs.Prelude.{Result, Ok, Err, IsErrOf}
use Rattle.std.specs.Result.{IsErrAnd}
use Rattle.log_model.specs.declared.damage.Damage.{Damage}
use Rattle.disk_images.specs.Calls.{HasCause, Rose}
use Rattle.found_files.specs.declared.refusal.SplitRefusal.TheVariants as refusals

rose_since : (first before now : ℕ) → first ≤ before → Rose before now → Rose first now
rose_since first before now more rose = omega (arith, more, rose)

-- the last of some calls failed
pub cause_since : {failed fails : Type 0} {first before now : ℕ} → HasCause before now failed → first ≤ before → (fails → failed) → HasCause first now fails
cause_since {first = first} {before = before} {now = now} cause more same = record {
  later = omega (arith, more, cause.later);
  risen = λ is. rose_since first before now more (cause.risen (same is));
}

-- the same calls
pub same_cause : {failed fails : Type 0} {before now : ℕ} → HasCause before now failed → (fails → failed) → HasCause before now fails
same_cause cause same = record { later = cause.later; risen = λ is. cause.risen (same is) }

pub no_error : {T E : Type 0} {x : T} {e : E} → IsErrOf (Ok x) e → ⊥
no_error is = absurd (cc is)

pub memory_no_fault : {T : Type 0} → IsErrOf {T = T} (Err refusals.Memory) refusals.DiskFault → ⊥
memory_no_fault is = absurd (cc is)

pub damage_no_fault : {T : Type 0} {d : Damage} → IsErrOf {T = T} (Err (refusals.Damaged d)) refusals.DiskFault → ⊥
damage_no_fault is = absurd (cc is)

-- nothing failed
pub no_cause : {T E : Type 0} (x : T) (f : E) {first now : ℕ} → first ≤ now → HasCause first now (IsErrOf (Ok x) f)
no_cause x f more = record { later = more; risen = λ is. absurd (cc is) }

-- an error that was handed on
pub same_error : (T U : Type 0) {E : Type 0} {e f : E} → IsErrOf {T = U} (Err e) f → IsErrOf {T = T} (Err e) f
same_error T U is = cc is

pub error_of : (T : Type 0) {U E : Type 0} (e f : E) (r : Result U E) → IsErrAnd r (λ x. x ≡ e) → IsErrOf r f → IsErrOf {T = T} (Err e) f
error_of T e f (Ok x) same is = absurd same
error_of T e f (Err x) same is = cc (same, is)

-- the error of the last of some calls was handed on
pub cause_of : (T : Type 0) {U E : Type 0} {first before now : ℕ} (e f : E) (r : Result U E) → IsErrAnd r (λ x. x ≡ e) → HasCause before now (IsErrOf {T = T} (Err e) f) → first ≤ before → HasCause first now (IsErrOf r f)
cause_of T e f r same cause more = cause_since cause more (error_of T e f r same)
