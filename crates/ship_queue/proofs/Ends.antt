-- Results.
use Rattle.std.proofs.Common.{◌≡◌, ℕ, IsErr, Result, Ok, Err, ap}
use Rattle.std.specs.Prelude.{IfOk, IsErrAnd}
use Rattle.log_model.specs.declared.name.Name.{Name}
use Rattle.log_tail.specs.declared.refusal.TailRefusal.{TailRefusal}
use Rattle.log_tail.specs.declared.refusal.TailRefusal.TheVariants as tails
use Rattle.ship_queue.specs.declared.error.ShipRefusal.TheVariants as ships
use Rattle.ship_queue.specs.Refusals.{refusal_of}

pub none_of : {T E : Type 0} (r : Result T E) (P : T → Type 0) → IsErr r → IfOk r P
none_of (Ok t) P failed = absurd (cc failed)
none_of (Err e) P failed = tt

pub err_of : {T E : Type 0} (r : Result T E) (why : E) → IsErrAnd r (λ e. e ≡ why) → r ≡ Err why
err_of (Ok t) why is = absurd is
err_of (Err e) why is = ap Err is

pub same_err : {T E : Type 0} (r : Result T E) (a b : E) → r ≡ Err a → r ≡ Err b → a ≡ b
same_err r a b x y = cc

pub never_peer : (e : TailRefusal) → refusal_of e ≡ ships.PeerFault → ⊥
never_peer tails.Memory is = cc is
never_peer tails.DiskFault is = cc is
never_peer (tails.Damaged name at) is = cc is
never_peer (tails.NoPosition file has) is = cc is

pub was_disk : (e : TailRefusal) → refusal_of e ≡ ships.DiskFault → e ≡ tails.DiskFault
was_disk tails.Memory is = absurd (cc is)
was_disk tails.DiskFault is = λ i. tails.DiskFault
was_disk (tails.Damaged name at) is = absurd (cc is)
was_disk (tails.NoPosition file has) is = absurd (cc is)

pub was_damaged : (e : TailRefusal) (name : Name) (at : ℕ) → refusal_of e ≡ ships.Damaged name at → e ≡ tails.Damaged name at
was_damaged tails.Memory name at is = absurd (cc is)
was_damaged tails.DiskFault name at is = absurd (cc is)
was_damaged (tails.Damaged n a) name at is = cc is
was_damaged (tails.NoPosition file has) name at is = absurd (cc is)

pub was_no_position : (e : TailRefusal) (file has : ℕ) → refusal_of e ≡ ships.NoPosition file has → e ≡ tails.NoPosition file has
was_no_position tails.Memory file has is = absurd (cc is)
was_no_position tails.DiskFault file has is = absurd (cc is)
was_no_position (tails.Damaged name at) file has is = absurd (cc is)
was_no_position (tails.NoPosition f h) file has is = cc is
