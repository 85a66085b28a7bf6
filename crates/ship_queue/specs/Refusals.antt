-- A tail's refusal, told of a call that ships, and what may come in its place.
use Rattle.std.specs.Prelude.{◌≡◌, ◌⊎◌, Result, Err}
use Rattle.log_tail.specs.declared.refusal.TailRefusal.{TailRefusal}
use Rattle.log_tail.specs.declared.refusal.TailRefusal.TheVariants as tails
use Rattle.ship_queue.specs.declared.error.ShipRefusal.{ShipRefusal}
use Rattle.ship_queue.specs.declared.error.ShipRefusal.TheVariants as ships

abbrev pub refusal_of : TailRefusal → ShipRefusal
refusal_of tails.Memory = ships.Memory
refusal_of tails.DiskFault = ships.DiskFault
refusal_of (tails.Damaged name at) = ships.Damaged name at
refusal_of (tails.NoPosition file has) = ships.NoPosition file has

-- it is this refusal, or memory, the disk or the peer failed before
abbrev pub IsOrFailure : {T : Type 0} → Result T ShipRefusal → ShipRefusal → Type 0
IsOrFailure result refusal =
    (result ≡ Err refusal) ⊎ ((result ≡ Err ships.Memory) ⊎ ((result ≡ Err ships.DiskFault) ⊎ (result ≡ Err ships.PeerFault)))
