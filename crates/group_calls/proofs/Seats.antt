-- Seats of groups' servers.
use Rattle.std.proofs.Common.{ℕ, zero, suc, ◌≤◌, arith}
use Rattle.group_servers.specs.log_service.declared.seats.LogSeat.{LogSeat}
use Rattle.group_servers.specs.Helping.{IsSeatAt}
use Rattle.group_calls.specs.Servers.{Servers, server_at}

-- a helper's group is one to four
pub seat_within : (s : Servers) (k : ℕ) (seat : LogSeat) → IsSeatAt (server_at s k) seat → (1 ≤ k) × (k ≤ 4)
seat_within s zero seat is = absurd is
seat_within s (suc zero) seat is = (omega arith, omega arith)
seat_within s (suc (suc zero)) seat is = (omega arith, omega arith)
seat_within s (suc (suc (suc zero))) seat is = (omega arith, omega arith)
seat_within s (suc (suc (suc (suc zero)))) seat is = (omega arith, omega arith)
seat_within s (suc (suc (suc (suc (suc n))))) seat is = absurd is
