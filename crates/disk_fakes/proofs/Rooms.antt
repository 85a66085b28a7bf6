-- The room of a disk on which nothing was done.
use Rattle.std.proofs.Common.{◌≡◌, ℕ, Vec, ap, arith, vec_len, vec_capacity}
use Rattle.std.specs.declared.alloc.Global.{Global}
use Rattle.disk_fakes.specs.declared.safe_call.SafeCall.{SafeCall}
use Rattle.disk_fakes.specs.declared.safe_disk.SafeDisk.{SafeDisk}
use Rattle.disk_fakes.specs.SafeViews.{TakesAtMost}

pub none_taken : (calls bytes : ℕ) (old new : SafeDisk) → new.calls ≡ old.calls → new.arena ≡ old.arena → TakesAtMost calls bytes old new
none_taken calls bytes old new same_calls same_arena more_calls more_bytes has =
    let calls_len : vec_len new.calls ≡ vec_len old.calls = ap (λ (v : Vec SafeCall Global). vec_len v) same_calls in
    let calls_room : vec_capacity new.calls ≡ vec_capacity old.calls = ap (λ (v : Vec SafeCall Global). vec_capacity v) same_calls in
    let bytes_len : vec_len new.arena ≡ vec_len old.arena = ap (λ (v : Vec ℕ Global). vec_len v) same_arena in
    let bytes_room : vec_capacity new.arena ≡ vec_capacity old.arena = ap (λ (v : Vec ℕ Global). vec_capacity v) same_arena in
    record { calls_fit = omega (arith, has.calls_fit, calls_len, calls_room); bytes_fit = omega (arith, has.bytes_fit, bytes_len, bytes_room) }
