-- What is counted of the calls of one seat.
use Rattle.std.specs.Prelude.{ℕ, ◌+◌, ◌-◌, ◌^◌, min}
use Rattle.std.specs.declared.result.Result.{Result}
use Rattle.std.specs.declared.result.Result.TheVariants.{Ok, Err}
use Rattle.log_halves.specs.declared.starting.Written.{Written}

-- one more, up to the end of its type
abbrev pub one_more : ℕ → ℕ
one_more n = min (n + 1) (2 ^ 64 - 1)

abbrev pub nothing_written : Written
nothing_written = record { stores = 0; logs = 0 }

abbrev pub with_stores : Written → ℕ → Written
with_stores w n = record { stores = n; logs = w.logs }

abbrev pub with_closed : Written → ℕ → Written
with_closed w n = record { stores = w.stores; logs = n }

-- A flush has written a store file where it answers Ok, and else none.
abbrev pub flushed_by : {T E : Type 0} → Result T E → Written → Written
flushed_by (Ok t) w = with_stores w (one_more w.stores)
flushed_by (Err e) w = w

-- A roll has closed a log file where it answers Ok, and else none.
abbrev pub rolled_by : {T E : Type 0} → Result T E → Written → Written
rolled_by (Ok t) w = with_closed w (one_more w.logs)
rolled_by (Err e) w = w
