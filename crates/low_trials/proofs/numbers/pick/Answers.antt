use Rattle.std.proofs.Common.{sym, ◌∙◌}
use Rattle.write_queue.proofs.Flights.{out_rotated}
use Rattle.low_trials.proofs.numbers.pick.Goals as goal

pub returns-in-Some-clause-out : goal.returns-in-Some-clause-out
returns-in-Some-clause-out c q all = out_rotated q _ c.args.out.now.items _ (sym c.in-Some.ensures.items ∙ c.rotate_left.ensures.items) all
