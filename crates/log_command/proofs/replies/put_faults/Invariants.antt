use Rattle.std.proofs.Common.{◌≡◌, ◌≤◌, ◌+◌, ◌*◌, ◌++◌, vec_len, vec_capacity}
use Rattle.std.specs.List.{flat_map}
use Rattle.script_model.specs.Report.{reply_text}
use Rattle.log_command.specs.Logged.{faults}
use Rattle.log_command.proofs.replies.put_faults.Given as goal

abbrev pub invariant-loop-i : goal.invariant-loop-i
invariant-loop-i l = record {
  text : l.out.items ≡ l.initial.out.items ++ flat_map reply_text (faults l.first l.i);
  len : vec_len l.out ≤ vec_len l.initial.out + 160 * l.i;
  capacity : vec_capacity l.initial.out ≤ vec_capacity l.out;
}
