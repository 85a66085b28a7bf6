use Rattle.std.proofs.Common.{◌≡◌, Contains}
use Rattle.log_model.specs.Entry.{Entry, IsEntry}
use Rattle.log_model.specs.Recovered.{entries_of}
use Rattle.region_replay.proofs.alone.of_region.Given as goal

abbrev pub invariant-loop-entry : goal.invariant-loop-entry
invariant-loop-entry l = record {
  of : l.own.items ≡ entries_of l.region l.yielded;
  valid : (e : Entry) → Contains l.own.items e → IsEntry e;
}
