use Rattle.std.proofs.Common.{◌≡◌, ◌<◌, ◌+◌, length}
use Rattle.crossbeam_queue.specs.Passes.{view}
use Rattle.log_berth.specs.Words.{NoMore}
use Rattle.log_device.specs.Whole.{IsBroken, numbers_of}
use Rattle.log_halves.specs.Items.{held_in}
use Rattle.log_halves.specs.Numbers.{told_numbers}
use Rattle.log_halves.proofs.consumer.ConsumerHalf.move_all.Given as goal

abbrev pub invariant-loop-move : goal.invariant-loop-move
invariant-loop-move g l = record {
  unbroken : IsBroken l.committer.device → ⊥;
  later : NoMore (told_numbers l.fn.committer.regions (numbers_of l.fn.committer.device)) (told_numbers l.committer.regions (numbers_of l.committer.device));
  regions : l.committer.regions ≡ l.fn.committer.regions;
  few : l.moved < 1024;
  count : length (view l.fn.self.consumer.pass).popped + (l.moved + length (held_in l.self.held)) ≡ length (view l.self.consumer.pass).popped + length (held_in l.fn.self.held);
}
