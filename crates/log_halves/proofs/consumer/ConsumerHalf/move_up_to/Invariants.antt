use Rattle.std.proofs.Common.{◌≡◌, ◌≤◌, length}
use Rattle.crossbeam_queue.specs.Passes.{view}
use Rattle.log_berth.specs.Words.{NoMore}
use Rattle.log_device.specs.Whole.{IsBroken, numbers_of}
use Rattle.log_halves.specs.Numbers.{told_numbers}
use Rattle.log_halves.proofs.consumer.ConsumerHalf.move_up_to.Given as goal

abbrev pub invariant-loop-turn : goal.invariant-loop-turn
invariant-loop-turn g l = record {
  unbroken : IsBroken l.committer.device → ⊥;
  later : NoMore (told_numbers l.fn.committer.regions (numbers_of l.fn.committer.device)) (told_numbers l.committer.regions (numbers_of l.committer.device));
  regions : l.committer.regions ≡ l.fn.committer.regions;
  grows : length (view l.fn.self.consumer.pass).popped ≤ length (view l.self.consumer.pass).popped;
}
