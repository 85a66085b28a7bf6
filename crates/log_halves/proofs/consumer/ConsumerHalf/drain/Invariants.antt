use Rattle.std.proofs.Common.{◌≡◌}
use Rattle.crossbeam_queue.specs.Passes.{view}
use Rattle.log_berth.specs.Words.{NoMore}
use Rattle.log_device.specs.Whole.{IsBroken, numbers_of}
use Rattle.log_halves.specs.Numbers.{told_numbers}
use Rattle.log_halves.proofs.consumer.ConsumerHalf.drain.Given as goal

abbrev pub invariant-loop-chain : goal.invariant-loop-chain
invariant-loop-chain g l = record {
  unbroken : IsBroken l.committer.device → ⊥;
  later : NoMore (told_numbers l.fn.committer.regions (numbers_of l.fn.committer.device)) (told_numbers l.committer.regions (numbers_of l.committer.device));
  regions : l.committer.regions ≡ l.fn.committer.regions;
  held : l.self.held ≡ l.fn.self.held;
  popped : view l.self.consumer.pass ≡ view l.fn.self.consumer.pass;
}
