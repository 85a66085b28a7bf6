use Rattle.std.proofs.Common.{◌≡◌}
use Rattle.log_berth.specs.Words.{NoMore}
use Rattle.log_device.specs.Whole.{IsBroken, numbers_of}
use Rattle.log_halves.specs.Numbers.{told_numbers}
use Rattle.log_halves.proofs.settling.settle_items.Given as goal

abbrev pub invariant-loop-turn : goal.invariant-loop-turn
invariant-loop-turn g l = record {
  later : NoMore (told_numbers l.fn.committer.regions (numbers_of l.fn.committer.device)) (told_numbers l.committer.regions (numbers_of l.committer.device));
  broken : IsBroken l.fn.committer.device → IsBroken l.committer.device;
  same : l.committer.regions ≡ l.fn.committer.regions;
}
