use Rattle.std.proofs.Common.{◌≡◌}
use Rattle.group_servers.specs.Checking.{AreClear}
use Rattle.group_servers.proofs.checking.wrong_in.Given as goal

abbrev pub invariant-looking : goal.invariant-looking
invariant-looking l = record {
  place : l.region ≡ l.one-index;
  clear : AreClear l.fn.groups l.fn.group l.found l.region;
}
