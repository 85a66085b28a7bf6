use Rattle.std.proofs.Common.{◌≡◌, ◌+◌, take, length, get_or}
use Rattle.log_berth.specs.Words.{starts}
use Rattle.log_berth.proofs.opening.words_of.Given as goal

abbrev pub invariant-loop-region : goal.invariant-loop-region
invariant-loop-region g l = record {
  wide : length l.words.items ≡ l.regions + 2;
  start : take l.region l.words.items ≡ starts l.region (g.W.Ware.numbers l.ware);
  fault : get_or l.words.items l.regions 0 ≡ 0;
  turn : get_or l.words.items (l.regions + 1) 0 ≡ 0;
}
