use Rattle.std.proofs.Common.{◌≡◌, ◌<◌, ◌^◌, true, take}
use Rattle.std.specs.List.{list_all}
use Rattle.script_model.specs.Text.{value_from, is_digit}
use Rattle.script_lines.proofs.numbers.number.Given as goal

abbrev pub invariant-loop-b : goal.invariant-loop-b
invariant-loop-b l = record {
  value : l.n ≡ value_from 0 (take l.b-index l.word);
  digits : list_all is_digit (take l.b-index l.word) ≡ true;
  below : l.n < 2 ^ 64;
}
