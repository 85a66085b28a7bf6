use Rattle.std.proofs.Common.{◌≡◌, ◌≤◌, length, take, vec_capacity}
use Rattle.region_calls.specs.Seeds.{lasts_of, bases_found, marks_from, flushed_of}
use Rattle.region_calls.proofs.Sown.{AreWithin}
use Rattle.region_calls.proofs.sowing.marks_of.Given as goal

abbrev pub invariant-loop-one : goal.invariant-loop-one
invariant-loop-one l = record {
  marks : l.marks.items ≡ marks_from 1 (take l.one-index l.found);
  within : AreWithin l.marks.items;
  flushed : flushed_of l.marks.items ≡ lasts_of (bases_found (take l.one-index l.found));
  count : length l.marks.items ≡ l.one-index;
  room : length l.found ≤ vec_capacity l.marks;
}
