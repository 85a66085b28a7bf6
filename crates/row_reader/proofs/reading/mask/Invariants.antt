use Rattle.std.proofs.Common.{◌≡◌, [], take, filter}
use Rattle.mask_model.specs.Masked.{is_shown, first_versions}
use Rattle.row_reader.specs.Marks.{IsMarkedUpTo}
use Rattle.row_reader.specs.Column.{IsPassedUpTo}
use Rattle.row_reader.proofs.reading.mask.Given as goal

abbrev pub invariant-loop-place : goal.invariant-loop-place
invariant-loop-place l = record {
  seen : l.seen ≡ first_versions l.fn.versions [] (filter (is_shown l.cells) (take l.place l.cells));
  marks : IsMarkedUpTo l.cells l.place l.marks;
  column : IsPassedUpTo l.fn.versions l.cells l.place l.column;
}
