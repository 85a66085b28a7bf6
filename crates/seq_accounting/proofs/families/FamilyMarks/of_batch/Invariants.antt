use Rattle.std.proofs.Common.{◌≡◌, ℕ, List, take}
use Rattle.seq_accounting.specs.Marks.{has_family, families_in}
use Rattle.seq_accounting.proofs.BatchLaws.{families}
use Rattle.seq_accounting.proofs.families.FamilyMarks.of_batch.Given as goal

abbrev pub invariant-loop-cell : goal.invariant-loop-cell
invariant-loop-cell l = record {
  account : (f : List ℕ) → has_family (families_in l.account) f ≡ has_family (families (take l.cell-index l.cell-items)) f;
  file : (f : List ℕ) → has_family (families_in l.file) f ≡ has_family (families (take l.cell-index l.cell-items)) f;
}
