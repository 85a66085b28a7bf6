-- What is printed of a compaction.
use Rattle.std.specs.Prelude.{ℕ, List, [], ◌∷◌, ◌++◌, codes}
use Rattle.std.specs.Fmt.{decimal}
use Rattle.script_model.specs.Report.{line}
use Rattle.script_model.specs.Outputs.{end_line}
use Rattle.store_compact.specs.declared.kind.Compacted.{Compacted}
use Rattle.compact_command.specs.declared.compaction.Compaction.{Compaction}
use Rattle.compact_command.specs.declared.compaction.Compaction.TheVariants as compactions

-- a region, how many cells were stored of it, and how many are kept
unfoldable pub compacted_line : ℕ → Compacted → List ℕ
compacted_line r counts = line (codes "compacted" ∷ decimal r ∷ decimal counts.before ∷ decimal counts.after ∷ [])

-- so few store files count
unfoldable pub nothing_line : ℕ → List ℕ
nothing_line files = line (codes "compact" ∷ codes "nothing" ∷ decimal files ∷ [])

abbrev pub compaction_text : ℕ → Compaction → List ℕ
compaction_text r (compactions.Made counts) = compacted_line r counts ++ end_line 0
compaction_text r (compactions.Nothing files) = nothing_line files ++ end_line 0
