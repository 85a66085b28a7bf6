-- Worked examples, which the check computes: an entry with a table's name and tags, and one with neither.
use Rattle.std.proofs.Common.{◌≡◌, ℕ, List, [], ◌∷◌, Some, None, codes, refl}
use Rattle.std.specs.Fmt.{digits}
use Rattle.cell_model.specs.Batch.{batch_of}
use Rattle.cell_model.specs.Cell.{Cell}
use Rattle.log_model.specs.declared.name.NameKind.TheVariants as kinds
use Rattle.log_model.specs.Entry.{Entry}
use Rattle.script_model.specs.Report.{cell_line, end_line}
use Rattle.script_model.specs.Outputs.{entry_text, dump_text}
use Rattle.wal_dump.specs.Kinds.{kind_word}

-- the cell of r f q at 1 with these tags
abbrev tagged : List ℕ → Cell
tagged tags = record { row = codes "r"; family = codes "f"; qualifier = codes "q"; ts = 1; kind = 4; value = codes "v"; tags = tags }

abbrev named : Entry
named = record { region = 1; number = 1; time = 1000; batch = record { table = codes "t"; cells = tagged (codes "ab") ∷ [] } }

abbrev plain : Entry
plain = record { region = 1; number = 2; time = 1000; batch = batch_of (tagged [] ∷ []) }

pub with_both : dump_text (kind_word kinds.Log) 1 (named ∷ []) None ≡ codes "log 1\nentry 1 1 1000 1\ntable t\ncell 1 r f q 1 put v ab\nend 0\n"
unfolding entry_text cell_line end_line digits
with_both = refl

-- the name of a table is printed for the entry that has it alone
pub behind_a_table : dump_text (kind_word kinds.Old) 3 (named ∷ plain ∷ []) (Some 2)
    ≡ codes "old 3\nentry 1 1 1000 1\ntable t\ncell 1 r f q 1 put v ab\nentry 1 2 1000 1\ncell 2 r f q 1 put v\nended 2\nend 0\n"
unfolding entry_text cell_line end_line digits
behind_a_table = refl

-- a name of `-` alone, and a byte that is no plain one
abbrev odd : Entry
odd = record { region = 64; number = 7; time = 0; batch = record { table = codes "-"; cells = tagged (32 ∷ []) ∷ tagged [] ∷ [] } }

pub escaped : dump_text (kind_word kinds.Log) 1 (odd ∷ []) None ≡ codes "log 1\nentry 64 7 0 2\ntable %2D\ncell 7 r f q 1 put v %20\ncell 7 r f q 1 put v\nend 0\n"
unfolding entry_text cell_line end_line digits
escaped = refl
