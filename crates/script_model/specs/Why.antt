-- The causes of the grammar, as the program has them.
use Rattle.std.specs.Prelude.{ℕ}
use Rattle.script_model.specs.Fields.{Why, why, cell_why}
use Rattle.script_model.specs.declared.why.CellField.{CellField}
use Rattle.script_model.specs.declared.why.CellField.TheVariants.{Row, Family, Qualifier, Value, Timestamp, Kind, Tags}
use Rattle.script_model.specs.declared.why.ScriptWhy.{ScriptWhy}
use Rattle.script_model.specs.declared.why.ScriptWhy.TheVariants.{Word, Number, Token, Region, Handler, Count, TooLong, Cell, NotHere, EntryLength, TableLength}

abbrev pub limit_of : CellField → ℕ
limit_of Row = 1
limit_of Family = 2
limit_of Qualifier = 3
limit_of Value = 4
limit_of Timestamp = 5
limit_of Kind = 6
limit_of Tags = 7

abbrev pub why_of : ScriptWhy → Why
why_of Word = why 1
why_of Number = why 2
why_of Token = why 3
why_of Region = why 4
why_of Handler = why 5
why_of Count = why 6
why_of TooLong = why 7
why_of (Cell field) = cell_why (limit_of field)
why_of NotHere = why 9
why_of EntryLength = why 10
why_of TableLength = why 12
