-- The word of a log's kind.
use Rattle.std.specs.Prelude.{ℕ, List, codes}
use Rattle.log_model.specs.declared.name.NameKind.{NameKind}
use Rattle.log_model.specs.declared.name.NameKind.TheVariants as kinds

abbrev pub kind_word : NameKind → List ℕ
kind_word kinds.Log = codes "log"
kind_word kinds.Old = codes "old"
kind_word kinds.Store = codes "store"
kind_word kinds.Edits = codes "edits"
