-- The number of the current file.
use Rattle.std.specs.Prelude.{◌≡◌, ◌<◌, ◌≤◌, ◌+◌, ◌^◌, min, sum}
use Rattle.log_model.specs.declared.name.NameKind.TheVariants as kinds
use Rattle.log_file.specs.Open.{OpenLog}
use Rattle.log_ledger.specs.Numbers.{Numbers}

-- The current file is a log. Each file before it has an entry, so its number is bounded by the sequence ids drawn.
pub record IsNumbered (file : OpenLog) (b : Numbers) : Type 0 where
  pub kind : file.name.kind ≡ kinds.Log
  pub region : file.name.region ≡ 0
  pub bound : file.name.number + min 1 (file.entries + file.staged) ≤ 2 ^ 63 + 1 + sum b.drawn
  pub later : b.accounts.last < file.name.number
