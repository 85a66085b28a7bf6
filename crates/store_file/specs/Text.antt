-- The store that was read.
use Rattle.std.specs.Prelude.{ℕ}
use Rattle.log_model.specs.StoreText.{Store}
use Rattle.store_file.specs.declared.list.StoreText.{StoreText}

-- what stands in a store file of this region
abbrev pub store_in : ℕ → StoreText → Store
store_in region text = record { region = region; scope = text.scope; family = text.family; from = text.from; to = text.to; cells = text.cells }
