-- The numbers of logs.
use Rattle.std.specs.Prelude.{ℕ, List, [], ◌∷◌}
use Rattle.std.specs.List.{flat_map}
use Rattle.log_model.specs.declared.name.Name.{Name}
use Rattle.log_model.specs.declared.name.NameKind.{NameKind}
use Rattle.log_model.specs.declared.name.NameKind.TheVariants as kinds

-- the number of a log, nothing of another file
abbrev pub log_number : NameKind → ℕ → List ℕ
log_number kinds.Log n = n ∷ []
log_number kinds.Old n = []
log_number kinds.Store n = []
log_number kinds.Edits n = []

-- the numbers of the logs among these names, in their order
abbrev pub logs_of : List Name → List ℕ
logs_of names = flat_map (λ (m : Name). log_number m.kind m.number) names
