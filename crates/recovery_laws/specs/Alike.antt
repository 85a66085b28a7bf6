-- Files that recover to the same for every region.
use Rattle.std.specs.Prelude.{◌≡◌, ◌≢◌, ℕ}
use Rattle.log_model.specs.declared.name.Name.{Name}
use Rattle.log_model.specs.declared.name.NameKind.TheVariants as kinds
use Rattle.log_model.specs.Files.{Files, content}
use Rattle.log_model.specs.Recovered.{RecoversAlike}

-- the new files are fit, and recover to what the old ones do for every region, up to the same sequence ids
abbrev pub AllAlike : Files → Files → Type 0
AllAlike old new = (r : ℕ) → RecoversAlike old new r

-- but for old logs each file is the same
abbrev pub SameButOld : Files → Files → Type 0
SameButOld old new = (m : Name) → m.kind ≢ kinds.Old → content new m ≡ content old m

-- each store file is the same
abbrev pub StoresStand : Files → Files → Type 0
StoresStand old new = (m : Name) → m.kind ≡ kinds.Store → content new m ≡ content old m
