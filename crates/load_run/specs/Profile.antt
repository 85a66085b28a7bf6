-- What the top call says of a command, and of words that name none.
use Rattle.std.specs.Prelude.{◌≡◌, ℕ, List, [], ◌∷◌, Option, Some, None}
use Rattle.log_model.specs.declared.damage.Damage.{Damage}
use Rattle.log_model.specs.Files.{Files}
use Rattle.disk_images.specs.Crash.{DiskView, IsImageNow}
use Rattle.script_model.specs.Fields.{Why}
use Rattle.script_model.specs.Script.{script_fault}
use Rattle.script_model.specs.declared.command.Command.{Command}
use Rattle.command_base.specs.Invocation.{Invocation}
use Rattle.command_base.specs.Status.{IsComplete, IsReadingEnd}
use Rattle.command_base.specs.declared.status.Status.{Status}
use Rattle.command_base.specs.declared.status.Status.TheVariants as statuses

pub record Profile : Type 1 where
  -- What stands with each status. `rose` says that the disk's count of faults did, `sank` that the sink's did.
  pub ends : Status → Invocation → (rose sank : Type 0) → Type 0
  -- with which statuses it ends, whatever the disk, the source and the sink tell
  pub may_end : Status → Type 0
  -- what a stop at any moment may leave, by the source's bytes and the disk as found
  pub may_leave : (script : List ℕ) → (before : DiskView) → Files → Type 0
  -- What that wants of the source: that it tells its bytes (`told`), where the script tells what a stop may leave.
  pub wants_source : (told : Type 0) → Type 0
  -- Where the status has a refusal line, that line alone is printed.
  pub line : Status → Type 0
  -- with which statuses the disk stays as it was
  pub leaves_disk : Status → Type 0
  -- damage is of the files as found, and no file reads otherwise
  pub damage_leaves : Type 0
  -- for whom the script is, where it takes one
  pub script : Option Command
  -- what is damaged, in the files as found and in those that it left
  pub damage : (found left : Files) → Damage → Type 0
  -- damage that it must tell
  pub must_tell : (found : Files) → Damage → Type 0
  -- the statuses that are decided before damage
  pub earlier : List Status
  -- a log has fewer entries than stand before a position: its number, and how many it has
  pub no_position : (found : Files) → (file has : ℕ) → Type 0
  -- it wants an empty store
  pub wants_empty : Type 0
  -- its puts may find the numbers of a region spent
  pub may_spend : Type 0
  -- the script and the store are as it wants them
  pub ready : (script : List ℕ) → (found : Files) → Type 0
  -- with which statuses it ends then, where nothing fails
  pub complete : Status → Type 0

-- A command that takes no script, leaves the disk as it was and finds no damage, so that its line alone refuses. It says itself
-- what stands with its statuses: nothing does here.
abbrev pub plain : Profile
plain = record {
  ends = λ status o rose sank. ⊥;
  may_end = IsReadingEnd;
  may_leave = λ script. IsImageNow;
  wants_source = λ told. Unit {0};
  line = λ status. Unit {0};
  leaves_disk = λ status. Unit {0};
  damage_leaves = Unit {0};
  script = None;
  damage = λ found left damage. ⊥;
  must_tell = λ found damage. ⊥;
  earlier = statuses.DiskFault ∷ [];
  no_position = λ found file has. ⊥;
  wants_empty = ⊥;
  may_spend = ⊥;
  ready = λ script found. Unit {0};
  complete = IsComplete;
}

-- ---- scripts

-- the script's first wrong line for the command, with its cause
abbrev pub IsWrongAt : Profile → List ℕ → ℕ → Why → Type 0
IsWrongAt profile script line why = (command : Command) × (profile.script ≡ Some command) × (script_fault command script ≡ Some (line, why))

-- A script that is right for the command, where it takes one. `told` says that the source tells its bytes.
abbrev pub HasRightScript : Profile → Type 0 → List ℕ → Type 0
HasRightScript profile told script = (command : Command) → profile.script ≡ Some command → told × (script_fault command script ≡ None)

-- ---- spent numbers

-- where a put found the numbers of its region spent
abbrev pub IfSpent : Status → Type 0 → Type 0
IfSpent (statuses.NumbersSpent region last) P = P
IfSpent _ P = Unit {0}
