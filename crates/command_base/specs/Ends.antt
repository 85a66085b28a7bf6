-- What stands with each status of a command.
use Rattle.std.specs.Prelude.{ℕ, ◌⊎◌, List}
use Rattle.cell_model.specs.Lists.{IsPrefix}
use Rattle.script_model.specs.Outputs.{refused_memory, refused_disk}
use Rattle.command_base.specs.Invocation.{Invocation, IsUnchanged, IsRefused}
use Rattle.command_base.specs.declared.status.Status.{Status}
use Rattle.command_base.specs.declared.status.Status.TheVariants as ends

pub record Effects : Type 1 where
  -- of a command, what stands with a text that is its output: where it was done, where a fault of the disk ended its work
  pub done : List ℕ → Type 0
  pub failed : List ℕ → Type 0
  -- and what stands where a line alone was printed: memory was refused, or the disk failed
  pub no_memory : Type 0
  pub no_disk : Type 0

-- what stands with an output, done or after a fault of the disk
pub data Stands (effects : Effects) (rose : Type 0) (text : List ℕ) : Type 0 where
  Done : effects.done text → Stands effects rose text
  Failed : rose → effects.failed text → Stands effects rose text

-- The sink failed: what it took begins the output. A line that refuses is none.
abbrev pub IsCutShort : Effects → Type 0 → List ℕ → Type 0
IsCutShort effects rose taken = (text : List ℕ) × IsPrefix taken text × Stands effects rose text

-- What stands with a status, by what the sink took. `rose` says that the disk's count of faults did, `sank` that the sink's
-- did.
abbrev pub EndsAs : Effects → Status → Type 0 → Type 0 → List ℕ → Type 0
EndsAs effects ends.Done rose sank taken = effects.done taken
EndsAs effects ends.Memory rose sank taken = IsRefused refused_memory sank taken × effects.no_memory
EndsAs effects ends.DiskFault rose sank taken = effects.failed taken ⊎ (IsRefused refused_disk sank taken × effects.no_disk)
EndsAs effects ends.SinkFault rose sank taken = IsCutShort effects rose taken
EndsAs effects (ends.NumbersSpent region last) rose sank taken = ⊥
EndsAs effects _ rose sank taken = Unit {0}

-- of a command that leaves the disk as it reads, and prints such a text where it is done
abbrev pub reads : (List ℕ → Type 0) → Invocation → Effects
reads printed o = record {
  done = λ text. printed text × IsUnchanged o.before o.after;
  failed = λ text. ⊥;
  no_memory = IsUnchanged o.before o.after;
  no_disk = IsUnchanged o.before o.after;
}
