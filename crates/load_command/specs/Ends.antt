-- What stands with each status of a load.
use Rattle.std.specs.Prelude.{◌≡◌, ◌≢◌, ℕ, ◌⊎◌, List, []}
use Rattle.std.specs.FinMap.{keys}
use Rattle.disk_images.specs.Crash.{DiskView}
use Rattle.made_script.specs.Made.{AreOptions, made_script}
use Rattle.made_script.specs.declared.options.LoadOptions.{LoadOptions}
use Rattle.run_model.specs.Headline.{IsHeadline, AllKeep, KeepsFound, IsHalfOpened}
use Rattle.load_model.specs.Loaded.{HasLoaded, HasBroken, HasStopped}
use Rattle.command_base.specs.Invocation.{Invocation}
use Rattle.command_base.specs.Ends.{Effects, EndsAs}
use Rattle.command_base.specs.Status.{exit_status}
use Rattle.command_base.specs.declared.status.Status.{Status}
use Rattle.command_base.specs.declared.status.Status.TheVariants as ends

-- What stands with a text that is its output. Where out of memory alone is told, each image was one before, or has the cells that were there
-- before and no other ones of their numbers. Where a fault of the disk alone is told, nothing was run: at each moment each image was one before or
-- recovers alike.
abbrev pub loads : LoadOptions → Invocation → Effects
loads options o = record {
  done = λ text. ∥ HasLoaded options o.after text ∥₁;
  failed = λ text. ∥ HasBroken options o.before o.after text ⊎ HasStopped options o.after text ∥₁;
  no_memory = KeepsFound o.before o.after;
  no_disk = IsHalfOpened o.before o.after;
}

-- what stands with each status of the command
abbrev pub EndsLoad : Status → LoadOptions → Invocation → Type 0 → Type 0 → Type 0
EndsLoad status options o rose sank = EndsAs (loads options o) status rose sank o.taken

-- ---- parts

-- A load's script was run on an empty store with this status: there is a report of it, and no cell that was found is lost.
pub record HasEnded (options : LoadOptions) (before left : DiskView) (status : Status) : Type 0 where
  pub right : AreOptions options
  pub empty : keys before.files ≡ []
  pub keeps : AllKeep before.files left
  pub reported : status ≢ ends.Memory → ∥ ((report : List ℕ) × IsHeadline (made_script options) before left (exit_status status) report) ∥₁
