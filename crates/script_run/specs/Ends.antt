-- What stands once a script's handlers have returned.
use Rattle.std.specs.Prelude.{◌≡◌, ℕ, ◌≤◌, Bool, true, List, [], ◌∷◌, map, Option, None}
use Rattle.log_model.specs.Files.{Files}
use Rattle.disk_images.specs.Crash.{DiskView}
use Rattle.disk_images.specs.Calls.{Rose}
use Rattle.script_model.specs.Calls.{Script}
use Rattle.script_model.specs.Report.{ReplyLine}
use Rattle.server_model.specs.Pass.{Naming}
use Rattle.server_model.specs.Closing.{Handled, replies_of}
use Rattle.run_model.specs.Closed.{ClosedAt, Closed, FitsThroughout}
use Rattle.run_model.specs.declared.spent.Spent.{Spent}
use Rattle.run_model.specs.Spent.{first_spent, first_of}
use Rattle.run_model.specs.Headline.{reply_line, KeepsFound}
use Rattle.script_handlers.specs.region_calls.Wordings.{region_of}
use Rattle.script_handlers.specs.region_calls.declared.closed.ClosedRegion.{ClosedRegion}
use Rattle.script_run.specs.declared.served.Served.{Served}
use Rattle.script_run.specs.declared.served.Served.TheVariants as served

abbrev pub closed_at : ClosedRegion → ClosedAt
closed_at c = record { region = c.region; it = region_of c }

abbrev pub lines_of : Handled → List ReplyLine
lines_of h = map reply_line h.replies

-- the handlers ran and the server was closed, with these replies
pub record HasClosed (script : Script) (found : Files) (left : DiskView) (name : Naming) (regions : List ClosedRegion)
    (replies : List (List ReplyLine)) (spent : Option Spent) (broken : Bool) : Type 0 where
  pub handlers : List Handled
  pub closed : Closed script found left name handlers (map closed_at regions) broken
  pub lines : replies ≡ map lines_of handlers
  pub first_told : first_spent (replies_of handlers) ≡ spent

-- How it ends, on a disk that tells what it holds, which was found so: closed, each moment with a beginning of each region's
-- edits, or left with all cells that were found.
abbrev pub IsServed : {D : Type 0} → (D → DiskView) → Script → DiskView → Naming → Served D → Type 0
IsServed view script found name (served.Closed disk regions replies spent broken) =
    HasClosed script found.files (view disk) name regions.items replies.items spent broken × FitsThroughout found (view disk) (map closed_at regions.items)
IsServed view script found name (served.Left disk) = KeepsFound found (view disk)

abbrev pub disk_left : {D : Type 0} → Served D → D
disk_left (served.Closed disk regions replies spent broken) = disk
disk_left (served.Left disk) = disk

-- the disk is handed back, and a broken log has its cause
abbrev pub HasCount : {D : Type 0} → (D → ℕ) → ℕ → Served D → Type 0
HasCount faults before (served.Closed disk regions replies spent broken) = (before ≤ faults disk) × (broken ≡ true → Rose before (faults disk))
HasCount faults before (served.Left disk) = before ≤ faults disk

-- the first of several
abbrev pub first_of_all : List (Option Spent) → Option Spent
first_of_all [] = None
first_of_all (o ∷ os) = first_of o (first_of_all os)
