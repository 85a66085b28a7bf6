-- What framing the puts of calls keeps.
use Rattle.std.proofs.Common.{◌≡◌, ◌≤◌, ◌+◌, ℕ, List, ◌++◌, map, length}
use Rattle.std.specs.List.{AllByRecursion}
use Rattle.log_model.specs.Entry.{IsEntry, entry_frame}
use Rattle.region_model.specs.Calls.{Call}
use Rattle.log_command.specs.Logged.{entries_from}

-- the frames of the calls' puts stand after those that were there, and are numbered on from them
pub record Framed (time : ℕ) (before frames : List (List ℕ)) (calls : List Call) : Type 0 where
  pub framed : frames ≡ before ++ map entry_frame (entries_from time (length before + 1) calls)
  pub entries : AllByRecursion IsEntry (entries_from time (length before + 1) calls)

-- so, and no more than this many frames came
pub record FramedFew (time : ℕ) (before frames : List (List ℕ)) (calls : List Call) (most : ℕ) : Type 0 where
  pub each : Framed time before frames calls
  pub few : length frames ≤ length before + most
