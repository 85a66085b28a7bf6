-- How many calls of a kind there were.
use Rattle.std.specs.Prelude.{ℕ, slice_index}
use Rattle.disk_fakes.specs.declared.fail.CallPlan.{CallPlan}
use Rattle.disk_fakes.specs.declared.fail.CallKind.{CallKind}
use Rattle.disk_fakes.specs.declared.fail.CallKind.TheVariants.{Names, Size, Read, Create, WriteAt, Sync, Rename, Remove, Settle}

abbrev pub place_of : CallKind → ℕ
place_of Names = 0
place_of Size = 1
place_of Read = 2
place_of Create = 3
place_of WriteAt = 4
place_of Sync = 5
place_of Rename = 6
place_of Remove = 7
place_of Settle = 8

abbrev pub count_of : CallPlan → CallKind → ℕ
count_of plan call = slice_index plan.counts (place_of call)
