use Rattle.std.proofs.Common.{◌≡◌, ◌≤◌, ◌<◌, List, ℕ, length, take}
use Rattle.std.specs.Prelude.{slice_index}
use Rattle.log_model.specs.Files.{Reads}
use Rattle.disk_fakes.specs.Safe.{no_files, files_after}
use Rattle.disk_fakes.specs.SafeViews.{safe_files}
use Rattle.disk_fakes.proofs.safe_disk.SafeDisk.byte_at.Given as goal

abbrev pub invariant-loop-left : goal.invariant-loop-left
invariant-loop-left l =
    (l.left ≤ length l.self.calls.items)
    × ((e : List ℕ) × Reads (files_after l.self.arena.items no_files (take l.left l.self.calls.items)) l.current e × (l.place < length e) × ((c : List ℕ) → Reads (safe_files l.self) l.fn.name c → slice_index e l.place ≡ slice_index c l.place))

abbrev pub decreases-loop-left : goal.decreases-loop-left
decreases-loop-left l = l.left
