use Rattle.std.proofs.Common.{◌≡◌, ◌≤◌, length, take}
use Rattle.log_model.specs.Files.{content, size_of}
use Rattle.disk_fakes.specs.Safe.{no_files, files_after, size_with}
use Rattle.disk_fakes.specs.SafeViews.{safe_files}
use Rattle.disk_fakes.proofs.safe_disk.SafeDisk.size_of.Given as goal

abbrev pub invariant-loop-left : goal.invariant-loop-left
invariant-loop-left l =
    (l.left ≤ length l.self.calls.items)
    × (size_of (content (safe_files l.self) l.fn.name) ≡ size_with (content (files_after l.self.arena.items no_files (take l.left l.self.calls.items)) l.current) l.reach)

abbrev pub decreases-loop-left : goal.decreases-loop-left
decreases-loop-left l = l.left
