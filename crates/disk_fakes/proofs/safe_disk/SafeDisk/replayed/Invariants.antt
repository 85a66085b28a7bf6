use Rattle.std.proofs.Common.{◌≡◌, take}
use Rattle.disk_fakes.specs.Table.{files_in}
use Rattle.disk_fakes.specs.Safe.{no_files, files_after}
use Rattle.disk_fakes.proofs.safe_disk.SafeDisk.replayed.Given as goal

abbrev pub invariant-loop-call : goal.invariant-loop-call
invariant-loop-call l = files_in l.table ≡ files_after l.self.arena.items no_files (take l.call-index l.self.calls.items)
