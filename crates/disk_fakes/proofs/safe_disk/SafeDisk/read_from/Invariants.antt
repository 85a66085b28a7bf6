use Rattle.std.proofs.Common.{◌≡◌, List, ℕ, take, drop}
use Rattle.log_model.specs.Files.{Reads}
use Rattle.disk_fakes.specs.SafeViews.{safe_files}
use Rattle.disk_fakes.proofs.safe_disk.SafeDisk.read_from.Given as goal

abbrev pub invariant-loop-i : goal.invariant-loop-i
invariant-loop-i l =
    ((c : List ℕ) → Reads (safe_files l.self) l.name c → take l.i l.into ≡ take l.i (drop l.at c)) × (drop l.i l.into ≡ drop l.i l.initial.into)
