-- What a disk with fixed room tells.
use Rattle.std.specs.Prelude.{◌≡◌, ◌≤◌, ◌+◌, ℕ, List, [], ◌∷◌, ◌++◌, length, vec_len, vec_capacity}
use Rattle.log_model.specs.Files.{Files}
use Rattle.disk_images.specs.Crash.{DiskView}
use Rattle.disk_fakes.specs.declared.safe_call.SafeCall.{SafeCall}
use Rattle.disk_fakes.specs.declared.safe_disk.SafeDisk.{SafeDisk}
use Rattle.disk_fakes.specs.Safe.{no_files, files_after, view_in}

abbrev pub safe_view : SafeDisk → DiskView
safe_view disk = view_in disk.arena.items disk.calls.items

abbrev pub safe_files : SafeDisk → Files
safe_files disk = files_after disk.arena.items no_files disk.calls.items

abbrev pub disk_faults : SafeDisk → ℕ
disk_faults disk = disk.faults

-- so many calls more, with so many bytes in all, fit
pub record HasRoom (disk : SafeDisk) (calls bytes : ℕ) : Type 0 where
  pub calls_fit : vec_len disk.calls + calls ≤ vec_capacity disk.calls
  pub bytes_fit : vec_len disk.arena + bytes ≤ vec_capacity disk.arena

-- a call took no more of the room than so many calls and bytes: what there was beyond them is left
abbrev pub TakesAtMost : ℕ → ℕ → SafeDisk → SafeDisk → Type 0
TakesAtMost calls bytes old new = (more_calls more_bytes : ℕ) → HasRoom old (calls + more_calls) (bytes + more_bytes) → HasRoom new more_calls more_bytes

-- one call more, with these bytes
pub record Noted (call : SafeCall) (bytes : List ℕ) (old new : SafeDisk) : Type 0 where
  pub room : TakesAtMost 1 (length bytes) old new
  pub calls : new.calls.items ≡ old.calls.items ++ call ∷ []
  pub arena : new.arena.items ≡ old.arena.items ++ bytes
  pub faults : new.faults ≡ old.faults
