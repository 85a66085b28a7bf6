-- What a disk in memory tells.
use Rattle.std.specs.Prelude.{◌≡◌, ℕ, [], ◌∷◌, ◌++◌}
use Rattle.disk_images.specs.Crash.{DiskView}
use Rattle.disk_fakes.specs.Table.{files_in}
use Rattle.disk_fakes.specs.History.{after, quiet}
use Rattle.disk_fakes.specs.Plan.{count_of}
use Rattle.disk_fakes.specs.declared.fail.CallKind.{CallKind}
use Rattle.disk_fakes.specs.declared.op.Op.{Op}
use Rattle.disk_fakes.specs.declared.history.History.{History}
use Rattle.disk_fakes.specs.declared.mem_disk.MemDisk.{MemDisk}

abbrev pub history_view : History → DiskView
history_view h = after (quiet (files_in h.first)) h.ops.items

abbrev pub view_of : MemDisk → DiskView
view_of disk = history_view disk.history

abbrev pub faults_of : MemDisk → ℕ
faults_of disk = disk.plan.faults

abbrev pub calls_of : MemDisk → CallKind → ℕ
calls_of disk call = count_of disk.plan call

-- one call more
pub record Did (op : Op) (old new : History) : Type 0 where
  pub first : files_in new.first ≡ files_in old.first
  pub ops : new.ops.items ≡ old.ops.items ++ op ∷ []

-- no call more
pub record Stays (old new : History) : Type 0 where
  pub first : files_in new.first ≡ files_in old.first
  pub ops : new.ops.items ≡ old.ops.items
