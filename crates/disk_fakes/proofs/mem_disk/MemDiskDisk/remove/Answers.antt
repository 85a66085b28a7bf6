use Rattle.disk_fakes.specs.Views.{view_of}
use Rattle.disk_fakes.proofs.Steps.{is_there}
use Rattle.std.proofs.Common.{refl}
use Rattle.disk_fakes.proofs.mem_disk.MemDiskDisk.remove.Goals as goal

pub remove-done-requires : goal.remove-done-requires
remove-done-requires c = is_there (view_of c.args.self.now).files c.args.name (c.requires refl)
