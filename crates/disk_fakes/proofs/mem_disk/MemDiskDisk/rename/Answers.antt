use Rattle.disk_fakes.specs.Views.{view_of}
use Rattle.disk_fakes.proofs.Steps.{is_there}
use Rattle.std.proofs.Common.{refl}
use Rattle.disk_fakes.proofs.mem_disk.MemDiskDisk.rename.Goals as goal

pub rename-done-requires : goal.rename-done-requires
rename-done-requires c = let to = c.requires.to refl in (is_there (view_of c.args.self.now).files c.args.from (c.requires.from refl), to.0, to.1, c.requires.named)
