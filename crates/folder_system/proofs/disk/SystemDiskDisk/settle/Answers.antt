use Rattle.folder_system.proofs.Opened.{open_still}
use Rattle.folder_system.proofs.disk.SystemDiskDisk.settle.Goals as goal

pub invariant_of-self-in-Ok : goal.invariant_of-self-in-Ok
invariant_of-self-in-Ok g c = record {
  sound = c.args.self.now.sound;
  sure = λ told sound. (c.in-Ok.ensures.keeps told).sure (c.args.self.now.sure told sound);
  plain = λ told may. (c.in-Ok.ensures.keeps told).plain (c.args.self.now.plain told may);
  there = λ told settled. (c.in-Ok.ensures.pinned told).there;
  alone = λ told settled. (c.in-Ok.ensures.pinned told).alone;
  opened = λ told sound. open_still g.S.System.inode (g.S.System.view c.args.self.now.system) (g.S.System.view c.settle_names.new.system) c.args.self.now.files.files.items c.args.self.now.files.files.items (c.settle_names.ensures.stays told) (λ f has. has) (c.args.self.now.opened told sound);
}

pub settle_names-requires : goal.settle_names-requires
settle_names-requires g c told = c.args.self.now.sure told (c.args.self.now.sound c.if-not-self.false)
