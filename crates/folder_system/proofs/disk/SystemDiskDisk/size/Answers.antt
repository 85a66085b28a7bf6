use Rattle.folder_system.proofs.Adapter.{pinned}
use Rattle.folder_system.proofs.Opened.{open_still}
use Rattle.folder_system.proofs.disk.SystemDiskDisk.size.Goals as goal

pub invariant_of-self-in-Ok-1 : goal.invariant_of-self-in-Ok-1
invariant_of-self-in-Ok-1 g c = record {
  sound = c.args.self.now.sound;
  sure = λ told sound. (c.size_of.ensures.keeps told).sure (c.args.self.now.sure told sound);
  plain = λ told may. (c.size_of.ensures.keeps told).plain (c.args.self.now.plain told may);
  there = λ told settled. ((c.size_of.ensures.keeps told).pinned (pinned (g.S.System.view c.args.self.now.system) (c.args.self.now.there told settled) (c.args.self.now.alone told settled))).there;
  alone = λ told settled. ((c.size_of.ensures.keeps told).pinned (pinned (g.S.System.view c.args.self.now.system) (c.args.self.now.there told settled) (c.args.self.now.alone told settled))).alone;
  opened = λ told sound. open_still g.S.System.inode (g.S.System.view c.args.self.now.system) (g.S.System.view c.size_of.new.system) c.args.self.now.files.files.items c.args.self.now.files.files.items
      (c.size_of.ensures.stays told) (λ f has. has) (c.args.self.now.opened told sound);
}
