use Rattle.folder_system.proofs.Adapter.{pinned}
use Rattle.folder_system.proofs.Opened.{open_still}
use Rattle.folder_system.proofs.disk.SystemDiskDisk.names.Goals as goal

pub invariant_of-self-in-Ok-1 : goal.invariant_of-self-in-Ok-1
invariant_of-self-in-Ok-1 g c = record {
  sound = c.args.self.now.sound;
  sure = λ told sound. (c.list.ensures.keeps told).sure (c.args.self.now.sure told sound);
  plain = λ told may. (c.list.ensures.keeps told).plain (c.args.self.now.plain told may);
  there = λ told settled. ((c.list.ensures.keeps told).pinned (pinned (g.S.System.view c.args.self.now.system) (c.args.self.now.there told settled) (c.args.self.now.alone told settled))).there;
  alone = λ told settled. ((c.list.ensures.keeps told).pinned (pinned (g.S.System.view c.args.self.now.system) (c.args.self.now.there told settled) (c.args.self.now.alone told settled))).alone;
  opened = λ told sound. open_still g.S.System.inode (g.S.System.view c.args.self.now.system) (g.S.System.view c.list.new.system) c.args.self.now.files.files.items c.args.self.now.files.files.items
      (c.list.ensures.stays told) (λ f has. has) (c.args.self.now.opened told sound);
}

pub invariant_of-self-then-eq : goal.invariant_of-self-then-eq
invariant_of-self-then-eq g c = record {
  sound = c.args.self.now.sound;
  sure = λ told sound. (c.list.ensures.keeps told).sure (c.args.self.now.sure told sound);
  plain = λ told may. (c.list.ensures.keeps told).plain (c.args.self.now.plain told may);
  there = λ told settled. ((c.list.ensures.keeps told).pinned (pinned (g.S.System.view c.args.self.now.system) (c.args.self.now.there told settled) (c.args.self.now.alone told settled))).there;
  alone = λ told settled. ((c.list.ensures.keeps told).pinned (pinned (g.S.System.view c.args.self.now.system) (c.args.self.now.there told settled) (c.args.self.now.alone told settled))).alone;
  opened = λ told sound. open_still g.S.System.inode (g.S.System.view c.args.self.now.system) (g.S.System.view c.list.new.system) c.args.self.now.files.files.items c.args.self.now.files.files.items
      (c.list.ensures.stays told) (λ f has. has) (c.args.self.now.opened told sound);
}
