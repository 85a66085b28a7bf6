use Rattle.folder_system.proofs.Adapter.{pinned}
use Rattle.folder_system.proofs.disk.SystemDiskDisk.read.Goals as goal

pub invariant_of-self-in-Ok-1 : goal.invariant_of-self-in-Ok-1
invariant_of-self-in-Ok-1 g c = record {
  sound = c.args.self.now.sound;
  sure = λ told sound. (c.in-Ok.ensures.keeps told).sure (c.args.self.now.sure told sound);
  plain = λ told may. (c.in-Ok.ensures.keeps told).plain (c.args.self.now.plain told may);
  there = λ told settled. ((c.in-Ok.ensures.keeps told).pinned (pinned (g.S.System.view c.args.self.now.system) (c.args.self.now.there told settled) (c.args.self.now.alone told settled))).there;
  alone = λ told settled. ((c.in-Ok.ensures.keeps told).pinned (pinned (g.S.System.view c.args.self.now.system) (c.args.self.now.there told settled) (c.args.self.now.alone told settled))).alone;
  opened = λ told sound. c.in-Ok.ensures.kept told;
}
