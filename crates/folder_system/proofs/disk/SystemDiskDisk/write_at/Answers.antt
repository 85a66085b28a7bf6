use Rattle.folder_system.specs.View.{disk_view}
use Rattle.folder_system.proofs.Adapter.{pinned, writes_ok, no_write}
use Rattle.folder_system.proofs.disk.SystemDiskDisk.write_at.Goals as goal

pub invariant_of-self-in-Ok : goal.invariant_of-self-in-Ok
invariant_of-self-in-Ok g c = record {
  sound = c.args.self.now.sound;
  sure = λ told sound. (c.in-Ok.ensures.keeps told).sure (c.args.self.now.sure told sound);
  plain = λ told may. (c.in-Ok.ensures.keeps told).plain (c.args.self.now.plain told may);
  there = λ told settled. ((c.in-Ok.ensures.keeps told).pinned (pinned (g.S.System.view c.args.self.now.system) (c.args.self.now.there told settled) (c.args.self.now.alone told settled))).there;
  alone = λ told settled. ((c.in-Ok.ensures.keeps told).pinned (pinned (g.S.System.view c.args.self.now.system) (c.args.self.now.there told settled) (c.args.self.now.alone told settled))).alone;
  opened = λ told sound. c.in-Ok.ensures.kept told;
}

pub write_file-requires-clause-opened : goal.write_file-requires-clause-opened
write_file-requires-clause-opened g c told = c.args.self.now.opened told (c.args.self.now.sound c.if-not-self.false)

pub write_file-requires-clause-sure : goal.write_file-requires-clause-sure
write_file-requires-clause-sure g c told = c.args.self.now.sure told (c.args.self.now.sound c.if-not-self.false)

pub write_file-requires-clause-plain : goal.write_file-requires-clause-plain
write_file-requires-clause-plain g c told = c.args.self.now.plain told c.if-not-self.false

pub returns-then-not-self-clause-writes : goal.returns-then-not-self-clause-writes
returns-then-not-self-clause-writes g c told = no_write _ (disk_view (g.S.System.view c.args.self.now.system)) c.args.name c.args.at c.args.bytes.now

pub returns-in-Ok-clause-writes : goal.returns-in-Ok-clause-writes
returns-in-Ok-clause-writes g c told = writes_ok (disk_view (g.S.System.view c.args.self.now.system)) (disk_view (g.S.System.view c.write_file.new.system)) c.args.name c.args.at c.args.bytes.now _ _ (c.in-Ok.ensures.writes told)
