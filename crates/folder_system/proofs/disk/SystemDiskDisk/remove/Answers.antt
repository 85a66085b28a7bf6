use Rattle.folder_system.specs.View.{disk_view}
use Rattle.folder_system.proofs.Adapter.{pinned, removes_ok, no_remove}
use Rattle.folder_system.proofs.disk.SystemDiskDisk.remove.Goals as goal

pub invariant_of-self-in-Ok : goal.invariant_of-self-in-Ok
invariant_of-self-in-Ok g c = record {
  sound = c.args.self.now.sound;
  sure = λ told sound. (c.in-Ok.ensures.keeps told).sure (c.args.self.now.sure told sound);
  plain = λ told may. (c.in-Ok.ensures.keeps told).plain (c.args.self.now.plain told may);
  there = λ told settled. ((c.in-Ok.ensures.keeps told).pinned (pinned (g.S.System.view c.args.self.now.system) (c.args.self.now.there told settled) (c.args.self.now.alone told settled))).there;
  alone = λ told settled. ((c.in-Ok.ensures.keeps told).pinned (pinned (g.S.System.view c.args.self.now.system) (c.args.self.now.there told settled) (c.args.self.now.alone told settled))).alone;
  opened = λ told sound. c.in-Ok.ensures.kept told;
}

pub remove_file-requires-clause-opened : goal.remove_file-requires-clause-opened
remove_file-requires-clause-opened g c told = c.args.self.now.opened told (c.args.self.now.sound c.if-not-self.false)

pub remove_file-requires-clause-sure : goal.remove_file-requires-clause-sure
remove_file-requires-clause-sure g c told = c.args.self.now.sure told (c.args.self.now.sound c.if-not-self.false)

pub remove_file-requires-clause-plain : goal.remove_file-requires-clause-plain
remove_file-requires-clause-plain g c told = c.args.self.now.plain told c.if-not-self.false

pub returns-then-not-self-clause-removes : goal.returns-then-not-self-clause-removes
returns-then-not-self-clause-removes g c told = no_remove _ (disk_view (g.S.System.view c.args.self.now.system)) c.args.name

pub returns-in-Ok-clause-removes : goal.returns-in-Ok-clause-removes
returns-in-Ok-clause-removes g c told = removes_ok (disk_view (g.S.System.view c.args.self.now.system)) (disk_view (g.S.System.view c.remove_file.new.system)) c.args.name _ _ (c.in-Ok.ensures.removes told)
