use Rattle.std.proofs.Common.{true≢false, sym}
use Rattle.folder_system.specs.View.{disk_view}
use Rattle.folder_system.proofs.Adapter.{good, creates_ok, no_create}
use Rattle.folder_system.proofs.disk.SystemDiskDisk.create.Goals as goal

pub invariant_of-self-in-Ok : goal.invariant_of-self-in-Ok
invariant_of-self-in-Ok g c = record {
  sound = c.args.self.now.sound;
  sure = λ told sound. (c.in-Ok.ensures.good told (good (g.S.System.view c.args.self.now.system) (c.args.self.now.sure told (c.args.self.now.sound c.if-not-self.false)) (c.args.self.now.plain told c.if-not-self.false))).sure;
  plain = λ told may. (c.in-Ok.ensures.good told (good (g.S.System.view c.args.self.now.system) (c.args.self.now.sure told (c.args.self.now.sound c.if-not-self.false)) (c.args.self.now.plain told c.if-not-self.false))).plain;
  there = λ told settled. absurd (true≢false (sym settled));
  alone = λ told settled. absurd (true≢false (sym settled));
  opened = λ told sound. c.in-Ok.ensures.kept told;
}

pub create_file-requires-clause-opened : goal.create_file-requires-clause-opened
create_file-requires-clause-opened g c told = c.args.self.now.opened told (c.args.self.now.sound c.if-not-self.false)

pub create_file-requires-clause-sure : goal.create_file-requires-clause-sure
create_file-requires-clause-sure g c told = c.args.self.now.sure told (c.args.self.now.sound c.if-not-self.false)

pub returns-then-not-self-clause-creates : goal.returns-then-not-self-clause-creates
returns-then-not-self-clause-creates g c told = no_create _ (disk_view (g.S.System.view c.args.self.now.system)) c.args.name (c.requires.absent told).0

pub returns-in-Ok-clause-creates : goal.returns-in-Ok-clause-creates
returns-in-Ok-clause-creates g c told = creates_ok (disk_view (g.S.System.view c.args.self.now.system)) (disk_view (g.S.System.view c.create_file.new.system)) c.args.name _ _ (c.in-Ok.ensures.creates told)
