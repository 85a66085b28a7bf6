use Rattle.std.proofs.Common.{true≢false, sym}
use Rattle.folder_system.specs.View.{disk_view}
use Rattle.folder_system.proofs.Adapter.{good, renames_ok, renames_err, no_rename}
use Rattle.folder_system.proofs.disk.SystemDiskDisk.rename.Goals as goal

pub invariant_of-self-in-Ok : goal.invariant_of-self-in-Ok
invariant_of-self-in-Ok g c = record {
  sound = c.args.self.now.sound;
  sure = λ told sound. (c.in-Ok.ensures.good told (good (g.S.System.view c.args.self.now.system) (c.args.self.now.sure told (c.args.self.now.sound c.if-not-self.false)) (c.args.self.now.plain told c.if-not-self.false))).sure;
  plain = λ told may. (c.in-Ok.ensures.good told (good (g.S.System.view c.args.self.now.system) (c.args.self.now.sure told (c.args.self.now.sound c.if-not-self.false)) (c.args.self.now.plain told c.if-not-self.false))).plain;
  there = λ told settled. absurd (true≢false (sym settled));
  alone = λ told settled. absurd (true≢false (sym settled));
  opened = λ told sound. c.in-Ok.ensures.kept told;
}

pub rename_file-requires-clause-opened : goal.rename_file-requires-clause-opened
rename_file-requires-clause-opened g c told = c.args.self.now.opened told (c.args.self.now.sound c.if-not-self.false)

pub rename_file-requires-clause-sure : goal.rename_file-requires-clause-sure
rename_file-requires-clause-sure g c told = c.args.self.now.sure told (c.args.self.now.sound c.if-not-self.false)

pub rename_file-requires-clause-plain : goal.rename_file-requires-clause-plain
rename_file-requires-clause-plain g c told = c.args.self.now.plain told c.if-not-self.false

pub returns-then-not-self-clause-renames : goal.returns-then-not-self-clause-renames
returns-then-not-self-clause-renames g c told = no_rename _ (disk_view (g.S.System.view c.args.self.now.system)) c.args.from c.args.to

pub returns-in-Ok-clause-renames : goal.returns-in-Ok-clause-renames
returns-in-Ok-clause-renames g c told = renames_ok (disk_view (g.S.System.view c.args.self.now.system)) (disk_view (g.S.System.view c.rename_file.new.system)) c.args.from c.args.to _ _ (c.in-Ok.ensures.renames told)

pub returns-in-Err-clause-renames : goal.returns-in-Err-clause-renames
returns-in-Err-clause-renames g c told = renames_err (disk_view (g.S.System.view c.args.self.now.system)) (disk_view (g.S.System.view c.rename_file.new.system)) c.args.from c.args.to _ _ (c.in-Err.ensures.renames told)
