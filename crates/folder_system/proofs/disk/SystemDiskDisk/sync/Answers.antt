use Rattle.folder_system.specs.View.{disk_view}
use Rattle.folder_system.proofs.Adapter.{pinned, syncs_ok}
use Rattle.folder_system.proofs.disk.SystemDiskDisk.sync.Goals as goal

pub invariant_of-self-in-Ok : goal.invariant_of-self-in-Ok
invariant_of-self-in-Ok g c = record {
  sound = c.args.self.now.sound;
  sure = λ told sound. (c.in-Ok.ensures.keeps told).sure (c.args.self.now.sure told sound);
  plain = λ told may. (c.in-Ok.ensures.keeps told).plain (c.args.self.now.plain told may);
  there = λ told settled. (c.in-Ok.ensures.pinned told).there;
  alone = λ told settled. (c.in-Ok.ensures.pinned told).alone;
  opened = λ told sound. c.in-Ok.ensures.kept told;
}

pub sync_file-requires-clause-opened : goal.sync_file-requires-clause-opened
sync_file-requires-clause-opened g c told = c.args.self.now.opened told (c.args.self.now.sound c.if-not-self.false)

pub sync_file-requires-clause-sure : goal.sync_file-requires-clause-sure
sync_file-requires-clause-sure g c told = c.args.self.now.sure told (c.args.self.now.sound c.if-not-self.false)

pub sync_file-requires-clause-settled : goal.sync_file-requires-clause-settled
sync_file-requires-clause-settled g c told settled = pinned (g.S.System.view c.args.self.now.system) (c.args.self.now.there told settled) (c.args.self.now.alone told settled)

pub returns-in-Ok-clause-syncs : goal.returns-in-Ok-clause-syncs
returns-in-Ok-clause-syncs g c told = syncs_ok (disk_view (g.S.System.view c.args.self.now.system)) (disk_view (g.S.System.view c.sync_file.new.system)) c.args.name _ _ (c.in-Ok.ensures.syncs told)
