use Rattle.std.proofs.Common.{Ok, Err, refl}
use Rattle.disk_fakes.specs.declared.op.Op.TheVariants.{Write}
use Rattle.disk_fakes.specs.Table.{files_in}
use Rattle.disk_fakes.specs.Views.{history_view}
use Rattle.disk_images.specs.Calls.{Writes}
use Rattle.disk_images.specs.declared.disk.Failed.{Failed}
use Rattle.disk_fakes.proofs.Steps.{did, stays, writes, writes_not}
use Rattle.disk_images.proofs.Reading.{reads_back}
use Rattle.disk_fakes.proofs.history.History.write_at.Goals as goal

pub returns-then-at-ge-LIMIT-clause-writes : goal.returns-then-at-ge-LIMIT-clause-writes
returns-then-at-ge-LIMIT-clause-writes c = writes_not _ (history_view c.args.self.now) c.args.name c.args.at c.args.bytes.now refl

pub returns-then-fails-clause-writes : goal.returns-then-fails-clause-writes
returns-then-fails-clause-writes c =
    let d = c.in-Ok.ensures.did in
    did (λ w. Writes {T = Unit {0}} {E = Failed} c.args.name c.args.at c.args.bytes.now (Err record {}) (history_view c.args.self.now) w) (files_in c.args.self.now.first) (files_in c.write_file.new.self.first) c.args.self.now.ops.items c.write_file.new.self.ops.items (Write c.args.name c.args.at d.0) d.3.first d.3.ops
    (writes _ (history_view c.args.self.now) c.args.name c.args.at d.0 c.args.bytes.now d.1 tt (reads_back (history_view c.args.self.now).files c.args.name c.args.at c.requires))

pub returns-else-fails-clause-writes : goal.returns-else-fails-clause-writes
returns-else-fails-clause-writes c =
    let d = c.in-Ok.ensures.did in
    did (λ w. Writes {T = Unit {0}} {E = Failed} c.args.name c.args.at c.args.bytes.now (Ok tt) (history_view c.args.self.now) w) (files_in c.args.self.now.first) (files_in c.write_file.new.self.first) c.args.self.now.ops.items c.write_file.new.self.ops.items (Write c.args.name c.args.at d.0) d.3.first d.3.ops
    (writes _ (history_view c.args.self.now) c.args.name c.args.at d.0 c.args.bytes.now d.1 (d.2 c.if-fails.false) (reads_back (history_view c.args.self.now).files c.args.name c.args.at c.requires))

pub returns-in-Err-clause-writes : goal.returns-in-Err-clause-writes
returns-in-Err-clause-writes c =
    stays (λ w. Writes {T = Unit {0}} {E = Failed} c.args.name c.args.at c.args.bytes.now (Err record {}) (history_view c.args.self.now) w) (files_in c.args.self.now.first) (files_in c.write_file.new.self.first) c.args.self.now.ops.items c.write_file.new.self.ops.items c.in-Err.ensures.stays.first c.in-Err.ensures.stays.ops
    (writes_not _ (history_view c.args.self.now) c.args.name c.args.at c.args.bytes.now refl)
