use Rattle.std.proofs.Common.{Ok, Err, refl}
use Rattle.disk_fakes.specs.declared.op.Op.TheVariants.{Settle}
use Rattle.disk_fakes.specs.Table.{files_in}
use Rattle.disk_fakes.specs.Views.{history_view}
use Rattle.disk_images.specs.Calls.{Settles}
use Rattle.disk_images.specs.declared.disk.Failed.{Failed}
use Rattle.disk_fakes.proofs.Steps.{did, stays, settles, settles_not}
use Rattle.disk_fakes.proofs.history.History.settle.Goals as goal

pub returns-then-fails : goal.returns-then-fails
returns-then-fails c = settles_not _ (history_view c.args.self.now) refl

pub returns-in-Ok : goal.returns-in-Ok
returns-in-Ok c =
    did (λ w. Settles {T = Unit {0}} {E = Failed} (Ok tt) (history_view c.args.self.now) w) (files_in c.args.self.now.first) (files_in c.note_settle.new.self.first) c.args.self.now.ops.items c.note_settle.new.self.ops.items (Settle) c.in-Ok.ensures.did.first c.in-Ok.ensures.did.ops
    (settles _ (history_view c.args.self.now))

pub returns-in-Err : goal.returns-in-Err
returns-in-Err c =
    stays (λ w. Settles {T = Unit {0}} {E = Failed} (Err record {}) (history_view c.args.self.now) w) (files_in c.args.self.now.first) (files_in c.note_settle.new.self.first) c.args.self.now.ops.items c.note_settle.new.self.ops.items c.in-Err.ensures.stays.first c.in-Err.ensures.stays.ops
    (settles_not _ (history_view c.args.self.now) refl)
