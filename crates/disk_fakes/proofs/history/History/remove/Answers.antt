use Rattle.std.proofs.Common.{Ok, Err, refl}
use Rattle.disk_fakes.specs.declared.op.Op.TheVariants.{Remove}
use Rattle.disk_fakes.specs.Table.{files_in}
use Rattle.disk_fakes.specs.Views.{history_view}
use Rattle.disk_images.specs.Calls.{Removes}
use Rattle.disk_images.specs.declared.disk.Failed.{Failed}
use Rattle.disk_fakes.proofs.Steps.{did, stays, removes, removes_not}
use Rattle.disk_fakes.proofs.history.History.remove.Goals as goal

pub returns-then-fails : goal.returns-then-fails
returns-then-fails c = removes_not _ (history_view c.args.self.now) c.args.name refl

pub returns-in-Ok : goal.returns-in-Ok
returns-in-Ok c =
    did (λ w. Removes {T = Unit {0}} {E = Failed} c.args.name (Ok tt) (history_view c.args.self.now) w) (files_in c.args.self.now.first) (files_in c.remove_file.new.self.first) c.args.self.now.ops.items c.remove_file.new.self.ops.items (Remove c.args.name) c.in-Ok.ensures.did.first c.in-Ok.ensures.did.ops
    (removes _ (history_view c.args.self.now) c.args.name)

pub returns-in-Err : goal.returns-in-Err
returns-in-Err c =
    stays (λ w. Removes {T = Unit {0}} {E = Failed} c.args.name (Err record {}) (history_view c.args.self.now) w) (files_in c.args.self.now.first) (files_in c.remove_file.new.self.first) c.args.self.now.ops.items c.remove_file.new.self.ops.items c.in-Err.ensures.stays.first c.in-Err.ensures.stays.ops
    (removes_not _ (history_view c.args.self.now) c.args.name refl)
