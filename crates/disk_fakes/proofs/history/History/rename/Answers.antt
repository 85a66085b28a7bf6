use Rattle.std.proofs.Common.{Ok, Err, refl}
use Rattle.disk_fakes.specs.declared.op.Op.TheVariants.{Rename}
use Rattle.disk_fakes.specs.Table.{files_in}
use Rattle.disk_fakes.specs.Views.{history_view}
use Rattle.disk_images.specs.Calls.{Renames}
use Rattle.disk_images.specs.declared.disk.Failed.{Failed}
use Rattle.disk_fakes.proofs.Steps.{did, stays, renames, renames_not}
use Rattle.disk_fakes.proofs.history.History.rename.Goals as goal

pub returns-then-fails : goal.returns-then-fails
returns-then-fails c = renames_not _ (history_view c.args.self.now) c.args.from c.args.to refl

pub returns-in-Ok : goal.returns-in-Ok
returns-in-Ok c =
    did (λ w. Renames {T = Unit {0}} {E = Failed} c.args.from c.args.to (Ok tt) (history_view c.args.self.now) w) (files_in c.args.self.now.first) (files_in c.rename_file.new.self.first) c.args.self.now.ops.items c.rename_file.new.self.ops.items (Rename c.args.from c.args.to) c.in-Ok.ensures.did.first c.in-Ok.ensures.did.ops
    (renames _ (history_view c.args.self.now) c.args.from c.args.to c.requires.0 c.requires.1)

pub returns-in-Err : goal.returns-in-Err
returns-in-Err c =
    stays (λ w. Renames {T = Unit {0}} {E = Failed} c.args.from c.args.to (Err record {}) (history_view c.args.self.now) w) (files_in c.args.self.now.first) (files_in c.rename_file.new.self.first) c.args.self.now.ops.items c.rename_file.new.self.ops.items c.in-Err.ensures.stays.first c.in-Err.ensures.stays.ops
    (renames_not _ (history_view c.args.self.now) c.args.from c.args.to refl)
