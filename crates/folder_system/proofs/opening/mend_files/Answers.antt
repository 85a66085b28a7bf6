use Rattle.std.proofs.Common.{IsTrue, arith}
use Rattle.log_model.specs.declared.name.Name.{Name}
use Rattle.log_model.specs.declared.name.NameKind.TheVariants as kinds
use Rattle.folder_system.proofs.Mended.{none_mended, one_more, this_there}
use Rattle.folder_system.proofs.opening.mend_files.Goals as goal

abbrev some_name : Name
some_name = record { kind = kinds.Log; region = 0; number = 0 }

pub loop-name-init : goal.loop-name-init
loop-name-init g c = (none_mended (IsTrue g.S.System.told) (g.S.System.view c.args.system.now) c.args.names.now, omega arith)

pub loop-name-preserved : goal.loop-name-preserved
loop-name-preserved g c = (
  one_more (IsTrue g.S.System.told) (g.S.System.view c.args.system.now) (g.S.System.view c.loop-name.system) (g.S.System.view c.mend_file.new.system) c.args.names.now c.loop-name.name-index some_name
      c.loop-name-test.true c.loop-name.invariant.0 c.in-Ok.ensures.renews,
  omega (arith, c.loop-name.invariant.1, c.mend_file.ensures.cause.later),
)

pub mend_file-requires : goal.mend_file-requires
mend_file-requires g c = record {
  there = this_there (IsTrue g.S.System.told) (g.S.System.view c.args.system.now) (g.S.System.view c.loop-name.system) c.args.names.now c.loop-name.name-index some_name
      c.loop-name-test.true c.loop-name.invariant.0 c.requires.there;
}
