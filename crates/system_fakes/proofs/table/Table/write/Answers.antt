use Rattle.std.proofs.Common.{◌≡◌, ◌++◌, refl}
use Rattle.std.proofs.lemmas.Result.{on_ok_weaker, on_err_weaker}
use Rattle.system_fakes.proofs.Names.{held_same}
use Rattle.system_fakes.proofs.table.Table.write.Goals as goal

pub returns-clause-written : goal.returns-clause-written
returns-clause-written c = on_ok_weaker c.write_file.result (λ is. held_same _ _ refl refl is refl) c.write_file.ensures.written

pub returns-clause-err : goal.returns-clause-err
returns-clause-err c = on_err_weaker c.write_file.result (λ is. held_same _ _ refl refl is refl) c.write_file.ensures.err
