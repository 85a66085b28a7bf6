use Rattle.std.proofs.lemmas.Result.{on_ok_weaker}
use Rattle.system_fakes.specs.declared.op.Op.TheVariants.{Create}
use Rattle.system_fakes.proofs.Played.{plays_to, create_done, create_lost}
use Rattle.system_fakes.proofs.crash.play_create.Goals as goal

pub returns-then-has_name : goal.returns-then-has_name
returns-then-has_name c truth = on_ok_weaker c.create.result (λ is. plays_to (Create c.args.name) truth _ _ _ is (λ s fair same was. create_done s fair _ was c.args.name)) c.create.ensures.made

pub returns-else-has_name : goal.returns-else-has_name
returns-else-has_name c truth = on_ok_weaker c.skip.result (λ is. plays_to (Create c.args.name) truth _ _ _ is (λ s fair same was. create_lost s fair _ was c.args.name)) c.skip.ensures
