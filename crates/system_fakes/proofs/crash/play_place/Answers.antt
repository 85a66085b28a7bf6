use Rattle.std.proofs.lemmas.Result.{on_ok_weaker}
use Rattle.system_fakes.specs.declared.op.Op.TheVariants.{Place}
use Rattle.system_fakes.proofs.Played.{plays, plays_to, place_done, place_lost}
use Rattle.system_fakes.proofs.crash.play_place.Goals as goal

pub returns-then-has_name : goal.returns-then-has_name
returns-then-has_name c truth = on_ok_weaker c.point.result (λ is. plays_to (Place c.args.inode c.args.name) truth _ _ _ is (λ s fair same was. place_done s fair _ was c.args.inode c.args.name)) c.point.ensures

pub returns-else-has_name : goal.returns-else-has_name
returns-else-has_name c truth = plays (Place c.args.inode c.args.name) truth _ _ (λ s fair same was. place_lost s fair _ was c.args.inode c.args.name)
