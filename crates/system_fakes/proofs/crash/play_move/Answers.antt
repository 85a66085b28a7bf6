use Rattle.std.proofs.lemmas.Result.{on_ok_weaker}
use Rattle.system_fakes.specs.declared.op.Op.TheVariants.{Move}
use Rattle.system_fakes.proofs.Played.{plays, plays_to, move_done, move_lost}
use Rattle.system_fakes.proofs.crash.play_move.Goals as goal

pub returns-then-leads : goal.returns-then-leads
returns-then-leads c truth = on_ok_weaker c.shift.result (λ is. plays_to (Move c.args.inode c.args.from c.args.to) truth _ _ _ is (λ s fair same was. move_done s fair _ was c.args.inode c.args.from c.args.to (c.leads.ensures c.if-leads.true))) c.shift.ensures

pub returns-else-has_name : goal.returns-else-has_name
returns-else-has_name c truth = plays (Move c.args.inode c.args.from c.args.to) truth _ _ (λ s fair same was. move_lost s fair _ was c.args.inode c.args.from c.args.to)
