use Rattle.std.proofs.lemmas.Result.{on_ok_weaker}
use Rattle.system_fakes.specs.declared.op.Op.TheVariants.{Unlink}
use Rattle.system_fakes.proofs.Played.{plays, plays_to, unlink_done, unlink_lost}
use Rattle.system_fakes.proofs.crash.play_unlink.Goals as goal

pub returns-then-leads : goal.returns-then-leads
returns-then-leads c truth = on_ok_weaker c.unlink.result (λ is. plays_to (Unlink c.args.inode c.args.name) truth _ _ _ is (λ s fair same was. unlink_done s fair _ was c.args.inode c.args.name (c.leads.ensures c.if-leads.true))) c.unlink.ensures.unlinked

pub returns-else-has_name : goal.returns-else-has_name
returns-else-has_name c truth = plays (Unlink c.args.inode c.args.name) truth _ _ (λ s fair same was. unlink_lost s fair _ was c.args.inode c.args.name)
