use Rattle.std.proofs.Common.{sym, subst}
use Rattle.disk_fakes.specs.declared.op.Op.{Op}
use Rattle.disk_fakes.specs.Table.{files_in}
use Rattle.disk_fakes.specs.Candidate.{Carries}
use Rattle.disk_fakes.proofs.Played.{synced, settled}
use Rattle.disk_fakes.proofs.crash.play.Goals as goal

pub returns-in-Sync : goal.returns-in-Sync
returns-in-Sync c = subst (λ (o : Op). Carries o c.args.rest.now (files_in c.args.image.now) (files_in c.args.image.now)) (sym c.in-Sync.is) (synced c.in-Sync.field-0 c.args.rest.now (files_in c.args.image.now))

pub returns-in-Settle : goal.returns-in-Settle
returns-in-Settle c = subst (λ (o : Op). Carries o c.args.rest.now (files_in c.args.image.now) (files_in c.args.image.now)) (sym c.in-Settle.is) (settled c.args.rest.now (files_in c.args.image.now))
