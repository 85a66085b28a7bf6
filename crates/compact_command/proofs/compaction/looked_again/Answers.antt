use Rattle.compact_command.proofs.Opened.{none_damaged}
use Rattle.compact_command.proofs.compaction.looked_again.Goals as goal

pub returns-in-Ok-clause-faulty : goal.returns-in-Ok-clause-faulty
returns-in-Ok-clause-faulty g c told =
    let damaged = c.requires told in
    absurd (none_damaged (g.D.Disk.view c.args.disk.now).files c.args.name c.args.at damaged.0 (λ bytes there. c.in-Ok.ensures.small told bytes there) damaged.1)
