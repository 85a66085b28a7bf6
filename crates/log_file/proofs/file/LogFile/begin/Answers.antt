use Rattle.std.proofs.Common.{rules, refl}
use Rattle.log_file.proofs.Committed.{not_begun}
use Rattle.log_file.proofs.file.LogFile.begin.Goals as goal

pub returns-in_err-stage-clause-begins : goal.returns-in_err-stage-clause-begins
returns-in_err-stage-clause-begins g c told =
    let free = c.requires.absent told in
    record {
      durable = search rules;
      atomic = not_begun c.args.name (g.D.Disk.view c.args.disk.now) ((g.met.D.Disk.is_true c.args.disk.now told).absent c.args.name free.0 free.1);
      no_other_file = record { others = λ m other. refl; gone = λ m h. h; formerly = λ n m h. h };
    }
