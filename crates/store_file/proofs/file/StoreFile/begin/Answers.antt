use Rattle.std.proofs.Common.{rules, refl}
use Rattle.store_file.proofs.Stores.{not_begun}
use Rattle.store_file.proofs.file.StoreFile.begin.Goals as goal

pub returns-in_err-buffer-clause-begins : goal.returns-in_err-buffer-clause-begins
returns-in_err-buffer-clause-begins g c told =
    let free = c.requires.absent told in
    record {
      filling = search rules;
      never_there = not_begun c.args.name 3 (g.D.Disk.view c.args.disk.now) ((g.met.D.Disk.is_true c.args.disk.now told).absent c.args.name free.0 free.1);
      no_other_file = record { others = λ m other. refl; gone = λ m h. h; formerly = λ n m h. h };
    }

pub returns-in_err-family-clause-begins : goal.returns-in_err-family-clause-begins
returns-in_err-family-clause-begins g c told =
    let free = c.requires.absent told in
    record {
      filling = search rules;
      never_there = not_begun c.args.name 3 (g.D.Disk.view c.args.disk.now) ((g.met.D.Disk.is_true c.args.disk.now told).absent c.args.name free.0 free.1);
      no_other_file = record { others = λ m other. refl; gone = λ m h. h; formerly = λ n m h. h };
    }
