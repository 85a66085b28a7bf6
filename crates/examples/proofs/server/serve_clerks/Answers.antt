use Rattle.std.proofs.Common.{refl}
use Rattle.disk_fakes.specs.Views.{view_of}
use Rattle.examples.proofs.Clerks.{there_for_good}
use Rattle.examples.proofs.server.serve_clerks.Goals as goal

-- the server was closed: what its handlers' passes knew to be durable is in each image
pub returns : goal.returns
returns g c =
    let ends = c.in-Closed.ensures.ends in
    record {
      for_good = there_for_good (view_of c.in-Closed.disk) 1000 c.args.clerks.items c.in-Closed.handlers.items ends.0 ends.1 ends.2 (ends.4 refl).receipts;
    }
