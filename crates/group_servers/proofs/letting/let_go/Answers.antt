use Rattle.handler_threads.specs.region_calls.Deals.{passes_back}
use Rattle.group_servers.proofs.letting.let_go.Goals as goal

pub all_back-passes-requires-clause-of : goal.all_back-passes-requires-clause-of
all_back-passes-requires-clause-of g c = (c.args.started.server, c.requires.passes)

pub into_disk-requires : goal.into_disk-requires
into_disk-requires g c = record {
  back = record {
    of = c.all_back-passes.ensures.of c.args.started.server c.requires.passes;
    out = c.all_back-passes.ensures.out.0;
    back = c.all_back-passes.ensures.out.1;
    seats = c.requires.seats_are;
  };
}

pub returns : goal.returns
returns g c =
    let e = c.into_disk.ensures in
    record {
      passes = passes_back c.all_back-passes.result;
      unused = c.all_back-passes.ensures.unused;
      left = record { left = e.left; elapsed = e.elapsed; leaves = e.leaves; later = e.faults };
    }
