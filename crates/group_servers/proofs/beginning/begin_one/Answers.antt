use Rattle.std.proofs.Common.{arith}
use Rattle.group_servers.proofs.Begins.{never_wrong, tells_start}
use Rattle.group_servers.proofs.beginning.begin_one.Goals as goal

pub begin_recovered-requires-clause-recovered : goal.begin_recovered-requires-clause-recovered
begin_recovered-requires-clause-recovered g c =
    let r = c.requires.recovered in
    record { count = r.all; each = r.recovered; so_far = r.goes_on.any_moment; ready = r.ready; alike = r.alike; higher = r.names; later = r.goes_on.later }

pub returns-in-Ok-clause-opened : goal.returns-in-Ok-clause-opened
returns-in-Ok-clause-opened g c =
    let e = c.in-Ok.ensures in
    record {
      sizes = e.sizes;
      store = e.store;
      found_is = e.found;
      sound = c.requires.recovered.sound;
      goes_on = record { any_moment = e.any_moment; later = omega (arith, c.requires.recovered.goes_on.later, e.cause.later) };
    }

pub returns-in-Err-clause-refused : goal.returns-in-Err-clause-refused
returns-in-Err-clause-refused g c =
    let e = c.in-Err.ensures in
    record {
      goes_on = record { any_moment = e.any_moment; later = omega (arith, c.requires.recovered.goes_on.later, e.cause.later) };
      tells = rw c.start_why.ensures (tells_start g.D.Disk c.in-Err.field-0.why c.args.store.found.value c.args.disk c.in-Err.field-0.disk e.whole e.cause.risen c.requires.recovered.goes_on.later);
      right = rw c.start_why.ensures (never_wrong c.in-Err.field-0.why);
    }
