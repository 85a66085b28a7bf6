use Rattle.std.proofs.Common.{List, sym, subst, arith}
use Rattle.region_calls.specs.declared.pass.Pass.{Pass}
use Rattle.region_calls.specs.Passes.{knows}
use Rattle.region_calls.specs.Deals.{AllOf}
use Rattle.region_calls.proofs.Begun.{len_map}
use Rattle.region_calls.proofs.Seated.{all_more}
use Rattle.region_calls.proofs.passes.Passes.put_back.Goals as goal

pub returns-clause-of : goal.returns-clause-of
returns-clause-of g c place of one =
    let back = c.args.self.now.back in
    let counted = len_map (knows {N = g.row.N.Denot} {g = g.N.LockNaming}) back.items in
    record {
      count = of.count;
      deals = of.deals;
      all = of.all;
      rooms = of.rooms;
      consumers = of.consumers;
      devices = of.devices;
      room = of.room;
      back = subst (λ (l : List (Pass g.row.N.Denot g.N.LockNaming)). AllOf place l) (sym c.push_reserved.ensures.items) (all_more place back.items c.args.pass of.back one);
      within = (omega (arith, c.push_reserved.ensures.len, counted, back.ok.0, c.requires.out), omega (arith, c.push_reserved.ensures.capacity, of.within.1));
    }
