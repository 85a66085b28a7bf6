use Rattle.std.proofs.Common.{ap, ◌∙◌}
use Rattle.region_lock.proofs.NewPart.{part_new, len_replicate}
use Rattle.region_lock.proofs.Shows.{shown_none}
use Rattle.region_lock.proofs.locked.Locked.of.Goals as goal
use Rattle.std.proofs.Common.{length}

pub invariant_of-result : goal.invariant_of-result
invariant_of-result g c = (
  part_new (g.N.LockNaming.flushes c.args.state.region) c.args.state.region c.args.state.base c.args.state.lines g.N.LockNaming.handlers c.args.desk.records c.args.spent.records g.N.ServiceNaming.ring g.N.ServiceNaming.lasts c.args.pass
      c.requires.lines c.requires.desk.1 c.requires.spent.1 c.requires.pass c.requires.last,
  record {
    desk = c.requires.desk.0;
    spent = c.requires.spent.0;
    ring = c.requires.pass.0;
    region = c.requires.pass.1;
    known = c.requires.base;
    hands = ap length c.requires.desk.1 ∙ len_replicate g.N.LockNaming.handlers _;
  },
  shown_none c.args.state.region c.args.state.lines _ _ c.requires.lines c.requires.history c.requires.shown,
)
