use Rattle.std.proofs.Common.{length, sym, ap, ◌∙◌, subst}
use Rattle.std.proofs.lemmas.Option.{same_Some}
use Rattle.append_ring.specs.Parts.{IsNew, AreNewAfter}
use Rattle.log_service.proofs.IdlePasses.{first_parted}
use Rattle.log_service.proofs.joining.first_berth.Goals as goal

pub unreachable-requires : goal.unreachable-requires
unreachable-requires g c =
    let idle = c.requires.idle in
    let first = first_parted g.N.ServiceNaming.chain_ring g.N.ServiceNaming.lasts c.args.idle idle.0 idle.2 in
    cc (sym c.in_default.is ∙ (c.next.ensures.given ∙ first.is))

pub first_half-mover-requires-clause-chain_key : goal.first_half-mover-requires-clause-chain_key
first_half-mover-requires-clause-chain_key g c =
    let idle = c.requires.idle in
    let first = first_parted g.N.ServiceNaming.chain_ring g.N.ServiceNaming.lasts c.args.idle idle.0 idle.2 in
    subst (IsNew g.N.ServiceNaming.chain_ring g.N.ServiceNaming.lasts 1) (same_Some first.pass c.in-Some.chain_key (sym first.is ∙ (sym c.next.ensures.given ∙ c.in-Some.is))) first.new

pub first_half-mover-requires-clause-idle : goal.first_half-mover-requires-clause-idle
first_half-mover-requires-clause-idle g c =
    let idle = c.requires.idle in
    let first = first_parted g.N.ServiceNaming.chain_ring g.N.ServiceNaming.lasts c.args.idle idle.0 idle.2 in
    (subst (AreNewAfter g.N.ServiceNaming.chain_ring g.N.ServiceNaming.lasts 0 1) (sym c.next.ensures.left) first.left, ap length c.next.ensures.left ∙ (first.all ∙ idle.1))
