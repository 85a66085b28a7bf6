use Rattle.std.proofs.Common.{sym, subst}
use Rattle.log_model.specs.declared.damage.Damage.TheVariants.{Bytes}
use Rattle.chronicle_model.specs.Chronicle.{Position}
use Rattle.ship_command.specs.Shipped.{IsShipDamage, LacksPosition}
use Rattle.ship_command.proofs.command.ship_lines.Goals as goal

pub returns-clause-damage : goal.returns-clause-damage
returns-clause-damage g c told name at there =
    c.ship_to.ensures.damage told name at (subst (λ (p : Position). IsShipDamage p (g.D.Disk.view c.args.disk.now).files (Bytes name at)) (sym c.at-tail.ensures) there)

pub returns-clause-out : goal.returns-clause-out
returns-clause-out g c told file has there =
    c.ship_to.ensures.out told file has (subst (λ (p : Position). LacksPosition p (g.D.Disk.view c.args.disk.now).files file has) (sym c.at-tail.ensures) there)
