use Rattle.std.proofs.Common.{Err, ◌≡◌, ◌∷◌, [], refl, sym, ap, subst, ◌∙◌}
use Rattle.log_tail.specs.Position.{position_of}
use Rattle.ship_queue.specs.declared.error.ShipRefusal.TheVariants as ships
use Rattle.command_base.specs.Status.{IsDamageOf, IsNoPositionOf, IsOrEarlier}
use Rattle.command_base.specs.declared.status.Status.{Status}
use Rattle.command_base.specs.declared.status.Status.TheVariants as ends
use Rattle.command_base.proofs.Endings.{rose_from}
use Rattle.ship_command.specs.Refusals.{HasCut, refused_as}
use Rattle.ship_command.specs.Shipped.{IsShipDamage, IsShipEnd, LacksPosition}
use Rattle.ship_command.proofs.Ships.{unchanged, kept, whole_ends, refused_ends, refused_end, refused_damage, refused_position, disk_refused, sink_refused, same_err, rose_then, none_met, earlier_of, damage_met}
use Rattle.ship_command.proofs.command.ship.Goals as goal

-- ---- all was shipped

pub returns-in-Ok-clause-ends : goal.returns-in-Ok-clause-ends
returns-in-Ok-clause-ends g c told taken script =
    whole_ends _ (position_of c.args.from) c.emit.result script (g.K.Sink.taken c.args.out.now) (g.K.Sink.taken c.ship_lines.new.out) (g.K.Sink.taken c.emit.new.sink)
    (g.D.Disk.view c.args.disk.now) (g.D.Disk.view c.ship_lines.new.disk) _
    c.emit.ensures.either (c.in-Ok.ensures.written told taken (λ e. absurd cc)) (c.emit.ensures.prints taken (λ e. absurd cc))

pub returns-in-Ok-clause-leaves_disk : goal.returns-in-Ok-clause-leaves_disk
returns-in-Ok-clause-leaves_disk g c told = unchanged (g.D.Disk.view c.args.disk.now) (g.D.Disk.view c.ship_lines.new.disk) (c.in-Ok.ensures.reads told)

pub returns-in-Ok-clause-moments : goal.returns-in-Ok-clause-moments
returns-in-Ok-clause-moments g c told = kept (g.D.Disk.view c.args.disk.now) (g.D.Disk.view c.ship_lines.new.disk) (c.in-Ok.ensures.reads told)

pub returns-in-Ok-clause-damaged : goal.returns-in-Ok-clause-damaged
returns-in-Ok-clause-damaged g c told damage there =
    damage_met (position_of c.args.from) (g.D.Disk.view c.args.disk.now).files damage (λ d. IsOrEarlier c.emit.result (ends.Damaged d) (ends.DiskFault ∷ ends.SinkFault ∷ [])) there
    (λ name at is. absurd (none_met _ (ships.Damaged name at) (c.in-Ok.ensures.damage told name at is)))

pub returns-in-Ok-clause-out : goal.returns-in-Ok-clause-out
returns-in-Ok-clause-out g c told file has there = absurd (none_met _ (ships.NoPosition file has) (c.in-Ok.ensures.out told file has there))

-- ---- it was refused

pub returns-in-Err-clause-ends : goal.returns-in-Err-clause-ends
returns-in-Err-clause-ends g c told taken script =
    refused_ends c.in-Err.refusal (position_of c.args.from) c.end_refused.result script (g.K.Sink.taken c.args.out.now) (g.K.Sink.taken c.ship_lines.new.out) (g.K.Sink.taken c.end_refused.new.out)
    (g.D.Disk.view c.args.disk.now) (g.D.Disk.view c.ship_lines.new.disk) _ _ (c.end_refused.ensures.status)
    (λ other. c.in-Err.ensures.written told taken (λ e. other (same_err _ _ _ refl e))) (λ cut. rose_from _ _ _ c.in-Err.ensures.sink_cause.later cut)
    (λ line is. c.end_refused.ensures.prints taken line is)
    (λ is. subst (HasCut (g.D.Disk.view c.args.disk.now).files (position_of c.args.from) (g.K.Sink.taken c.args.out.now)) (sym (c.end_refused.ensures.none is)) (c.in-Err.ensures.torn told taken (ap Err is)))

pub returns-in-Err-clause-leaves_disk : goal.returns-in-Err-clause-leaves_disk
returns-in-Err-clause-leaves_disk g c told = unchanged (g.D.Disk.view c.args.disk.now) (g.D.Disk.view c.ship_lines.new.disk) (c.in-Err.ensures.reads told)

pub returns-in-Err-clause-moments : goal.returns-in-Err-clause-moments
returns-in-Err-clause-moments g c told = kept (g.D.Disk.view c.args.disk.now) (g.D.Disk.view c.ship_lines.new.disk) (c.in-Err.ensures.reads told)

pub returns-in-Err-clause-status : goal.returns-in-Err-clause-status
returns-in-Err-clause-status g c = subst IsShipEnd (sym (c.end_refused.ensures.status)) (refused_end c.in-Err.refusal)

pub returns-in-Err-clause-damage : goal.returns-in-Err-clause-damage
returns-in-Err-clause-damage g c told =
    let P = IsShipDamage (position_of c.args.from) (g.D.Disk.view c.args.disk.now).files in
    subst (λ (s : Status). IsDamageOf s P) (sym (c.end_refused.ensures.status))
    (refused_damage c.in-Err.refusal P (λ name at is. c.in-Err.ensures.damaged told name at (ap Err is)))

pub returns-in-Err-clause-no_position : goal.returns-in-Err-clause-no_position
returns-in-Err-clause-no_position g c told =
    let P = LacksPosition (position_of c.args.from) (g.D.Disk.view c.args.disk.now).files in
    subst (λ (s : Status). IsNoPositionOf s P) (sym (c.end_refused.ensures.status))
    (refused_position c.in-Err.refusal P (λ file has is. c.in-Err.ensures.no_position told file has (ap Err is)))

pub returns-in-Err-clause-disk_cause : goal.returns-in-Err-clause-disk_cause
returns-in-Err-clause-disk_cause g c is = c.in-Err.ensures.disk_cause.risen (ap Err (disk_refused c.in-Err.refusal (sym (c.end_refused.ensures.status) ∙ is)))

pub returns-in-Err-clause-sink_cause : goal.returns-in-Err-clause-sink_cause
returns-in-Err-clause-sink_cause g c is =
    rose_then _ _ _ (c.in-Err.ensures.sink_cause.risen (ap Err (sink_refused c.in-Err.refusal (sym (c.end_refused.ensures.status) ∙ is)))) c.end_refused.ensures.later

pub returns-in-Err-clause-damaged : goal.returns-in-Err-clause-damaged
returns-in-Err-clause-damaged g c told damage there =
    let is : c.end_refused.result ≡ refused_as c.in-Err.refusal = c.end_refused.ensures.status in
    damage_met (position_of c.args.from) (g.D.Disk.view c.args.disk.now).files damage (λ d. IsOrEarlier c.end_refused.result (ends.Damaged d) (ends.DiskFault ∷ ends.SinkFault ∷ [])) there
    (λ name at its. earlier_of (ships.Damaged name at) c.in-Err.refusal c.end_refused.result is (c.in-Err.ensures.damage told name at its))

pub returns-in-Err-clause-out : goal.returns-in-Err-clause-out
returns-in-Err-clause-out g c told file has there =
    earlier_of (ships.NoPosition file has) c.in-Err.refusal c.end_refused.result (c.end_refused.ensures.status) (c.in-Err.ensures.out told file has there)
