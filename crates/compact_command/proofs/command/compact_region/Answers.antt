use Rattle.std.proofs.Common.{Err, ◌≡◌, ◌∙◌, ℕ, List, [], ◌∷◌, refl, rules, sym, ap, subst}
use Rattle.disk_images.specs.Calls.{Rose}
use Rattle.disk_images.proofs.Moments.{at_end}
use Rattle.command_base.specs.Invocation.{invocation}
use Rattle.command_base.specs.Prints.{Prints}
use Rattle.command_base.specs.Status.{refusal_line, IfDamaged, IsDamageOf, IsReadingEnd, IsOrEarlier}
use Rattle.command_base.specs.declared.status.Status.{Status}
use Rattle.command_base.specs.declared.status.Status.TheVariants.{Done, Damaged, DiskFault, SinkFault}
use Rattle.recover_command.specs.Recovered.{IsStoreDamage}
use Rattle.compact_command.specs.Lines.{compaction_text}
use Rattle.compact_command.specs.Compacted.{CompactMayLeave, EndsCompact}
use Rattle.compact_command.proofs.Telling.{printed_ends, no_line, printed_reads, printed_damage, printed_leaves, no_fault, refused_ends, refused_reads, no_sink}
use Rattle.compact_command.proofs.command.compact_region.Goals as goal

pub returns-in-Ok-clause-ends : goal.returns-in-Ok-clause-ends
returns-in-Ok-clause-ends g c told taken script =
    let before = g.D.Disk.view c.args.disk.now in
    let after = g.D.Disk.view c.compact_store.new.disk in
    let had = g.K.Sink.taken c.args.out.now in
    let has = g.K.Sink.taken c.emit.new.sink in
    let is : c.as_bytes.result.now ≡ compaction_text c.args.region c.in-Ok.compaction = search rules in
    printed_ends c.emit.result c.emit.ensures.either c.args.region c.args.kind (compaction_text c.args.region c.in-Ok.compaction) script had has before after _ _
    (record { compaction = c.in-Ok.compaction; has = c.in-Ok.ensures.done told; is = refl })
    (subst (λ (t : List ℕ). Prints had has t (c.emit.result ≡ SinkFault)) is (c.emit.ensures.prints taken (λ e. absurd cc)))

pub returns-in-Ok-clause-refusal : goal.returns-in-Ok-clause-refusal
returns-in-Ok-clause-refusal g c taken text line =
    no_line c.emit.result c.emit.ensures.either
    (λ t. Prints (g.K.Sink.taken c.args.out.now) (g.K.Sink.taken c.emit.new.sink) t (Rose (g.K.Sink.faults c.args.out.now) (g.K.Sink.faults c.emit.new.sink))) text line

pub returns-in-Ok-clause-any_moment : goal.returns-in-Ok-clause-any_moment
returns-in-Ok-clause-any_moment g c told = ∣ c.in-Ok.ensures.any_moment told ∣₁

pub returns-in-Ok-clause-damage_leaves : goal.returns-in-Ok-clause-damage_leaves
returns-in-Ok-clause-damage_leaves g c told = printed_leaves c.emit.result c.emit.ensures.either _

pub returns-in-Ok-clause-status : goal.returns-in-Ok-clause-status
returns-in-Ok-clause-status g c = printed_reads c.emit.result c.emit.ensures.either

pub returns-in-Ok-clause-damage : goal.returns-in-Ok-clause-damage
returns-in-Ok-clause-damage g c told = printed_damage c.emit.result c.emit.ensures.either _

pub returns-in-Ok-clause-damaged : goal.returns-in-Ok-clause-damaged
returns-in-Ok-clause-damaged g c told damage not is = absurd (not (c.in-Ok.ensures.sound told))

pub returns-in-Ok-clause-disk_cause : goal.returns-in-Ok-clause-disk_cause
returns-in-Ok-clause-disk_cause g c is = absurd (no_fault c.emit.result c.emit.ensures.either is)

pub returns-in-Err-clause-ends : goal.returns-in-Err-clause-ends
returns-in-Err-clause-ends g c told taken script =
    let before = g.D.Disk.view c.args.disk.now in
    let after = g.D.Disk.view c.compact_store.new.disk in
    let had = g.K.Sink.taken c.args.out.now in
    let has = g.K.Sink.taken c.refuse.new.sink in
    let over = c.in-Err.ensures.any_moment told in
    subst (λ (s : Status). EndsCompact c.args.region c.args.kind s (invocation script before after had has) (Rose (g.D.Disk.faults c.args.disk.now) (g.D.Disk.faults c.compact_store.new.disk))
    (Rose (g.K.Sink.faults c.args.out.now) (g.K.Sink.faults c.refuse.new.sink))) (sym c.refuse.ensures.status)
    (refused_ends c.in-Err.status c.args.region c.args.kind script had has before after _ _ c.in-Err.ensures.refused (λ is. c.in-Err.ensures.memory told (ap Err is))
    (λ J now. at_end (CompactMayLeave c.args.region c.args.kind before) over.0 before after over.1 J now) (c.refuse.ensures.prints taken))

pub returns-in-Err-clause-any_moment : goal.returns-in-Err-clause-any_moment
returns-in-Err-clause-any_moment g c told = ∣ c.in-Err.ensures.any_moment told ∣₁

pub returns-in-Err-clause-damage_leaves : goal.returns-in-Err-clause-damage_leaves
returns-in-Err-clause-damage_leaves g c told =
    subst (λ (s : Status). IfDamaged s ((g.D.Disk.view c.compact_store.new.disk).files ≡ (g.D.Disk.view c.args.disk.now).files)) (sym c.refuse.ensures.status) (c.in-Err.ensures.damage_leaves told)

pub returns-in-Err-clause-status : goal.returns-in-Err-clause-status
returns-in-Err-clause-status g c = subst IsReadingEnd (sym c.refuse.ensures.status) (refused_reads c.in-Err.status c.in-Err.ensures.refused)

pub returns-in-Err-clause-damage : goal.returns-in-Err-clause-damage
returns-in-Err-clause-damage g c told =
    subst (λ (s : Status). IsDamageOf s (IsStoreDamage (g.D.Disk.view c.args.disk.now).files)) (sym c.refuse.ensures.status) (c.in-Err.ensures.damage told)

pub returns-in-Err-clause-damaged : goal.returns-in-Err-clause-damaged
returns-in-Err-clause-damaged g c told damage not is =
    subst (λ (s : Status). IsOrEarlier s (Damaged damage) (DiskFault ∷ [])) (sym c.refuse.ensures.status) (c.in-Err.ensures.damaged told damage not is)

pub returns-in-Err-clause-disk_cause : goal.returns-in-Err-clause-disk_cause
returns-in-Err-clause-disk_cause g c is = c.in-Err.ensures.cause.risen (ap Err (sym c.refuse.ensures.status ∙ is))

pub returns-in-Err-clause-sink_cause : goal.returns-in-Err-clause-sink_cause
returns-in-Err-clause-sink_cause g c is = absurd (no_sink c.in-Err.status c.in-Err.ensures.refused (sym c.refuse.ensures.status ∙ is))
