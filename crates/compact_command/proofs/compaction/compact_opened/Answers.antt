use Rattle.std.proofs.Common.{sym, subst}
use Rattle.log_model.specs.Files.{Files, IsFit}
use Rattle.log_model.specs.Damage.{HasDamage}
use Rattle.store_compact.specs.Compacting.{WasOrCompacted}
use Rattle.store_compact.proofs.Moments.{opened_at_rest}
use Rattle.compact_command.proofs.Opened.{nothing, then_watched}
use Rattle.compact_command.proofs.compaction.compact_opened.Goals as goal

pub compact-requires-clause-rest : goal.compact-requires-clause-rest
compact-requires-clause-rest g c told = opened_at_rest (g.D.Disk.view c.args.disk.now) (c.requires.ready told)

pub looked_again-requires : goal.looked_again-requires
looked_again-requires g c told =
    let told_damage = rw c.in-Err-Damaged.field-0-is at (c.in-Err-Damaged.ensures.damaged told) in
    let same = told_damage.1.1.files in
    (subst IsFit (sym same) (c.requires.ready told).fit, subst (λ (f : Files). HasDamage f c.in-Err-Damaged.name c.in-Err-Damaged.at) (sym same) told_damage.0.here)

pub returns-in-Err-NothingToCompact-clause-done : goal.returns-in-Err-NothingToCompact-clause-done
returns-in-Err-NothingToCompact-clause-done g c told =
    nothing (g.D.Disk.view c.args.disk.now) (g.D.Disk.view c.compact.new.disk) c.args.region c.args.kind c.in-Err-NothingToCompact.files (c.requires.ready told)
    (rw c.in-Err-NothingToCompact.field-0-is at (c.in-Err-NothingToCompact.ensures.nothing told))

pub returns-in-Err-Damaged-clause-any_moment : goal.returns-in-Err-Damaged-clause-any_moment
returns-in-Err-Damaged-clause-any_moment g c told =
    let v = g.D.Disk.view c.args.disk.now in
    then_watched (WasOrCompacted v.files c.args.region c.args.kind) v (g.D.Disk.view c.compact.new.disk) (g.D.Disk.view c.looked_again.new.disk)
    (c.in-Err-Damaged.ensures.any_moment told (c.requires.ready told).fit) (c.looked_again.ensures.watches told)
