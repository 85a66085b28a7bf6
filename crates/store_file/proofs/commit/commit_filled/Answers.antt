use Rattle.std.proofs.Common.{[], ◌∷◌, refl, arith}
use Rattle.std.proofs.Math.Logic.{∥∥₁_map}
use Rattle.disk_images.specs.Crash.{OnlyAt}
use Rattle.disk_images.proofs.Moments.{more_time}
use Rattle.store_file.specs.Whole.{IsWholeOrNot}
use Rattle.store_file.proofs.Stores.{shut_moments, or_whole, commit_moments}
use Rattle.store_file.proofs.commit.commit_filled.Goals as goal

pub sync_filled-requires : goal.sync_filled-requires
sync_filled-requires g c = record { filled = λ told. ∥∥₁_map (c.requires told) (λ r. (0 ∷ [], 0 ∷ r.0, r.1)) }

pub open_gate-requires : goal.open_gate-requires
open_gate-requires g c told = ∥∥₁_map (c.requires told) (λ r. ([], 0, r.0, c.in_ok-sync_filled.ensures.durable told (0 ∷ []) (0 ∷ r.0) r.1, refl))

pub returns-in_err-sync_filled-clause-any_moment : goal.returns-in_err-sync_filled-clause-any_moment
returns-in_err-sync_filled-clause-any_moment g c told behind filled =
    let u = g.D.Disk.view c.args.disk.now in
    let v = g.D.Disk.view c.sync_filled.new.disk in
    more_time (OnlyAt c.args.name (IsWholeOrNot (165 ∷ behind)) u) 1 3 u v (omega arith)
    (or_whole c.args.name (165 ∷ behind) 1 u v (shut_moments c.args.name 1 u v (c.sync_filled.ensures.any_moment told (0 ∷ []) (0 ∷ behind) filled)))

pub returns-clause-stored : goal.returns-clause-stored
returns-clause-stored g c told behind filled = c.open_gate.ensures.opened told [] behind 0 (c.in_ok-sync_filled.ensures.durable told (0 ∷ []) (0 ∷ behind) filled) refl

pub returns-clause-any_moment : goal.returns-clause-any_moment
returns-clause-any_moment g c told behind filled =
    commit_moments c.args.name behind (g.D.Disk.view c.args.disk.now) (g.D.Disk.view c.sync_filled.new.disk) (g.D.Disk.view c.open_gate.new.disk)
    (c.sync_filled.ensures.any_moment told (0 ∷ []) (0 ∷ behind) filled)
    (c.open_gate.ensures.any_moment told [] behind 0 (c.in_ok-sync_filled.ensures.durable told (0 ∷ []) (0 ∷ behind) filled) refl)
