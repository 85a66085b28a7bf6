use Rattle.std.proofs.Math.Logic.{∥∥₁_map, ∥∥₁_elim}
use Rattle.std.proofs.Common.{[], ◌∷◌, ◌++◌, length-append, arith}
use Rattle.disk_images.specs.Crash.{OnlyAt}
use Rattle.disk_images.specs.Gate.{ClosedOrOpen}
use Rattle.disk_images.proofs.Moments.{more_time}
use Rattle.disk_images.proofs.Torn.{then_only}
use Rattle.disk_images.proofs.Gates.{behind_written, written}
use Rattle.disk_images.proofs.gate.commit_behind_gate.Goals as goal

pub returns-in_err-write_durably-clause-any_moment : goal.returns-in_err-write_durably-clause-any_moment
returns-in_err-write_durably-clause-any_moment g c told front file is =
    let v = g.D.Disk.view c.args.disk.now in
    let w = g.D.Disk.view c.write_durably.new.disk in
    more_time (OnlyAt c.args.name (ClosedOrOpen front c.args.bytes.now) v) 2 4 v w (omega arith)
    (behind_written c.args.name front c.args.bytes.now c.args.gate is v w _ file (c.write_durably.ensures.any_moment told))

pub open_gate-requires : goal.open_gate-requires
open_gate-requires g c told =
    let first = told in
    ∥∥₁_map (c.requires.closed first) (λ r. (r.0, 0, c.args.bytes.now, written c.args.name r.0 c.args.bytes.now c.args.gate r.2 (g.D.Disk.view c.args.disk.now) (g.D.Disk.view c.write_durably.new.disk) (c.in_ok-write_durably.ensures.durable first (r.0 ++ 0 ∷ []) r.1.reads), r.2))

pub returns-clause-committed : goal.returns-clause-committed
returns-clause-committed g c told front file is =
    c.open_gate.ensures.opened told front c.args.bytes.now 0
    (written c.args.name front c.args.bytes.now c.args.gate is (g.D.Disk.view c.args.disk.now) (g.D.Disk.view c.write_durably.new.disk) (c.in_ok-write_durably.ensures.durable told (front ++ 0 ∷ []) file.reads))
    is

pub returns-clause-any_moment : goal.returns-clause-any_moment
returns-clause-any_moment g c told front file is =
    let u = g.D.Disk.view c.args.disk.now in
    let v = g.D.Disk.view c.write_durably.new.disk in
    let w = g.D.Disk.view c.open_gate.new.disk in
    let between = written c.args.name front c.args.bytes.now c.args.gate is u v (c.in_ok-write_durably.ensures.durable told (front ++ 0 ∷ []) file.reads) in
    then_only c.args.name (ClosedOrOpen front c.args.bytes.now) 2 2 u v w
    (behind_written c.args.name front c.args.bytes.now c.args.gate is u v _ file (c.write_durably.ensures.any_moment told))
    (c.open_gate.ensures.any_moment told front c.args.bytes.now 0 between is)

pub write_durably-requires-clause-there : goal.write_durably-requires-clause-there
write_durably-requires-clause-there g c told =
    ∥∥₁_map (c.requires.closed told) (λ r. (r.0 ++ 0 ∷ [], r.1.reads, omega (arith, r.2, length-append r.0 (0 ∷ []))))

pub write_durably-requires-clause-unmoved : goal.write_durably-requires-clause-unmoved
write_durably-requires-clause-unmoved g c told m former = ∥∥₁_elim (c.requires.closed told) (λ a b. absurd a) (λ r. r.1.unmoved m former)
