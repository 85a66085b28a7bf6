use Rattle.std.proofs.Common.{[], length, subst, List, ℕ, arith}
use Rattle.std.proofs.lemmas.Result.{on_ok_weaker}
use Rattle.disk_images.specs.Crash.{OnlyAt}
use Rattle.disk_images.specs.OneFile.{IsDurableFile, IsShort}
use Rattle.disk_images.proofs.Moments.{more_time}
use Rattle.disk_images.proofs.Created.{creating, filling, whole}
use Rattle.disk_images.proofs.durable.create_durably.Goals as goal

pub returns-in_err-create-clause-any_moment : goal.returns-in_err-create-clause-any_moment
returns-in_err-create-clause-any_moment g c told =
    let u = g.D.Disk.view c.args.disk.now in
    let v = g.D.Disk.view c.create.new.self in
    let absent = c.requires.absent told in
    more_time (OnlyAt c.args.name (IsShort (length c.args.bytes.now)) u) 1 3 u v (omega arith)
    (creating c.args.name u v v (g.met.D.Disk.is_true c.args.disk.now told) absent.0 absent.1 (length c.args.bytes.now) (c.create.ensures.creates told))

pub returns-clause-durable : goal.returns-clause-durable
returns-clause-durable g c told =
    let w = g.D.Disk.view c.write_durably.new.disk in
    on_ok_weaker c.write_durably.result
    (subst (λ (text : List ℕ). IsDurableFile w c.args.name text) (whole c.args.bytes.now))
    (c.write_durably.ensures.durable told [] (c.in_ok-create.ensures.creates told).created)

pub returns-clause-any_moment : goal.returns-clause-any_moment
returns-clause-any_moment g c told =
    let u = g.D.Disk.view c.args.disk.now in
    let v = g.D.Disk.view c.create.new.self in
    let w = g.D.Disk.view c.write_durably.new.disk in
    let absent = c.requires.absent told in
    filling c.args.name u v w (g.met.D.Disk.is_true c.args.disk.now told) absent.0 absent.1 (length c.args.bytes.now) (c.create.ensures.creates told) (c.write_durably.ensures.any_moment told)
