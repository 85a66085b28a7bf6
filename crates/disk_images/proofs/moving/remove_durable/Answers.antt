use Rattle.std.proofs.Math.Logic.{∥∥₁_map}
use Rattle.disk_images.proofs.RenamedOrGone.{removing}
use Rattle.disk_images.proofs.moving.remove_durable.Goals as goal

pub remove-requires : goal.remove-requires
remove-requires g c told = ∥∥₁_map (c.requires told) (λ r. (r.0, r.1.reads))

pub returns-clause-any_moment : goal.returns-clause-any_moment
returns-clause-any_moment g c told bytes file = removing c.args.name bytes (g.D.Disk.view c.args.disk.now) (g.D.Disk.view c.remove.new.self) file (c.remove.ensures.removes told)

pub returns-clause-takes_away : goal.returns-clause-takes_away
returns-clause-takes_away g c told =
    let removes = c.remove.ensures.removes told in
    record { others = removes.others; gone = removes.gone; formerly = removes.formerly }
