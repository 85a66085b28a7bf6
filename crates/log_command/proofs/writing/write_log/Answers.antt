use Rattle.std.proofs.Math.Logic.{∥∥₁_map}
use Rattle.std.proofs.Common.{◌∙◌, inr, ◌*◌, length}
use Rattle.disk_images.proofs.Moments.{at_end}
use Rattle.log_command.specs.Logged.{HasFirst}
use Rattle.log_command.proofs.Committing.{open_has, settled_alone, begun_none_now, begun_alone, begun_leaves, commits_leave}
use Rattle.log_command.proofs.writing.write_log.Goals as goal

pub commit_each-requires-clause-entries : goal.commit_each-requires-clause-entries
commit_each-requires-clause-entries g c = ∥∥₁_map c.requires.entries (λ r. (r.0, c.deref.ensures.value ∙ r.1, r.2))

pub returns-in_default-begin_with-clause-nothing : goal.returns-in_default-begin_with-clause-nothing
returns-in_default-begin_with-clause-nothing g c told nothing J now =
    let u = g.D.Disk.view c.args.disk.now in
    let v = g.D.Disk.view c.settle.new.self in
    let w = g.D.Disk.view c.begin_with.new.disk in
    let settled = c.in-Ok.ensures.settles told in
    inr (begun_none_now v w (settled_alone u v (c.requires.empty told) settled.looks.files settled.pinned) (c.begin_with.ensures.begins told).atomic J now)

pub returns-in_default-begin_with-clause-any_moment : goal.returns-in_default-begin_with-clause-any_moment
returns-in_default-begin_with-clause-any_moment g c told es is each =
    let u = g.D.Disk.view c.args.disk.now in
    let v = g.D.Disk.view c.settle.new.self in
    let w = g.D.Disk.view c.begin_with.new.disk in
    let settled = c.in-Ok.ensures.settles told in
    begun_leaves es u v w settled.looks (settled_alone u v (c.requires.empty told) settled.looks.files settled.pinned) (c.begin_with.ensures.begins told).atomic

pub returns-clause-whole : goal.returns-clause-whole
returns-clause-whole g c told whole es is each =
    open_has c.commit_each.new.log (g.D.Disk.view c.commit_each.new.disk) es (c.commit_each.ensures.name ∙ c.in-Ok-begin_with.ensures.name)
    (c.commit_each.ensures.whole told whole es (c.deref.ensures.value ∙ is) each)

pub returns-clause-alone : goal.returns-clause-alone
returns-clause-alone g c told some es is each J now =
    let u = g.D.Disk.view c.args.disk.now in
    let v = g.D.Disk.view c.settle.new.self in
    let w = g.D.Disk.view c.begin_with.new.disk in
    let settled = c.in-Ok.ensures.settles told in
    let alone = begun_alone v w (settled_alone u v (c.requires.empty told) settled.looks.files settled.pinned) (c.begin_with.ensures.begins told).atomic in
    (at_end (HasFirst es) (4 * length c.deref.result.now) w (g.D.Disk.view c.commit_each.new.disk) (c.commit_each.ensures.any_moment told es (c.deref.ensures.value ∙ is) each alone) J now).alone

pub returns-clause-any_moment : goal.returns-clause-any_moment
returns-clause-any_moment g c told es is each =
    let u = g.D.Disk.view c.args.disk.now in
    let v = g.D.Disk.view c.settle.new.self in
    let w = g.D.Disk.view c.begin_with.new.disk in
    let settled = c.in-Ok.ensures.settles told in
    let pinned = settled_alone u v (c.requires.empty told) settled.looks.files settled.pinned in
    commits_leave es (4 * length c.deref.result.now) u w (g.D.Disk.view c.commit_each.new.disk) (begun_leaves es u v w settled.looks pinned (c.begin_with.ensures.begins told).atomic)
    (c.commit_each.ensures.any_moment told es (c.deref.ensures.value ∙ is) each (begun_alone v w pinned (c.begin_with.ensures.begins told).atomic))
