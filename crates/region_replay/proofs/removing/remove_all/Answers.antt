use Rattle.std.proofs.Common.{◌+◌, ◌∙◌, IsTrue, length, get_or, arith}
use Rattle.std.proofs.Math.Logic.{∥∥₁_map}
use Rattle.std.proofs.lemmas.List.Elements.{Contains-get_or}
use Rattle.log_model.specs.declared.name.Name.{Name}
use Rattle.log_model.specs.declared.name.NameKind.TheVariants as kinds
use Rattle.disk_images.proofs.Moments.{more_time}
use Rattle.recovery_laws.specs.Alike.{AllAlike}
use Rattle.region_replay.proofs.Leaving.{none_gone, same_now, moments_on, one_gone, all_taken, all_else}
use Rattle.region_replay.proofs.removing.remove_all.Goals as goal

abbrev some_name : Name
some_name = record { kind = kinds.Log; region = 0; number = 0 }

pub loop-name-init : goal.loop-name-init
loop-name-init g c = (none_gone (IsTrue g.D.Disk.told) (g.D.Disk.view c.args.disk.now) c.args.names.now, omega arith)

pub remove-requires : goal.remove-requires
remove-requires g c told =
    let u = g.D.Disk.view c.args.disk.now in
    let v = g.D.Disk.view c.loop-name.disk in
    let names = c.args.names.now in
    let i = c.loop-name.name-index in
    ∥∥₁_map (c.requires.there told (get_or names i some_name) (Contains-get_or names i some_name c.loop-name-test.true))
    (λ r. (r.0, same_now (IsTrue g.D.Disk.told) u v v names i some_name c.loop-name-test.true c.requires.edits c.loop-name.invariant.0 told ∙ r.1))

pub loop-name-preserved : goal.loop-name-preserved
loop-name-preserved g c =
    let u = g.D.Disk.view c.args.disk.now in
    let v = g.D.Disk.view c.loop-name.disk in
    let w = g.D.Disk.view c.remove.new.self in (
      one_gone (IsTrue g.D.Disk.told) u v w c.args.names.now c.loop-name.name-index some_name c.loop-name-test.true c.requires.edits c.loop-name.invariant.0 c.remove.ensures.removes (λ told. (c.in_ok-remove.ensures.removes told).removed),
      omega (arith, c.loop-name.invariant.1, c.remove.ensures.cause.later),
    )

pub returns-in_err-remove-clause-any_moment : goal.returns-in_err-remove-clause-any_moment
returns-in_err-remove-clause-any_moment g c told base held flushed =
    let u = g.D.Disk.view c.args.disk.now in
    let v = g.D.Disk.view c.loop-name.disk in
    let w = g.D.Disk.view c.remove.new.self in
    let i = c.loop-name.name-index in
    more_time (AllAlike base) (i + 1) (length c.args.names.now) u w (omega (arith, c.loop-name-test.true))
    (moments_on (IsTrue g.D.Disk.told) u v w c.args.names.now i some_name c.loop-name-test.true c.requires.edits c.loop-name.invariant.0 c.remove.ensures.removes told base held flushed)

pub returns-clause-gone : goal.returns-clause-gone
returns-clause-gone g c told m has = c.loop-name.invariant.0.left told m (all_taken c.args.names.now c.loop-name.name-index m (omega (arith, c.loop-name-test.false)) has)

pub returns-clause-others : goal.returns-clause-others
returns-clause-others g c told m other = c.loop-name.invariant.0.others told m (all_else c.args.names.now c.loop-name.name-index m (omega (arith, c.loop-name-test.false)) other)
