use Rattle.std.proofs.Common.{◌+◌, ◌∙◌, IsTrue, length, get_or, arith}
use Rattle.std.proofs.Math.Logic.{∥∥₁_map}
use Rattle.std.proofs.lemmas.List.Elements.{Contains-get_or}
use Rattle.log_model.specs.declared.name.Name.{Name}
use Rattle.log_model.specs.declared.name.NameKind.TheVariants as kinds
use Rattle.disk_images.proofs.Moments.{more_time}
use Rattle.store_compact.specs.Plan.{IsReplaced}
use Rattle.store_compact.proofs.Leaving.{none_gone, same_now, one_step, moments_on, others_on, one_gone, all_taken}
use Rattle.store_compact.proofs.removing.remove_each.Goals as goal

abbrev some_name : Name
some_name = record { kind = kinds.Log; region = 0; number = 0 }

pub loop-name-init : goal.loop-name-init
loop-name-init g c = (none_gone (IsTrue g.D.Disk.told) (g.D.Disk.view c.args.disk.now) c.args.names.now, omega arith)

pub remove_one-requires : goal.remove_one-requires
remove_one-requires g c told =
    let u = g.D.Disk.view c.args.disk.now in
    let v = g.D.Disk.view c.loop-name.disk in
    let names = c.args.names.now in
    let i = c.loop-name.name-index in
    ∥∥₁_map (c.requires.there told (get_or names i some_name) (Contains-get_or names i some_name c.loop-name-test.true))
    (λ r. (r.0, same_now (IsTrue g.D.Disk.told) u v v names i some_name c.loop-name-test.true c.requires.rise c.loop-name.invariant.0 told ∙ r.1))

pub loop-name-preserved : goal.loop-name-preserved
loop-name-preserved g c =
    let u = g.D.Disk.view c.args.disk.now in
    let v = g.D.Disk.view c.loop-name.disk in
    let w = g.D.Disk.view c.remove_one.new.disk in
    let names = c.args.names.now in
    let i = c.loop-name.name-index in (
      one_gone (IsTrue g.D.Disk.told) u v w names i some_name c.loop-name-test.true c.requires.rise c.loop-name.invariant.0
          (λ told. one_step g.D.Disk.view (get_or names i some_name) c.loop-name.disk c.remove_one.new.disk (c.remove_one.ensures.store told) c.remove_one.ensures.other)
          (λ told store. (c.in_ok-remove_one.ensures.store told store).removed),
      omega (arith, c.loop-name.invariant.1, c.remove_one.ensures.cause.later),
    )

pub returns-in_err-remove_one-clause-any_moment : goal.returns-in_err-remove_one-clause-any_moment
returns-in_err-remove_one-clause-any_moment g c told found name text is others =
    let u = g.D.Disk.view c.args.disk.now in
    let v = g.D.Disk.view c.loop-name.disk in
    let w = g.D.Disk.view c.remove_one.new.disk in
    let names = c.args.names.now in
    let i = c.loop-name.name-index in
    more_time (IsReplaced found name text) (i + 1) (length names) u w (omega (arith, c.loop-name-test.true))
    (moments_on (IsTrue g.D.Disk.told) u v w names i some_name c.loop-name-test.true c.requires.rise c.loop-name.invariant.0
    (λ t. one_step g.D.Disk.view (get_or names i some_name) c.loop-name.disk c.remove_one.new.disk (c.remove_one.ensures.store t) c.remove_one.ensures.other) told found name text is others)

pub returns-in_err-remove_one-clause-others : goal.returns-in_err-remove_one-clause-others
returns-in_err-remove_one-clause-others g c told =
    let u = g.D.Disk.view c.args.disk.now in
    let v = g.D.Disk.view c.loop-name.disk in
    let w = g.D.Disk.view c.remove_one.new.disk in
    let names = c.args.names.now in
    let i = c.loop-name.name-index in
    others_on (IsTrue g.D.Disk.told) u v w names i some_name c.loop-name-test.true c.requires.rise c.loop-name.invariant.0
    (λ t. one_step g.D.Disk.view (get_or names i some_name) c.loop-name.disk c.remove_one.new.disk (c.remove_one.ensures.store t) c.remove_one.ensures.other) told

pub returns-clause-gone : goal.returns-clause-gone
returns-clause-gone g c told m has store = c.loop-name.invariant.0.left told m (all_taken c.args.names.now c.loop-name.name-index m (omega (arith, c.loop-name-test.false)) has) store
