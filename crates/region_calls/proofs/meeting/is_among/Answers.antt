use Rattle.std.proofs.Common.{◌<◌, length, refl, ap, ◌∙◌, arith}
use Rattle.std.proofs.lemmas.Option.{slice_get_read}
use Rattle.region_calls.specs.declared.pass.Pass.{Pass}
use Rattle.region_calls.specs.Passes.{knows}
use Rattle.region_calls.proofs.BackLaws.{map_contains}
use Rattle.region_calls.proofs.meeting.is_among.Goals as goal

pub returns-then-passes-at : goal.returns-then-passes-at
returns-then-passes-at g c t =
    let ps = c.args.passes.now in
    let x = c.index-passes-at.result in
    let low : c.seeking.at < length ps = omega (arith, c.seeking-test.true, c.seeking.auto.at-end) in
    (knows x, map_contains (knows {N = g.row.N.Denot} {g = g.N.LockNaming}) ps c.seeking.at x (slice_get_read ps (length ps) c.seeking.at x refl low c.index-passes-at.is), ap (λ (p : Pass g.row.N.Denot g.N.LockNaming). p.handler) c.index-passes-at.is ∙ c.if-passes-at.true)
