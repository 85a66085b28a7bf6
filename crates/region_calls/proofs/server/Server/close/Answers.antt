use Rattle.std.proofs.Common.{List, map, Contains, subst, arith, ◌≡◌, ap}
use Rattle.region_calls.specs.declared.pass.Pass.{Pass}
use Rattle.region_calls.specs.Passes.{knows}
use Rattle.pass_calls.specs.log_service.Places.{ServiceId}
use Rattle.region_calls.proofs.server.Server.close.Goals as goal

pub finish-requires-clause-back : goal.finish-requires-clause-back
finish-requires-clause-back g c = (
  c.requires.back,
  λ h low high.
      let x = c.are_all.ensures c.if-not-are_all.false h low (omega (arith, high, c.requires.back.of.all)) in
      (x.0, subst (λ (l : List (Pass g.row.N.Denot g.N.LockNaming)). Contains (map knows l) x.0) c.as_slice.ensures.value x.1, x.2),
)

pub finish-requires-clause-room : goal.finish-requires-clause-room
finish-requires-clause-room g c =
    let made = c.in-Ok.ensures in
    let same = ap (λ (q : ServiceId). q.regions) c.self.view_is in
    let count : c.args.self.regions ≡ c.len.result = omega (arith, same, c.len.ensures, c.self.inside.regions.ok.0, c.self.invariant.1.locks) in
    (made.0, omega (arith, made.1, count), made.2, omega (arith, made.3, count))
