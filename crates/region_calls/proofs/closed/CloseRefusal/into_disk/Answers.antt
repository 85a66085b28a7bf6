use Rattle.std.proofs.Common.{◌≡◌, ℕ, ◌+◌, ◌-◌, ◌<◌, ◌≤◌, true, List, map, slice_index, Contains, sym, ap, ◌∙◌, subst, arith}
use Rattle.std.proofs.Math.Logic.{∥∥₁_map, ∥∥₁_map₂}
use Rattle.append_ring.specs.declared.pass.RingKey.{RingKey}
use Rattle.pass_calls.specs.log_service.log_halves.declared.item.Item.{Item}
use Rattle.pass_calls.specs.log_service.Places.{ServiceId}
use Rattle.pass_calls.specs.log_service.Closed.{stored_in}
use Rattle.server_model.specs.Pass.{Pass as ThePass, Naming}
use Rattle.server_model.specs.Closing.{Region, IsClosedRegion, Survives, Leaves}
use Rattle.region_calls.specs.declared.pass.Pass.{Pass}
use Rattle.region_calls.specs.Backs.{AreAll, AllBack}
use Rattle.region_calls.specs.Closes.{HasSurvived, HasElapsed}
use Rattle.region_calls.specs.Passes.{knows}
use Rattle.region_calls.specs.Deals.{ArePassesOf}
use Rattle.region_calls.proofs.BackLaws.{all_seen, seats_back}
use Rattle.region_calls.proofs.TakenLaws.{all_there, left_made, leaves_broken}
use Rattle.region_calls.proofs.LeavesLaws.{leaves_of, elapsed_of}
use Rattle.region_calls.proofs.closed.CloseRefusal.into_disk.Goals as goal

pub let_all_go-requires-clause-passes : goal.let_all_go-requires-clause-passes
let_all_go-requires-clause-passes g c =
    let the = c.server.inside.service in
    let of = subst (λ (p : ServiceId). ArePassesOf p g.N.LockNaming.handlers c.args.self.passes) (sym c.server.view_is) c.requires.back.of in
    (the, of.back, omega (arith, c.server.invariant.1.locks))

pub shut-disk-requires-clause-back : goal.shut-disk-requires-clause-back
shut-disk-requires-clause-back g c =
    let the = c.server.inside.service in
    let of = subst (λ (p : ServiceId). ArePassesOf p g.N.LockNaming.handlers c.args.self.passes) (sym c.server.view_is) c.requires.back.of in
    c.let_all_go.ensures.of the of.back

pub shut-disk-requires-clause-passes : goal.shut-disk-requires-clause-passes
shut-disk-requires-clause-passes g c =
    let the = c.server.inside.service in
    let done = c.let_all_go.ensures in (
      all_there (λ (p : RingKey Item). p.pass.table_id ≡ the.ring) c.let_all_go.new.places (λ j low.
          let t = done.taken j (omega (arith, low, done.count.0)) in
          (t.2.pass, t.2.there, t.2.of_ring ∙ sym c.server.invariant.0.ring_is)),
      omega (arith, done.count.0, c.server.invariant.1.locks),
    )

pub returns-clause-left : goal.returns-clause-left
returns-clause-left g c told r low high =
    let the = c.server.inside.service in
    let done = c.let_all_go.ensures in
    let begun = c.server.invariant.0 in
    let bases = g.N.VersionsNaming.region_base in
    let handlers = g.N.LockNaming.handlers in
    let ring = g.N.ServiceNaming.ring in
    let name = g.N.ServerNaming.name in
    let back : List (Pass g.row.N.Denot g.N.LockNaming) = c.args.self.passes.back.items in
    let now : List (Pass g.row.N.Denot g.N.LockNaming) = c.let_all_go.new.passes.items in
    let passes : List ThePass = map knows back in
    let words : List ℕ = c.shut-disk.result.synced in
    let broken = c.shut-disk.result.broken in
    let disk = g.D.Disk.view c.shut-disk.result.disk in
    let of = subst (λ (p : ServiceId). ArePassesOf p handlers c.args.self.passes) (sym c.server.view_is) c.requires.back.of in
    let k : ℕ = r - 1 in
    let same : k + 1 ≡ r = omega (arith, low) in
    let within : k < the.regions = omega (arith, low, high, begun.all, ap (λ (n : Naming). n.regions) begun.named) in
    let count : c.len-count.result ≡ the.regions = omega (arith, c.len-count.ensures, c.server.inside.regions.ok.0, c.server.invariant.1.locks) in
    let t = done.taken k (omega (arith, within, c.server.invariant.1.locks)) in
    let sure = subst (λ (m : ℕ). slice_index c.let_all_go.new.lasts k ≤ stored_in m words (k + 1)) count
    (subst (λ (l : List ℕ). slice_index c.let_all_go.new.lasts k ≤ stored_in c.len-count.result l (k + 1)) c.as_slice-2.ensures (c.sure_stored.ensures k (omega (arith, within, count)))) in
    let all : AreAll handlers passes =
    λ h few most.
    let x = c.are_all-all.ensures c.sure.ensures h few (omega (arith, most, c.requires.back.of.all)) in
    (x.0, subst (λ (l : List (Pass g.row.N.Denot g.N.LockNaming)). Contains (map knows l) x.0) c.as_slice.ensures.value x.1, x.2) in
    subst (λ (q : ℕ). ∥ ((x : Region) × IsClosedRegion name q passes x × Survives disk true q x × HasSurvived g.N.ServiceNaming.start disk q x) ∥₁) same
    (left_made bases handlers ring passes c.let_all_go.new.places the.regions words g.N.ServerNaming.found g.N.ServiceNaming.begun g.N.ServiceNaming.lasts begun.lasts_are (begun.alike told) (begun.recovered told) name disk broken g.N.ServiceNaming.start k t.0 t.1
    (ap (λ (n : Naming). n.bases) begun.named) within t.2 (omega (arith, t.3, sure)) all
    (λ s few most p is. all_seen the now words broken (done.of the of.back) c.shut-disk.ensures.saw s few most p (subst (λ (l : List ThePass). Contains l p) (sym done.knows) is)) (c.shut-disk.ensures.commits told) (c.shut-disk.ensures.since told))

pub returns-clause-elapsed : goal.returns-clause-elapsed
returns-clause-elapsed g c told =
    let begun = c.server.invariant.0 in
    let v = g.D.Disk.view c.shut-disk.result.disk in
    let start = g.N.ServiceNaming.start in
    let count : c.server.inside.service.regions ≡ g.N.ServerNaming.name.regions = omega (arith, begun.all, ap (λ (n : Naming). n.regions) begun.named) in
    ∥∥₁_map₂ (c.shut-disk.ensures.goes_on told) (c.shut-disk.ensures.others_since told) (λ on since.
    subst (λ (n : ℕ). HasElapsed start g.N.ServiceNaming.past g.N.ServerNaming.found n v) count
    (elapsed_of start g.N.ServiceNaming.past g.N.ServerNaming.found g.N.ServiceNaming.begun v c.server.inside.service.regions (begun.alike told) on since))

pub returns-clause-leaves : goal.returns-clause-leaves
returns-clause-leaves g c told =
    let begun = c.server.invariant.0 in
    let v = g.D.Disk.view c.shut-disk.result.disk in
    let count : c.server.inside.service.regions ≡ g.N.ServerNaming.name.regions = omega (arith, begun.all, ap (λ (n : Naming). n.regions) begun.named) in
    ∥∥₁_map (c.shut-disk.ensures.leaves told) (λ l.
    subst (λ (n : ℕ). Leaves g.N.ServerNaming.found v true n) count
    (leaves_broken g.N.ServerNaming.found v c.shut-disk.result.broken c.server.inside.service.regions
    (leaves_of g.N.ServerNaming.found g.N.ServiceNaming.begun v c.shut-disk.result.broken c.server.inside.service.regions (begun.cleared told) (begun.alike told) (begun.higher told) l)))

pub let_all_go-requires-clause-places : goal.let_all_go-requires-clause-places
let_all_go-requires-clause-places g c =
    let locked = c.server.invariant.1 in
    (locked.out, locked.all ∙ sym locked.locks, omega (arith, locked.locks, c.server.invariant.0.some.1))

pub shut-disk-requires-clause-seats : goal.shut-disk-requires-clause-seats
shut-disk-requires-clause-seats g c =
    let back = subst (λ (p : ServiceId). AllBack p g.N.LockNaming.handlers c.args.self.passes c.args.self.helpers) (sym c.server.view_is) c.requires.back in
    seats_back c.server.inside.service g.N.LockNaming.handlers c.args.self.passes c.args.self.helpers c.let_all_go.new.passes.items back c.server.invariant.0.seats c.let_all_go.ensures.knows
