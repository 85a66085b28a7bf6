use Rattle.std.proofs.Common.{◌≡◌, ℕ, List, length, map, Contains, sym, ap, ◌∙◌, subst, arith}
use Rattle.std.specs.List.{range_with_len}
use Rattle.std.proofs.Math.Logic.{∥∥₁_map, ∥∥₁_map₂}
use Rattle.append_ring.specs.declared.pass.RingKey.{RingKey}
use Rattle.pass_calls.specs.log_service.log_halves.declared.item.Item.{Item}
use Rattle.pass_calls.specs.log_service.Places.{ServiceId}
use Rattle.server_model.specs.Pass.{Pass as ThePass, Naming}
use Rattle.server_model.specs.Closing.{Leaves}
use Rattle.region_calls.specs.declared.apart.Taken.{Taken}
use Rattle.region_calls.specs.declared.pass.Pass.{Pass}
use Rattle.region_calls.specs.Backs.{AllBack}
use Rattle.region_calls.specs.Closes.{HasElapsed}
use Rattle.region_calls.specs.Passes.{knows}
use Rattle.region_calls.specs.Deals.{ArePassesOf}
use Rattle.region_calls.proofs.BackLaws.{get_some, all_seen, all_broken, seats_back}
use Rattle.region_calls.proofs.TakenLaws.{all_there, numbers_are, made_at, closed_made, survives_made, survived_made}
use Rattle.region_calls.proofs.LeavesLaws.{leaves_of, elapsed_of}
use Rattle.region_calls.proofs.closing.finish.Goals as goal

pub take_all-taken-requires-clause-passes : goal.take_all-taken-requires-clause-passes
take_all-taken-requires-clause-passes g c =
    let the = c.server.inside.service in
    let of = subst (λ (p : ServiceId). ArePassesOf p g.N.LockNaming.handlers c.args.passes) (sym c.server.view_is) c.requires.back.0.of in
    (the, of.back, omega (arith, c.server.invariant.1.locks))

pub shut-disk-requires-clause-back : goal.shut-disk-requires-clause-back
shut-disk-requires-clause-back g c =
    let the = c.server.inside.service in
    let of = subst (λ (p : ServiceId). ArePassesOf p g.N.LockNaming.handlers c.args.passes) (sym c.server.view_is) c.requires.back.0.of in
    c.take_all-taken.ensures.of the of.back

pub shut-disk-requires-clause-passes : goal.shut-disk-requires-clause-passes
shut-disk-requires-clause-passes g c =
    let the = c.server.inside.service in
    let done = c.take_all-taken.ensures in
    let ts : List Taken = c.take_all-taken.result.items in (
      all_there (λ (p : RingKey Item). p.pass.table_id ≡ the.ring) c.take_all-taken.new.places (λ j low.
          let t = get_some ts j (omega (arith, low, done.count.0, done.count.1)) in
          let is = done.taken j t.0 t.1 in
          (is.pass, is.there, is.of_ring ∙ sym c.server.invariant.0.ring_is)),
      omega (arith, done.count.1, c.server.invariant.1.locks),
    )

pub returns-clause-numbers : goal.returns-clause-numbers
returns-clause-numbers g c =
    let done = c.take_all-taken.ensures in
    let cs = c.word_all-regions.result.items in
    let begun = c.server.invariant.0 in
    let count : length cs ≡ g.N.ServerNaming.name.regions = omega (arith, c.word_all-regions.ensures.count, done.count.0, c.server.invariant.1.locks, begun.all, ap (λ (n : Naming). n.regions) begun.named) in
    subst (λ (n : ℕ). map (λ x. x.region) cs ≡ range_with_len 1 n) count
    (numbers_are cs 1 (λ k x at. let w = c.word_all-regions.ensures.each k x at in omega (arith, w.2.region)))

pub returns-clause-regions : goal.returns-clause-regions
returns-clause-regions g c x has =
    let the = c.server.inside.service in
    let done = c.take_all-taken.ensures in
    let begun = c.server.invariant.0 in
    let bases = g.N.VersionsNaming.region_base in
    let handlers = g.N.LockNaming.handlers in
    let ring = g.N.ServiceNaming.ring in
    let back : List (Pass g.row.N.Denot g.N.LockNaming) = c.args.passes.back.items in
    let now : List (Pass g.row.N.Denot g.N.LockNaming) = c.take_all-taken.new.passes.items in
    let passes : List ThePass = map knows back in
    let words : List ℕ = c.shut-disk.result.synced in
    let of = subst (λ (p : ServiceId). ArePassesOf p handlers c.args.passes) (sym c.server.view_is) c.requires.back.0.of in
    let count : length c.take_all-taken.result.items ≡ the.regions = omega (arith, done.count.0, c.server.invariant.1.locks) in
    let made = made_at bases handlers ring passes c.take_all-taken.new.places the.regions words c.take_all-taken.result.items c.word_all-regions.result.items c.as_slice.result.now count c.as_slice.ensures done.taken c.word_all-regions.ensures.each x has in
    closed_made bases handlers ring passes c.take_all-taken.new.places the.regions words g.N.ServerNaming.name x (ap (λ (n : Naming). n.bases) begun.named) made c.requires.back.1
    (λ r low high p is. all_seen the now words c.shut-disk.result.broken (done.of the of.back) c.shut-disk.ensures.saw r low high p (subst (λ (l : List ThePass). Contains l p) (sym done.knows) is))

pub returns-clause-survives : goal.returns-clause-survives
returns-clause-survives g c told x has =
    let the = c.server.inside.service in
    let done = c.take_all-taken.ensures in
    let begun = c.server.invariant.0 in
    let bases = g.N.VersionsNaming.region_base in
    let handlers = g.N.LockNaming.handlers in
    let ring = g.N.ServiceNaming.ring in
    let back : List (Pass g.row.N.Denot g.N.LockNaming) = c.args.passes.back.items in
    let passes : List ThePass = map knows back in
    let words : List ℕ = c.shut-disk.result.synced in
    let count : length c.take_all-taken.result.items ≡ the.regions = omega (arith, done.count.0, c.server.invariant.1.locks) in
    let made = made_at bases handlers ring passes c.take_all-taken.new.places the.regions words c.take_all-taken.result.items c.word_all-regions.result.items c.as_slice.result.now count c.as_slice.ensures done.taken c.word_all-regions.ensures.each x has in
    survives_made bases handlers ring passes c.take_all-taken.new.places the.regions words g.N.ServerNaming.found g.N.ServiceNaming.begun g.N.ServiceNaming.lasts begun.lasts_are (begun.alike told) (begun.recovered told) (g.D.Disk.view c.shut-disk.result.disk) c.shut-disk.result.broken x made
    (c.shut-disk.ensures.commits told)

pub returns-clause-survived : goal.returns-clause-survived
returns-clause-survived g c told x has =
    let the = c.server.inside.service in
    let done = c.take_all-taken.ensures in
    let begun = c.server.invariant.0 in
    let bases = g.N.VersionsNaming.region_base in
    let handlers = g.N.LockNaming.handlers in
    let ring = g.N.ServiceNaming.ring in
    let back : List (Pass g.row.N.Denot g.N.LockNaming) = c.args.passes.back.items in
    let passes : List ThePass = map knows back in
    let words : List ℕ = c.shut-disk.result.synced in
    let count : length c.take_all-taken.result.items ≡ the.regions = omega (arith, done.count.0, c.server.invariant.1.locks) in
    let made = made_at bases handlers ring passes c.take_all-taken.new.places the.regions words c.take_all-taken.result.items c.word_all-regions.result.items c.as_slice.result.now count c.as_slice.ensures done.taken c.word_all-regions.ensures.each x has in
    survived_made bases handlers ring passes c.take_all-taken.new.places the.regions words g.N.ServerNaming.found g.N.ServiceNaming.begun g.N.ServiceNaming.lasts begun.lasts_are (begun.alike told) (begun.recovered told) g.N.ServiceNaming.start (g.D.Disk.view c.shut-disk.result.disk) x made
    (c.shut-disk.ensures.since told)

pub returns-clause-elapsed : goal.returns-clause-elapsed
returns-clause-elapsed g c told =
    let begun = c.server.invariant.0 in
    let v = g.D.Disk.view c.shut-disk.result.disk in
    let start = g.N.ServiceNaming.start in
    let count : c.server.inside.service.regions ≡ g.N.ServerNaming.name.regions = omega (arith, begun.all, ap (λ (n : Naming). n.regions) begun.named) in
    ∥∥₁_map₂ (c.shut-disk.ensures.goes_on told) (c.shut-disk.ensures.others_since told) (λ on since.
    subst (λ (n : ℕ). HasElapsed start g.N.ServiceNaming.past g.N.ServerNaming.found n v) count
    (elapsed_of start g.N.ServiceNaming.past g.N.ServerNaming.found g.N.ServiceNaming.begun v c.server.inside.service.regions (begun.alike told) on since))

pub returns-clause-leaves : goal.returns-clause-leaves
returns-clause-leaves g c told =
    let begun = c.server.invariant.0 in
    let v = g.D.Disk.view c.shut-disk.result.disk in
    let count : c.server.inside.service.regions ≡ g.N.ServerNaming.name.regions = omega (arith, begun.all, ap (λ (n : Naming). n.regions) begun.named) in
    ∥∥₁_map (c.shut-disk.ensures.leaves told) (λ l.
    subst (λ (n : ℕ). Leaves g.N.ServerNaming.found v c.shut-disk.result.broken n) count
    (leaves_of g.N.ServerNaming.found g.N.ServiceNaming.begun v c.shut-disk.result.broken c.server.inside.service.regions (begun.cleared told) (begun.alike told) (begun.higher told) l))

pub returns-clause-seen_broken : goal.returns-clause-seen_broken
returns-clause-seen_broken g c p has =
    let the = c.server.inside.service in
    let done = c.take_all-taken.ensures in
    let of = subst (λ (q : ServiceId). ArePassesOf q g.N.LockNaming.handlers c.args.passes) (sym c.server.view_is) c.requires.back.0.of in
    let now : List (Pass g.row.N.Denot g.N.LockNaming) = c.take_all-taken.new.passes.items in
    all_broken the now c.shut-disk.result.synced c.shut-disk.result.broken (done.of the of.back) c.shut-disk.ensures.saw p (subst (λ (l : List ThePass). Contains l p) (sym done.knows) has)

pub take_all-taken-requires-clause-places : goal.take_all-taken-requires-clause-places
take_all-taken-requires-clause-places g c =
    let locked = c.server.invariant.1 in
    (locked.out, locked.all ∙ sym locked.locks, omega (arith, locked.locks, c.server.invariant.0.some.1))

pub shut-disk-requires-clause-seats : goal.shut-disk-requires-clause-seats
shut-disk-requires-clause-seats g c =
    let back = subst (λ (p : ServiceId). AllBack p g.N.LockNaming.handlers c.args.passes c.args.helpers) (sym c.server.view_is) c.requires.back.0 in
    seats_back c.server.inside.service g.N.LockNaming.handlers c.args.passes c.args.helpers c.take_all-taken.new.passes.items back c.server.invariant.0.seats c.take_all-taken.ensures.knows
