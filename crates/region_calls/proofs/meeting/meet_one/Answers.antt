use Rattle.std.proofs.Common.{ℕ, ◌<◌, length, refl, sym, ◌∙◌, subst, arith}
use Rattle.std.proofs.lemmas.Option.{slice_get_read}
use Rattle.region_model.specs.Lines.{edits_in}
use Rattle.server_model.specs.Pass.{Known}
use Rattle.pass_calls.specs.region_lock.Met.{IsMet}
use Rattle.pass_calls.specs.region_lock.Passes.{known_of}
use Rattle.pass_calls.proofs.region_lock_laws.Lists.{length_set}
use Rattle.region_calls.proofs.BackLaws.{known_kept, known_here, knows_set, hands_kept}
use Rattle.region_calls.proofs.meeting.meet_one.Goals as goal

pub returns-clause-knows : goal.returns-clause-knows
returns-clause-knows g c =
    let p = c.args.pass.now in
    let low : c.args.place < length p.regions.items = omega (arith, c.requires.pass.2, c.requires.pass.1.count) in
    let at = slice_get_read p.regions.items (length p.regions.items) c.args.place c.index_mut.result.now refl low c.index_mut.ensures.value in
    knows_set p.handler p.calls p.regions.items p.seat c.args.place c.index_mut.result.now c.meet.new.at at
    (λ n. known_kept n c.index_mut.result.now c.meet.new.at p.seat c.meet.ensures.same.1 c.meet.ensures.hand.0 c.meet.ensures.told.0)

pub returns-clause-of : goal.returns-clause-of
returns-clause-of g c the is =
    let p = c.args.pass.now in
    let low : c.args.place < length p.regions.items = omega (arith, c.requires.pass.2, c.requires.pass.1.count) in
    let at = slice_get_read p.regions.items (length p.regions.items) c.args.place c.index_mut.result.now refl low c.index_mut.ensures.value in
    record {
      seat = is.seat;
      count = length_set p.regions.items c.args.place c.meet.new.at ∙ is.count;
      hands = hands_kept p.handler p.calls p.regions.items c.args.place c.index_mut.result.now c.meet.new.at at c.meet.ensures.same.1 c.meet.ensures.hand.0 c.meet.ensures.hand.1.0 is.hands;
    }

pub returns-clause-met : goal.returns-clause-met
returns-clause-met g c t =
    let p = c.args.pass.now in
    let s = c.args.locked.now.state in
    let n = length p.regions.items in
    let q = c.index_mut.result.now in
    let low : c.args.place < n = omega (arith, c.requires.pass.2, c.requires.pass.1.count) in
    let at = slice_get_read p.regions.items n c.args.place q refl low c.index_mut.ensures.value in
    let number = c.meet.ensures.hand.1.0 ∙ (c.requires.pass.1.hands c.args.place q at).number in
    let known = known_kept n q c.meet.new.at p.seat c.meet.ensures.same.1 c.meet.ensures.hand.0 c.meet.ensures.told.0 ∙ sym (known_here p.regions.items p.seat c.args.place q at) in
    subst (λ (k : Known). IsMet s.base (edits_in s.region s.lines) p.handler k) known
    (subst (λ (h : ℕ). IsMet s.base (edits_in s.region s.lines) h (known_of n c.meet.new.at p.seat)) number (c.meet.ensures.met t n p.seat))
