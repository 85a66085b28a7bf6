use Rattle.std.proofs.Common.{◌≡◌, inl, inr, ◌+◌, ◌<◌, List, length, map, slice_get, refl, sym, ap, ◌∙◌, subst, arith}
use Rattle.std.proofs.lemmas.Bool.{cases_lt}
use Rattle.std.proofs.lemmas.Option.{slice_get_read}
use Rattle.region_model.specs.Lines.{edits_in}
use Rattle.server_model.specs.Pass.{Pass as ThePass}
use Rattle.pass_calls.specs.region_lock.Met.{IsMet}
use Rattle.pass_calls.specs.region_lock.Parts.{Part}
use Rattle.pass_calls.proofs.region_lock_laws.Lists.{length_set}
use Rattle.region_calls.specs.declared.pass.Pass.{Pass}
use Rattle.region_calls.specs.Passes.{knows}
use Rattle.region_calls.proofs.BackLaws.{contains_get, map_set, map_at, all_set, all_get}
use Rattle.std.proofs.lemmas.List.{length-map}
use Rattle.region_calls.proofs.Seated.{same_of}
use Rattle.region_calls.proofs.meeting.meet_all.Goals as goal

pub meet_one-requires-clause-pass : goal.meet_one-requires-clause-pass
meet_one-requires-clause-pass g c =
    let ps = c.meeting.passes.items in
    let inv = c.meeting.invariant in
    let low : c.meeting.at < length ps = omega (arith, c.meeting-test.true, c.len-at-end.ensures, c.args.passes.now.ok.0, inv.count) in
    let here = slice_get_read ps (length ps) c.meeting.at c.index_mut.result.now refl low c.index_mut.ensures.value in
    (c.requires.passes.0, all_get c.requires.passes.0 ps c.meeting.at c.index_mut.result.now (inv.of c.requires.passes.0 c.requires.passes.1) here, c.requires.passes.2)

pub returns-then-not-meet_one-clause-knows : goal.returns-then-not-meet_one-clause-knows
returns-then-not-meet_one-clause-knows g c =
    let ps = c.meeting.passes.items in
    let inv = c.meeting.invariant in
    let low : c.meeting.at < length ps = omega (arith, c.meeting-test.true, c.len-at-end.ensures, c.args.passes.now.ok.0, inv.count) in
    let here = slice_get_read ps (length ps) c.meeting.at c.index_mut.result.now refl low c.index_mut.ensures.value in
    map_set (knows {N = g.row.N.Denot} {g = g.N.LockNaming}) ps c.meeting.at c.meet_one.new.pass c.index_mut.result.now here c.meet_one.ensures.knows ∙ inv.known

pub returns-then-not-meet_one-clause-of : goal.returns-then-not-meet_one-clause-of
returns-then-not-meet_one-clause-of g c the all =
    let ps = c.meeting.passes.items in
    let inv = c.meeting.invariant in
    let low : c.meeting.at < length ps = omega (arith, c.meeting-test.true, c.len-at-end.ensures, c.args.passes.now.ok.0, inv.count) in
    let here = slice_get_read ps (length ps) c.meeting.at c.index_mut.result.now refl low c.index_mut.ensures.value in
    all_set the ps c.meeting.at c.meet_one.new.pass (inv.of the all) (c.meet_one.ensures.of the (all_get the ps c.meeting.at c.index_mut.result.now (inv.of the all) here))

pub meeting-preserved : goal.meeting-preserved
meeting-preserved g c =
    let ps = c.meeting.passes.items in
    let at = c.meeting.at in
    let inv = c.meeting.invariant in
    let old : List (Pass g.row.N.Denot g.N.LockNaming) = c.args.passes.now.items in
    let low : at < length ps = omega (arith, c.meeting-test.true, c.len-at-end.ensures, c.args.passes.now.ok.0, inv.count) in
    let here = slice_get_read ps (length ps) at c.index_mut.result.now refl low c.index_mut.ensures.value in
    let s = c.args.locked.now.state in
    record {
      same = c.meet_one.ensures.same ∙ inv.same;
      known = map_set (knows {N = g.row.N.Denot} {g = g.N.LockNaming}) ps at c.meet_one.new.pass c.index_mut.result.now here c.meet_one.ensures.knows ∙ inv.known;
      of = λ the all. all_set the ps at c.meet_one.new.pass (inv.of the all) (c.meet_one.ensures.of the (all_get the ps at c.index_mut.result.now (inv.of the all) here));
      count = length_set ps at c.meet_one.new.pass ∙ inv.count;
      met = λ k p before is. elim (cases_lt k at) as (λ _. IsMet s.base (edits_in s.region s.lines) p.handler (p.known (c.args.place + 1))) [
        | inl low ↦ inv.met k p low is
        | inr high ↦
            let same : k ≡ at = omega (arith, before, high) in
            let mine : knows c.index_mut.result.now ≡ p =
            same_of (knows c.index_mut.result.now) p (sym (map_at (knows {N = g.row.N.Denot} {g = g.N.LockNaming}) ps at c.index_mut.result.now here) ∙ ap (λ (l : List ThePass). slice_get l at) inv.known ∙ ap (λ i. slice_get (map knows old) i) (sym same) ∙ is) in
            subst (λ (q : ThePass). IsMet s.base (edits_in s.region s.lines) q.handler (q.known (c.args.place + 1))) mine
            (subst (λ (l : Part). IsMet l.state.base (edits_in l.state.region l.state.lines) (knows c.index_mut.result.now).handler ((knows c.index_mut.result.now).known (c.args.place + 1))) inv.same (c.meet_one.ensures.met (c.if-not-meet_one.false)))
      ];
    }

pub returns-clause-met : goal.returns-clause-met
returns-clause-met g c t p has =
    let inv = c.meeting.invariant in
    let r = contains_get (map knows c.args.passes.now.items) p has in
    inv.met r.0 p (omega (arith, r.1, length-map c.args.passes.now.items (knows {N = g.row.N.Denot} {g = g.N.LockNaming}), c.meeting-test.false, c.len-at-end.ensures, c.args.passes.now.ok.0)) r.2
