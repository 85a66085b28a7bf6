use Rattle.std.proofs.Common.{◌≡◌, ℕ, ◌+◌, ◌-◌, ◌<◌, ◌^◌, List, Option, Some, None, slice_get, sym, ap, ◌∙◌, subst, arith, eqb-true}
use Rattle.append_ring.specs.declared.pass.RingKey.{RingKey}
use Rattle.region_model.specs.Journal.{Base, IsJournal}
use Rattle.region_model.specs.Lines.{Line, edits_in, last_in}
use Rattle.pass_calls.specs.log_service.log_halves.declared.item.Item.{Item}
use Rattle.pass_calls.specs.log_service.Closed.{HasPushedEntries}
use Rattle.pass_calls.specs.region_lock.Met.{IsMet}
use Rattle.pass_calls.specs.region_lock.Parts.{Part, AreOwned, entries_in}
use Rattle.region_calls.proofs.BackLaws.{get_set_same, get_set_other}
use Rattle.region_calls.proofs.apart.take_region.Goals as goal

pub returns-clause-taken : goal.returns-clause-taken
returns-clause-taken g c =
    let place = c.args.place in
    let pass = c.into_parts-base.result.2 in
    let parts = c.into_parts-base.ensures in
    let left : Part = c.meet_all-met.new.locked in
    let whole : left ≡ c.args.locked = c.meet_all-met.ensures.same in
    let region : c.args.locked.state.region ≡ place + 1 = sym c.region.ensures ∙ eqb-true c.region.result (place + 1) c.sure.ensures in
    let of : left.state.region ≡ place + 1 = ap (λ (p : Part). p.state.region) whole ∙ region in
    let base : c.into_parts-base.result.0 ≡ left.state.base = parts.base.0 in
    let lines : c.into_parts-base.result.1.items ≡ left.state.lines = parts.lines in
    let here : pass.region - 1 ≡ place = omega (arith, parts.ring.1, of) in
    record {
      met = record {
        base_is = base ∙ parts.base.1 ∙ ap g.N.VersionsNaming.region_base of;
        journal = subst (λ (r : ℕ). IsJournal r c.into_parts-base.result.0 (edits_in r c.into_parts-base.result.1.items)) of
            (subst (λ (b : Base). IsJournal left.state.region b (edits_in left.state.region c.into_parts-base.result.1.items)) (sym base)
            (subst (λ (l : List Line). IsJournal left.state.region left.state.base (edits_in left.state.region l)) (sym lines) parts.journal));
        limit = subst (λ (b : Base). last_in b c.into_parts-base.result.1.items < 2 ^ 48) (sym base) (subst (λ (l : List Line). last_in left.state.base l < 2 ^ 48) (sym lines) parts.limit);
        owners = subst (λ (l : List Line). AreOwned g.N.LockNaming.handlers l) (sym lines) parts.owners;
        each = λ p has.
            let met = c.meet_all-met.ensures.met c.sure-2.ensures p has in
            subst (λ (b : Base). IsMet b (edits_in (place + 1) c.into_parts-base.result.1.items) p.handler (p.known (place + 1))) (sym (base ∙ ap (λ (q : Part). q.state.base) whole))
            (subst (λ (l : List Line). IsMet c.args.locked.state.base (edits_in (place + 1) l) p.handler (p.known (place + 1))) (sym (lines ∙ ap (λ (q : Part). q.state.lines) whole))
            (subst (λ (r : ℕ). IsMet c.args.locked.state.base (edits_in r c.args.locked.state.lines) p.handler (p.known (place + 1))) region met));
      };
      pass = pass;
      there = ap (λ (l : List (Option (RingKey Item))). slice_get l place) c.put_back.ensures ∙ get_set_same c.args.places.now (pass.region - 1) place None (Some pass) here c.requires.place.1;
      of_ring = parts.ring.0;
      of_region = parts.ring.1 ∙ of;
      pushed = subst (λ (r : ℕ). HasPushedEntries pass (entries_in r c.into_parts-base.result.1.items)) of
          (subst (λ (l : List Line). HasPushedEntries pass (entries_in left.state.region l)) (sym lines) parts.pushed);
    }

pub returns-clause-others : goal.returns-clause-others
returns-clause-others g c j other =
    let pass = c.into_parts-base.result.2 in
    let left : Part = c.meet_all-met.new.locked in
    let whole : left ≡ c.args.locked = c.meet_all-met.ensures.same in
    let region : c.args.locked.state.region ≡ c.args.place + 1 = sym c.region.ensures ∙ eqb-true c.region.result (c.args.place + 1) c.sure.ensures in
    let here : pass.region - 1 ≡ c.args.place = omega (arith, c.into_parts-base.ensures.ring.1, ap (λ (p : Part). p.state.region) whole, region) in
    ap (λ (l : List (Option (RingKey Item))). slice_get l j) c.put_back.ensures ∙ get_set_other c.args.places.now (pass.region - 1) j (Some pass) (λ e. other (e ∙ here))
