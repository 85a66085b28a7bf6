use Rattle.std.proofs.Common.{◌≡◌, ℕ, sym, ap, ◌∙◌, subst, arith}
use mathlib.Core.List.{IsPrefix}
use Rattle.hand_register.specs.declared.known.Record.{Record}
use Rattle.region_model.specs.Lines.{Line, last_in}
use Rattle.region_state.specs.Outcomes.{outcome_at_end}
use Rattle.region_versions.specs.Histories.{Beginning}
use Rattle.pass_calls.specs.declared.ending.Left.TheVariants as left
use Rattle.region_lock.specs.Met.{ArePlaced}
use Rattle.region_lock.specs.Parts.{Part, WasEnded}
use Rattle.pass_calls.proofs.ending.end_in.Goals as goal

wait_differs : left.Wait ≡ left.Nothing → ⊥
wait_differs e = cc e

show_differs : left.Show ≡ left.Nothing → ⊥
show_differs e = cc e

pub returns-then-point-number-clause-own : goal.returns-then-point-number-clause-own
returns-then-point-number-clause-own g c = c.end-point.ensures.own

pub returns-then-point-number-clause-seen : goal.returns-then-point-number-clause-seen
returns-then-point-number-clause-seen g c e = absurd (wait_differs e)

pub returns-then-number-point-clause-own : goal.returns-then-number-point-clause-own
returns-then-number-point-clause-own g c = c.end-point.ensures.own

pub returns-then-number-point-clause-pass : goal.returns-then-number-point-clause-pass
returns-then-number-point-clause-pass g c = let e = c.end-point.ensures in (c.point.ensures.region, e.hand.0, e.mark)

pub returns-then-number-point-clause-lines : goal.returns-then-number-point-clause-lines
returns-then-number-point-clause-lines g c = c.point.ensures.later

pub returns-then-number-point-clause-seen : goal.returns-then-number-point-clause-seen
returns-then-number-point-clause-seen g c e = absurd (show_differs e)

pub returns-clause-own : goal.returns-clause-own
returns-clause-own g c =
    let o = outcome_at_end c.args.ended in
    let own = c.end-point.ensures.own in
    subst (λ (r : Record Line). WasEnded o c.args.at.now.hand.record.list r.list) (sym c.meet.ensures.hand.0) own

pub returns-clause-pass : goal.returns-clause-pass
returns-clause-pass g c =
    let m = c.meet.ensures in
    let e = c.end-point.ensures in (
      ap (λ (b : Beginning). b.region) m.same.1 ∙ c.point.ensures.region,
      m.hand.1.0 ∙ e.hand.0,
      ap (λ (r : Record Line). r.mark) m.hand.0 ∙ e.mark,
    )

pub returns-clause-lines : goal.returns-clause-lines
returns-clause-lines g c =
    let later = c.point.ensures.later in
    subst (λ (b : Beginning). IsPrefix c.args.at.now.viewer.lines b.lines) (sym c.meet.ensures.same.1) later

pub returns-clause-seen : goal.returns-clause-seen
returns-clause-seen g c e = absurd (show_differs e)

pub returns-then-meet-clause-own : goal.returns-then-meet-clause-own
returns-then-meet-clause-own g c =
    let o = outcome_at_end c.args.ended in
    let own = c.end-point.ensures.own in
    subst (λ (r : Record Line). WasEnded o c.args.at.now.hand.record.list r.list) (sym c.meet.ensures.hand.0) own

pub returns-then-meet-clause-pass : goal.returns-then-meet-clause-pass
returns-then-meet-clause-pass g c =
    let m = c.meet.ensures in
    let e = c.end-point.ensures in (
      ap (λ (b : Beginning). b.region) m.same.1 ∙ c.point.ensures.region,
      m.hand.1.0 ∙ e.hand.0,
      ap (λ (r : Record Line). r.mark) m.hand.0 ∙ e.mark,
    )

pub returns-then-meet-clause-lines : goal.returns-then-meet-clause-lines
returns-then-meet-clause-lines g c =
    let later = c.point.ensures.later in
    subst (λ (b : Beginning). IsPrefix c.args.at.now.viewer.lines b.lines) (sym c.meet.ensures.same.1) later

pub returns-then-meet-clause-seen : goal.returns-then-meet-clause-seen
returns-then-meet-clause-seen g c =
    let bases = g.N.VersionsNaming.region_base in
    let at = c.meet.new.at in
    let there = c.requires.region in
    let ended = ap (λ (p : Part). p.state.region) c.end-point.ensures.lines in
    let shown = ap (λ (p : Part). p.state.region) c.show-shown.ensures.same in
    let here : c.args.at.now.viewer.region ≡ at.viewer.region = sym (ap (λ (b : Beginning). b.region) c.meet.ensures.same.1 ∙ c.point.ensures.region) in
    let point : c.point.result ≡ last_in (bases at.viewer.region) at.viewer.lines = c.point.ensures.point ∙ ap (λ (b : Beginning). last_in (bases b.region) b.lines) (sym c.meet.ensures.same.1) in
    λ is. record {
      seen = omega (arith, c.if-number-point.false, c.number-number.ensures, point);
      placed = subst (λ (r : ℕ). ArePlaced (bases r) at.hand.record.list at.viewer.lines) (shown ∙ ended ∙ there ∙ here) (c.meet.ensures.placed c.if-meet.true);
    }

pub invariant_of-at-2 : goal.invariant_of-at-2
invariant_of-at-2 g c = record {
  of_desk = c.end-point.ensures.hand.1 ∙ c.args.at.now.of_desk ∙ ap g.N.LockNaming.desk (sym c.point.ensures.region);
  of_spent = c.args.at.now.of_spent ∙ ap g.N.LockNaming.spent (sym c.point.ensures.region);
  one = c.args.at.now.one ∙ sym c.end-point.ensures.hand.0;
}

pub meet-requires : goal.meet-requires
meet-requires g c =
    let there = c.requires.region in
    let ended = ap (λ (p : Part). p.state.region) c.end-point.ensures.lines in
    let shown = ap (λ (p : Part). p.state.region) c.show-shown.ensures.same in
    c.point.ensures.region ∙ sym (shown ∙ ended ∙ there)
