use Rattle.std.proofs.Common.{◌≡◌, ◌∙◌, [], Some, sym, subst}
use Rattle.crossbeam_queue.specs.Passes.{view}
use Rattle.append_ring.specs.declared.pass.RingKey.{RingKey}
use Rattle.ship_queue.specs.declared.reading.Reading.{Reading}
use Rattle.ship_queue.specs.Halves.{IsKeyOf}
use Rattle.ship_queue.proofs.HalfLaws.{opened_one}
use Rattle.ship_queue.proofs.rounds.Opened.new.Goals as goal

pub unreachable-requires : goal.unreachable-requires
unreachable-requires c =
    let new = c.in_ok-ring.ensures.passes in
    let one = opened_one c.in_ok-ring.field-0.ring _ c.in_ok-ring.field-0.passes new.0 new.1 in
    let found : c.next.result ≡ Some one.0 = c.next.ensures.given ∙ one.1 in
    absurd (cc (found, c.in_default.is))

pub returns-clause-key : goal.returns-clause-key
returns-clause-key c =
    let new = c.in_ok-ring.ensures.passes in
    let one = opened_one c.in_ok-ring.field-0.ring _ c.in_ok-ring.field-0.passes new.0 new.1 in
    let found : c.next.result ≡ Some one.0 = c.next.ensures.given ∙ one.1 in
    let both : Some one.0 ≡ Some c.in-Some.key = sym found ∙ c.in-Some.is in
    let same : one.0 ≡ c.in-Some.key = cc both in
    record {
      out = c.next.ensures.left ∙ one.2;
      its = subst (IsKeyOf c.in_ok-ring.field-0.ring) same (one.3, one.4);
      pushed = subst (λ (k : RingKey Reading). (view k.pass).pushed ≡ []) same one.5;
    }
