use Rattle.std.proofs.Common.{◌≡◌, ◌<◌, ◌*◌, ℕ, true≢false, get_or, sym, ap, ◌∙◌, subst, arith}
use Rattle.log_berth.specs.declared.known.Known.{Known}
use Rattle.log_berth.specs.declared.known.Tally.{Tally}
use Rattle.log_berth.specs.Words.{NoMore}
use Rattle.log_device.specs.Whole.{numbers_of}
use Rattle.log_halves.specs.Numbers.{told_numbers, HasSeen}
use Rattle.log_service.specs.Places.{ServiceId}
use Rattle.log_service.proofs.Sees.{has_seen}
use Rattle.log_service.proofs.service.LogService.give_both.Goals as goal

pub give-requires-clause-durable : goal.give-requires-clause-durable
give-requires-clause-durable g c = c.tell_all.ensures.below

pub returns-clause-later : goal.returns-clause-later
returns-clause-later g c = record {
  words = subst (NoMore c.args.seat.now.device.knows.seen) (sym (ap (λ (k : Known). k.seen) c.give.ensures.1)) c.tell_all.ensures.later;
  fault = λ broken. absurd (true≢false (sym broken ∙ c.requires.whole));
  looks =
      let given = ap (λ (k : Known). k.tally.looks) c.give.ensures.1 in
      let told = ap (λ (t : Tally). t.looks) c.tell_all.ensures.tally in
      omega (arith, given, told);
}

pub returns-clause-saw : goal.returns-clause-saw
returns-clause-saw g c whole =
    let ware = c.args.turn.ware in
    let seat = c.give.new.seat.knows in
    let still = ap (λ (k : Known). k.broken) c.give.ensures.1 in
    let regions = ap (λ (p : ServiceId). p.regions) c.self.view_is in
    let n_is : ware.regions ≡ c.args.self.now.regions = ware.all.0 ∙ (sym c.self.invariant.6 ∙ regions) in
    let raised : (i : ℕ) → i < 3 * ware.regions → get_or seat.seen i 0 ≡ get_or (told_numbers ware.regions (numbers_of ware.device)) i 0 = λ i low.
    ap (λ (k : Known). get_or k.seen i 0) c.give.ensures.1 ∙ c.tell_all.ensures.raised (sym still ∙ whole) i (omega (arith, low, n_is, regions)) in
    subst (λ (m : ℕ). HasSeen m seat (numbers_of ware.device)) n_is (has_seen ware.regions seat (numbers_of ware.device) raised)
