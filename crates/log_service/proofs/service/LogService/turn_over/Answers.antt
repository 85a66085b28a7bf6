use Rattle.std.proofs.Common.{◌≡◌, ℕ, true≢false, refl, sym, ap, ◌∙◌, subst}
use Rattle.crossbeam_queue.specs.Passes.{view}
use Rattle.log_berth.specs.declared.known.Known.{Known}
use Rattle.log_berth.specs.Words.{NoMore, looked}
use Rattle.log_berth.proofs.Joined.{no_more-trans}
use Rattle.log_device.specs.Whole.{log_of, numbers_of}
use Rattle.log_halves.specs.declared.committing.Commit.TheVariants as commits
use Rattle.log_service.specs.declared.seats.LogSeat.{LogSeat}
use Rattle.log_service.specs.declared.turning.SyncTurn.TheVariants as turns
use Rattle.log_halves.specs.Moves.{WasFull}
use Rattle.log_halves.specs.Numbers.{told_numbers}
use Rattle.log_service.specs.Turns.{SawCommitted}
use Rattle.log_service.proofs.SeatLaws.{turn_later, had_both, not_set}
use Rattle.log_halves.proofs.Faults.{has_file}
use Rattle.log_service.proofs.service.LogService.turn_over.Goals as goal

-- each answer is no other
busy_synced : (n : ℕ) → turns.Busy ≡ turns.Synced n → ⊥
busy_synced n is = absurd (cc is)

broken_synced : (n : ℕ) → turns.Broken ≡ turns.Synced n → ⊥
broken_synced n is = absurd (cc is)

clean_synced : (n : ℕ) → turns.Clean ≡ turns.Synced n → ⊥
clean_synced n is = absurd (cc is)

fault_synced : (n : ℕ) → turns.WriteFault ≡ turns.Synced n → ⊥
fault_synced n is = absurd (cc is)

busy_clean : turns.Busy ≡ turns.Clean → ⊥
busy_clean is = absurd (cc is)

broken_clean : turns.Broken ≡ turns.Clean → ⊥
broken_clean is = absurd (cc is)

fault_clean : turns.WriteFault ≡ turns.Clean → ⊥
fault_clean is = absurd (cc is)

pub returns-in-Committed-clause-later : goal.returns-in-Committed-clause-later
returns-in-Committed-clause-later g c =
    let held = c.in-Ok.ensures.taken.1 in
    turn_later c.args.seat.now _ c.take.new.seat.knows c.commit_and_raise-commit.new.seat.device.knows (sym (c.broken.ensures.exact held.turn) ∙ c.if-broken.false)
    (λ broken. (held.stands broken).0) held.seen (subst (λ l. NoMore l c.commit_and_raise-commit.new.seat.device.knows.seen) c.broken.ensures.same.3 c.commit_and_raise-commit.ensures.later) c.end_turn-2.ensures.1
    (c.commit_and_raise-commit.ensures.seat.3 ∙ (c.broken.ensures.known.1 ∙ ap looked held.tally))

pub returns-in-Clean-clause-later : goal.returns-in-Clean-clause-later
returns-in-Clean-clause-later g c =
    let held = c.in-Ok.ensures.taken.1 in
    turn_later c.args.seat.now _ c.take.new.seat.knows c.commit_and_raise-commit.new.seat.device.knows (sym (c.broken.ensures.exact held.turn) ∙ c.if-broken.false)
    (λ broken. (held.stands broken).0) held.seen (subst (λ l. NoMore l c.commit_and_raise-commit.new.seat.device.knows.seen) c.broken.ensures.same.3 c.commit_and_raise-commit.ensures.later) c.end_turn-2.ensures.1
    (c.commit_and_raise-commit.ensures.seat.3 ∙ (c.broken.ensures.known.1 ∙ ap looked held.tally))

pub returns-in-WriteFault-clause-later : goal.returns-in-WriteFault-clause-later
returns-in-WriteFault-clause-later g c =
    let held = c.in-Ok.ensures.taken.1 in
    turn_later c.args.seat.now _ c.take.new.seat.knows c.commit_and_raise-commit.new.seat.device.knows (sym (c.broken.ensures.exact held.turn) ∙ c.if-broken.false)
    (λ broken. (held.stands broken).0) held.seen (subst (λ l. NoMore l c.commit_and_raise-commit.new.seat.device.knows.seen) c.broken.ensures.same.3 c.commit_and_raise-commit.ensures.later) c.end_turn-2.ensures.1
    (c.commit_and_raise-commit.ensures.seat.3 ∙ (c.broken.ensures.known.1 ∙ ap looked held.tally))

pub returns-in-Committed-clause-synced : goal.returns-in-Committed-clause-synced
returns-in-Committed-clause-synced g c n is =
    let after : LogSeat = record { consumer = c.commit_and_raise-commit.new.seat.consumer; device = c.end_turn-2.new.seat; written = c.args.seat.now.written } in
    let held = c.in-Ok.ensures.taken.1 in
    let ware = c.in-Ok.turn.ware in
    let lasts = g.N.ServiceNaming.lasts in
    let same = c.commit_and_raise-commit.ensures.seat in
    let knows = c.commit_and_raise-commit.new.seat.device.knows in
    let ended = c.end_turn-2.ensures.1 in
    let now = (view c.commit_and_raise-commit.new.turn.ware.consumer.pass).popped in
    let of : commits.Committed c.in-Committed.count ≡ commits.Committed n = cc (is) in
    let got = c.in-Committed.ensures.committed n of in (
      had_both c.args.seat.now after c.hand_chain.new.seat c.take.new.seat.knows c.broken.new.seat.knows knows (search (c.if-not-hand_chain.ensures.had)) same.0 held.tally c.broken.ensures.known.1 same.3 ended,
      record {
        before = ware;
        after = c.commit_and_raise-commit.new.turn.ware;
        chain = got.0;
        count = got.2;
        some = c.in-Committed.ensures.some n of;
        popped = got.1;
        in_order = c.in-Committed.ensures.ordered n of;
        below = no_more-trans c.args.seat.now.device.knows.seen c.take.new.seat.knows.seen (told_numbers ware.regions (numbers_of ware.device)) held.seen held.below;
        broken = c.commit_and_raise-commit.ensures.broken ∙ sym (ap (λ (k : Known). k.broken) ended);
        sees = subst (λ (k : Known). SawCommitted lasts k now) (sym ended) (c.in-Committed.ensures.sees n of);
      },
    )

pub returns-in-Clean-clause-clean : goal.returns-in-Clean-clause-clean
returns-in-Clean-clause-clean g c is =
    let after : LogSeat = record { consumer = c.commit_and_raise-commit.new.seat.consumer; device = c.end_turn-2.new.seat; written = c.args.seat.now.written } in
    let held = c.in-Ok.ensures.taken.1 in
    let ware = c.commit_and_raise-commit.new.turn.ware in
    let same = c.commit_and_raise-commit.ensures.seat in
    let knows = c.commit_and_raise-commit.new.seat.device.knows in
    let ended = c.end_turn-2.ensures.1 in
    let none = c.in-Clean.ensures.clean refl in (
      had_both c.args.seat.now after c.hand_chain.new.seat c.take.new.seat.knows c.broken.new.seat.knows knows (search (c.if-not-hand_chain.ensures.had)) same.0 held.tally c.broken.ensures.known.1 same.3 ended,
      record {
        half = ware;
        broken = c.commit_and_raise-commit.ensures.broken ∙ sym (ap (λ (k : Known). k.broken) ended);
        below = subst (λ (k : Known). NoMore k.seen (told_numbers ware.regions (numbers_of ware.device))) (sym ended) c.commit_and_raise-commit.ensures.below;
        empty = subst (WasFull 0) (sym none.1) none.2;
      },
    )

pub returns-in-WriteFault-clause-fault : goal.returns-in-WriteFault-clause-fault
returns-in-WriteFault-clause-fault g c is =
    let after : LogSeat = record { consumer = c.commit_and_raise-commit.new.seat.consumer; device = c.end_turn-2.new.seat; written = c.args.seat.now.written } in
    let held = c.in-Ok.ensures.taken.1 in
    let same = c.commit_and_raise-commit.ensures.seat in
    let ended = c.end_turn-2.ensures.1 in
    let whole = sym (c.broken.ensures.exact held.turn) ∙ c.if-broken.false in (
      had_both c.args.seat.now after c.hand_chain.new.seat c.take.new.seat.knows c.broken.new.seat.knows c.commit_and_raise-commit.new.seat.device.knows (search (c.if-not-hand_chain.ensures.had)) same.0 held.tally
          c.broken.ensures.known.1 same.3 ended,
      not_set c.args.seat.now.device.knows.broken (λ broken. true≢false (sym (held.stands broken).0 ∙ whole)),
      ap (λ (k : Known). k.broken) ended ∙ c.in-WriteFault.ensures.fault refl,
    )

pub returns-then-not-hand_chain-clause-synced : goal.returns-then-not-hand_chain-clause-synced
returns-then-not-hand_chain-clause-synced g c n is = absurd (busy_synced n is)

pub returns-then-not-hand_chain-clause-clean : goal.returns-then-not-hand_chain-clause-clean
returns-then-not-hand_chain-clause-clean g c is = absurd (busy_clean is)

pub returns-in_default-clause-synced : goal.returns-in_default-clause-synced
returns-in_default-clause-synced g c n is = absurd (busy_synced n is)

pub returns-in_default-clause-clean : goal.returns-in_default-clause-clean
returns-in_default-clause-clean g c is = absurd (busy_clean is)

pub returns-then-broken-clause-synced : goal.returns-then-broken-clause-synced
returns-then-broken-clause-synced g c n is = absurd (broken_synced n is)

pub returns-then-broken-clause-clean : goal.returns-then-broken-clause-clean
returns-then-broken-clause-clean g c is = absurd (broken_clean is)

pub returns-in-Clean-clause-synced : goal.returns-in-Clean-clause-synced
returns-in-Clean-clause-synced g c n is = absurd (clean_synced n is)

pub returns-in-WriteFault-clause-synced : goal.returns-in-WriteFault-clause-synced
returns-in-WriteFault-clause-synced g c n is = absurd (fault_synced n is)

pub returns-in-WriteFault-clause-clean : goal.returns-in-WriteFault-clause-clean
returns-in-WriteFault-clause-clean g c is = absurd (fault_clean is)

pub returns-in-Committed-clause-clean : goal.returns-in-Committed-clause-clean
returns-in-Committed-clause-clean g c is = absurd (clean_synced _ (sym is))

-- what the device's turn was taken with still holds after the look
pub end_turn-requires-clause-durable : goal.end_turn-requires-clause-durable
end_turn-requires-clause-durable g c =
    let ware = c.in-Ok.turn.ware in
    subst (λ l. NoMore l (told_numbers ware.regions (numbers_of ware.device))) (sym c.broken.ensures.same.3) c.in-Ok.ensures.taken.1.below

pub end_turn-requires-clause-broken : goal.end_turn-requires-clause-broken
end_turn-requires-clause-broken g c =
    let held = c.in-Ok.ensures.taken.1 in
    held.broken ∙ (sym (c.broken.ensures.exact held.turn) ∙ sym c.broken.ensures.known.0)

pub end_turn-requires-then-not-hand_chain-clause-durable : goal.end_turn-requires-then-not-hand_chain-clause-durable
end_turn-requires-then-not-hand_chain-clause-durable g c =
    let ware = c.in-Ok.turn.ware in
    subst (λ l. NoMore l (told_numbers ware.regions (numbers_of ware.device))) (sym c.broken.ensures.same.3) c.in-Ok.ensures.taken.1.below

pub end_turn-requires-then-not-hand_chain-clause-broken : goal.end_turn-requires-then-not-hand_chain-clause-broken
end_turn-requires-then-not-hand_chain-clause-broken g c =
    let held = c.in-Ok.ensures.taken.1 in
    held.broken ∙ (sym (c.broken.ensures.exact held.turn) ∙ sym c.broken.ensures.known.0)

pub commit_and_raise-commit-requires-clause-unbroken : goal.commit_and_raise-commit-requires-clause-unbroken
commit_and_raise-commit-requires-clause-unbroken g c =
    let held = c.in-Ok.ensures.taken.1 in
    has_file (log_of c.in-Ok.turn.ware.device) (held.broken ∙ (sym (c.broken.ensures.exact held.turn) ∙ c.if-broken.false))

pub commit_and_raise-commit-requires-clause-below : goal.commit_and_raise-commit-requires-clause-below
commit_and_raise-commit-requires-clause-below g c =
    let ware = c.in-Ok.turn.ware in
    subst (λ l. NoMore l (told_numbers ware.regions (numbers_of ware.device))) (sym c.broken.ensures.same.3) c.in-Ok.ensures.taken.1.below
