-- One call of a pass, from what it does to what is known of its region.
use Rattle.std.proofs.lemmas.Bool.{cases_eq}
use Rattle.std.proofs.Common.{◌≡◌, ◌≢◌, ℕ, ◌≤◌, Bool, IsTrue, List, Option, sym, ◌∙◌, subst, inl, inr, arith}
use Rattle.cell_model.specs.Batch.{Batch}
use Rattle.region_model.specs.Journal.{Caller}
use Rattle.region_model.specs.Calls.{Answer, Raw, is_put, is_scan, is_flush, is_roll}
use Rattle.log_service.specs.declared.seats.LogSeat.{LogSeat}
use Rattle.server_model.specs.Pass.{Pass, Naming, IsLaterOf, IsQuiet}
use Rattle.server_model.specs.Steps.{Puts, Scans, Flushes, Rolls, IsRolled}
use Rattle.region_lock.specs.Calls.{PutsAt, ScansAt, FlushesAt, RollsAt}

-- what is so of one region and of all others is so of each
later_of_all : (r : ℕ) (old new : Pass) → IsLaterOf (old.known r) (new.known r) → ((s : ℕ) → s ≢ r → IsLaterOf (old.known s) (new.known s)) → (s : ℕ) → IsLaterOf (old.known s) (new.known s)
later_of_all r old new here others s = elim (cases_eq s r) [ inl same ↦ subst (λ (t : ℕ). IsLaterOf (old.known t) (new.known t)) (sym same) here | inr other ↦ others s other ]

quiet_of_all : (r : ℕ) (old new : Pass) → IsQuiet (old.known r) (new.known r) → ((s : ℕ) → s ≢ r → IsQuiet (old.known s) (new.known s)) → (s : ℕ) → IsQuiet (old.known s) (new.known s)
quiet_of_all r old new here others s = elim (cases_eq s r) [ inl same ↦ subst (λ (t : ℕ). IsQuiet (old.known t) (new.known t)) (sym same) here | inr other ↦ others s other ]

-- One put of a pass, from what it does to what is known of its region.
pub puts_from : (name : Naming) (time r : ℕ) (sync : Bool) (batch : Batch) (caller : Caller) (answer : Answer) (old new : Pass) → IsTrue (is_put answer)
    → PutsAt (name.bases r) time r sync batch caller answer (old.known r) (new.known r) old.broken new.broken → ((s : ℕ) → s ≢ r → IsLaterOf (old.known s) (new.known s) × IsQuiet (old.known s) (new.known s))
    → new.handler ≡ old.handler → old.calls ≤ caller.call → new.calls ≡ caller.call → Puts name time r sync batch caller answer old new
puts_from name time r sync batch caller answer old new answered p others handler calls used = record {
  answered = answered;
  later = record { handler = handler; calls = omega (arith, used, calls); known = later_of_all r old new p.later (λ s other. (others s other).0); broken = p.stays };
  own = p.own;
  spent = p.spent;
  elsewhere = λ s other. (others s other).1;
  above = p.above;
  above_own = p.above_own;
  seen = p.seen;
  place = p.place;
  synced = p.synced;
  fault = p.fault;
  stops = p.stops;
  fault_sync = p.fault_sync;
  limit = p.limit;
  used = used;
}

-- One scan of a pass. Its seat has seen no more.
pub scans_from : (name : Naming) (r : ℕ) (from to : List ℕ) (answer : Answer) (old new : Pass) → IsTrue (is_scan answer)
    → ScansAt (name.bases r) from to answer (old.known r) (new.known r) → ((s : ℕ) → s ≢ r → IsLaterOf (old.known s) (new.known s) × IsQuiet (old.known s) (new.known s))
    → new.handler ≡ old.handler → new.calls ≡ old.calls → new.broken ≡ old.broken → Scans name Raw r from to answer old new
scans_from name r from to answer old new answered p others handler used broken = record {
  answered = answered;
  later = record { handler = handler; calls = omega (arith, used); known = later_of_all r old new p.later (λ s other. (others s other).0); broken = λ e. broken ∙ e };
  own = quiet_of_all r old new p.own (λ s other. (others s other).1);
  cells = p.cells;
  used = used;
}

-- One flush of a pass.
pub flushes_from : (name : Naming) (r : ℕ) (family : Option (List ℕ)) (caller : Caller) (answer : Answer) (old new : Pass) → IsTrue (is_flush answer)
    → FlushesAt (name.bases r) (name.flushes r) family caller answer (old.known r) (new.known r) old.broken new.broken → ((s : ℕ) → s ≢ r → IsLaterOf (old.known s) (new.known s) × IsQuiet (old.known s) (new.known s))
    → new.handler ≡ old.handler → old.calls ≤ caller.call → new.calls ≡ caller.call → Flushes name r family caller answer old new
flushes_from name r family caller answer old new answered p others handler calls used = record {
  answered = answered;
  later = record { handler = handler; calls = omega (arith, used, calls); known = later_of_all r old new p.later (λ s other. (others s other).0); broken = p.stays };
  own = quiet_of_all r old new p.own (λ s other. (others s other).1);
  above = p.above;
  above_own = p.above_own;
  stored = p.stored;
  busy = p.busy;
  fault = p.fault;
  used = used;
  flushed = p.flushed;
  nothing = p.nothing;
}

-- One roll of a pass, whose words of each region are those of its seat.
pub rolls_from : (n : ℕ) (answer : Answer) (before after : LogSeat) (old new : Pass) → IsTrue (is_roll answer) → RollsAt n answer before after
    → ((r : ℕ) → IsLaterOf (old.known r) (new.known r) × IsQuiet (old.known r) (new.known r)) → ((r : ℕ) → IsRolled answer → (old.known r).synced ≤ (new.known r).closed)
    → new.handler ≡ old.handler → new.calls ≡ old.calls → old.broken ≡ before.device.knows.broken → new.broken ≡ after.device.knows.broken → Rolls answer old new
rolls_from n answer before after old new answered p all closed handler used was is = record {
  answered = answered;
  later = record { handler = handler; calls = omega (arith, used); known = λ r. (all r).0; broken = λ e. is ∙ (p.later.fault (sym was ∙ e)).0 };
  own = λ r. (all r).1;
  closed = closed;
  fault = λ e. is ∙ p.fault e;
  used = used;
}
