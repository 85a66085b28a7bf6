-- One call of a pass on one region, from what it does to its hand there and to its seat.
use Rattle.std.proofs.Common.{◌≡◌, ℕ, zero, suc, ◌+◌, ◌<◌, ◌≤◌, Bool, IsTrue, List, ◌++◌, length, set, Option, Some, None, slice_get, Contains, refl, sym, ap, ◌∙◌, subst, arith}
use Rattle.cell_model.specs.Batch.{Batch}
use Rattle.pass_calls.specs.log_service.declared.seats.LogSeat.{LogSeat}
use Rattle.pass_calls.specs.log_service.Places.{IsLaterSeat}
use Rattle.region_model.specs.Calls.{Answer, Raw, is_put, is_scan, is_flush}
use Rattle.region_model.specs.Journal.{Base, Edit, Caller}
use Rattle.region_model.specs.Lawful.{number_of}
use Rattle.region_model.specs.Lines.{edits_in}
use Rattle.server_model.specs.Pass.{Known, Naming}
use Rattle.server_model.specs.Steps.{Puts, Scans, Flushes, drawn}
use Rattle.pass_calls.specs.region_lock.declared.pass.RegionPass.{RegionPass}
use Rattle.pass_calls.specs.region_lock.declared.naming.LockNaming.{Ghosts}
use Rattle.pass_calls.specs.region_lock.Calls.{PutsAt, ScansAt, FlushesAt}
use Rattle.pass_calls.specs.region_lock.Passes.{known_of, SamePass}
use Rattle.pass_calls.proofs.region_lock_laws.Lifts.{puts_from, scans_from, flushes_from}
use Rattle.region_calls.specs.Passes.{known_at, known_in, pass_of, IsHandOf}
use Rattle.region_calls.proofs.Knowing.{others_later, known_here, below_more, called_more}

drawn_low : (r time : ℕ) (batch : Batch) (caller : Caller) (answer : Answer) (o : Option ℕ) (e : Edit) → Contains (drawn r time batch caller answer o) e → e.caller.call < caller.call + 1
drawn_low r time batch caller answer None e (k, low, at) = absurd (omega (arith, low))
drawn_low r time batch caller answer (Some n) e (zero, low, at) = let same = ap (λ (t : Edit). t.caller.call) at in omega (arith, same)
drawn_low r time batch caller answer (Some n) e (suc k, low, at) = absurd (omega (arith, low))

module _ {N : Type 0} {g : Ghosts N} where
  was_here : (ps : List (RegionPass N g)) (k : ℕ) (p : RegionPass N g) (seat : LogSeat) → slice_get ps k ≡ Some p → known_in ps seat (suc k) ≡ known_of (length ps) p seat
  was_here ps k p seat at = λ i. known_at (length ps) seat (at i)

  pub puts_all : (name : Naming) (time k : ℕ) (sync : Bool) (batch : Batch) (caller : Caller) (answer : Answer) (h calls : ℕ) (ps : List (RegionPass N g)) (p p' : RegionPass N g) (seat seat' : LogSeat)
      → slice_get ps k ≡ Some p → k < length ps → IsTrue (is_put answer)
      → PutsAt (name.bases (suc k)) time (suc k) sync batch caller answer (known_of (length ps) p seat) (known_of (length ps) p' seat') seat.device.knows.broken seat'.device.knows.broken
      → IsLaterSeat seat seat' → calls ≤ caller.call → Puts name time (suc k) sync batch caller answer (pass_of h calls ps seat) (pass_of h caller.call (set ps k p') seat')
  puts_all name time k sync batch caller answer h calls ps p p' seat seat' at low answered puts later le =
      puts_from name time (suc k) sync batch caller answer (pass_of h calls ps seat) (pass_of h caller.call (set ps k p') seat') answered
      (subst (λ (w : Known). PutsAt (name.bases (suc k)) time (suc k) sync batch caller answer w (known_in (set ps k p') seat' (suc k)) seat.device.knows.broken seat'.device.knows.broken) (sym (was_here ps k p seat at))
      (subst (λ (w : Known). PutsAt (name.bases (suc k)) time (suc k) sync batch caller answer (known_of (length ps) p seat) w seat.device.knows.broken seat'.device.knows.broken) (sym (known_here ps k p' seat' low)) puts))
      (λ s other. others_later ps k p' seat seat' later.words s other) refl le refl

  pub flushes_all : (name : Naming) (k : ℕ) (family : Option (List ℕ)) (caller : Caller) (answer : Answer) (h calls : ℕ) (ps : List (RegionPass N g)) (p p' : RegionPass N g) (seat seat' : LogSeat)
      → slice_get ps k ≡ Some p → k < length ps → IsTrue (is_flush answer)
      → FlushesAt (name.bases (suc k)) (name.flushes (suc k)) family caller answer (known_of (length ps) p seat) (known_of (length ps) p' seat') seat.device.knows.broken seat'.device.knows.broken
      → IsLaterSeat seat seat' → calls ≤ caller.call → Flushes name (suc k) family caller answer (pass_of h calls ps seat) (pass_of h caller.call (set ps k p') seat')
  flushes_all name k family caller answer h calls ps p p' seat seat' at low answered flushes later le =
      flushes_from name (suc k) family caller answer (pass_of h calls ps seat) (pass_of h caller.call (set ps k p') seat') answered
      (subst (λ (w : Known). FlushesAt (name.bases (suc k)) (name.flushes (suc k)) family caller answer w (known_in (set ps k p') seat' (suc k)) seat.device.knows.broken seat'.device.knows.broken) (sym (was_here ps k p seat at))
      (subst (λ (w : Known). FlushesAt (name.bases (suc k)) (name.flushes (suc k)) family caller answer (known_of (length ps) p seat) w seat.device.knows.broken seat'.device.knows.broken) (sym (known_here ps k p' seat' low)) flushes))
      (λ s other. others_later ps k p' seat seat' later.words s other) refl le refl

  pub scans_all : (name : Naming) (k : ℕ) (from to : List ℕ) (answer : Answer) (h calls : ℕ) (ps : List (RegionPass N g)) (p p' : RegionPass N g) (seat : LogSeat)
      → slice_get ps k ≡ Some p → k < length ps → IsTrue (is_scan answer)
      → ScansAt (name.bases (suc k)) from to answer (known_of (length ps) p seat) (known_of (length ps) p' seat)
      → Scans name Raw (suc k) from to answer (pass_of h calls ps seat) (pass_of h calls (set ps k p') seat)
  scans_all name k from to answer h calls ps p p' seat at low answered scans =
      scans_from name (suc k) from to answer (pass_of h calls ps seat) (pass_of h calls (set ps k p') seat) answered
      (subst (λ (w : Known). ScansAt (name.bases (suc k)) from to answer w (known_in (set ps k p') seat (suc k))) (sym (was_here ps k p seat at))
      (subst (λ (w : Known). ScansAt (name.bases (suc k)) from to answer (known_of (length ps) p seat) w) (sym (known_here ps k p' seat low)) scans))
      (λ s other. others_later ps k p' seat seat (λ i. omega arith) s other) refl refl refl

  -- a hand that a put used
  pub put_hand : (base : Base) (time r n h calls : ℕ) (sync : Bool) (batch : Batch) (caller : Caller) (answer : Answer) (p p' : RegionPass N g) (seat seat' : LogSeat) (was is : Bool)
      → IsHandOf h calls r p → SamePass p p' → calls < caller.call → PutsAt base time p.viewer.region sync batch caller answer (known_of n p seat) (known_of n p' seat') was is → IsHandOf h caller.call r p'
  put_hand base time r n h calls sync batch caller answer p p' seat seat' was is old same low puts =
      let own : edits_in p.viewer.region p'.hand.record.list ≡ edits_in p.viewer.region p.hand.record.list ++ drawn p.viewer.region time batch caller answer (number_of answer) =
      ap (λ q. edits_in q p'.hand.record.list) (sym same.0) ∙ puts.own in
      record {
        region = same.0 ∙ old.region;
        number = same.1 ∙ old.number;
        mark = same.2 ∙ old.mark;
        called = called_more p.viewer.region (caller.call + 1) p.hand.record.list p'.hand.record.list (drawn p.viewer.region time batch caller answer (number_of answer)) own
            (below_more (calls + 1) (caller.call + 1) p.hand.record.list (omega (arith, low)) old.called) (drawn_low p.viewer.region time batch caller answer (number_of answer));
      }
