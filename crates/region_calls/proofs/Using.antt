-- One call of a pass on one region, by the number of the region.
use Rattle.std.proofs.Common.{◌≡◌, ℕ, zero, suc, ◌+◌, ◌-◌, ◌<◌, ◌≤◌, Bool, IsTrue, List, [], ◌++◌, length, set, get_or, Option, Some, None, Result, Ok, Err, slice_get, refl, sym, ap, ◌∙◌, subst, arith}
use Rattle.std.proofs.lemmas.List.{append-nil}
use Rattle.std.proofs.lemmas.Option.{slice_get_read, slice_get_within}
use Rattle.atomic_table.specs.Seated.{TableId}
use Rattle.cell_model.specs.Batch.{Batch}
use Rattle.cell_model.specs.Cell.{Cell}
use Rattle.hand_register.specs.Views.{HandView}
use Rattle.kv_cell.specs.declared.error.NoMemory.{NoMemory}
use Rattle.pass_calls.specs.log_service.log_device.declared.error.Rolled.{Rolled}
use Rattle.pass_calls.specs.log_service.log_device.declared.error.RollRefusal.{RollRefusal}
use Rattle.pass_calls.specs.log_service.log_device.declared.error.RollRefusal.TheVariants as roll
use Rattle.pass_calls.specs.log_service.declared.seats.LogSeat.{LogSeat}
use Rattle.pass_calls.specs.log_service.declared.tally.PutTally.{PutTally}
use Rattle.pass_calls.specs.log_service.Places.{ServiceId, IsSeatOf, IsLaterSeat}
use Rattle.region_model.specs.Calls.{Answer, Raw, is_put, is_scan, is_flush, is_roll}
use Rattle.region_model.specs.Journal.{Base, Caller, last_of}
use Rattle.region_model.specs.Lines.{Line, edits_in, last_in}
use Rattle.server_model.specs.Pass.{Naming}
use Rattle.server_model.specs.Steps.{Puts, Scans, Flushes, Rolls, IsRolled}
use Rattle.pass_calls.specs.region_lock.declared.answers.PutRefusal.{PutRefusal}
use Rattle.pass_calls.specs.region_lock.declared.answers.PutRefusal.TheVariants as put
use Rattle.pass_calls.specs.region_lock.declared.answers.FlushRefusal.{FlushRefusal}
use Rattle.pass_calls.specs.region_lock.declared.answers.FlushRefusal.TheVariants as flush
use Rattle.pass_calls.specs.region_lock.declared.scan.ScanReply.{ScanReply}
use Rattle.pass_calls.specs.region_lock.declared.pass.RegionPass.{RegionPass}
use Rattle.pass_calls.specs.region_lock.declared.naming.LockNaming.{Ghosts}
use Rattle.pass_calls.specs.region_lock.Answers.{put_answer, scan_answer, flush_answer, roll_answer}
use Rattle.pass_calls.specs.region_lock.Calls.{PutsAt, ScansAt, FlushesAt, RollsAt}
use Rattle.pass_calls.specs.region_lock.Parts.{AreCalledBelow}
use Rattle.pass_calls.specs.region_lock.Passes.{IsAtService, known_of, SamePass}
use Rattle.pass_calls.specs.region_lock.Puts.{AsksLog, WatchesFault}
use Rattle.pass_calls.proofs.region_lock_laws.Knowns.{last_same}
use Rattle.pass_calls.proofs.region_lock_laws.Lifts.{rolls_from}
use Rattle.region_calls.specs.Answers.{point_seen, begun_answer}
use Rattle.region_calls.specs.Passes.{known_at, known_in, tally_in, pass_of, IsHandOf, AreHandsOf}
use Rattle.region_calls.proofs.Knowing.{all_later, known_here, tally_was, tally_here, below_more, called_more}
use Rattle.region_calls.proofs.Calling.{puts_all, scans_all, flushes_all}

pub put_is : (x : Result ℕ PutRefusal) → IsTrue (is_put (put_answer x))
put_is (Ok n) = refl
put_is (Err (put.Memory logged)) = refl
put_is (Err (put.WriteFault number)) = refl
put_is (Err (put.NumbersSpent last)) = refl

pub scan_is : (x : Result ScanReply NoMemory) → IsTrue (is_scan (scan_answer x))
scan_is (Ok reply) = refl
scan_is (Err e) = refl

pub begun_is : (point : ℕ) (x : Result (List (ℕ × Cell)) NoMemory) → IsTrue (is_scan (begun_answer point x))
begun_is point (Ok cells) = refl
begun_is point (Err e) = refl

pub flush_is : (x : Result ℕ FlushRefusal) → IsTrue (is_flush (flush_answer x))
flush_is (Ok n) = refl
flush_is (Err flush.Memory) = refl
flush_is (Err flush.WriteFault) = refl
flush_is (Err (flush.Nothing n)) = refl
flush_is (Err (flush.Flushing by)) = refl

pub roll_is : (x : Result Rolled RollRefusal) → IsTrue (is_roll (roll_answer x))
roll_is (Ok rolled) = refl
roll_is (Err roll.Memory) = refl
roll_is (Err roll.WriteFault) = refl
roll_is (Err (roll.NothingToRoll file)) = refl

module _ {N : Type 0} {g : Ghosts N} where
  -- the hand that a pass has of region r, at place k of its list
  pub record IsUsed (h calls r k : ℕ) (ps : List (RegionPass N g)) (p : RegionPass N g) : Type 0 where
    pub at : slice_get ps k ≡ Some p
    pub low : k < length ps
    pub next : suc k ≡ r
    pub hand : IsHandOf h calls (k + 1) p
    pub region : p.viewer.region ≡ suc k

  pub used : (h calls n r k : ℕ) (ps : List (RegionPass N g)) (p : RegionPass N g) → length ps ≡ n → k ≡ r - 1 → 1 ≤ r → r ≤ n → AreHandsOf h calls ps → p ≡ get_or ps k p → IsUsed h calls r k ps p
  used h calls n r k ps p count place some few all is =
      let low : k < length ps = omega (arith, count, place, some, few) in
      let at : slice_get ps k ≡ Some p = slice_get_read ps (length ps) k p refl low is in
      let hand : IsHandOf h calls (k + 1) p = all k p at in
      let region : p.viewer.region ≡ k + 1 = hand.region in
      record { at = at; low = low; next = omega (arith, place, some); hand = hand; region = omega (arith, region) }

  pub at_service : (ring : TableId) (place of : ServiceId) (h calls r k : ℕ) (ps : List (RegionPass N g)) (p : RegionPass N g) (seat : LogSeat) → IsUsed h calls r k ps p → place.ring ≡ ring → place ≡ of → r ≤ of.regions → IsSeatOf of seat → IsAtService ring place p.viewer.region seat
  at_service ring place of h calls r k ps p seat u is same few own = record {
    ring = is;
    region = (omega (arith, u.region), omega (arith, u.region, u.next, few, ap (λ (q : ServiceId). q.regions) same));
    seat = subst (λ (q : ServiceId). IsSeatOf q seat) (sym same) own;
  }

  pub puts_used : (name : Naming) (bases : ℕ → Base) (time r k : ℕ) (sync : Bool) (batch : Batch) (caller : Caller) (answer : Answer) (h calls n : ℕ) (ps : List (RegionPass N g)) (p p' : RegionPass N g) (seat seat' : LogSeat)
      → IsUsed h calls r k ps p → name.bases ≡ bases → length ps ≡ n → IsTrue (is_put answer)
      → PutsAt (bases p.viewer.region) time p.viewer.region sync batch caller answer (known_of n p seat) (known_of n p' seat') seat.device.knows.broken seat'.device.knows.broken
      → IsLaterSeat seat seat' → calls < caller.call → Puts name time r sync batch caller answer (pass_of h calls ps seat) (pass_of h caller.call (set ps k p') seat')
  puts_used name bases time r k sync batch caller answer h calls n ps p p' seat seat' u named count answered puts later low =
      let was = seat.device.knows.broken in
      let is = seat'.device.knows.broken in
      let one = subst (λ (f : ℕ → Base). PutsAt (f p.viewer.region) time p.viewer.region sync batch caller answer (known_of n p seat) (known_of n p' seat') was is) (sym named) puts in
      let two = subst (λ (m : ℕ). PutsAt (name.bases p.viewer.region) time p.viewer.region sync batch caller answer (known_of m p seat) (known_of m p' seat') was is) (sym count) one in
      let all = subst (λ (s : ℕ). PutsAt (name.bases s) time s sync batch caller answer (known_of (length ps) p seat) (known_of (length ps) p' seat') was is) u.region two in
      subst (λ (s : ℕ). Puts name time s sync batch caller answer (pass_of h calls ps seat) (pass_of h caller.call (set ps k p') seat')) u.next
      (puts_all name time k sync batch caller answer h calls ps p p' seat seat' u.at u.low answered all later (omega (arith, low)))

  pub flushes_used : (name : Naming) (bases : ℕ → Base) (lists : ℕ → List Caller) (r k : ℕ) (family : Option (List ℕ)) (caller : Caller) (answer : Answer) (h calls n : ℕ) (ps : List (RegionPass N g)) (p p' : RegionPass N g) (seat seat' : LogSeat)
      → IsUsed h calls r k ps p → name.bases ≡ bases → name.flushes ≡ lists → length ps ≡ n → IsTrue (is_flush answer)
      → FlushesAt (bases p.viewer.region) (lists p.viewer.region) family caller answer (known_of n p seat) (known_of n p' seat') seat.device.knows.broken seat'.device.knows.broken
      → IsLaterSeat seat seat' → calls < caller.call → Flushes name r family caller answer (pass_of h calls ps seat) (pass_of h caller.call (set ps k p') seat')
  flushes_used name bases lists r k family caller answer h calls n ps p p' seat seat' u named listed count answered flushes later low =
      let was = seat.device.knows.broken in
      let is = seat'.device.knows.broken in
      let one = subst (λ (f : ℕ → Base). FlushesAt (f p.viewer.region) (lists p.viewer.region) family caller answer (known_of n p seat) (known_of n p' seat') was is) (sym named) flushes in
      let two = subst (λ (f : ℕ → List Caller). FlushesAt (name.bases p.viewer.region) (f p.viewer.region) family caller answer (known_of n p seat) (known_of n p' seat') was is) (sym listed) one in
      let three = subst (λ (m : ℕ). FlushesAt (name.bases p.viewer.region) (name.flushes p.viewer.region) family caller answer (known_of m p seat) (known_of m p' seat') was is) (sym count) two in
      let all = subst (λ (s : ℕ). FlushesAt (name.bases s) (name.flushes s) family caller answer (known_of (length ps) p seat) (known_of (length ps) p' seat') was is) u.region three in
      subst (λ (s : ℕ). Flushes name s family caller answer (pass_of h calls ps seat) (pass_of h caller.call (set ps k p') seat')) u.next
      (flushes_all name k family caller answer h calls ps p p' seat seat' u.at u.low answered all later (omega (arith, low)))

  pub scans_used : (name : Naming) (bases : ℕ → Base) (r k : ℕ) (from to : List ℕ) (answer : Answer) (h calls : ℕ) (ps : List (RegionPass N g)) (p p' : RegionPass N g) (seat : LogSeat)
      → IsUsed h calls r k ps p → name.bases ≡ bases → IsTrue (is_scan answer)
      → ScansAt (bases p.viewer.region) from to answer (known_of (length ps) p seat) (known_of (length ps) p' seat)
      → Scans name Raw r from to answer (pass_of h calls ps seat) (pass_of h calls (set ps k p') seat)
  scans_used name bases r k from to answer h calls ps p p' seat u named answered scans =
      let one = subst (λ (f : ℕ → Base). ScansAt (f p.viewer.region) from to answer (known_of (length ps) p seat) (known_of (length ps) p' seat)) (sym named) scans in
      let all = subst (λ (s : ℕ). ScansAt (name.bases s) from to answer (known_of (length ps) p seat) (known_of (length ps) p' seat)) u.region one in
      subst (λ (s : ℕ). Scans name Raw s from to answer (pass_of h calls ps seat) (pass_of h calls (set ps k p') seat)) u.next
      (scans_all name k from to answer h calls ps p p' seat u.at u.low answered all)

  closed_in : (n k : ℕ) (answer : Answer) (before after : LogSeat) (o : Option (RegionPass N g)) → ((p : RegionPass N g) → o ≡ Some p → (p.viewer.region ≡ k + 1) × (k < n))
      → RollsAt n answer before after → IsRolled answer → (known_at n before o).synced ≤ (known_at n after o).closed
  closed_in n k answer before after None of rolls rolled = omega arith
  closed_in n k answer before after (Some p) of rolls rolled = let q = of p refl in rolls.closed p.viewer.region (omega (arith, q.0)) (omega (arith, q.0, q.1)) rolled

  closed_all : (answer : Answer) (h calls : ℕ) (ps : List (RegionPass N g)) (before after : LogSeat) → AreHandsOf h calls ps → RollsAt (length ps) answer before after
      → (r : ℕ) → IsRolled answer → (known_in ps before r).synced ≤ (known_in ps after r).closed
  closed_all answer h calls ps before after all rolls zero rolled = omega arith
  closed_all answer h calls ps before after all rolls (suc k) rolled =
      closed_in (length ps) k answer before after (slice_get ps k) (λ p at. ((all k p at).region, slice_get_within ps k p at)) rolls rolled

  pub rolls_used : (n : ℕ) (answer : Answer) (h calls : ℕ) (ps : List (RegionPass N g)) (before after : LogSeat) → length ps ≡ n → AreHandsOf h calls ps → IsTrue (is_roll answer)
      → RollsAt n answer before after → Rolls answer (pass_of h calls ps before) (pass_of h calls ps after)
  rolls_used n answer h calls ps before after count all answered rolls =
      let here : RollsAt (length ps) answer before after = subst (λ (m : ℕ). RollsAt m answer before after) (sym count) rolls in
      rolls_from (length ps) answer before after (pass_of h calls ps before) (pass_of h calls ps after) answered here (all_later ps before after rolls.later.words)
      (closed_all answer h calls ps before after all here) refl refl refl refl

  -- a hand that a flush used
  pub flush_hand : (base : Base) (flushes : List Caller) (r n h calls : ℕ) (family : Option (List ℕ)) (caller : Caller) (answer : Answer) (p p' : RegionPass N g) (seat seat' : LogSeat) (was is : Bool)
      → IsHandOf h calls r p → SamePass p p' → calls < caller.call → FlushesAt base flushes family caller answer (known_of n p seat) (known_of n p' seat') was is → IsHandOf h caller.call r p'
  flush_hand base flushes r n h calls family caller answer p p' seat seat' was is old same low flushed =
      let own : edits_in p.viewer.region p'.hand.record.list ≡ edits_in p.viewer.region p.hand.record.list ++ [] =
      ap (λ q. edits_in q p'.hand.record.list) (sym same.0) ∙ flushed.own.own ∙ sym (append-nil (edits_in p.viewer.region p.hand.record.list)) in
      record {
        region = same.0 ∙ old.region;
        number = same.1 ∙ old.number;
        mark = same.2 ∙ old.mark;
        called = called_more p.viewer.region (caller.call + 1) p.hand.record.list p'.hand.record.list [] own
            (below_more (calls + 1) (caller.call + 1) p.hand.record.list (omega (arith, low)) old.called) (λ e has. absurd (omega (arith, has.1)));
      }

  -- a hand whose viewer alone moved
  pub view_hand : (h calls r : ℕ) (p p' : RegionPass N g) → IsHandOf h calls r p → p'.viewer.region ≡ p.viewer.region → p'.hand ≡ p.hand → IsHandOf h calls r p'
  view_hand h calls r p p' old region hand = record {
    region = region ∙ old.region;
    number = ap (λ (x : HandView Line). x.number) hand ∙ old.number;
    mark = ap (λ (x : HandView Line). x.record.mark) hand ∙ old.mark;
    called = subst (λ (x : HandView Line). AreCalledBelow (calls + 1) x.record.list) (sym hand) old.called;
  }

  -- the point that a pass has seen of a region whose hand it used
  pub point_used : (name : Naming) (bases : ℕ → Base) (h calls r k : ℕ) (ps : List (RegionPass N g)) (p p' : RegionPass N g) (seat : LogSeat) → IsUsed h calls r k ps p → name.bases ≡ bases → p'.viewer.region ≡ p.viewer.region
      → last_in (bases p.viewer.region) p'.viewer.lines ≡ point_seen name r (pass_of h calls (set ps k p') seat)
  point_used name bases h calls r k ps p p' seat u named same =
      let lines = p'.viewer.lines in
      let here = known_here ps k p' seat u.low in
      let first : last_in (bases p.viewer.region) lines ≡ last_of (bases p.viewer.region).last (edits_in p'.viewer.region lines) = sym (last_same (bases p.viewer.region) p'.viewer.region lines) in
      let next : last_of (bases p.viewer.region).last (edits_in p'.viewer.region lines) ≡ point_seen name (suc k) (pass_of h calls (set ps k p') seat) =
      (λ i. last_of (sym named i (u.region i)).last (sym here i).shown) in
      first ∙ next ∙ ap (λ (s : ℕ). point_seen name s (pass_of h calls (set ps k p') seat)) u.next

module _ {N : Type 0} {g : Ghosts N} where
  -- what is counted of a put, by the number of the region
  pub asks_used : (h calls r k : ℕ) (sync : Bool) (result : Result ℕ PutRefusal) (ps : List (RegionPass N g)) (p p' : RegionPass N g) (broken : Bool) → IsUsed h calls r k ps p
      → AsksLog sync p.viewer.region result p.tally.asked p'.tally.asked broken → AsksLog sync r result (tally_in ps r).asked (tally_in (set ps k p') r).asked broken
  asks_used h calls r k sync result ps p p' broken u asks =
      let here = subst (λ (n : ℕ). AsksLog sync n result p.tally.asked p'.tally.asked broken) u.region asks in
      let old = subst (λ (t : PutTally). AsksLog sync (suc k) result t.asked p'.tally.asked broken) (sym (tally_was ps k p u.at)) here in
      let both = subst (λ (t : PutTally). AsksLog sync (suc k) result (tally_in ps (suc k)).asked t.asked broken) (sym (tally_here ps k p' u.low)) old in
      subst (λ (n : ℕ). AsksLog sync n result (tally_in ps n).asked (tally_in (set ps k p') n).asked broken) u.next both

  pub watches_used : (h calls r k : ℕ) (result : Result ℕ PutRefusal) (ps : List (RegionPass N g)) (p p' : RegionPass N g) → IsUsed h calls r k ps p
      → WatchesFault result p.tally.watch p'.tally.watch → WatchesFault result (tally_in ps r).watch (tally_in (set ps k p') r).watch
  watches_used h calls r k result ps p p' u watches =
      let old = subst (λ (t : PutTally). WatchesFault result t.watch p'.tally.watch) (sym (tally_was ps k p u.at)) watches in
      let both = subst (λ (t : PutTally). WatchesFault result (tally_in ps (suc k)).watch t.watch) (sym (tally_here ps k p' u.low)) old in
      subst (λ (n : ℕ). WatchesFault result (tally_in ps n).watch (tally_in (set ps k p') n).watch) u.next both
