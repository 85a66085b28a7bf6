-- What a flush's steps come to.
use Rattle.std.proofs.Common.{◌≡◌, ℕ, ◌+◌, ◌≤◌, true, List, Option, Some, None, Result, Ok, Err, refl, sym, ap, ◌∙◌, subst, arith}
use mathlib.Core.List.{IsPrefix}
use Rattle.region_model.specs.Journal.{Base, Caller}
use Rattle.region_model.specs.Calls.{Answer, FlushOk, FlushNothing, FlushBusy, FlushFault, FlushMemory}
use Rattle.region_lock.specs.log_service.log_device.declared.error.DeviceFlush.{DeviceFlush}
use Rattle.region_lock.specs.log_service.log_device.declared.error.DeviceFlush.TheVariants as device
use Rattle.region_lock.specs.Answers.{refused_flush}
use Rattle.region_model.specs.Lawful.{flushed_of}
use Rattle.region_model.specs.Lines.{Line, last_in}
use Rattle.region_lock.specs.log_service.declared.seats.LogSeat.{LogSeat}
use Rattle.region_lock.specs.log_service.Numbers.{seen_stored}
use Rattle.region_lock.specs.log_service.Places.{IsLaterSeat}
use Rattle.region_lock.specs.log_service.Ends.{HasFlushed, HadNothing}
use Rattle.server_model.specs.Steps.{IsFlushedTo, IsNothingAbove}
use Rattle.region_lock.specs.Calls.{FlushesAt}
use Rattle.region_lock.specs.Logged.{IsOfLog, FlushesLog, refused_as}
use Rattle.disk_images.specs.declared.disk.Disk.{Ghosts as Disks}
use Rattle.region_lock.specs.log_service.log_halves.declared.name.ServiceNaming.{Ghosts as Names}
use Rattle.hand_register.specs.declared.known.Record.{Record}
use Rattle.region_state.specs.States.{write_point}
use Rattle.region_lock.specs.Marks.{IsLooked, IsLookedAt}
use Rattle.hand_register.specs.Views.{HandView}
use Rattle.region_versions.specs.Histories.{Beginning}
use Rattle.region_versions.proofs.Fronts.{prefix_self}
use Rattle.region_lock.specs.Parts.{Part, AreBelow}
use Rattle.region_lock.specs.Passes.{SameButMark, known_of}
use Rattle.region_lock.specs.declared.pass.RegionPass.{RegionPass}
use Rattle.region_lock.specs.declared.naming.LockNaming.{Ghosts}
use Rattle.region_lock.proofs.Knowns.{at_region, later_at, quiet_at, last_same, below_edits}

-- a flush that found no other one under way
pub flush_at : (n : ℕ) (base : Base) (flushes : List Caller) (family : Option (List ℕ)) (caller : Caller) (answer : Answer) (r r' : ℕ) (own own' shown shown' : List Line) (told told' : List ℕ) (seat seat' : LogSeat) (upto : ℕ)
    → r' ≡ r → own' ≡ own → told' ≡ told → IsPrefix shown shown' → IsLaterSeat seat seat' → last_in base shown ≤ upto → AreBelow (upto + 1) own
    → ((m : ℕ) → flushed_of answer ≡ Some m → (upto ≤ m) × (family ≡ None → m ≤ seen_stored n seat'.device.knows r)) → ((h c : ℕ) → answer ≡ FlushBusy h c → ⊥) → (answer ≡ FlushFault → seat'.device.knows.broken ≡ true)
    → ((m : ℕ) → answer ≡ FlushOk m → HasFlushed n r family upto m seat.device.knows seat'.device.knows) → ((m : ℕ) → answer ≡ FlushNothing m → HadNothing n r family upto m seat'.device.knows)
    → FlushesAt base flushes family caller answer (at_region n r own shown told seat) (at_region n r' own' shown' told' seat') seat.device.knows.broken seat'.device.knows.broken
flush_at n base flushes family caller answer r r' own own' shown shown' told told' seat seat' upto same mine spent later words above below number busy fault ok nothing = record {
  later = later_at n r r' own own' shown shown' told told' seat seat' same later words;
  own = quiet_at n r r' own own' shown shown' told told' seat seat' same mine spent;
  above = λ m some. let l = last_same base r shown in let u = (number m some).0 in omega (arith, l, above, u);
  above_own = λ m e some c. let u = (number m some).0 in let lt = below_edits r (upto + 1) own below e c in omega (arith, u, lt);
  stored = λ m all some. subst (λ (k : ℕ). m ≤ seen_stored n seat'.device.knows k) (sym same) ((number m some).1 all);
  busy = λ h c is. absurd (busy h c is);
  fault = fault;
  stays = λ b. (words.fault b).0;
  flushed = λ m is. subst (λ (k : ℕ). IsFlushedTo family m (at_region n r own shown told seat) (at_region n k own' shown' told' seat')) (sym same) (let h = ok m is in record { stored = h.stored; synced = h.last; more = h.above });
  nothing = λ m is. subst (λ (k : ℕ). IsNothingAbove family m (at_region n k own' shown' told' seat')) (sym same) (let h = nothing m is in record { stored = h.stored; synced = h.last });
}

-- a flush that the log refused
pub refused_at : (n : ℕ) (base : Base) (flushes : List Caller) (family : Option (List ℕ)) (caller : Caller) (refusal : DeviceFlush) (r r' : ℕ) (own own' shown shown' : List Line) (told told' : List ℕ) (seat seat' : LogSeat) (upto : ℕ)
    → r' ≡ r → own' ≡ own → told' ≡ told → IsPrefix shown shown' → IsLaterSeat seat seat' → last_in base shown ≤ upto → AreBelow (upto + 1) own
    → ((m : ℕ) → refusal ≡ DeviceFlush.Nothing m → HadNothing n r family upto m seat'.device.knows) → (refusal ≡ DeviceFlush.WriteFault → seat'.device.knows.broken ≡ true)
    → FlushesAt base flushes family caller (refused_flush refusal) (at_region n r own shown told seat) (at_region n r' own' shown' told' seat') seat.device.knows.broken seat'.device.knows.broken
refused_at n base flushes family caller device.Memory r r' own own' shown shown' told told' seat seat' upto same mine spent later words above below number fault =
    flush_at n base flushes family caller FlushMemory r r' own own' shown shown' told told' seat seat' upto same mine spent later words above below (λ m some. absurd (cc some)) (λ h c is. absurd (cc is)) (λ is. absurd (cc is))
    (λ m is. absurd (cc is)) (λ m is. absurd (cc is))
refused_at n base flushes family caller device.WriteFault r r' own own' shown shown' told told' seat seat' upto same mine spent later words above below number fault =
    flush_at n base flushes family caller FlushFault r r' own own' shown shown' told told' seat seat' upto same mine spent later words above below (λ m some. absurd (cc some)) (λ h c is. absurd (cc is)) (λ is. fault refl)
    (λ m is. absurd (cc is)) (λ m is. absurd (cc is))
refused_at n base flushes family caller (device.Nothing k) r r' own own' shown shown' told told' seat seat' upto same mine spent later words above below number fault =
    flush_at n base flushes family caller (FlushNothing k) r r' own own' shown shown' told told' seat seat' upto same mine spent later words above below
    (λ m some. subst (λ (j : ℕ). (upto ≤ j) × (family ≡ None → j ≤ seen_stored n seat'.device.knows r)) (cc some) (let h = number k refl in (h.upto, λ all. omega (arith, h.stored all)))) (λ h c is. absurd (cc is)) (λ is. absurd (cc is))
    (λ m is. absurd (cc is)) (λ m is. subst (λ (j : ℕ). HadNothing n r family upto j seat'.device.knows) (cc is) (number k refl))

-- what a look under the lock answers, of a pass that had seen no more than the write point
pub look_at : (seen : ℕ) (flushes : List Caller) (by : Caller) (old new : Part) (mine mine' : Record Line) (result : Result ℕ Caller) → IsLooked flushes by old mine result new mine' → seen ≤ write_point old.state
    → IsLookedAt seen flushes by mine result mine'
look_at seen flushes by old new mine mine' (Ok n) looked within = let point : n ≡ write_point old.state = looked.0 in (omega (arith, point, within), looked.3, looked.4)
look_at seen flushes by old new mine mine' (Err c) looked within = (looked.2, looked.3, looked.4)

-- and the hand's list stays
pub looked_list : (flushes : List Caller) (by : Caller) (old new : Part) (mine mine' : Record Line) (result : Result ℕ Caller) → IsLooked flushes by old mine result new mine' → mine'.list ≡ mine.list
looked_list flushes by old new mine mine' (Ok n) looked = ap (λ (r : Record Line). r.list) looked.3
looked_list flushes by old new mine mine' (Err c) looked = ap (λ (r : Record Line). r.list) looked.2

-- The same of a pass, over the look, which sets the mark, and the hold that takes it away. s is its region.
module _ {N : Type 0} {g : Ghosts N} where
  pub flushed_pass : (n : ℕ) (base : Base) (flushes : List Caller) (family : Option (List ℕ)) (caller : Caller) (m s : ℕ) (old mid new : RegionPass N g) (seat seat' : LogSeat) (upto : ℕ)
      → s ≡ old.viewer.region → SameButMark old mid → SameButMark mid new → IsLaterSeat seat seat' → last_in base old.viewer.lines ≤ upto → AreBelow (upto + 1) old.hand.record.list
      → HasFlushed n s family upto m seat.device.knows seat'.device.knows
      → FlushesAt base flushes family caller (FlushOk m) (known_of n old seat) (known_of n new seat') seat.device.knows.broken seat'.device.knows.broken
  flushed_pass n base flushes family caller m s old mid new seat seat' upto of marked cleared words above below flushed =
      let viewer : new.viewer ≡ old.viewer = cleared.0 ∙ marked.0 in
      let said = subst (λ (r : ℕ). HasFlushed n r family upto m seat.device.knows seat'.device.knows) of flushed in
      flush_at n base flushes family caller (FlushOk m) old.viewer.region new.viewer.region old.hand.record.list new.hand.record.list old.viewer.lines new.viewer.lines old.told.record.list new.told.record.list seat seat' upto
      (ap (λ (b : Beginning). b.region) viewer) (cleared.2 ∙ marked.2) (ap (λ (h : HandView ℕ). h.record.list) (cleared.3 ∙ marked.3)) (subst (λ (b : Beginning). IsPrefix old.viewer.lines b.lines) (sym viewer) (prefix_self old.viewer.lines)) words above below
      (λ k some. subst (λ (j : ℕ). (upto ≤ j) × (family ≡ None → j ≤ seen_stored n seat'.device.knows old.viewer.region)) (cc some) (said.upto, λ all. omega (arith, said.stored all))) (λ h d is. absurd (cc is)) (λ is. absurd (cc is))
      (λ k is. subst (λ (j : ℕ). HasFlushed n old.viewer.region family upto j seat.device.knows seat'.device.knows) (cc is) said) (λ k is. absurd (cc is))

  pub refused_pass : (n : ℕ) (base : Base) (flushes : List Caller) (family : Option (List ℕ)) (caller : Caller) (answer : Answer) (refusal : DeviceFlush) (s : ℕ) (old mid new : RegionPass N g) (seat seat' : LogSeat) (upto : ℕ)
      → answer ≡ refused_flush refusal → s ≡ old.viewer.region → SameButMark old mid → SameButMark mid new → IsLaterSeat seat seat' → last_in base old.viewer.lines ≤ upto → AreBelow (upto + 1) old.hand.record.list
      → ((m : ℕ) → refusal ≡ DeviceFlush.Nothing m → HadNothing n s family upto m seat'.device.knows) → (refusal ≡ DeviceFlush.WriteFault → seat'.device.knows.broken ≡ true)
      → FlushesAt base flushes family caller answer (known_of n old seat) (known_of n new seat') seat.device.knows.broken seat'.device.knows.broken
  refused_pass n base flushes family caller answer refusal s old mid new seat seat' upto told of marked cleared words above below number fault =
      let viewer : new.viewer ≡ old.viewer = cleared.0 ∙ marked.0 in
      subst (λ (a : Answer). FlushesAt base flushes family caller a (known_of n old seat) (known_of n new seat') seat.device.knows.broken seat'.device.knows.broken) (sym told)
      (refused_at n base flushes family caller refusal old.viewer.region new.viewer.region old.hand.record.list new.hand.record.list old.viewer.lines new.viewer.lines old.told.record.list new.told.record.list seat seat' upto
      (ap (λ (b : Beginning). b.region) viewer) (cleared.2 ∙ marked.2) (ap (λ (h : HandView ℕ). h.record.list) (cleared.3 ∙ marked.3)) (subst (λ (b : Beginning). IsPrefix old.viewer.lines b.lines) (sym viewer) (prefix_self old.viewer.lines)) words above below
      (λ m is. subst (λ (r : ℕ). HadNothing n r family upto m seat'.device.knows) of (number m is)) fault)

-- what the log refused is of the log
pub log_refused : {D N : Type 0} (d : Disks D) (g : Names N) (n r : ℕ) (family : Option (List ℕ)) (seat : LogSeat) (refusal : DeviceFlush)
    → IsOfLog d g n r family seat (Err refusal) → FlushesLog d g n r family seat (Err (refused_as refusal))
log_refused d g n r family seat device.Memory said = said
log_refused d g n r family seat device.WriteFault said = said
log_refused d g n r family seat (device.Nothing m) said = said
