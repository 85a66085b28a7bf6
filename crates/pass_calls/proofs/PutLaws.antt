-- What a put's steps come to.
use Rattle.std.proofs.Common.{◌≡◌, ℕ, zero, suc, ◌-◌, ◌<◌, ◌≤◌, Bool, true, false, true≢false, List, [], ◌∷◌, ◌++◌, Contains, Option, Some, Result, Ok, Err, refl, sym, ap, ◌∙◌, subst, arith, append-nil}
use Rattle.std.proofs.lemmas.List.Elements.{Contains-append_right}
use Rattle.std.specs.Arc.{arc_value}
use mathlib.Core.List.{IsPrefix}
use Rattle.cell_model.specs.Batch.{Batch}
use Rattle.region_model.specs.Journal.{Base, Caller, Outcome, Done, Failed, Edit, last_of}
use Rattle.region_model.specs.Calls.{Answer, PutOk, PutFault, PutMemory}
use Rattle.region_model.specs.Lawful.{number_of, outcome_of, IsPutFault}
use Rattle.region_model.specs.Lines.{Line, edit_in, edits_in, last_in, pending}
use Rattle.region_model.proofs.LineLaws.{edits_in-append}
use Rattle.region_lock.specs.log_service.declared.seats.LogSeat.{LogSeat}
use Rattle.region_lock.specs.log_service.Numbers.{seen_synced}
use Rattle.region_lock.specs.log_service.Places.{IsLaterSeat}
use Rattle.server_model.specs.Pass.{Known, IsLaterOf}
use Rattle.server_model.proofs.JournalLaws.{contains_cons}
use Rattle.server_model.specs.Steps.{edit_of, drawn, told_last}
use Rattle.region_lock.specs.declared.job.Job.{Job}
use Rattle.region_lock.specs.declared.answers.PutRefusal.{PutRefusal}
use Rattle.region_lock.specs.declared.answers.PutRefusal.TheVariants as put
use Rattle.region_lock.specs.Calls.{PutsAt}
use Rattle.region_lock.specs.Jobs.{line_of}
use Rattle.region_lock.specs.declared.naming.LockNaming.{Ghosts}
use Rattle.region_lock.specs.declared.pass.RegionPass.{RegionPass}
use Rattle.region_lock.specs.Draws.{DrewNumber}
use Rattle.region_lock.specs.Parts.{WasEnded, AreBelow}
use Rattle.region_lock.specs.Passes.{known_of}
use Rattle.region_lock.specs.Met.{HasSeen}
use Rattle.region_lock.specs.Puts.{IsDrawn, IsLogged}
use Rattle.region_versions.specs.Histories.{Beginning}
use Rattle.region_lock.proofs.Lists.{snoc_same}
use Rattle.region_lock.proofs.Knowns.{at_region, later_at, last_same, below_edits}

-- a number was drawn
pub numbered_at : (base : Base) (time r : ℕ) (sync : Bool) (batch : Batch) (caller : Caller) (answer : Answer) (old new : Known) (was is : Bool) (n : ℕ)
    → number_of answer ≡ Some n → told_last answer ≡ [] → IsLaterOf old new → new.own ≡ old.own ++ edit_of r n time batch caller (outcome_of answer) ∷ [] → new.spent ≡ old.spent → last_of base.last old.shown < n
    → ((e : Edit) → Contains old.own e → e.entry.number < n) → ((m : ℕ) → answer ≡ PutFault (Some m) → sync ≡ true) → ((m : ℕ) → answer ≡ PutOk m → n ≤ last_of base.last new.shown) → ((m : ℕ) → answer ≡ PutOk m → Contains new.shown (edit_of r n time batch caller (outcome_of answer))) → (sync ≡ true → outcome_of answer ≡ Done → n ≤ new.synced) → (IsPutFault answer → is ≡ true) → was ≡ false
    → PutsAt base time r sync batch caller answer old new was is
numbered_at base time r sync batch caller answer old new was is n some told later own spent above above_own fault_sync seen place synced fault whole = record {
  later = later;
  own = own ∙ ap (λ (o : Option ℕ). old.own ++ drawn r time batch caller answer o) (sym some);
  spent = spent ∙ sym (append-nil old.spent) ∙ ap (λ (l : List ℕ). old.spent ++ l) (sym told);
  above = λ m is'. let same : n ≡ m = cc (sym some ∙ is') in omega (arith, same, above);
  above_own = λ m x is' c. let same : n ≡ m = cc (sym some ∙ is') in let lt = above_own x c in omega (arith, same, lt);
  fault_sync = fault_sync;
  seen = λ m e. let same : n ≡ m = cc (sym some ∙ ap number_of e) in omega (arith, same, seen m e);
  place = λ m e. let same : n ≡ m = cc (sym some ∙ ap number_of e) in
      subst (λ (o : Outcome). Contains new.shown (edit_of r m time batch caller o)) (ap outcome_of e) (subst (λ (k : ℕ). Contains new.shown (edit_of r k time batch caller (outcome_of answer))) same (place m e));
  synced = λ m s is' done. let same : n ≡ m = cc (sym some ∙ is') in omega (arith, same, synced s done);
  fault = fault;
  stays = λ b. absurd (true≢false (sym b ∙ whole));
  stops = λ b. absurd (true≢false (sym b ∙ whole));
  limit = λ m e. absurd (cc (sym some ∙ ap number_of e));
}

-- what was begun and then ended
pub was_put : (o : Outcome) (old mid new : List Line) (x : Line) → mid ≡ old ++ x ∷ [] → WasEnded o mid new → new ≡ old ++ (record x { outcome = o }) ∷ []
was_put o old mid new x is w =
    let s = snoc_same w.front old w.last x (sym w.before ∙ is) in
    w.after ∙ ap (λ (l : List Line). l ++ (record w.last { outcome = o }) ∷ []) s.0 ∙ ap (λ (y : Line). old ++ (record y { outcome = o }) ∷ []) s.1

pub own_put : (r : ℕ) (old new : List Line) (x : Line) → new ≡ old ++ x ∷ [] → edits_in r new ≡ edits_in r old ++ edit_in r x ∷ []
own_put r old new x is = ap (edits_in r) is ∙ edits_in-append r old (x ∷ [])

-- a line that is shown is an edit that is
contains_edits : (r : ℕ) (xs : List Line) (x : Line) → Contains xs x → Contains (edits_in r xs) (edit_in r x)
contains_edits r [] x (k, lt, is) = absurd (omega (arith, lt))
contains_edits r (y ∷ ys) x (zero, lt, is) = (0, omega arith, ap (edit_in r) is)
contains_edits r (y ∷ ys) x (suc k, lt, is) = contains_cons (edit_in r y) (edits_in r ys) (edit_in r x) (contains_edits r ys x (k, omega (arith, lt), is))

-- the line of a put that was seen
placed_at : (r r' n time : ℕ) (base : Base) (batch : Batch) (caller : Caller) (o : Outcome) (own own' shown : List Line) → r' ≡ r → own' ≡ own ++ (record (pending n caller time batch) { outcome = o }) ∷ []
    → HasSeen base n own' shown → Contains (edits_in r' shown) (edit_of r n time batch caller o)
placed_at r r' n time base batch caller o own own' shown same mine seen =
    let x : Line = record (pending n caller time batch) { outcome = o } in
    let has : Contains own' x = subst (λ (l : List Line). Contains l x) (sym mine) (Contains-append_right own (x ∷ []) x (0, omega arith, refl)) in
    subst (λ (k : ℕ). Contains (edits_in r' shown) (edit_of k n time batch caller o)) same (contains_edits r' shown x (seen.placed x has seen.seen))

-- a put that drew a number, from its steps
pub put_at : (n_regions : ℕ) (base : Base) (time r r' n : ℕ) (sync : Bool) (batch : Batch) (caller : Caller) (answer : Answer) (own mid own' shown shown' : List Line) (told told' : List ℕ) (seat seat' : LogSeat)
    → r' ≡ r → mid ≡ own ++ pending n caller time batch ∷ [] → WasEnded (outcome_of answer) mid own' → told' ≡ told → IsPrefix shown shown' → IsLaterSeat seat seat' → last_in base shown < n → AreBelow n own
    → number_of answer ≡ Some n → told_last answer ≡ [] → ((m : ℕ) → answer ≡ PutFault (Some m) → sync ≡ true) → ((m : ℕ) → answer ≡ PutOk m → HasSeen base n own' shown') → (sync ≡ true → outcome_of answer ≡ Done → n ≤ seen_synced seat'.device.knows r)
    → (IsPutFault answer → seat'.device.knows.broken ≡ true) → seat.device.knows.broken ≡ false
    → PutsAt base time r sync batch caller answer (at_region n_regions r own shown told seat) (at_region n_regions r' own' shown' told' seat') seat.device.knows.broken seat'.device.knows.broken
put_at n_regions base time r r' n sync batch caller answer own mid own' shown shown' told told' seat seat' same drew ended nothing later words above below number last fault_sync seen synced fault whole =
    numbered_at base time r sync batch caller answer (at_region n_regions r own shown told seat) (at_region n_regions r' own' shown' told' seat') seat.device.knows.broken seat'.device.knows.broken n number last
    (later_at n_regions r r' own own' shown shown' told told' seat seat' same later words)
    (ap (λ (k : ℕ). edits_in k own') same ∙ own_put r own own' (record (pending n caller time batch) { outcome = outcome_of answer }) (was_put (outcome_of answer) own mid own' (pending n caller time batch) drew ended))
    nothing
    (let l = last_same base r shown in omega (arith, l, above))
    (below_edits r n own below)
    fault_sync
    (λ m e. let l = last_same base r' shown' in let s = (seen m e).seen in omega (arith, l, s))
    (λ m e. placed_at r r' n time base batch caller (outcome_of answer) own own' shown' same (was_put (outcome_of answer) own mid own' (pending n caller time batch) drew ended) (seen m e))
    (λ s d. subst (λ (k : ℕ). n ≤ seen_synced seat'.device.knows k) (sym same) (synced s d))
    fault
    whole

-- The steps of a put that drew a number: it was drawn between the first two passes, and its edit has ended by the third, with this outcome.
module _ {N : Type 0} {g : Ghosts N} where
  pub record WasPut (base : Base) (job : Job) (n : ℕ) (o : Outcome) (old mid new : RegionPass N g) (seat seat' : LogSeat) : Type 0 where
    pub entry : ℕ
    pub number : n ≡ entry
    pub drew : DrewNumber (last_in base old.viewer.lines) job entry old.hand.record.list old.told.record.list mid.hand.record.list mid.told.record.list
    pub view : mid.viewer ≡ old.viewer
    pub region : new.viewer.region ≡ mid.viewer.region
    pub lines : IsPrefix mid.viewer.lines new.viewer.lines
    pub ended : WasEnded o mid.hand.record.list new.hand.record.list
    pub told : new.told.record.list ≡ mid.told.record.list
    pub later : IsLaterSeat seat seat'
    pub whole : seat.device.knows.broken ≡ false

  put_so : (regions : ℕ) (base : Base) (sync : Bool) (job : Job) (n : ℕ) (answer : Answer) (old mid new : RegionPass N g) (seat seat' : LogSeat) → WasPut base job n (outcome_of answer) old mid new seat seat'
      → number_of answer ≡ Some n → told_last answer ≡ [] → ((m : ℕ) → answer ≡ PutFault (Some m) → sync ≡ true) → ((m : ℕ) → answer ≡ PutOk m → HasSeen base n new.hand.record.list new.viewer.lines)
      → (sync ≡ true → outcome_of answer ≡ Done → n ≤ seen_synced seat'.device.knows old.viewer.region) → (IsPutFault answer → seat'.device.knows.broken ≡ true)
      → PutsAt base job.time old.viewer.region sync (arc_value job.batch) job.caller answer (known_of regions old seat) (known_of regions new seat') seat.device.knows.broken seat'.device.knows.broken
  put_so regions base sync job n answer old mid new seat seat' put number last fault_sync seen synced fault =
      let drew = subst (λ (e : ℕ). DrewNumber (last_in base old.viewer.lines) job e old.hand.record.list old.told.record.list mid.hand.record.list mid.told.record.list) (sym put.number) put.drew in
      put_at regions base job.time old.viewer.region new.viewer.region n sync (arc_value job.batch) job.caller answer old.hand.record.list mid.hand.record.list new.hand.record.list old.viewer.lines new.viewer.lines
      old.told.record.list new.told.record.list seat seat' (put.region ∙ ap (λ (b : Beginning). b.region) put.view) drew.listed put.ended (put.told ∙ drew.told_same)
      (subst (λ (b : Beginning). IsPrefix b.lines new.viewer.lines) put.view put.lines) put.later drew.above_seen drew.above_own number last fault_sync seen synced fault put.whole

  -- the log is broken below the number
  pub put_failed : (regions : ℕ) (base : Base) (sync : Bool) (job : Job) (n : ℕ) (old mid new : RegionPass N g) (seat seat' : LogSeat) → WasPut base job n Failed old mid new seat seat'
      → sync ≡ true → seat'.device.knows.broken ≡ true
      → PutsAt base job.time old.viewer.region sync (arc_value job.batch) job.caller (PutFault (Some n)) (known_of regions old seat) (known_of regions new seat') seat.device.knows.broken seat'.device.knows.broken
  put_failed regions base sync job n old mid new seat seat' put asked broken =
      put_so regions base sync job n (PutFault (Some n)) old mid new seat seat' put refl refl (λ m e. asked) (λ m e. absurd (cc e)) (λ s e. absurd (cc e)) (λ f. broken)

  -- what the log said of region s before is so after
  still_synced : (sync : Bool) (n s : ℕ) (old : RegionPass N g) (logged seat' : LogSeat) → s ≡ old.viewer.region → IsLaterSeat logged seat' → IsLogged sync true s n logged.device.knows
      → sync ≡ true → n ≤ seen_synced seat'.device.knows old.viewer.region
  still_synced sync n s old logged seat' of later synced asked =
      let first = synced asked in
      let second = later.words (s - 1) in
      subst (λ (r : ℕ). n ≤ seen_synced seat'.device.knows r) of (omega (arith, first, second))

  -- it is logged, and the pass has seen it shown
  pub put_shown : (regions : ℕ) (bases : ℕ → Base) (sync : Bool) (job : Job) (n s : ℕ) (old mid new : RegionPass N g) (seat logged seat' : LogSeat) → WasPut (bases old.viewer.region) job n Done old mid new seat seat'
      → s ≡ old.viewer.region → IsLaterSeat logged seat' → IsLogged sync true s n logged.device.knows → HasSeen (bases new.viewer.region) n new.hand.record.list new.viewer.lines
      → PutsAt (bases old.viewer.region) job.time old.viewer.region sync (arc_value job.batch) job.caller (PutOk n) (known_of regions old seat) (known_of regions new seat') seat.device.knows.broken seat'.device.knows.broken
  put_shown regions bases sync job n s old mid new seat logged seat' put of later synced seen =
      let here = put.region ∙ ap (λ (b : Beginning). b.region) put.view in
      let shown = subst (λ (r : ℕ). HasSeen (bases r) n new.hand.record.list new.viewer.lines) here seen in
      put_so regions (bases old.viewer.region) sync job n (PutOk n) old mid new seat seat' put refl refl (λ m e. absurd (cc e)) (λ m e. shown) (λ asked e. still_synced sync n s old logged seat' of later synced asked) (λ f. absurd f)

  -- it is logged, and there was no memory to show it
  pub put_unshown : (regions : ℕ) (base : Base) (sync : Bool) (job : Job) (n s : ℕ) (old mid new : RegionPass N g) (seat logged seat' : LogSeat) → WasPut base job n Done old mid new seat seat'
      → s ≡ old.viewer.region → IsLaterSeat logged seat' → IsLogged sync true s n logged.device.knows
      → PutsAt base job.time old.viewer.region sync (arc_value job.batch) job.caller (PutMemory (Some n)) (known_of regions old seat) (known_of regions new seat') seat.device.knows.broken seat'.device.knows.broken
  put_unshown regions base sync job n s old mid new seat logged seat' put of later synced =
      put_so regions base sync job n (PutMemory (Some n)) old mid new seat seat' put refl refl (λ m e. absurd (cc e)) (λ m e. absurd (cc e)) (λ asked e. still_synced sync n s old logged seat' of later synced asked) (λ f. absurd f)

-- ---- drawing

-- what one try of a job that came back has drawn is drawn of the job that it was
pub drawn_from : (seen seen' : ℕ) (job job' : Job) (own own' mid : List Line) (told told' later : List ℕ) (result : Result ℕ PutRefusal) (broken : Bool)
    → seen ≡ seen' → line_of 0 job ≡ line_of 0 job' → own ≡ own' → told ≡ told' → IsDrawn seen job own told result mid later broken → IsDrawn seen' job' own' told' result mid later broken
drawn_from seen seen' job job' own own' mid told told' later (Ok n) broken point line mine spent d =
    let same : line_of n job ≡ line_of n job' = ap (λ (x : Line). record x { number = n }) line in
    record {
      listed = d.listed ∙ (λ i. mine i ++ same i ∷ []);
      told_same = d.told_same ∙ spent;
      above_seen = omega (arith, point, d.above_seen);
      limit = d.limit;
      above_own = subst (AreBelow n) mine d.above_own;
    }
drawn_from seen seen' job job' own own' mid told told' later (Err (put.Memory logged)) broken point line mine spent d =
    (record { own_same = d.0.own_same ∙ mine; told_same = d.0.told_same ∙ spent }, d.1)
drawn_from seen seen' job job' own own' mid told told' later (Err (put.WriteFault number)) broken point line mine spent d =
    (record { own_same = d.0.own_same ∙ mine; told_same = d.0.told_same ∙ spent }, d.1, d.2)
drawn_from seen seen' job job' own own' mid told told' later (Err (put.NumbersSpent last)) broken point line mine spent d = record {
  own_same = d.own_same ∙ mine;
  told_last = d.told_last ∙ ap (λ (l : List ℕ). l ++ last ∷ []) spent;
  limit = d.limit;
}
