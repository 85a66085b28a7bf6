-- What a handler's calls leave in its pass.
use Rattle.std.proofs.Common.{◌≡◌, ◌≢◌, ℕ, zero, suc, ◌-◌, ◌^◌, ◌<◌, ◌≤◌, ◌⊎◌, Bool, true, true≢false, List, [], ◌∷◌, ◌++◌, Contains, Option, Some, None, refl, sym, ap, ◌∙◌, subst, arith, inl, inr}
use Rattle.std.proofs.lemmas.Bool.{cases_eq}
use Rattle.std.proofs.lemmas.List.Elements.{Contains-push, Contains-push_cases, Contains-append_cases}
use Rattle.cell_model.specs.Batch.{Batch}
use Rattle.cell_model.specs.Cell.{Cell}
use Rattle.region_model.specs.Journal.{Edit, Done, Caller, last_of, visible}
use Rattle.region_model.specs.Calls.{Call, Put, Scan, View, viewed, Flush, Roll, Answer, PutOk, PutMemory, PutFault, PutSpent, Scanned, ScanMemory, FlushOk, FlushNothing, FlushBusy, FlushFault, FlushMemory, RollOk, RollNothing, RollFault, RollMemory, Reply, IsAnswerTo}
use Rattle.region_model.specs.Lawful.{IsOn, place_of, number_of, outcome_of, flushed_of, IsPutFault, IsEditOf, KeepsPlaces, StopsAtFault}
use Rattle.region_model.specs.Crash.{IsReceipted, Put_ok, Put_memory, Flushed}
use Rattle.cell_model.specs.Lists.{IsPrefix}
use Rattle.server_model.specs.Pass.{Pass, Naming, IsLater}
use Rattle.server_model.specs.Steps.{edit_of, drawn, told_last, IsPutAnswer, IsScanAnswer, IsFlushAnswer, IsRollAnswer, IsRolled, IsFault, IsQuietPass, Puts, Scans, Flushes, IsFlushedTo, IsNothingAbove, Rolls, Does, Step, Runs}
use Rattle.server_model.proofs.JournalLaws.{prefix_here, prefix_trans, prefix_contains, prefix_length, contains_cons}
use Rattle.server_model.specs.Closing.{Pairs}

-- ---- growing

-- as `IsLater`, and the own lists and the last numbers told have only grown
pub record Grows (old new : Pass) : Type 0 where
  pub later : IsLater old new
  pub own : (r : ℕ) → IsPrefix (old.known r).own (new.known r).own
  pub spent : (r : ℕ) → IsPrefix (old.known r).spent (new.known r).spent

pub later_here : (p : Pass) → IsLater p p
later_here p = record { handler = refl; calls = omega arith; known = λ r. record { shown = prefix_here (p.known r).shown; synced = omega arith; stored = omega arith; closed = omega arith }; broken = λ b. b }

later_trans : (p q t : Pass) → IsLater p q → IsLater q t → IsLater p t
later_trans p q t a b = record {
  handler = b.handler ∙ a.handler;
  calls = omega (arith, a.calls, b.calls);
  known = λ r. let x = a.known r in let y = b.known r in record {
    shown = prefix_trans (p.known r).shown (q.known r).shown (t.known r).shown x.shown y.shown;
    synced = omega (arith, x.synced, y.synced);
    stored = omega (arith, x.stored, y.stored);
    closed = omega (arith, x.closed, y.closed);
  };
  broken = λ e. b.broken (a.broken e);
}

pub grows_here : (p : Pass) → Grows p p
grows_here p = record { later = later_here p; own = λ r. prefix_here (p.known r).own; spent = λ r. prefix_here (p.known r).spent }

pub grows_trans : (p q t : Pass) → Grows p q → Grows q t → Grows p t
grows_trans p q t a b = record {
  later = later_trans p q t a.later b.later;
  own = λ r. prefix_trans (p.known r).own (q.known r).own (t.known r).own (a.own r) (b.own r);
  spent = λ r. prefix_trans (p.known r).spent (q.known r).spent (t.known r).spent (a.spent r) (b.spent r);
}

same_grows : {A : Type 0} → (xs ys : List A) → ys ≡ xs → IsPrefix xs ys
same_grows xs ys e = subst (λ l. IsPrefix xs l) (sym e) (prefix_here xs)

quiet_grows : (old new : Pass) → IsLater old new → IsQuietPass old new → Grows old new
quiet_grows old new l q = record { later = l; own = λ r. same_grows (old.known r).own (new.known r).own (q r).own; spent = λ r. same_grows (old.known r).spent (new.known r).spent (q r).spent }

put_grows : (name : Naming) (time r : ℕ) (sync : Bool) (batch : Batch) (caller : Caller) (answer : Answer) (old new : Pass) → Puts name time r sync batch caller answer old new → Grows old new
put_grows name time r sync batch caller answer old new d = record { later = d.later; own = own; spent = spent }
  where
    own : (s : ℕ) → IsPrefix (old.known s).own (new.known s).own
    own s = elim (cases_eq r s) [
      | inl same ↦ subst (λ s. IsPrefix (old.known s).own (new.known s).own) same (drawn r time batch caller answer (number_of answer), d.own)
      | inr other ↦ same_grows (old.known s).own (new.known s).own (d.elsewhere s (λ e. other (sym e))).own
    ]

    spent : (s : ℕ) → IsPrefix (old.known s).spent (new.known s).spent
    spent s = elim (cases_eq r s) [
      | inl same ↦ subst (λ s. IsPrefix (old.known s).spent (new.known s).spent) same (told_last answer, d.spent)
      | inr other ↦ same_grows (old.known s).spent (new.known s).spent (d.elsewhere s (λ e. other (sym e))).spent
    ]

does_grows : (name : Naming) (time : ℕ) (caller : Caller) (call : Call) (answer : Answer) (old new : Pass) → Does name time caller call answer old new → Grows old new
does_grows name time caller (Put r sync batch) answer old new d = put_grows name time r sync batch caller answer old new d
does_grows name time caller (Scan view r from to) answer old new d = quiet_grows old new d.later d.own
does_grows name time caller (Flush r family) answer old new d = quiet_grows old new d.later d.own
does_grows name time caller Roll answer old new d = quiet_grows old new d.later d.own

pub step_grows : (name : Naming) (time : ℕ) (old new : Pass) (reply : Reply) → Step name time old reply new → Grows old new
step_grows name time old new reply s = does_grows name time (record { handler = reply.handler; call = reply.number }) reply.call reply.answer old new s.does

pub runs_grows : (name : Naming) (time : ℕ) (old new : Pass) (replies : List Reply) → Runs name time old replies new → Grows old new
runs_grows name time old new [] e = subst (Grows old) (sym e) (grows_here old)
runs_grows name time old new (reply ∷ replies) (mid, s, more) = grows_trans old mid new (step_grows name time old mid reply s) (runs_grows name time mid new replies more)

-- ---- which answers a call has

place_put : (answer : Answer) (q : ℕ) → IsPutAnswer answer → place_of answer ≡ Some q → answer ≡ PutOk q
place_put (PutOk n) q a e = let same : n ≡ q = cc in ap PutOk same
place_put (PutMemory n) q a e = absurd cc
place_put (PutFault n) q a e = absurd cc
place_put (PutSpent n) q a e = absurd cc
place_put _ q a e = absurd cc

place_scan : (answer : Answer) (q : ℕ) → IsScanAnswer answer → place_of answer ≡ Some q → (cells : List (ℕ × Cell)) × (answer ≡ Scanned q cells)
place_scan (Scanned p cells) q a e = let same : p ≡ q = cc in (cells, ap (λ n. Scanned n cells) same)
place_scan ScanMemory q a e = absurd cc
place_scan _ q a e = absurd cc

place_flush : (answer : Answer) (q : ℕ) → IsFlushAnswer answer → place_of answer ≡ Some q → ⊥
place_flush (FlushOk n) q a e = absurd cc
place_flush (FlushNothing n) q a e = absurd cc
place_flush (FlushBusy h c) q a e = absurd cc
place_flush FlushFault q a e = absurd cc
place_flush FlushMemory q a e = absurd cc
place_flush _ q a e = absurd cc

flushed_put : (answer : Answer) (q : ℕ) → IsPutAnswer answer → flushed_of answer ≡ Some q → ⊥
flushed_put (PutOk n) q a e = absurd cc
flushed_put (PutMemory n) q a e = absurd cc
flushed_put (PutFault n) q a e = absurd cc
flushed_put (PutSpent n) q a e = absurd cc
flushed_put _ q a e = absurd cc

flushed_scan : (answer : Answer) (q : ℕ) → IsScanAnswer answer → flushed_of answer ≡ Some q → ⊥
flushed_scan (Scanned p cells) q a e = absurd cc
flushed_scan ScanMemory q a e = absurd cc
flushed_scan _ q a e = absurd cc

number_scan : (answer : Answer) → IsScanAnswer answer → number_of answer ≡ None
number_scan (Scanned p cells) a = refl
number_scan ScanMemory a = refl
number_scan _ a = absurd cc

number_flush : (answer : Answer) → IsFlushAnswer answer → number_of answer ≡ None
number_flush (FlushOk n) a = refl
number_flush (FlushNothing n) a = refl
number_flush (FlushBusy h c) a = refl
number_flush FlushFault a = refl
number_flush FlushMemory a = refl
number_flush _ a = absurd cc

number_roll : (answer : Answer) → IsRollAnswer answer → number_of answer ≡ None
number_roll (RollOk f n) a = refl
number_roll (RollNothing f) a = refl
number_roll RollFault a = refl
number_roll RollMemory a = refl
number_roll _ a = absurd cc

fault_put : (answer : Answer) → IsPutAnswer answer → IsFault answer → IsPutFault answer
fault_put (PutFault n) a f = tt
fault_put FlushFault a f = absurd cc
fault_put RollFault a f = absurd cc
fault_put _ a f = absurd f

fault_scan : (answer : Answer) → IsScanAnswer answer → IsFault answer → ⊥
fault_scan (PutFault n) a f = true≢false (sym a)
fault_scan FlushFault a f = true≢false (sym a)
fault_scan RollFault a f = true≢false (sym a)
fault_scan _ a f = f

fault_flush : (answer : Answer) → IsFlushAnswer answer → IsFault answer → answer ≡ FlushFault
fault_flush (PutFault n) a f = absurd cc
fault_flush FlushFault a f = refl
fault_flush RollFault a f = absurd cc
fault_flush _ a f = absurd f

fault_roll : (answer : Answer) → IsRollAnswer answer → IsFault answer → answer ≡ RollFault
fault_roll (PutFault n) a f = absurd cc
fault_roll FlushFault a f = absurd cc
fault_roll RollFault a f = refl
fault_roll _ a f = absurd f

-- ---- what a reply leaves in the pass, then and for ever

pub record Kept (name : Naming) (time : ℕ) (reply : Reply) (p : Pass) : Type 0 where
  pub handler : reply.handler ≡ p.handler
  pub scans : (view : View) (r q : ℕ) (from to : List ℕ) (cells : List (ℕ × Cell)) → reply.call ≡ Scan view r from to → reply.answer ≡ Scanned q cells
      → (list : List Edit) × IsPrefix list (p.known r).shown × (q ≡ last_of (name.bases r).last list) × (cells ≡ viewed view (visible (name.bases r).content list q from to))
  pub puts : (r n : ℕ) → IsOn r reply.call → number_of reply.answer ≡ Some n → (e : Edit) × Contains (p.known r).own e × (e.entry.number ≡ n) × IsEditOf reply e
  pub places : (r q : ℕ) → IsOn r reply.call → place_of reply.answer ≡ Some q → q ≤ last_of (name.bases r).last (p.known r).shown
  pub flushes : (r n : ℕ) → IsOn r reply.call → flushed_of reply.answer ≡ Some n → ((name.bases r).last ≤ n) × (n ≤ (p.known r).synced)
  pub stored : (r n : ℕ) → reply.call ≡ Flush r None → flushed_of reply.answer ≡ Some n → n ≤ (p.known r).stored
  pub busy : (r h c : ℕ) → IsOn r reply.call → reply.answer ≡ FlushBusy h c → (h ≢ reply.handler) × Contains (name.flushes r) (record { handler = h; call = c })
  pub spent : (r n : ℕ) → IsOn r reply.call → reply.answer ≡ PutSpent n → (n ≡ 2 ^ 48 - 1) × Contains (p.known r).spent n
  pub receipts : (r n : ℕ) → IsReceipted r n reply → n ≤ (p.known r).synced
  pub durable : (r n : ℕ) (batch : Batch) → reply.call ≡ Put r true batch → reply.answer ≡ PutOk n → n ≤ (p.known r).synced
  pub fault : IsPutFault reply.answer → p.broken ≡ true
  pub faults : IsFault reply.answer → p.broken ≡ true
  pub answers : IsAnswerTo reply.call reply.answer

pub kept_later : (name : Naming) (time : ℕ) (reply : Reply) (p q : Pass) → Grows p q → Kept name time reply p → Kept name time reply q
kept_later name time reply p q g k = record {
  handler = k.handler ∙ sym g.later.handler;
  scans = λ view r n from to cells c a. let h = k.scans view r n from to cells c a in (h.0, prefix_trans h.0 (p.known r).shown (q.known r).shown h.1 (g.later.known r).shown, h.2, h.3);
  puts = λ r n on is. let h = k.puts r n on is in (h.0, prefix_contains (p.known r).own (q.known r).own h.0 (g.own r) h.1, h.2, h.3);
  places = λ r n on is. omega (arith, k.places r n on is, prefix_length (p.known r).shown (q.known r).shown (g.later.known r).shown);
  flushes = λ r n on is. let h = k.flushes r n on is in (h.0, omega (arith, h.1, (g.later.known r).synced));
  stored = λ r n call is. omega (arith, k.stored r n call is, (g.later.known r).stored);
  busy = k.busy;
  spent = λ r n on is. let h = k.spent r n on is in (h.0, prefix_contains (p.known r).spent (q.known r).spent n (g.spent r) h.1);
  receipts = λ r n is. omega (arith, k.receipts r n is, (g.later.known r).synced);
  durable = λ r n batch c a. omega (arith, k.durable r n batch c a, (g.later.known r).synced);
  fault = λ f. g.later.broken (k.fault f);
  faults = λ f. g.later.broken (k.faults f);
  answers = k.answers;
}

abbrev caller_of : ℕ → ℕ → Caller
caller_of h c = record { handler = h; call = c }

abbrev reply_of : ℕ → ℕ → Call → Answer → Reply
reply_of h c call answer = record { handler = h; number = c; call = call; answer = answer }

only : (y x : Reply) → Contains (y ∷ []) x → y ≡ x
only y x (zero, lt, e) = e
only y x (suc k, lt, e) = absurd (omega (arith, lt))

told_by_put : (name : Naming) (time r : ℕ) (sync : Bool) (batch : Batch) (h c : ℕ) (answer : Answer) (old new : Pass)
    → Puts name time r sync batch (record { handler = h; call = c }) answer old new → (s : ℕ) (e : Edit) → Contains (new.known s).own e
    → Contains (old.known s).own e ⊎ (IsEditOf (reply_of h c (Put r sync batch) answer) e × (e.entry.region ≡ s) × (e.entry.time ≡ time))
told_by_put name time r sync batch h c answer old new d s e is = elim (cases_eq r s) [
  | inl same ↦ subst (λ s. Contains (new.known s).own e → Contains (old.known s).own e ⊎ (IsEditOf (reply_of h c (Put r sync batch) answer) e × (e.entry.region ≡ s) × (e.entry.time ≡ time))) same (here (number_of answer) refl) is
  | inr other ↦ inl (subst (λ l. Contains l e) (d.elsewhere s (λ e. other (sym e))).own is)
]
  where
    here : (o : Option ℕ) → number_of answer ≡ o → Contains (new.known r).own e → Contains (old.known r).own e ⊎ (IsEditOf (reply_of h c (Put r sync batch) answer) e × (e.entry.region ≡ r) × (e.entry.time ≡ time))
    here None number is' =
        let whole : (new.known r).own ≡ (old.known r).own ++ [] = d.own ∙ ap (λ (o : Option ℕ). (old.known r).own ++ drawn r time batch (caller_of h c) answer o) number in
        elim (Contains-append_cases (old.known r).own [] e (subst (λ l. Contains l e) whole is')) [ inl before ↦ inl before | inr none ↦ absurd (omega (arith, none.1)) ]
    here (Some n) number is' =
        let whole : (new.known r).own ≡ (old.known r).own ++ edit_of r n time batch (caller_of h c) (outcome_of answer) ∷ [] = d.own ∙ ap (λ (o : Option ℕ). (old.known r).own ++ drawn r time batch (caller_of h c) answer o) number in
        elim (Contains-push_cases (old.known r).own (edit_of r n time batch (caller_of h c) (outcome_of answer)) e (subst (λ l. Contains l e) whole is')) [
          | inl before ↦ inl before
          | inr it ↦ inr (subst (λ e. IsEditOf (reply_of h c (Put r sync batch) answer) e × (e.entry.region ≡ r) × (e.entry.time ≡ time)) it
              (record { handler = refl; call = refl; sync = sync; put = refl; number = number; outcome = refl }, refl, refl))
        ]

told_by : (name : Naming) (time h c : ℕ) (call : Call) (answer : Answer) (old new : Pass)
    → Does name time (record { handler = h; call = c }) call answer old new → (s : ℕ) (e : Edit) → Contains (new.known s).own e
    → Contains (old.known s).own e ⊎ (IsEditOf (reply_of h c call answer) e × (e.entry.region ≡ s) × (e.entry.time ≡ time))
told_by name time h c (Put r sync batch) answer old new d s e is = told_by_put name time r sync batch h c answer old new d s e is
told_by name time h c (Scan view r from to) answer old new d s e is = inl (subst (λ l. Contains l e) (d.own s).own is)
told_by name time h c (Flush r family) answer old new d s e is = inl (subst (λ l. Contains l e) (d.own s).own is)
told_by name time h c Roll answer old new d s e is = inl (subst (λ l. Contains l e) (d.own s).own is)

step_told : (name : Naming) (time : ℕ) (old new : Pass) (reply : Reply) → Step name time old reply new → (r : ℕ) (e : Edit) → Contains (new.known r).own e
    → Contains (old.known r).own e ⊎ (IsEditOf reply e × (e.entry.region ≡ r) × (e.entry.time ≡ time))
step_told name time old new reply s r e is = told_by name time reply.handler reply.number reply.call reply.answer old new s.does r e is

kept_put : (name : Naming) (time r : ℕ) (sync : Bool) (batch : Batch) (h c : ℕ) (answer : Answer) (old new : Pass) → h ≡ new.handler
    → Puts name time r sync batch (record { handler = h; call = c }) answer old new → Kept name time (reply_of h c (Put r sync batch) answer) new
kept_put name time r sync batch h c answer old new same d = record {
  handler = same;
  scans = λ view s q from to cells is a. absurd cc;
  puts = λ s n on is. subst (λ s. (e : Edit) × Contains (new.known s).own e × (e.entry.number ≡ n) × IsEditOf (reply_of h c (Put r sync batch) answer) e) on
      (edit_of r n time batch (caller_of h c) (outcome_of answer), held n is, refl, record { handler = refl; call = refl; sync = sync; put = refl; number = is; outcome = refl });
  places = λ s q on is. subst (λ s. q ≤ last_of (name.bases s).last (new.known s).shown) on (d.seen q (place_put answer q d.answered is));
  flushes = λ s n on is. absurd (flushed_put answer n d.answered is);
  stored = λ s n call is. absurd cc;
  busy = λ s g b on is. absurd (true≢false (sym (subst IsPutAnswer is d.answered)));
  spent = λ s n on is. (d.limit n is, subst (λ s. Contains (new.known s).spent n) on (told n is));
  receipts = λ s n is. elim is [
    | Put_ok batch' call ans ↦ here s n call (ap number_of ans) (ap outcome_of ans)
    | Put_memory batch' call ans ↦ here s n call (ap number_of ans) (ap outcome_of ans)
    | Flushed call ans ↦ absurd call
  ];
  durable = λ s n batch' call ans. here s n call (ap number_of ans) (ap outcome_of ans);
  fault = d.fault;
  faults = λ f. d.fault (fault_put answer d.answered f);
  answers = d.answered;
}
  where
    held : (n : ℕ) → number_of answer ≡ Some n → Contains (new.known r).own (edit_of r n time batch (caller_of h c) (outcome_of answer))
    held n is =
        let whole : (new.known r).own ≡ (old.known r).own ++ edit_of r n time batch (caller_of h c) (outcome_of answer) ∷ [] = d.own ∙ ap (λ (o : Option ℕ). (old.known r).own ++ drawn r time batch (caller_of h c) answer o) is in
        subst (λ l. Contains l (edit_of r n time batch (caller_of h c) (outcome_of answer))) (sym whole) (Contains-push (old.known r).own (edit_of r n time batch (caller_of h c) (outcome_of answer)))

    told : (n : ℕ) → answer ≡ PutSpent n → Contains (new.known r).spent n
    told n is =
        let whole : (new.known r).spent ≡ (old.known r).spent ++ n ∷ [] = d.spent ∙ ap (λ (a : Answer). (old.known r).spent ++ told_last a) is in
        subst (λ l. Contains l n) (sym whole) (Contains-push (old.known r).spent n)

    here : (s n : ℕ) {batch' : Batch} → Put r sync batch ≡ Put s true batch' → number_of answer ≡ Some n → outcome_of answer ≡ Done → n ≤ (new.known s).synced
    here s n call is done =
        let on : r ≡ s = cc in let is_sync : sync ≡ true = cc in
        subst (λ s. n ≤ (new.known s).synced) on (d.synced n is_sync is done)

kept_scan : (name : Naming) (time : ℕ) (view : View) (r : ℕ) (from to : List ℕ) (h c : ℕ) (answer : Answer) (old new : Pass) → h ≡ new.handler
    → Scans name view r from to answer old new → Kept name time (reply_of h c (Scan view r from to) answer) new
kept_scan name time view r from to h c answer old new same d = record {
  handler = same;
  scans = λ view' s q from' to' cells is a.
      let hv : view ≡ view' = cc in let on : r ≡ s = cc in let hf : from ≡ from' = cc in let ht : to ≡ to' = cc in
      let x = d.cells q cells a in
      subst (λ s. (list : List Edit) × IsPrefix list (new.known s).shown × (q ≡ last_of (name.bases s).last list) × (cells ≡ viewed view' (visible (name.bases s).content list q from' to'))) on
      ((new.known r).shown, prefix_here (new.known r).shown, x.0, x.1 ∙ (λ i. viewed (hv i) (visible (name.bases r).content (new.known r).shown q (hf i) (ht i))));
  puts = λ s n on is. absurd (none n is);
  places = λ s q on is. let x = place_scan answer q d.answered is in let y = d.cells q x.0 x.1 in
      subst (λ s. q ≤ last_of (name.bases s).last (new.known s).shown) on (omega (arith, y.0));
  flushes = λ s n on is. absurd (flushed_scan answer n d.answered is);
  stored = λ s n call is. absurd cc;
  busy = λ s g b on is. absurd (true≢false (sym (subst IsScanAnswer is d.answered)));
  spent = λ s n on is. absurd (true≢false (sym (subst IsScanAnswer is d.answered)));
  receipts = λ s n is. elim is [ Put_ok batch' call ans ↦ absurd cc | Put_memory batch' call ans ↦ absurd cc | Flushed call ans ↦ absurd call ];
  durable = λ s n batch' call ans. absurd cc;
  fault = λ f. absurd (no_fault answer d.answered f);
  faults = λ f. absurd (fault_scan answer d.answered f);
  answers = d.answered;
}
  where
    none : (n : ℕ) → number_of answer ≡ Some n → ⊥
    none n is = let no : number_of answer ≡ None = number_scan answer d.answered in absurd cc

    no_fault : (a : Answer) → IsScanAnswer a → IsPutFault a → ⊥
    no_fault (PutFault n) a f = true≢false (sym a)
    no_fault _ a f = f

kept_flush : (name : Naming) (time r : ℕ) (family : Option (List ℕ)) (h c : ℕ) (answer : Answer) (old new : Pass) → h ≡ new.handler
    → Flushes name r family (record { handler = h; call = c }) answer old new → Kept name time (reply_of h c (Flush r family) answer) new
kept_flush name time r family h c answer old new same d = record {
  handler = same;
  scans = λ view s q from' to' cells is a. absurd cc;
  puts = λ s n on is. absurd (none n is);
  places = λ s q on is. absurd (place_flush answer q d.answered is);
  flushes = λ s n on is. subst (λ s. ((name.bases s).last ≤ n) × (n ≤ (new.known s).synced)) on (omega (arith, d.above n is), synced answer n d.flushed d.nothing is);
  stored = λ s n call is. let on : r ≡ s = cc in let all : family ≡ None = cc in subst (λ s. n ≤ (new.known s).stored) on (d.stored n all is);
  busy = λ s g b on is. subst (λ s. (g ≢ h) × Contains (name.flushes s) (record { handler = g; call = b })) on (d.busy g b is);
  spent = λ s n on is. absurd (true≢false (sym (subst IsFlushAnswer is d.answered)));
  receipts = λ s n is. elim is [
    | Put_ok batch' call ans ↦ absurd cc
    | Put_memory batch' call ans ↦ absurd cc
    | Flushed on ans ↦ subst (λ s. n ≤ (new.known s).synced) on (synced answer n d.flushed d.nothing (ap flushed_of ans))
  ];
  durable = λ s n batch' call ans. absurd cc;
  fault = λ f. absurd (no_fault answer d.answered f);
  faults = λ f. d.fault (fault_flush answer d.answered f);
  answers = d.answered;
}
  where
    none : (n : ℕ) → number_of answer ≡ Some n → ⊥
    none n is = let no : number_of answer ≡ None = number_flush answer d.answered in absurd cc

    synced : (a : Answer) (n : ℕ) → ((m : ℕ) → a ≡ FlushOk m → IsFlushedTo family m (old.known r) (new.known r)) → ((m : ℕ) → a ≡ FlushNothing m → IsNothingAbove family m (new.known r))
        → flushed_of a ≡ Some n → n ≤ (new.known r).synced
    synced (FlushOk m) n ok none is = let same : m ≡ n = cc in omega (arith, same, (ok m refl).synced)
    synced (FlushNothing m) n ok none is = let same : m ≡ n = cc in omega (arith, same, (none m refl).synced)
    synced _ n ok none is = absurd cc

    no_fault : (a : Answer) → IsFlushAnswer a → IsPutFault a → ⊥
    no_fault (PutFault n) a f = true≢false (sym a)
    no_fault _ a f = f

kept_roll : (name : Naming) (time h c : ℕ) (answer : Answer) (old new : Pass) → h ≡ new.handler
    → Rolls answer old new → Kept name time (reply_of h c Roll answer) new
kept_roll name time h c answer old new same d = record {
  handler = same;
  scans = λ view s q from' to' cells is a. absurd cc;
  puts = λ s n on is. absurd on;
  places = λ s q on is. absurd on;
  flushes = λ s n on is. absurd on;
  stored = λ s n call is. absurd cc;
  busy = λ s g b on is. absurd on;
  spent = λ s n on is. absurd on;
  receipts = λ s n is. elim is [ Put_ok batch' call ans ↦ absurd cc | Put_memory batch' call ans ↦ absurd cc | Flushed call ans ↦ absurd call ];
  durable = λ s n batch' call ans. absurd cc;
  fault = λ f. absurd (no_fault answer d.answered f);
  faults = λ f. d.fault (fault_roll answer d.answered f);
  answers = d.answered;
}
  where
    no_fault : (a : Answer) → IsRollAnswer a → IsPutFault a → ⊥
    no_fault (PutFault n) a f = true≢false (sym a)
    no_fault _ a f = f

kept_does : (name : Naming) (time h c : ℕ) (call : Call) (answer : Answer) (old new : Pass) → h ≡ new.handler
    → Does name time (record { handler = h; call = c }) call answer old new → Kept name time (reply_of h c call answer) new
kept_does name time h c (Put r sync batch) answer old new same d = kept_put name time r sync batch h c answer old new same d
kept_does name time h c (Scan view r from to) answer old new same d = kept_scan name time view r from to h c answer old new same d
kept_does name time h c (Flush r family) answer old new same d = kept_flush name time r family h c answer old new same d
kept_does name time h c Roll answer old new same d = kept_roll name time h c answer old new same d

pub step_kept : (name : Naming) (time : ℕ) (old new : Pass) (reply : Reply) → Step name time old reply new → Kept name time reply new
step_kept name time old new reply s =
    kept_does name time reply.handler reply.number reply.call reply.answer old new (s.handler ∙ sym (step_grows name time old new reply s).later.handler) s.does

pub runs_kept : (name : Naming) (time : ℕ) (old new : Pass) (replies : List Reply) → Runs name time old replies new → (x : Reply) → Contains replies x → Kept name time x new
runs_kept name time old new [] e x is = absurd (no_member x is)
  where
    no_member : (x : Reply) → Contains [] x → ⊥
    no_member x is = omega (arith, is.1)
runs_kept name time old new (reply ∷ replies) (mid, s, more) x is = elim (Contains-append_cases (reply ∷ []) replies x is) [
  | inl first ↦ subst (λ y. Kept name time y new) (only reply x first) (kept_later name time reply mid new (runs_grows name time mid new replies more) (step_kept name time old mid reply s))
  | inr later ↦ runs_kept name time mid new replies more x later
]

-- ---- where the own edits came from

pub runs_told : (name : Naming) (time : ℕ) (old new : Pass) (replies : List Reply) → Runs name time old replies new
    → (r : ℕ) (e : Edit) → Contains (new.known r).own e → Contains (old.known r).own e ⊎ ((x : Reply) × Contains replies x × IsEditOf x e × (e.entry.region ≡ r) × (e.entry.time ≡ time))
runs_told name time old new [] same r e is = inl (subst (λ p. Contains (p.known r).own e) same is)
runs_told name time old new (reply ∷ replies) (mid, s, more) r e is = elim (runs_told name time mid new replies more r e is) [
  | inl before ↦ (elim (step_told name time old mid reply s r e before) [ inl old' ↦ inl old' | inr told ↦ inr (reply, (0, omega arith, refl), told.0, told.1, told.2) ])
  | inr after ↦ inr (after.0, contains_cons reply replies after.0 after.1, after.2, after.3, after.4)
]

-- ---- an earlier and a later reply

-- the reply's place is not before what the pass had seen, and that of a put is behind it
pub record Above (name : Naming) (old : Pass) (x : Reply) (last : Pass) : Type 0 where
  pub place : (r q : ℕ) → IsOn r x.call → place_of x.answer ≡ Some q → last_of (name.bases r).last (old.known r).shown ≤ q
  pub put : (r q : ℕ) → IsOn r x.call → x.answer ≡ PutOk q → last_of (name.bases r).last (old.known r).shown < q
  pub flush : (r q : ℕ) → IsOn r x.call → flushed_of x.answer ≡ Some q → last_of (name.bases r).last (old.known r).shown ≤ q
  pub stops : old.broken ≡ true → number_of x.answer ≡ None
  pub roll : (r : ℕ) → x.call ≡ Roll → IsRolled x.answer → (old.known r).synced ≤ (last.known r).closed

above_does : (name : Naming) (time h c : ℕ) (call : Call) (answer : Answer) (old new : Pass)
    → Does name time (record { handler = h; call = c }) call answer old new → Above name old (reply_of h c call answer) new
above_does name time h c (Put r sync batch) answer old new d = record {
  place = λ s q on is. subst (λ s. last_of (name.bases s).last (old.known s).shown ≤ q) on (let lt : last_of (name.bases r).last (old.known r).shown < q = d.above q (ap number_of (place_put answer q d.answered is)) in omega (arith, lt));
  put = λ s q on is. subst (λ s. last_of (name.bases s).last (old.known s).shown < q) on (d.above q (ap number_of is));
  flush = λ s q on is. absurd (flushed_put answer q d.answered is);
  stops = d.stops;
  roll = λ s call is. absurd cc;
}
above_does name time h c (Scan view r from to) answer old new d = record {
  place = λ s q on is. subst (λ s. last_of (name.bases s).last (old.known s).shown ≤ q) on
      (let x = place_scan answer q d.answered is in omega (arith, (d.cells q x.0 x.1).0, prefix_length (old.known r).shown (new.known r).shown (d.later.known r).shown));
  put = λ s q on is. absurd (true≢false (sym (subst IsScanAnswer is d.answered)));
  flush = λ s q on is. absurd (flushed_scan answer q d.answered is);
  stops = λ b. number_scan answer d.answered;
  roll = λ s call is. absurd cc;
}
above_does name time h c (Flush r family) answer old new d = record {
  place = λ s q on is. absurd (place_flush answer q d.answered is);
  put = λ s q on is. absurd (true≢false (sym (subst IsFlushAnswer is d.answered)));
  flush = λ s q on is. subst (λ s. last_of (name.bases s).last (old.known s).shown ≤ q) on (d.above q is);
  stops = λ b. number_flush answer d.answered;
  roll = λ s call is. absurd cc;
}
above_does name time h c Roll answer old new d = record {
  place = λ s q on is. absurd on;
  put = λ s q on is. absurd on;
  flush = λ s q on is. absurd on;
  stops = λ b. number_roll answer d.answered;
  roll = λ s call is. d.closed s is;
}

above_earlier : (name : Naming) (p q last : Pass) (x : Reply) → IsLater p q → Above name q x last → Above name p x last
above_earlier name p q last x l a = record {
  place = λ r n on is. omega (arith, a.place r n on is, prefix_length (p.known r).shown (q.known r).shown (l.known r).shown);
  put = λ r n on is. omega (arith, a.put r n on is, prefix_length (p.known r).shown (q.known r).shown (l.known r).shown);
  flush = λ r n on is. omega (arith, a.flush r n on is, prefix_length (p.known r).shown (q.known r).shown (l.known r).shown);
  stops = λ b. a.stops (l.broken b);
  roll = λ r call is. omega (arith, a.roll r call is, (l.known r).synced);
}

above_later : (name : Naming) (p q last : Pass) (x : Reply) → IsLater q last → Above name p x q → Above name p x last
above_later name p q last x l a = record { place = a.place; put = a.put; flush = a.flush; stops = a.stops; roll = λ r call is. omega (arith, a.roll r call is, (l.known r).closed) }

step_above : (name : Naming) (time : ℕ) (old new : Pass) (reply : Reply) → Step name time old reply new → Above name old reply new
step_above name time old new reply s = above_does name time reply.handler reply.number reply.call reply.answer old new s.does

runs_above : (name : Naming) (time : ℕ) (old new : Pass) (replies : List Reply) → Runs name time old replies new → (x : Reply) → Contains replies x → Above name old x new
runs_above name time old new [] e x is = absurd (omega (arith, is.1))
runs_above name time old new (reply ∷ replies) (mid, s, more) x is = elim (Contains-append_cases (reply ∷ []) replies x is) [
  | inl first ↦ subst (λ y. Above name old y new) (only reply x first) (above_later name old mid new reply (runs_grows name time mid new replies more).later (step_above name time old mid reply s))
  | inr later ↦ above_earlier name old mid new x (step_grows name time old mid reply s).later (runs_above name time mid new replies more x later)
]

-- an earlier and a later reply of one handler
pub record InTurn (r : ℕ) (last : Pass) (a b : Reply) : Type 0 where
  pub places : KeepsPlaces r a b
  pub faults : StopsAtFault a b
  pub rolls : (n : ℕ) (batch : Batch) → a.call ≡ Put r true batch → a.answer ≡ PutOk n → b.call ≡ Roll → IsRolled b.answer → n ≤ (last.known r).closed

pub runs_order : (name : Naming) (time : ℕ) (old new : Pass) (replies : List Reply) (r : ℕ) → Runs name time old replies new → Pairs (InTurn r new) replies
runs_order name time old new [] r e = tt
runs_order name time old new (reply ∷ replies) r (mid, s, more) = (both, runs_order name time mid new replies r more)
  where
    both : (y : Reply) → Contains replies y → InTurn r new reply y
    both y is =
        let k = step_kept name time old mid reply s in
        let a = runs_above name time mid new replies more y is in
        record {
          places = λ same on on' p q place. (
            (λ e. omega (arith, k.places r p on place, a.place r q on' e)),
            (λ e. omega (arith, k.places r p on place, a.put r q on' e)),
            (λ e. omega (arith, k.places r p on place, a.flush r q on' e)),
          );
          faults = λ same f. a.stops (k.fault f);
          rolls = λ n batch call ans roll is. omega (arith, k.durable r n batch call ans, a.roll r roll is);
        }
