-- What close hands on gives the headline.
use Rattle.std.proofs.Common.{◌≡◌, ℕ, ◌≤◌, ◌⊎◌, Bool, true, IsTrue, List, [], ◌∷◌, map, Contains, None, refl, sym, ap, ◌∙◌, subst, arith, inl, inr}
use Rattle.cell_model.specs.Batch.{Batch}
use Rattle.log_model.specs.Files.{Files}
use Rattle.region_model.specs.Journal.{Edit, is_completed}
use Rattle.region_model.specs.Calls.{Put, Flush, Answer, PutFault, Reply}
use Rattle.region_model.specs.Lawful.{IsLawful, IsEditOf, outcome_of}
use Rattle.script_model.specs.Calls.{Script, Asked, asked, asked_by, IsAmong}
use Rattle.disk_images.specs.Crash.{DiskView}
use Rattle.server_model.specs.Pass.{Pass, Naming}
use Rattle.server_model.specs.Steps.{IsFault}
use Rattle.server_model.specs.Closing.{Handled, replies_of}
use Rattle.server_model.proofs.JournalLaws.{handled_has}
use Rattle.server_model.proofs.PassLaws.{runs_told}
use Rattle.server_model.proofs.RepliesLaw.{lawful, has_pass, kept_of, whose_pass, run_of}
use Rattle.run_model.specs.Headline.{History, IsOneJournal}
use Rattle.run_model.specs.Closed.{ClosedAt, ClosedOn, AreCallsOn, IsFound}
use Rattle.run_model.proofs.Lists.{mapped, map_contains, range_has, range_within}
use Rattle.run_model.proofs.AskedLaws.{ordered_replies, listed_reply, asked_among}

abbrev pub history_of : ClosedAt → History
history_of x = record { region = x.region; base = x.it.base; edits = x.it.edits }

completed_of : (a : Answer) → IsTrue (is_completed (outcome_of a))
completed_of (PutFault n) = refl
completed_of _ = refl

pub same_regions : (xs : List ClosedAt) → map (λ (h : History). h.region) (map history_of xs) ≡ map (λ (x : ClosedAt). x.region) xs
same_regions [] = refl
same_regions (x ∷ xs) = ap (λ (l : List ℕ). x.region ∷ l) (same_regions xs)

module _ {asks : List Asked} {script : Script} {found : Files} {left : DiskView} {name : Naming} {hs : List Handled} {xs : List ClosedAt} {broken : Bool} (c : ClosedOn asks script found left name hs xs broken) where
  pub at_each : (P : History → Type 0) → ((x : ClosedAt) → Contains xs x → P (history_of x)) → (h : History) → Contains (map history_of xs) h → P h
  at_each P each h is = let m = mapped history_of xs h is in subst P m.2 (each m.0 m.1)

  -- the region of a call that is made
  pub region_there : (r : ℕ) → 1 ≤ r → r ≤ script.regions → (x : ClosedAt) × Contains xs x × (x.region ≡ r)
  region_there r low high = mapped (λ (x : ClosedAt). x.region) xs r (subst (λ l. Contains l r) (sym c.numbers) (range_has script.regions 1 r low (omega (arith, high))))

  pub in_range : (x : ClosedAt) → Contains xs x → (1 ≤ x.region) × (x.region ≤ script.regions)
  in_range x is = let w = range_within script.regions 1 x.region (subst (λ l. Contains l x.region) c.numbers (map_contains (λ (x : ClosedAt). x.region) xs x is)) in (w.0, omega (arith, w.1))

  pub told_time : (x : ClosedAt) → Contains xs x → (e : Edit) → Contains x.it.edits e → e.entry.time ≡ script.time
  told_time x here e is =
      let closed = c.regions x here in
      let p = closed.owners e is in
      let h = whose_pass hs p.0 p.1 in
      let same : e.caller.handler ≡ h.0.pass.handler = sym p.2 ∙ sym (ap (λ (q : Pass). q.handler) h.2) in
      let own : Contains (h.0.pass.known x.region).own e = subst (λ l. Contains l e) (sym (closed.own h.0.pass (has_pass hs h.0 h.1))) (handled_has h.0.pass.handler x.it.edits e is same) in
      let run = run_of name script.time hs h.0 c.runs h.1 in
      elim (runs_told name script.time run.0 h.0.pass h.0.replies run.2 x.region e own) [
        | inl before ↦ absurd (none e (subst (λ l. Contains l e) (run.1.own x.region) before))
        | inr told ↦ told.4
      ]
    where
      none : (e : Edit) → Contains [] e → ⊥
      none e is = omega (arith, is.1)

  -- a fault among the replies is told by the status
  pub fault_is_told : (x : Reply) → Contains (replies_of hs) x → IsFault x.answer → broken ≡ true
  fault_is_told x is fault = let o = kept_of name script.time hs c.runs x is in c.seen_broken o.0.pass (has_pass hs o.0 o.1) (o.2.faults fault)

  pub base_at : (x : ClosedAt) → Contains xs x → IsFound found x.region x.it.base
  base_at x is = let w = in_range x is in subst (IsFound found x.region) (sym (c.regions x is).base) (c.bases x.region w.0 w.1)

-- what needs that these are all calls on some of the regions
module _ {asks : List Asked} {script : Script} {found : Files} {left : DiskView} {name : Naming} {hs : List Handled} {xs : List ClosedAt} {broken : Bool} (c : ClosedOn asks script found left name hs xs broken)
    {on : ℕ → Type 0} (these : AreCallsOn on script asks) where
  pub among : (x : Reply) → Contains (replies_of hs) x → IsAmong script.regions x.call
  among x is = asked_among script (asked_by x) c.script_right.calls_among (these.part (asked_by x) (subst (λ l. Contains l (asked_by x)) c.calls (map_contains asked_by (replies_of hs) x is)))

  pub lawful_at : (x : ClosedAt) → Contains xs x → on x.region → IsLawful x.region x.it.base x.it.edits (replies_of hs)
  lawful_at x is here = lawful name script.time x.region hs x.it c.runs (c.regions x is) (ordered_replies asks (replies_of hs) c.calls these.order)
      (λ d listed. listed_reply script asks (replies_of hs) x.region d these here c.calls (subst (λ l. Contains l d) (c.named.flushes x.region) listed))

  pub one_journal : (x : ClosedAt) → Contains xs x → on x.region → IsOneJournal script (history_of x)
  one_journal x here there = record {
    journal = (c.regions x here).journal;
    completed = λ e is. let y = (lawful_at x here there).told e is in subst (λ o. IsTrue (is_completed o)) (sym y.2.outcome) (completed_of y.0.answer);
    asked = λ e is. let y = (lawful_at x here there).told e is in (y.2.sync, asked_here x.region e y.0 y.1 y.2 ((c.regions x here).journal.regions e is));
    time = told_time c x here;
    limit = (c.regions x here).limit;
  }
    where
      asked_here : (r : ℕ) (e : Edit) (y : Reply) → Contains (replies_of hs) y → (o : IsEditOf y e) → e.entry.region ≡ r
          → Contains (asked script) (record { handler = e.caller.handler; number = e.caller.call; call = Put r o.sync e.entry.batch })
      asked_here r e y is o region_is =
          let member : Contains (asked script) (asked_by y) = these.part (asked_by y) (subst (λ l. Contains l (asked_by y)) c.calls (map_contains asked_by (replies_of hs) y is)) in
          subst (Contains (asked script)) (λ i. record { handler = (sym o.handler) i; number = (sym o.call) i; call = (o.put ∙ ap (λ r. Put r o.sync e.entry.batch) region_is) i }) member

  -- the region of a put or a flush of all families that was replied
  pub on_region : (y : Reply) → Contains (replies_of hs) y → (r : ℕ) → (y.call ≡ Flush r None) ⊎ ((sync : Bool) × (batch : Batch) × (y.call ≡ Put r sync batch)) → (x : ClosedAt) × Contains xs x × (x.region ≡ r)
  on_region y is r (inl call) = let a = subst (IsAmong script.regions) call (among y is) in region_there c r a.0 a.1
  on_region y is r (inr (sync, batch, call)) = let a = subst (IsAmong script.regions) call (among y is) in region_there c r a.0 a.1
