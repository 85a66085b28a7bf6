-- Close's facts give the headline, though not which beginning of a journal a crash leaves.
use Rattle.std.specs.List.{AllByRecursion}
use Rattle.std.proofs.lemmas.List.Elements.{Contains-append_cases}
use Rattle.std.proofs.Common.{◌≡◌, ◌≢◌, ℕ, zero, suc, ◌^◌, ◌<◌, ◌≤◌, Bool, true, false, List, [], ◌∷◌, map, Contains, refl, sym, ◌∙◌, subst, arith, inl, inr}
use Rattle.cell_model.specs.Batch.{Batch}
use Rattle.log_model.specs.declared.name.Name.{Name}
use Rattle.log_model.specs.Entry.{Entry}
use Rattle.log_model.specs.Files.{Files, IsLogFile, IsSound, IsLastLog, IsPresent}
use Rattle.log_model.specs.Recovered.{IsRecovered, IsContent, IsLast, RecoversAlike}
use Rattle.region_model.specs.Calls.{Call, Put, Flush, Answer, PutFault, Reply}
use Rattle.region_model.specs.Lawful.{IsLawful}
use Rattle.script_model.specs.Report.{report_text}
use Rattle.script_model.specs.Calls.{Script, Asked}
use Rattle.disk_images.specs.Crash.{DiskView, IsImageNow}
use Rattle.server_model.specs.Pass.{Pass, Naming}
use Rattle.server_model.specs.Steps.{Does, Step, Runs}
use Rattle.server_model.specs.Closing.{IsClosedRegion, Survives, Leaves, Handled, HasRun, Pairs, passes_of, replies_of}
use Rattle.server_model.proofs.JournalLaws.{pairs_all, contains_cons}
use Rattle.server_model.proofs.RepliesLaw.{survives, flush_was_done, RollCovers, rolls_cover, has_pass, kept_of}
use Rattle.region_model.specs.Crash.{Fits}
use Rattle.run_model.specs.Headline.{History, report_of, IsOneJournal, Endures, AreDone, IsRolledBehind, FitsStatus, IsHeadline}
use Rattle.run_model.specs.Closed.{ClosedAt, ClosedOn, Closed, AreCallsOn, FitsFrom, FitsThroughout}
use Rattle.run_model.proofs.FromClose.{history_of, same_regions, at_each, lawful_at, one_journal, on_region, base_at}
use Rattle.run_model.proofs.AskedLaws.{whole_script}
use Rattle.run_model.proofs.Choices.{each_in}
use Rattle.std.proofs.Math.Logic.{∥∥₁_map, ∥∥₁_map₂}
use Rattle.region_model.specs.Calls.{Scan, Roll, PutSpent, IsAnswerTo}
use Rattle.run_model.specs.declared.spent.Spent.{Spent}
use Rattle.run_model.specs.Spent.{IsSpent, IsFirstSpent, OnlyPuts, first_spent}
use Rattle.run_model.proofs.SpentLaws.{found as found_first}
use Rattle.std.proofs.Common.{Some}
use Rattle.serial_history.specs.History.{IsHistory}
use Rattle.serial_history.proofs.History.{history_of as in_one_thread}

-- ---- which puts are answered a fault with a sequence id

step_in : (name : Naming) (time : ℕ) (old new : Pass) (replies : List Reply) → Runs name time old replies new → (x : Reply) → Contains replies x
    → (before : Pass) × (after : Pass) × Step name time before x after
step_in name time old new [] run x is = absurd (omega (arith, is.1))
step_in name time old new (reply ∷ replies) (mid, step, more) x (zero, lt, same) = (old, mid, subst (λ (y : Reply). Step name time old y mid) same step)
step_in name time old new (reply ∷ replies) (mid, step, more) x (suc k, lt, same) = step_in name time mid new replies more x (k, omega (arith, lt), same)

step_of : (name : Naming) (time : ℕ) (hs : List Handled) → AllByRecursion (HasRun name time) hs → (x : Reply) → Contains (replies_of hs) x
    → (before : Pass) × (after : Pass) × Step name time before x after
step_of name time [] all x is = absurd (omega (arith, is.1))
step_of name time (h ∷ hs) all x is = elim (Contains-append_cases h.replies (replies_of hs) x is) [
  | inl here ↦ step_in name time all.0.0 h.pass h.replies all.0.2 x here
  | inr later ↦ step_of name time hs all.1 x later
]

pub fault_asked : {asks : List Asked} {script : Script} {found : Files} {left : DiskView} {name : Naming} {hs : List Handled} {xs : List ClosedAt} {broken : Bool} → ClosedOn asks script found left name hs xs broken
    → (reply : Reply) (r n : ℕ) (sync : Bool) (batch : Batch) → Contains (replies_of hs) reply → reply.call ≡ Put r sync batch → reply.answer ≡ PutFault (Some n) → sync ≡ true
fault_asked {asks} {script} {found} {left} {name} {hs} c reply r n sync batch is put fault =
    let step = step_of name script.time hs c.runs.each reply is in
    let does : Does name script.time (record { handler = reply.handler; call = reply.number }) (Put r sync batch) reply.answer step.0 step.1 =
    subst (λ (call : Call). Does name script.time (record { handler = reply.handler; call = reply.number }) call reply.answer step.0 step.1) put step.2.does in
    does.fault_sync n fault

-- ---- the headline

module _ {asks : List Asked} {script : Script} {found : Files} {left : DiskView} {name : Naming} {hs : List Handled} {xs : List ClosedAt} {broken : Bool} (c : ClosedOn asks script found left name hs xs broken)
    (kept : (x : ClosedAt) → Contains xs x → Survives left broken x.region x.it) (left_so : Leaves found left broken script.regions) {on : ℕ → Type 0} (these : AreCallsOn on script asks) where
  pub endures : (status : ℕ) → (status ≢ 5 → broken ≡ false) → (x : ClosedAt) → Contains xs x → Endures left status (replies_of hs) (history_of x)
  endures status whole x here = record {
    images = λ J image. let i = survives name script.time x.region hs x.it left broken c.runs (c.regions x here) (kept x here) J image in (i.0, i.1, i.2, (λ no_5. i.3 (whole no_5)));
  }

  pub are_done : (status : ℕ) → (status ≢ 5 → broken ≡ false) → AreDone left status (replies_of hs)
  are_done status whole = record {
    flushes = λ reply r n is call number.
        let x = on_region c these reply is r (inl call) in
        flush_was_done name script.time r hs x.0.it left broken c.runs (subst (λ k. IsClosedRegion name k (passes_of hs) x.0.it) x.2 (c.regions x.0 x.1)) (subst (λ k. Survives left broken k x.0.it) x.2 (kept x.0 x.1)) reply n is call number;
    rolls = pairs_all _ (replies_of hs) (weaker (replies_of hs) (λ x is. is) (rolls_cover name script.time hs hs (λ h is. is) c.runs));
    archived = λ no_5 log es kind file not_last. left_so.archived (whole no_5) log es file kind not_last;
  }
    where
      weaker : (ys : List Reply) → ((x : Reply) → Contains ys x → Contains (replies_of hs) x) → Pairs (RollCovers hs) ys
          → Pairs (λ put roll. (r n : ℕ) → IsRolledBehind r n put roll → (J : Files) (log : Name) (es : List Entry) (e : Entry) → IsImageNow left J → IsLastLog J log → IsLogFile J log es → Contains es e → e.region ≡ r → n < e.number) ys
      weaker [] sub p = tt
      weaker (y ∷ ys) sub p = (
        (λ z is r n b J log es e image last file member on.
            let x = on_region c these y (sub y (0, omega arith, refl)) r (inr (true, b.batch, b.put)) in
            let h = p.0 z is r n b.batch b.handler b.put b.answer b.roll b.rolled in
            let closed = subst (λ k. IsClosedRegion name k (passes_of hs) x.0.it) x.2 (c.regions x.0 x.1) in
            let survives_there = subst (λ k. Survives left broken k x.0.it) x.2 (kept x.0 x.1) in
            omega (arith, h.2, closed.closed_seen h.0.pass (has_pass hs h.0 h.1), survives_there.closed J log es e image last file member on)),
        weaker ys (λ x is. sub x (contains_cons y ys x is)) p.1,
      )

module _ {script : Script} {found : Files} {left : DiskView} {name : Naming} {hs : List Handled} {xs : List ClosedAt} {broken : Bool} (c : Closed script found left name hs xs broken)
    (kept : (x : ClosedAt) → Contains xs x → Survives left broken x.region x.it) (left_so : Leaves found left broken script.regions) where
  -- the report of these histories and replies is one for which the headline holds
  headline_kept : (before : DiskView) (status : ℕ) → before.files ≡ found → FitsThroughout before left xs → FitsStatus status (replies_of hs) → (status ≢ 5 → broken ≡ false)
      → IsHeadline script before left status (report_text (report_of (map history_of xs) (replies_of hs) status))
  headline_kept before status same moments fits whole = record {
    histories = map history_of xs;
    replies = replies_of hs;
    is = refl;
    statuses = fits;
    sound = subst IsSound (sym same) c.sound;
    report = record {
      regions = same_regions xs ∙ c.numbers;
      calls = c.calls;
      last = at_each c (λ h. IsLast before.files h.region h.base.last) (λ x is. subst (λ f. IsLast f x.region x.it.base.last) (sym same) (base_at c x is).last);
      content = at_each c (λ h. IsContent (IsRecovered before.files h.region) h.base.content) (λ x is. subst (λ f. IsContent (IsRecovered f x.region) x.it.base.content) (sym same) (base_at c x is).content);
      fault_sync = fault_asked c;
    };
    journals = at_each c (IsOneJournal script) (λ x is. one_journal c (whole_script script) x is tt);
    lawful = at_each c (λ h. IsLawful h.region h.base h.edits (replies_of hs)) (λ x is. lawful_at c (whole_script script) x is tt);
    serial_history = at_each c (λ h. (history : List Reply) × IsHistory h.region h.base h.edits (replies_of hs) history)
        (λ x is. in_one_thread x.region x.it.base x.it.edits (replies_of hs) (one_journal c (whole_script script) x is tt).journal (lawful_at c (whole_script script) x is tt));
    endures = at_each c (Endures left status (replies_of hs)) (endures c kept left_so (whole_script script) status whole);
    others = λ J r image above. subst (λ f. RecoversAlike f J r) (sym same) (left_so.others J r image above);
    images_sound = λ low J image. left_so.sound J image (subst (λ f. (name : Name) → IsPresent f name → name.number ≤ 2 ^ 61) same low);
    done = are_done c kept left_so (whole_script script) status whole;
    throughout = ∥∥₁_map moments (λ (s : (start : ℕ) × FitsFrom before left start (λ J. (x : ClosedAt) → Contains xs x → (m : ℕ) × Fits J x.region x.it.base x.it.edits m)). (
      s.0,
      record {
        begun = s.1.begun;
        before = s.1.before;
        since = λ t J low high image. ∥∥₁_map (s.1.since t J low high image) (λ each. at_each c (λ h. (m : ℕ) × Fits J h.region h.base h.edits m) each);
      },
    ));
  }

-- A closed server and its handlers' replies give the headline for the report of a status that fits them.
pub headline : {script : Script} {found : Files} {left : DiskView} {name : Naming} {hs : List Handled} {xs : List ClosedAt} {broken : Bool} → Closed script found left name hs xs broken
    → (before : DiskView) (status : ℕ) → before.files ≡ found → FitsThroughout before left xs → FitsStatus status (replies_of hs) → (status ≢ 5 → broken ≡ false)
    → ∥ IsHeadline script before left status (report_text (report_of (map history_of xs) (replies_of hs) status)) ∥₁
headline {script} {found} {left} {name} {hs} {xs} {broken} c before status same moments fits whole =
    ∥∥₁_map₂ (each_in (λ (x : ClosedAt). Survives left broken x.region x.it) xs c.survives) c.leaves (λ kept left_so. headline_kept c kept left_so before status same moments fits whole)

-- What holds of the histories and the replies goes with it.
pub headline_with : {script : Script} {found : Files} {left : DiskView} {name : Naming} {hs : List Handled} {xs : List ClosedAt} {broken : Bool} → Closed script found left name hs xs broken
    → (before : DiskView) (status : ℕ) → before.files ≡ found → FitsThroughout before left xs → FitsStatus status (replies_of hs) → (status ≢ 5 → broken ≡ false)
    → (P : List History → List Reply → Type 0) → P (map history_of xs) (replies_of hs)
    → ∥ ((h : IsHeadline script before left status (report_text (report_of (map history_of xs) (replies_of hs) status))) × P h.histories h.replies) ∥₁
unfolding headline_kept
headline_with {script} {found} {left} {name} {hs} {xs} {broken} c before status same moments fits whole P holds =
    ∥∥₁_map₂ (each_in (λ (x : ClosedAt). Survives left broken x.region x.it) xs c.survives) c.leaves
    (λ kept left_so. (headline_kept c kept left_so before status same moments fits whole, holds))

only_puts : {script : Script} {found : Files} {left : DiskView} {name : Naming} {hs : List Handled} {xs : List ClosedAt} {broken : Bool} → Closed script found left name hs xs broken → OnlyPuts (replies_of hs)
only_puts {script} {found} {left} {name} {hs} {xs} {broken} c x is spent = of_put x.call x.answer (kept_of name script.time hs c.runs x is).2.answers spent
  where
    of_put : (call : Call) (answer : Answer) → IsAnswerTo call answer → IsSpent answer → (region : ℕ) × (sync : Bool) × (batch : Batch) × (call ≡ Put region sync batch)
    of_put (Put region sync batch) answer fits told = (region, sync, batch, refl)
    of_put (Scan view region from to) (PutSpent n) fits told = absurd cc
    of_put (Flush region family) (PutSpent n) fits told = absurd cc
    of_put Roll (PutSpent n) fits told = absurd cc
    of_put (Scan view region from to) answer fits told = absurd told
    of_put (Flush region family) answer fits told = absurd told
    of_put Roll answer fits told = absurd told

-- Where a put was answered spent the first one is named.
pub first_of_closed : {script : Script} {found : Files} {left : DiskView} {name : Naming} {hs : List Handled} {xs : List ClosedAt} {broken : Bool} → Closed script found left name hs xs broken
    → (s : Spent) → first_spent (replies_of hs) ≡ Some s → IsFirstSpent s (replies_of hs)
first_of_closed {script} {found} {left} {name} {hs} c s first = found_first (replies_of hs) (only_puts c) s first
