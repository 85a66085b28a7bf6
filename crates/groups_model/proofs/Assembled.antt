-- The closes of all groups' servers give the headline of a run on several disks.
use Rattle.std.proofs.Common.{◌≡◌, ◌≢◌, ℕ, ◌<◌, ◌≤◌, ◌⊎◌, Bool, true, false, List, [], ◌∷◌, map, Contains, Some, refl, sym, ap, ◌∙◌, subst, arith, inl, inr}
use Rattle.std.proofs.lemmas.Bool.{cases_lt}
use Rattle.std.proofs.Math.Logic.{∥∥₁_map, ∥∥₁_map₂}
use Rattle.cell_model.specs.Batch.{Batch}
use Rattle.log_model.specs.Files.{Files}
use Rattle.log_model.specs.Recovered.{IsRecovered, IsContent, IsLast, RecoversAlike}
use Rattle.region_model.specs.Journal.{Edit, last_of, put_edits, cut_at}
use Rattle.region_model.specs.Calls.{Put, PutFault, Reply}
use Rattle.region_model.specs.Crash.{Fits}
use Rattle.region_model.specs.Lawful.{IsLawful, IsOn}
use Rattle.script_model.specs.Report.{report_text}
use Rattle.script_model.specs.Calls.{Script, asked}
use Rattle.disk_images.specs.Crash.{DiskView, IsImageNow}
use Rattle.server_model.specs.Pass.{Pass, Naming}
use Rattle.server_model.specs.Closing.{Survives, Leaves, Handled}
use Rattle.server_model.proofs.JournalLaws.{handled_has}
use Rattle.server_model.proofs.PassLaws.{runs_told}
use Rattle.server_model.proofs.RepliesLaw.{has_pass, whose_pass, run_of}
use Rattle.serial_history.specs.History.{IsHistory}
use Rattle.serial_history.proofs.History.{history_of as in_one_thread}
use Rattle.run_model.specs.Headline.{History, report_of, IsOneJournal, Endures, AreDone, FitsStatus}
use Rattle.run_model.specs.Closed.{ClosedAt, ClosedOn, FitsFrom, FitsThroughout}
use Rattle.run_model.proofs.Choices.{each_in, each_up_to}
use Rattle.run_model.proofs.KeepsFound.{one_last}
use Rattle.run_model.proofs.Lists.{mapped}
use Rattle.run_model.proofs.FromClose.{history_of, same_regions, base_at, lawful_at, one_journal, region_there, fault_is_told}
use Rattle.run_model.proofs.Headlines.{endures, are_done, fault_asked}
use Rattle.groups_model.specs.Groups.{group_of, IsGroup, replies_on, asked_on}
use Rattle.groups_model.specs.Closed.{GroupHandled, all_replies, handled_on, AreClosed, AreChosen}
use Rattle.groups_model.specs.Headline.{IsTold, IsKept, IsGroupsHeadline}
use Rattle.groups_model.proofs.Parts.{group_there, replies_joined, asked_of_group, receipted_on, reply_on, history_on, put_on}

none_of : {A : Type 0} (x : A) → Contains [] x → ⊥
none_of x is = omega (arith, is.1)

no_edits : (es : List Edit) → ((e : Edit) → Contains es e → ⊥) → es ≡ []
no_edits [] none = refl
no_edits (e ∷ es) none = absurd (none e (0, omega arith, refl))

-- a log is whole where the cause that it would break for isn't there
unbroken : (broken : Bool) (rose : Type 0) → (broken ≡ true → rose) → (rose → ⊥) → broken ≡ false
unbroken true rose cause calm = absurd (calm (cause refl))
unbroken false rose cause calm = refl

-- what holds of one group's server while images and files are told
pub record IsSettled (script : Script) (found : Files) (left : DiskView) (xs : List ClosedAt) (broken : Bool) : Type 0 where
  pub survives : (x : ClosedAt) → Contains xs x → Survives left broken x.region x.it
  pub leaves : Leaves found left broken script.regions

module _ (groups k : ℕ) (script : Script) (found left : DiskView) (name : Naming) (hs : List GroupHandled) (xs : List ClosedAt) (broken : Bool)
    (c : ClosedOn (asked_on groups k (asked script)) script found.files left name (map (handled_on groups k) hs) xs broken) where
  -- a region of another group has no edit
  other_edits : (x : ClosedAt) → Contains xs x → group_of groups x.region ≢ k → x.it.edits ≡ []
  other_edits x here other = no_edits x.it.edits (λ e is.
      let gs = map (handled_on groups k) hs in
      let closed = c.regions x here in
      let p = closed.owners e is in
      let h = whose_pass gs p.0 p.1 in
      let same : e.caller.handler ≡ h.0.pass.handler = sym p.2 ∙ sym (ap (λ (q : Pass). q.handler) h.2) in
      let own : Contains (h.0.pass.known x.region).own e = subst (λ l. Contains l e) (sym (closed.own h.0.pass (has_pass gs h.0 h.1))) (handled_has h.0.pass.handler x.it.edits e is same) in
      let run = run_of name script.time gs h.0 c.runs h.1 in
      elim (runs_told name script.time run.0 h.0.pass h.0.replies run.2 x.region e own) [
        | inl before ↦ none_of e (subst (λ l. Contains l e) (run.1.own x.region) before)
        | inr told ↦ (let g = mapped (handled_on groups k) hs h.0 h.1 in
            let member : Contains (replies_on groups k g.0.replies) told.0 = subst (λ (d : Handled). Contains d.replies told.0) (sym g.2) told.1 in
            other (sym (ap (group_of groups) told.3) ∙ put_on groups k e.entry.region g.0.replies told.0 told.2.sync e.entry.batch member told.2.put))
      ])

  alike_at : IsSettled script found.files left xs broken → (x : ClosedAt) → Contains xs x → group_of groups x.region ≢ k → (J : Files) → IsImageNow left J → RecoversAlike found.files J x.region
  alike_at so x here other J image =
      let i = (so.survives x here).images J image in
      let base = base_at c x here in
      let none : x.it.edits ≡ [] = other_edits x here other in
      let content : IsContent (IsRecovered J x.region) x.it.base.content = subst (λ es. IsContent (IsRecovered J x.region) (put_edits x.it.base.content (cut_at i.0 es))) none i.1.content in
      let last : i.0 ≡ x.it.base.last = omega (arith, i.1.least, subst (λ es. i.0 ≤ last_of x.it.base.last es) none i.1.most) in
      record {
        fit = i.1.fit;
        content = λ v p. ((λ f. (content v p).0 ((base.content v p).1 f)), (λ j. (base.content v p).0 ((content v p).1 j)));
        last = λ n. (
          (λ f. subst (IsLast J x.region) (last ∙ one_last found.files x.region x.it.base.last n base.last f) i.1.last),
          (λ j. subst (IsLast found.files x.region) (sym last ∙ one_last J x.region i.0 n i.1.last j) base.last),
        );
      }

  others : IsSettled script found.files left xs broken → (J : Files) (r : ℕ) → IsImageNow left J → (script.regions < r) ⊎ ((1 ≤ r) × (group_of groups r ≢ k)) → RecoversAlike found.files J r
  others so J r image (inl above) = so.leaves.others J r image above
  others so J r image (inr other) = elim (cases_lt script.regions r) [
    | inl above ↦ so.leaves.others J r image above
    | inr within ↦ (let x = region_there c r other.0 (omega (arith, within)) in
        subst (RecoversAlike found.files J) x.2 (alike_at so x.0 x.1 (λ same. other.1 (ap (group_of groups) (sym x.2) ∙ same)) J image))
  ]

  -- what stands of the group
  kept : IsSettled script found.files left xs broken → (chosen : List ClosedAt) → ((x : ClosedAt) → Contains chosen x → group_of groups x.region ≡ k → Contains xs x) → FitsThroughout found left xs
      → (rose : Type 0) → (broken ≡ true → rose) → (status : ℕ) → (status ≢ 5 → broken ≡ false) → IsKept groups script k found left rose status (map history_of chosen) (all_replies hs)
  kept so chosen from moments rose cause status whole = record {
    sound = c.sound;
    faults = λ reply is fault. cause (fault_is_told c reply (subst (λ l. Contains l reply) (sym (replies_joined groups k hs)) is) fault);
    others = others so;
    images_sound = λ low J image. so.leaves.sound J image low;
    done = subst (AreDone left status) (replies_joined groups k hs) (are_done c so.survives so.leaves (asked_of_group groups k script) status whole);
    throughout = ∥∥₁_map moments (λ (s : (start : ℕ) × FitsFrom found left start (λ J. (x : ClosedAt) → Contains xs x → (m : ℕ) × Fits J x.region x.it.base x.it.edits m)). (
      s.0,
      record {
        begun = s.1.begun;
        before = s.1.before;
        since = λ t J low high image. ∥∥₁_map (s.1.since t J low high image) (λ each h is of. let x = mapped history_of chosen h is in
            subst (λ (h : History). (m : ℕ) × Fits J h.region h.base h.edits m) x.2 (each x.0 (from x.0 x.1 (subst (λ (h : History). group_of groups h.region ≡ k) (sym x.2) of))));
      },
    ));
  }

  -- what stands of one of its regions
  told : IsSettled script found.files left xs broken → (x : ClosedAt) → Contains xs x → group_of groups x.region ≡ k → (rose : Type 0) → (broken ≡ true → rose) → (status : ℕ) → (status ≢ 5 → broken ≡ false)
      → IsLast found.files x.region x.it.base.last × IsContent (IsRecovered found.files x.region) x.it.base.content × IsOneJournal script (history_of x)
      × IsLawful x.region x.it.base x.it.edits (replies_on groups k (all_replies hs)) × ((history : List Reply) × IsHistory x.region x.it.base x.it.edits (all_replies hs) history)
      × Endures left status (all_replies hs) (history_of x)
      × ((rose → ⊥) → (J : Files) → IsImageNow left J → Fits J x.region x.it.base x.it.edits (last_of x.it.base.last x.it.edits))
  told so x is here rose cause status whole =
      let these = asked_of_group groups k script in
      let base = base_at c x is in
      let journal = one_journal c these x is here in
      let law : IsLawful x.region x.it.base x.it.edits (replies_on groups k (all_replies hs)) = subst (IsLawful x.region x.it.base x.it.edits) (replies_joined groups k hs) (lawful_at c these x is here) in
      let one = in_one_thread x.region x.it.base x.it.edits (replies_on groups k (all_replies hs)) journal.journal law in
      let kept_here = subst (λ l. Endures left status l (history_of x)) (replies_joined groups k hs) (endures c so.survives so.leaves these status whole x is) in (
        base.last,
        base.content,
        journal,
        law,
        (one.0, history_on groups k x.region x.it.base x.it.edits (all_replies hs) one.0 here one.1),
        record { images = λ J image. let i = kept_here.images J image in (i.0, i.1, (λ n receipt. i.2 n (receipted_on groups k x.region n (all_replies hs) here receipt)), i.3) },
        (λ calm J image. let i = (so.survives x is).images J image in subst (Fits J x.region x.it.base x.it.edits) (i.4 (unbroken broken rose cause calm)) i.1),
      )

module _ {groups : ℕ} {script : Script} {found left : ℕ → DiskView} {names : ℕ → Naming} {hs : List GroupHandled} {xs : ℕ → List ClosedAt} {broken : ℕ → Bool}
    (some : 1 ≤ groups) (c : AreClosed groups script found left names hs xs broken) (chosen : List ClosedAt) (right : AreChosen groups script xs chosen)
    (rose : ℕ → Type 0) (causes : (k : ℕ) → IsGroup groups k → broken k ≡ true → rose k) where
  assembled : ((k : ℕ) → 1 ≤ k → k ≤ groups → IsSettled script (found k).files (left k) (xs k) (broken k)) → (status : ℕ) → FitsStatus status (all_replies hs)
      → (status ≡ 5 → (k : ℕ) × IsGroup groups k × rose k) → ((k : ℕ) → IsGroup groups k → status ≢ 5 → broken k ≡ false)
      → IsGroupsHeadline groups script found left rose status (report_text (report_of (map history_of chosen) (all_replies hs) status))
  assembled so status fits cause whole = record {
    histories = map history_of chosen;
    replies = all_replies hs;
    is = refl;
    statuses = fits;
    cause = cause;
    regions = same_regions chosen ∙ right.numbers;
    calls = c.calls;
    fault_sync = fault_sync;
    each_region = λ h is. let x = mapped history_of chosen h is in subst (IsTold groups script found left rose status (all_replies hs)) x.2 (region x.0 x.1);
    each_group = λ k is. kept groups k script (found k) (left k) (names k) hs (xs k) (broken k) (c.each k is) (so k is.0 is.1) chosen
        (λ x member here. subst (λ j. Contains (xs j) x) here (right.from x member)) (c.moments k is) (rose k) (causes k is) status (whole k is);
  }
    where
      fault_sync : (reply : Reply) (r n : ℕ) (sync : Bool) (batch : Batch) → Contains (all_replies hs) reply → reply.call ≡ Put r sync batch → reply.answer ≡ PutFault (Some n) → sync ≡ true
      fault_sync reply r n sync batch is put fault =
          let k = group_of groups r in
          let member : Contains (replies_on groups k (all_replies hs)) reply = reply_on groups k r (all_replies hs) reply refl (subst (IsOn r) (sym put) refl) is in
          fault_asked (c.each k (group_there groups r some)) reply r n sync batch (subst (λ l. Contains l reply) (sym (replies_joined groups k hs)) member) put fault

      region : (x : ClosedAt) → Contains chosen x → IsTold groups script found left rose status (all_replies hs) (history_of x)
      region x is =
          let k = group_of groups x.region in
          let there = group_there groups x.region some in
          let t = told groups k script (found k) (left k) (names k) hs (xs k) (broken k) (c.each k there) (so k there.0 there.1) x (right.from x is) refl (rose k) (causes k there) status (whole k there) in
          record { last = t.0; content = t.1; journal = t.2; lawful = t.3; serial_history = t.4; endures = t.5; whole = t.6 }

  all_settled : ∥ ((k : ℕ) → 1 ≤ k → k ≤ groups → IsSettled script (found k).files (left k) (xs k) (broken k)) ∥₁
  all_settled = each_up_to (λ k. IsSettled script (found k).files (left k) (xs k) (broken k)) groups settled
    where
      settled : (k : ℕ) → 1 ≤ k → k ≤ groups → ∥ IsSettled script (found k).files (left k) (xs k) (broken k) ∥₁
      settled k low high = let d = c.each k (low, high) in
          ∥∥₁_map₂ (each_in (λ (x : ClosedAt). Survives (left k) (broken k) x.region x.it) (xs k) d.survives) d.leaves (λ survives leaves. record { survives = survives; leaves = leaves })

  -- the headline, though not which beginning of a journal a crash leaves
  pub groups_headline : (status : ℕ) → FitsStatus status (all_replies hs) → (status ≡ 5 → (k : ℕ) × IsGroup groups k × rose k) → ((k : ℕ) → IsGroup groups k → status ≢ 5 → broken k ≡ false)
      → ∥ IsGroupsHeadline groups script found left rose status (report_text (report_of (map history_of chosen) (all_replies hs) status)) ∥₁
  groups_headline status fits cause whole = ∥∥₁_map all_settled (λ so. assembled so status fits cause whole)

  -- what holds of the histories and the replies goes with it
  pub groups_headline_with : (status : ℕ) → FitsStatus status (all_replies hs) → (status ≡ 5 → (k : ℕ) × IsGroup groups k × rose k) → ((k : ℕ) → IsGroup groups k → status ≢ 5 → broken k ≡ false)
      → (P : List History → List Reply → Type 0) → P (map history_of chosen) (all_replies hs)
      → ∥ ((h : IsGroupsHeadline groups script found left rose status (report_text (report_of (map history_of chosen) (all_replies hs) status))) × P h.histories h.replies) ∥₁
  unfolding assembled
  groups_headline_with status fits cause whole P holds = ∥∥₁_map all_settled (λ so. (assembled so status fits cause whole, holds))
