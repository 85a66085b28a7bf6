-- The report of a run of a load's script gives what it leaves.
use Rattle.std.proofs.Common.{◌≡◌, ◌≢◌, ℕ, zero, suc, ◌<◌, ◌≤◌, ◌==◌, Bool, if◌then◌else◌, List, [], ◌∷◌, Contains, refl, sym, ap, ◌∙◌, subst, arith, inl, inr, append-nil}
use Rattle.std.specs.FinMap.{empty, keys}
use Rattle.std.proofs.lemmas.Bool.{cases_eq, cases_lt, eq-eqb, ne_eqb}
use Rattle.cell_model.specs.Batch.{Batch}
use Rattle.cell_model.specs.Order.{Content}
use Rattle.log_model.specs.Files.{Files}
use Rattle.log_model.specs.Recovered.{IsRecovered, IsContent}
use Rattle.region_model.specs.Journal.{Base, Caller, Edit, Follows, put_edits, cut_at, last_of}
use Rattle.region_model.specs.Calls.{Call, Put, Answer, PutOk, PutMemory, PutFault, PutSpent, Reply, IsAnswerTo}
use Rattle.region_model.specs.Lawful.{IsEditOf, IsOn, number_of}
use Rattle.disk_images.specs.Crash.{DiskView, IsImageNow}
use Rattle.script_model.specs.Calls.{Script, Asked, asked, asked_by, IsAmong}
use Rattle.server_model.proofs.JournalLaws.{contains_cons, cut_front}
use Rattle.run_model.specs.Closed.{caller_of}
use Rattle.run_model.specs.Headline.{History, IsHeadline, IsClean}
use Rattle.run_model.proofs.Lists.{mapped, map_contains, range_has, range_within}
use Rattle.load_model.specs.Loaded.{ArePuts}
use Rattle.load_model.proofs.Empty.{none_recovered, last_is_0}
use Rattle.load_model.proofs.Cells.{one_content, holds_nothing}

-- ---- the edits of a region

-- the edits of the first of these histories that is of the region
abbrev pub edits_at : List History → ℕ → List Edit
edits_at [] r = []
edits_at (h ∷ hs) r = if h.region == r then h.edits else edits_at hs r

edits_there : (hs : List History) (r : ℕ) (x : History) → Contains hs x → x.region ≡ r → (h : History) × Contains hs h × (h.region ≡ r) × (edits_at hs r ≡ h.edits)
edits_there [] r x is same = absurd (omega (arith, is.1))
edits_there (h ∷ hs) r x (zero, lt, e) same =
    let here : h.region ≡ r = ap (λ (y : History). y.region) e ∙ same in
    (h, (0, omega arith, refl), here, ap (λ b. if b then h.edits else edits_at hs r) (eq-eqb h.region r here))
edits_there (h ∷ hs) r x (suc k, lt, e) same =
    let later = edits_there hs r x (k, omega (arith, lt), e) same in
    elim (cases_eq h.region r) [
      | inl here ↦ (h, (0, omega arith, refl), here, ap (λ b. if b then h.edits else edits_at hs r) (eq-eqb h.region r here))
      | inr other ↦ (later.0, contains_cons h hs later.0 later.1, later.2, ap (λ b. if b then h.edits else edits_at hs r) (ne_eqb h.region r other) ∙ later.3)
    ]

no_edits_there : (hs : List History) (r : ℕ) → ((x : History) → Contains hs x → x.region ≡ r → ⊥) → edits_at hs r ≡ []
no_edits_there [] r none = refl
no_edits_there (h ∷ hs) r none =
    ap (λ b. if b then h.edits else edits_at hs r) (ne_eqb h.region r (none h (0, omega arith, refl))) ∙ no_edits_there hs r (λ x is. none x (contains_cons h hs x is))

-- ---- answers without want, fault and end

clean_put : (answer : Answer) (r : ℕ) (sync : Bool) (batch : Batch) → IsAnswerTo (Put r sync batch) answer → IsClean answer → (n : ℕ) × (answer ≡ PutOk n)
clean_put (PutOk n) r sync batch fits clean = (n, refl)
clean_put (PutMemory n) r sync batch fits clean = absurd clean
clean_put (PutFault n) r sync batch fits clean = absurd clean
clean_put (PutSpent n) r sync batch fits clean = absurd clean
clean_put answer r sync batch fits clean = absurd cc

same_caller : (c : Caller) (a : Asked) → c.handler ≡ a.handler → c.call ≡ a.number → c ≡ caller_of a
same_caller c a handlers numbers = λ i. record { handler = handlers i; call = numbers i }

-- the edit of a put that was asked
own_put : (e : Edit) (y : Reply) (a : Asked) (r : ℕ) (sync : Bool) (batch : Batch) → IsEditOf y e → asked_by y ≡ a → y.call ≡ Put r sync batch → (e.caller ≡ caller_of a) × (e.entry.batch ≡ batch)
own_put e y a r sync batch is asks put =
    let own : Put e.entry.region is.sync e.entry.batch ≡ Put r sync batch = sym is.put ∙ put in
    (same_caller e.caller a (is.handler ∙ ap (λ (b : Asked). b.handler) asks) (is.call ∙ ap (λ (b : Asked). b.number) asks), cc)

-- ---- a store without files

base_is_empty : (files : Files) (r : ℕ) (base : Base) → keys files ≡ [] → IsContent (IsRecovered files r) base.content → base.content ≡ empty
base_is_empty files r base none content = one_content (IsRecovered files r) base.content empty content (holds_nothing (IsRecovered files r) (λ v p. none_recovered files r v p none))

module _ (script : Script) (before after : DiskView) (status : ℕ) (text : List ℕ) (h : IsHeadline script before after status text) (none : keys before.files ≡ []) where
  pub there : (r : ℕ) → 1 ≤ r → r ≤ script.regions → (x : History) × Contains h.histories x × (x.region ≡ r) × (edits_at h.histories r ≡ x.edits)
  there r low high =
      let m = mapped (λ (x : History). x.region) h.histories r (subst (λ l. Contains l r) (sym h.report.regions) (range_has script.regions 1 r low (omega (arith, high)))) in
      edits_there h.histories r m.0 m.1 m.2

  pub above_none : (r : ℕ) → script.regions < r → edits_at h.histories r ≡ []
  above_none r above = no_edits_there h.histories r (λ x is same.
      let w = range_within script.regions 1 x.region (subst (λ l. Contains l x.region) h.report.regions (map_contains (λ (y : History). y.region) h.histories x is)) in
      omega (arith, w.1, same, above))

  base_last : (x : History) → Contains h.histories x → x.base.last ≡ 0
  base_last x is = last_is_0 before.files x.region x.base.last none (h.report.last x is)

  asked_of_reply : (a : Asked) → Contains (asked script) a → (y : Reply) × Contains h.replies y × (asked_by y ≡ a)
  asked_of_reply a is = mapped asked_by h.replies a (subst (λ l. Contains l a) (sym h.report.calls) is)

  -- where each call was answered well, the edits of a region are its puts
  history_puts : status ≡ 0 → (x : History) → Contains h.histories x → ArePuts script x.region x.edits
  history_puts well x is = record {
    numbers = subst (λ n. Follows n x.edits) (base_last x is) (h.journals x is).journal.numbers;
    puts = (h.journals x is).asked;
    all = λ a sync batch asks call. put_there a sync batch asks call (asked_of_reply a asks);
    once = (h.journals x is).journal.callers;
    time = (h.journals x is).time;
  }
    where
      on_it : (c : Call) (sync : Bool) (batch : Batch) → c ≡ Put x.region sync batch → IsOn x.region c
      on_it c sync batch call = subst (IsOn x.region) (sym call) refl

      put_there : (a : Asked) (sync : Bool) (batch : Batch) → Contains (asked script) a → a.call ≡ Put x.region sync batch → (y : Reply) × Contains h.replies y × (asked_by y ≡ a)
          → (e : Edit) × Contains x.edits e × (e.caller ≡ caller_of a) × (e.entry.batch ≡ batch)
      put_there a sync batch asks call y =
          let put : y.0.call ≡ Put x.region sync batch = ap (λ (b : Asked). b.call) y.2 ∙ call in
          let lawful = h.lawful x is in
          let ok = clean_put y.0.answer x.region sync batch (subst (λ c. IsAnswerTo c y.0.answer) put (lawful.answers y.0 y.1)) (h.statuses.clean well y.0 y.1) in
          let e = lawful.puts y.0 ok.0 y.1 (on_it y.0.call sync batch put) (ap number_of ok.1) in
          let own = own_put e.0 y.0 a x.region sync batch e.3 y.2 put in
          (e.0, e.1, own.0, own.1)

  none_asked : (r : ℕ) → script.regions < r → ((a : Asked) → Contains (asked script) a → IsAmong script.regions a.call) → ArePuts script r []
  none_asked r above among = record {
    numbers = tt;
    puts = λ e is. absurd (omega (arith, is.1));
    all = λ a sync batch asks call. absurd (let w = subst (IsAmong script.regions) call (among a asks) in omega (arith, w.1, above));
    once = λ i j d lt low. absurd (omega (arith, low));
    time = λ e is. absurd (omega (arith, is.1));
  }

  -- of each region
  pub are_puts : status ≡ 0 → ((a : Asked) → Contains (asked script) a → IsAmong script.regions a.call) → (r : ℕ) → 1 ≤ r → ArePuts script r (edits_at h.histories r)
  are_puts well among r low = elim (cases_lt script.regions r) [
    | inl above ↦ subst (ArePuts script r) (sym (above_none r above)) (none_asked r above among)
    | inr within ↦
        let x = there r low within in
        subst (ArePuts script r) (sym x.3) (subst (λ q. ArePuts script q x.0.edits) x.2 (history_puts well x.0 x.1))
  ]

  -- ---- what an image holds

  whole_journal : (x : History) → Contains h.histories x → cut_at (last_of x.base.last x.edits) x.edits ≡ x.edits
  whole_journal x is =
      ap (cut_at (last_of x.base.last x.edits)) (sym (append-nil x.edits))
      ∙ cut_front x.base.last x.edits [] (subst (Follows x.base.last) (sym (append-nil x.edits)) (h.journals x is).journal.numbers)

  history_held : status ≢ 5 → (J : Files) → IsImageNow after J → (x : History) → Contains h.histories x → IsContent (IsRecovered J x.region) (put_edits empty x.edits)
  history_held unbroken J now x is =
      let i = (h.endures x is).images J now in
      subst (IsContent (IsRecovered J x.region)) (
      ap (λ m. put_edits x.base.content (cut_at m x.edits)) (i.3 unbroken)
      ∙ ap (put_edits x.base.content) (whole_journal x is)
      ∙ ap (λ (m : Content). put_edits m x.edits) (base_is_empty before.files x.region x.base none (h.report.content x is))
      ) i.1.content

  pub held : status ≢ 5 → (J : Files) → IsImageNow after J → (r : ℕ) → 1 ≤ r → IsContent (IsRecovered J r) (put_edits empty (edits_at h.histories r))
  held unbroken J now r low = elim (cases_lt script.regions r) [
    | inl above ↦ subst (λ es. IsContent (IsRecovered J r) (put_edits empty es)) (sym (above_none r above)) (holds_nothing (IsRecovered J r) (λ v p is. none_recovered before.files r v p none (((h.others J r now above).content v p).1 is)))
    | inr within ↦
        let x = there r low within in
        subst (λ es. IsContent (IsRecovered J r) (put_edits empty es)) (sym x.3) (subst (λ q. IsContent (IsRecovered J q) (put_edits empty x.0.edits)) x.2 (history_held unbroken J now x.0 x.1))
  ]
