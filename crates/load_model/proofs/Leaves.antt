-- What a load leaves, once its store was recovered, and what can't come of one.
use Rattle.std.proofs.Common.{inl, inr, ◌≡◌, ◌⊎◌, ℕ, zero, suc, ◌+◌, ◌-◌, ◌*◌, ◌^◌, ◌≤◌, min, Bool, List, [], ◌∷◌, length, Contains, refl, sym, ap, ◌∙◌, subst, arith}
use Rattle.std.specs.FinMap.{empty, len, keys}
use Rattle.std.proofs.lemmas.List.{length-append, length-map}
use Rattle.cell_model.specs.Batch.{Batch}
use Rattle.cell_model.specs.Order.{Content}
use Rattle.log_model.specs.Files.{Files, IsSound}
use Rattle.log_model.specs.Recovered.{IsRecovered, IsContent}
use Rattle.region_model.specs.Journal.{Edit, InCallOrder, put_edits}
use Rattle.region_model.specs.Lawful.{IsOn}
use Rattle.region_model.specs.Calls.{Call, Put, Scan, Flush, Roll, Answer, PutSpent, Reply, IsAnswerTo}
use Rattle.disk_images.specs.Crash.{DiskView, IsImageNow}
use Rattle.recovery_laws.specs.Alike.{AllAlike}
use Rattle.recovery_laws.specs.Kept.{HasNoLogs}
use Rattle.script_model.specs.Calls.{Script, Asked, asked_of, asked_from, asked, asked_by, IsAmong}
use Rattle.run_model.specs.Spent.{IsSpent}
use Rattle.run_model.specs.Headline.{History, IsHeadline}
use Rattle.run_model.proofs.AskedLaws.{asked_among}
use Rattle.run_model.proofs.Lists.{map_contains}
use Rattle.made_script.specs.Made.{AreOptions, made_calls, made_handlers, made_script, next_x, first_x}
use Rattle.made_script.specs.Counts.{counts_of, is_put}
use Rattle.made_script.specs.declared.options.LoadOptions.{LoadOptions}
use Rattle.made_script.proofs.MadeLaws.{made_right}
use Rattle.load_model.specs.Text.{load_text, ended_text}
use Rattle.load_model.specs.Loaded.{ArePuts, HasLoaded, HasStopped, sum_over}
use Rattle.load_model.proofs.Empty.{no_file, last_is_0}
use Rattle.load_model.proofs.Members.{no_more, pairs_from, pairs_weaker}
use Rattle.load_model.proofs.Tallies.{tally_from, tally_length}
use Rattle.load_model.proofs.Puts.{counted_once}
use Rattle.load_model.proofs.Loads.{edits_at, there, are_puts, held}

-- ---- how many calls a load has

calls_length : (n h k i x : ℕ) → length (made_calls n h k i x) ≡ k
calls_length n h zero i x = refl
calls_length n h (suc k) i x = ap suc (calls_length n h k (i + 1) (next_x x))

asked_length : (h n : ℕ) (calls : List Call) → length (asked_of h n calls) ≡ length calls
asked_length h n [] = refl
asked_length h n (c ∷ cs) = ap suc (asked_length h (n + 1) cs)

few_asked : (o : LoadOptions) (k h g : ℕ) → o.count ≤ 10000 → length (asked_from g (made_handlers o k h)) ≤ k * 10000
few_asked o zero h g few = omega arith
few_asked o (suc k) h g few =
    let calls : List Call = made_calls o.regions h o.count 1 (first_x o.start h) in
    let rest : length (asked_from (g + 1) (made_handlers o k (h + 1))) ≤ k * 10000 = few_asked o k (h + 1) (g + 1) few in
    let here : length (asked_of g 1 calls) ≡ o.count = asked_length g 1 calls ∙ calls_length o.regions h o.count 1 (first_x o.start h) in
    omega (arith, rest, here, few, length-append (asked_of g 1 calls) (asked_from (g + 1) (made_handlers o k (h + 1))))

pub few_calls : (o : LoadOptions) → AreOptions o → length (asked (made_script o)) ≤ 160000
few_calls o right = omega (arith, few_asked o o.handlers 1 1 right.count_most, right.handlers_most)

pub few_puts : (o : LoadOptions) → AreOptions o → (counts_of (made_script o)).puts ≤ 160000
few_puts o right = omega (arith, few_calls o right, tally_length is_put (asked (made_script o)), tally_from is_put 1 (made_script o).handlers)

-- a call that is asked is on one of the regions
among_regions : (o : LoadOptions) → AreOptions o → (a : Asked) → Contains (asked (made_script o)) a → IsAmong o.regions a.call
among_regions o right a is = asked_among (made_script o) a (made_right o right).calls_among is

-- ---- no put finds the numbers spent

spent_put : (call : Call) (answer : Answer) → IsAnswerTo call answer → IsSpent answer → (r : ℕ) × (sync : Bool) × (batch : Batch) × (n : ℕ) × (call ≡ Put r sync batch) × (answer ≡ PutSpent n)
spent_put (Put r sync batch) (PutSpent n) fits spent = (r, sync, batch, n, refl, refl)
spent_put (Scan view r from to) (PutSpent n) fits spent = absurd cc
spent_put (Flush r family) (PutSpent n) fits spent = absurd cc
spent_put Roll (PutSpent n) fits spent = absurd cc
spent_put call answer fits spent = absurd spent

-- a journal has no more edits than the calls that are asked
few_edits : (script : Script) (before after : DiskView) (status : ℕ) (text : List ℕ) (h : IsHeadline script before after status text) (x : History) → Contains h.histories x
    → length x.edits ≤ length (asked script)
few_edits script before after status text h x is =
    let most : length x.edits ≤ length h.replies =
    no_more (λ (e : Edit) (y : Reply). (e.caller.handler ≡ y.handler) × (e.caller.call ≡ y.number)) x.edits h.replies each (pairs_weaker InCallOrder _ x.edits apart (pairs_from InCallOrder x.edits (h.journals x is).journal.callers)) in
    omega (arith, most, length-map h.replies asked_by, ap length h.report.calls)
  where
    each : (e : Edit) → Contains x.edits e → (y : Reply) × Contains h.replies y × ((e.caller.handler ≡ y.handler) × (e.caller.call ≡ y.number))
    each e here = let y = (h.lawful x is).told e here in (y.0, y.1, (y.2.handler, y.2.call))

    apart : (d e : Edit) → InCallOrder d e → (y : Reply) → (d.caller.handler ≡ y.handler) × (d.caller.call ≡ y.number) → (e.caller.handler ≡ y.handler) × (e.caller.call ≡ y.number) → ⊥
    apart d e order y one two = omega (arith, order (one.0 ∙ sym two.0), one.1, two.1)

pub none_spent : (o : LoadOptions) (before after : DiskView) (text : List ℕ) → AreOptions o → keys before.files ≡ [] → IsHeadline (made_script o) before after 8 text → ⊥
none_spent o before after text right none h =
    let y = h.statuses.spent_only refl in
    let first = there (made_script o) before after 8 text h none 1 (omega arith) right.some_region in
    let put = spent_put y.0.call y.0.answer ((h.lawful first.0 first.1).answers y.0 y.1) y.2 in
    let asks : Contains (asked (made_script o)) (asked_by y.0) = subst (λ l. Contains l (asked_by y.0)) h.report.calls (map_contains asked_by h.replies y.0 y.1) in
    let within = subst (IsAmong o.regions) put.4 (among_regions o right (asked_by y.0) asks) in
    let x = there (made_script o) before after 8 text h none put.0 within.0 within.1 in
    let on : IsOn x.0.region y.0.call = subst (IsOn x.0.region) (sym put.4) (sym x.2) in
    let limit = (h.lawful x.0 x.1).spent y.0 put.3 y.1 on put.5 in
    let base : x.0.base.last ≡ 0 = last_is_0 before.files x.0.region x.0.base.last none (h.report.last x.0 x.1) in
    omega (arith, limit.0, limit.1, base, few_edits (made_script o) before after 8 text h x.0 x.1, few_calls o right)

-- ---- what is left is sound

pub sound_left : (script : Script) (before after : DiskView) (status : ℕ) (text : List ℕ) → keys before.files ≡ [] → IsHeadline script before after status text
    → (J : Files) → IsImageNow after J → IsSound J
sound_left script before after status text none h J now = h.images_sound (λ name here. absurd (here (no_file before.files name none))) J now

-- ---- what is left once it was recovered

-- this many cells are what the files recover to, of regions 1 to 64 together
abbrev pub CountsCells : Files → ℕ → Type 0
CountsCells files count = (contents : ℕ → Content) → ((r : ℕ) → 1 ≤ r → IsContent (IsRecovered files r) (contents r)) → count ≡ sum_over (λ r. len (contents r)) 1 64

pub loaded : (o : LoadOptions) (before left after : DiskView) (report text : List ℕ) (count : ℕ) → AreOptions o → keys before.files ≡ [] → IsHeadline (made_script o) before left 0 report
    → IsImageNow left left.files → HasNoLogs after.files → ((J : Files) → IsImageNow after J → HasNoLogs J) → ((J : Files) → IsImageNow after J → AllAlike left.files J)
    → CountsCells left.files count → text ≡ load_text (counts_of (made_script o)) (min count (2 ^ 64 - 1)) → HasLoaded o after text
loaded o before left after report text count right none h now no_logs no_logs_in alike counts is =
    let puts : (r : ℕ) → 1 ≤ r → ArePuts (made_script o) r (edits_at h.histories r) = are_puts (made_script o) before left 0 report h none refl (among_regions o right) in
    let held_now : (r : ℕ) → 1 ≤ r → IsContent (IsRecovered left.files r) (put_edits empty (edits_at h.histories r)) =
    λ r low. held (made_script o) before left 0 report h none (λ no. absurd (omega (arith, no))) left.files now r low in
    let all : count ≡ (counts_of (made_script o)).puts = counts (λ r. put_edits empty (edits_at h.histories r)) held_now ∙ counted_once o (edits_at h.histories) right puts in
    let told : min count (2 ^ 64 - 1) ≡ (counts_of (made_script o)).puts = omega (arith, all, few_puts o right) in
    record {
      is = is ∙ ap (λ n. load_text (counts_of (made_script o)) n) told;
      edits = edits_at h.histories;
      puts = puts;
      holds = λ J r image low v p. (
        (λ here. ((alike J image r).content v p).0 ((held_now r low v p).0 here)),
        (λ here. (held_now r low v p).1 (((alike J image r).content v p).1 here)),
      );
      fit = λ J image. (alike J image 0).fit;
      no_logs = no_logs;
      no_logs_in = no_logs_in;
    }

-- ---- what is left where it could not be recovered

pub stopped : (o : LoadOptions) (before left after : DiskView) (report : List ℕ) → AreOptions o → keys before.files ≡ [] → IsHeadline (made_script o) before left 0 report
    → IsImageNow left left.files → ((J : Files) → IsImageNow after J → IsImageNow left J ⊎ AllAlike left.files J) → HasStopped o after (ended_text (counts_of (made_script o)) 5)
stopped o before left after report right none h now either = record {
  is = refl;
  edits = edits_at h.histories;
  puts = are_puts (made_script o) before left 0 report h none refl (among_regions o right);
  holds = λ J r image low. elim (either J image) [
    | inl was ↦ here J was r low
    | inr alike ↦ λ v p. (
      (λ there_now. ((alike r).content v p).0 ((here left.files now r low v p).0 there_now)),
      (λ there_now. (here left.files now r low v p).1 (((alike r).content v p).1 there_now)),
    )
  ];
  fit = λ J image. elim (either J image) [
    | inl was ↦ (let first = there (made_script o) before left 0 report h none 1 (omega arith) right.some_region in ((h.endures first.0 first.1).images J was).1.fit)
    | inr alike ↦ (alike 0).fit
  ];
}
  where
    here : (J : Files) → IsImageNow left J → (r : ℕ) → 1 ≤ r → IsContent (IsRecovered J r) (put_edits empty (edits_at h.histories r))
    here J image r low = held (made_script o) before left 0 report h none (λ no. absurd (omega (arith, no))) J image r low
