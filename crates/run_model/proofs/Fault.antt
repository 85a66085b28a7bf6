-- A worked example that the law is used on: a put that doesn't wait, a scan that sees it, and a roll that meets the fault which
-- ends the log. A crash may then leave the store as it was found, empty, of which the journal's base is a beginning.
use Rattle.std.proofs.Common.{◌≡◌, ◌≢◌, ℕ, subst, All, ◌<◌, ◌≤◌, ◌==◌, Bool, true, false, cond, List, [], ◌∷◌, length, map, filter, Contains, Some, None, refl, sym, ap, ◌∙◌, arith, inl, inr}
use Rattle.std.specs.FinMap.{empty, get, get-empty}
use Rattle.std.proofs.lemmas.Bool.{ne_eqb}
use Rattle.std.proofs.lemmas.List.Elements.{All-from_recursion, All-contains}
use Rattle.cell_model.specs.Batch.{batch_of}
use Rattle.cell_model.specs.Cell.{Cell}
use Rattle.cell_model.specs.Order.{cell_of, NumberedCell, VersionKey, Payload, version_cmp}
use Rattle.cell_model.specs.Lists.{IsPrefix}
use Rattle.cell_model.proofs.OrderLaws.{put_in, entries-empty, entries-put_cells}
use Rattle.log_model.specs.declared.name.Name.{Name}
use Rattle.log_model.specs.StoreText.{Store}
use Rattle.log_model.specs.Entry.{Entry}
use Rattle.log_model.specs.Files.{Files, name_cmp, IsFit, IsSound, IsLogFile, IsLogged, IsLastLog}
use Rattle.log_model.specs.Recovered.{IsRecovered, IsStored, IsContent, IsLast, IsCounting, IsSeen, RecoversAlike}
use Rattle.region_model.specs.Journal.{Edit, Done, InCallOrder, visible, is_in_range}
use Rattle.region_model.specs.Calls.{Call, Put, Scan, Raw, Roll, Answer, PutOk, Scanned, RollFault, Reply}
use Rattle.region_model.specs.Crash.{Fits}
use Rattle.disk_images.specs.Crash.{DiskView}
use Rattle.script_model.specs.Calls.{Script, IsScript, IsAmong}
use Rattle.server_model.specs.Pass.{Pass, Known, Naming, IsLaterOf, IsQuiet, IsFresh, handled}
use Rattle.server_model.specs.Steps.{edit_of, Step, Runs}
use Rattle.server_model.specs.Closing.{Region, IsClosedRegion, Survives, Leaves, Handled, AllRun, passes_of}
use Rattle.server_model.proofs.JournalLaws.{prefix_here, pairs_all}
use Rattle.script_model.specs.Report.{report_text}
use Rattle.run_model.specs.Headline.{report_of, FitsStatus, IsHeadline}
use Rattle.run_model.specs.Closed.{ClosedAt, Closed}
use Rattle.run_model.proofs.FromClose.{history_of}
use Rattle.run_model.proofs.Headlines.{headline}

-- ---- the files: none

abbrev none_found : Files
none_found = empty

absent : (name : Name) → get none_found name ≡ None
absent name = get-empty name_cmp name

no_file : {X : Type 0} (name : Name) (bytes : List ℕ) → get none_found name ≡ Some bytes → X
no_file name bytes there = let no : None ≡ Some bytes = sym (absent name) ∙ there in absurd cc

nothing_logged : {X : Type 0} (e : Entry) → IsLogged none_found e → X
nothing_logged e is = no_file is.name is.file.bytes is.file.there

nothing_stored : {X : Type 0} (r : ℕ) (name : Name) (s : Store) → IsCounting none_found r name s → X
nothing_stored r name s is = no_file name is.file.bytes is.file.there

fit : IsFit none_found
fit = record {
  logs = λ name bytes kind there. no_file name bytes there;
  stores = λ name bytes kind there gate. no_file name bytes there;
  agree = λ d e is_d is_e. nothing_logged d is_d;
}

sound : IsSound none_found
sound = record {
  fit = fit;
  regions = λ name there. absurd (there (absent name));
  numbers = λ name there. absurd (there (absent name));
  apart = λ a b there. absurd (there (absent a));
}

nothing_recovered : {X : Type 0} (r : ℕ) (v : VersionKey) (p : Payload) → IsRecovered none_found r v p → X
nothing_recovered r v p (inl stored) = nothing_stored r stored.name stored.store stored.file
nothing_recovered r v p (inr unflushed) = nothing_logged unflushed.entry unflushed.logged

last_is_0 : (r : ℕ) → IsLast none_found r 0
last_is_0 r = record { reached = inr refl; bound = bound }
  where
    bound : (m : ℕ) → IsSeen none_found r m → m ≤ 0
    bound m (inl stored) = nothing_stored r stored.0 stored.1 stored.2
    bound m (inr logged) = nothing_logged logged.0 logged.1

is_nothing : (r : ℕ) → IsContent (IsRecovered none_found r) empty
is_nothing r v p = ((λ is. let no : None ≡ Some p = sym (get-empty version_cmp v) ∙ is in absurd cc), (λ is. nothing_recovered r v p is))

alike : (r : ℕ) → RecoversAlike none_found none_found r
alike r = record { fit = fit; content = λ v p. ((λ is. is), (λ is. is)); last = λ n. ((λ is. is), (λ is. is)) }

-- the disk before, and after: a crash leaves no file
abbrev disk : DiskView
disk = record { files = none_found; gone = λ n. ⊥; formerly = λ n m. ⊥; clock = 0; image = λ t J. J ≡ none_found }

-- ---- the server

abbrev naming : Naming
naming = record { regions = 1; handlers = 1; bases = λ r. record { content = empty; last = 0 }; flushes = λ r. [] }

abbrev cells : List Cell
cells = record { row = 114 ∷ []; family = 102 ∷ []; qualifier = 113 ∷ []; ts = 1; kind = 4; value = 118 ∷ []; tags = [] } ∷ []

abbrev ones : List Edit
ones = edit_of 1 1 1000 (batch_of cells) (record { handler = 1; call = 1 }) Done ∷ []

abbrev known : List Edit → Known
known edits = record { own = edits; shown = edits; spent = []; synced = 0; stored = 0; closed = 0 }

-- this of region 1, and nothing of others
abbrev at_one : List Edit → ℕ → Known
at_one edits r = cond (r == 1) (known edits) (known [])

abbrev pass : ℕ → List Edit → Bool → Pass
pass calls edits broken = record { handler = 1; calls = calls; known = at_one edits; broken = broken }

later : (old new : List Edit) → IsPrefix old new → (r : ℕ) → IsLaterOf (at_one old r) (at_one new r)
later old new grown r = go (r == 1)
  where
    go : (b : Bool) → IsLaterOf (cond b (known old) (known [])) (cond b (known new) (known []))
    go true = record { shown = grown; synced = omega arith; stored = omega arith; closed = omega arith }
    go false = record { shown = prefix_here []; synced = omega arith; stored = omega arith; closed = omega arith }

quiet : (edits : List Edit) (r : ℕ) → IsQuiet (at_one edits r) (at_one edits r)
quiet edits r = record { own = refl; spent = refl }

elsewhere : (old new : List Edit) (r : ℕ) → r ≢ 1 → IsQuiet (at_one old r) (at_one new r)
elsewhere old new r other = record {
  own = ap (λ b. (cond b (known new) (known [])).own) (ne_eqb r 1 other) ∙ sym (ap (λ b. (cond b (known old) (known [])).own) (ne_eqb r 1 other));
  spent = ap (λ b. (cond b (known new) (known [])).spent) (ne_eqb r 1 other) ∙ sym (ap (λ b. (cond b (known old) (known [])).spent) (ne_eqb r 1 other));
}

abbrev reply : ℕ → Call → Answer → Reply
reply n call answer = record { handler = 1; number = n; call = call; answer = answer }

puts : Step naming 1000 (pass 0 [] false) (reply 1 (Put 1 false (batch_of cells)) (PutOk 1)) (pass 1 ones false)
puts = record {
  handler = refl;
  does = record {
    answered = refl;
    later = record { handler = refl; calls = omega arith; known = later [] ones (ones, refl); broken = λ b. b };
    own = refl;
    spent = refl;
    elsewhere = elsewhere [] ones;
    above = λ k is. let same : 1 ≡ k = cc in omega (arith, same);
    above_own = λ k x is member. absurd (omega (arith, member.1));
    seen = λ k is. let same : 1 ≡ k = cc in omega (arith, same);
    place = λ k is. let same : 1 ≡ k = cc in subst (λ j. Contains ones (edit_of 1 j 1000 (batch_of cells) (record { handler = 1; call = 1 }) Done)) same (0, omega arith, refl);
    synced = λ k sync is done. absurd cc;
    fault = λ f. absurd f;
    stops = λ b. absurd cc;
    fault_sync = λ k is. absurd cc;
    limit = λ k is. absurd cc;
    used = refl;
  };
}

abbrev seen_cells : List NumberedCell
seen_cells = (1, record { row = 114 ∷ []; family = 102 ∷ []; qualifier = 113 ∷ []; ts = 1; kind = 4; value = 118 ∷ []; tags = [] }) ∷ []

-- a scan at point 1 has the put's cell
scanned : visible empty ones 1 [] [] ≡ seen_cells
scanned = ap (λ (es : List (VersionKey × Payload)). filter (is_in_range [] []) (map cell_of es)) (entries-put_cells empty 1 cells ∙ ap (λ es. put_in es 1 cells) entries-empty)

scans : Step naming 1000 (pass 1 ones false) (reply 2 (Scan Raw 1 [] []) (Scanned 1 seen_cells)) (pass 1 ones false)
scans = record {
  handler = refl;
  does = record {
    answered = refl;
    later = record { handler = refl; calls = omega arith; known = later ones ones (prefix_here ones); broken = λ b. b };
    own = quiet ones;
    cells = λ p cells is. let point : 1 ≡ p = cc in let same : seen_cells ≡ cells = cc in (sym point, sym same ∙ sym scanned ∙ ap (λ p. visible empty ones p [] []) point);
    used = refl;
  };
}

rolls : Step naming 1000 (pass 1 ones false) (reply 3 Roll RollFault) (pass 1 ones true)
rolls = record {
  handler = refl;
  does = record {
    answered = refl;
    later = record { handler = refl; calls = omega arith; known = later ones ones (prefix_here ones); broken = λ b. refl };
    own = quiet ones;
    closed = λ r rolled. absurd rolled;
    fault = λ is. refl;
    used = refl;
  };
}

abbrev replies : List Reply
replies = reply 1 (Put 1 false (batch_of cells)) (PutOk 1) ∷ reply 2 (Scan Raw 1 [] []) (Scanned 1 seen_cells) ∷ reply 3 Roll RollFault ∷ []

runs : Runs naming 1000 (pass 0 [] false) replies (pass 1 ones true)
runs = (pass 1 ones false, puts, (pass 1 ones false, scans, (pass 1 ones true, rolls, refl)))

abbrev handlers : List Handled
handlers = record { pass = pass 1 ones true; replies = replies } ∷ []

fresh : IsFresh 1 (pass 0 [] false)
fresh = record { handler = refl; calls = refl; own = λ r. own (r == 1); shown = λ r. shown (r == 1); spent = λ r. spent (r == 1) }
  where
    own : (b : Bool) → (cond b (known []) (known [])).own ≡ []
    own true = refl
    own false = refl

    shown : (b : Bool) → (cond b (known []) (known [])).shown ≡ []
    shown true = refl
    shown false = refl

    spent : (b : Bool) → (cond b (known []) (known [])).spent ≡ []
    spent true = refl
    spent false = refl

all_run : AllRun naming 1000 handlers
all_run = record { each = ((pass 0 [] false, fresh, runs), tt); apart = ((λ b is. absurd (omega (arith, is.1))), tt) }

-- ---- what close hands on

abbrev region : Region
region = record { base = record { content = empty; last = 0 }; edits = ones; synced = 0; stored = 0; closed = 0 }

only : {A : Type 0} (P : A → Type 0) (x : A) → P x → (y : A) → Contains (x ∷ []) y → P y
only P x h y is = All-contains P (x ∷ []) y (All-from_recursion P (x ∷ []) (h, tt)) is

closed_region : IsClosedRegion naming 1 (passes_of handlers) region
closed_region = record {
  base = refl;
  journal = record {
    numbers = (refl, tt);
    callers = pairs_all InCallOrder ones ((λ y is. absurd (omega (arith, is.1))), tt);
    regions = only (λ (e : Edit). e.entry.region ≡ 1) (edit_of 1 1 1000 (batch_of cells) (record { handler = 1; call = 1 }) Done) refl;
    given = only (λ (e : Edit). 1 ≤ length e.entry.batch.cells) (edit_of 1 1 1000 (batch_of cells) (record { handler = 1; call = 1 }) Done) (omega arith);
    upto = λ v p is. let no : None ≡ Some p = sym (get-empty version_cmp v) ∙ is in absurd cc;
  };
  limit = omega arith;
  shown = only (λ (p : Pass). IsPrefix (p.known 1).shown ones) (pass 1 ones true) (prefix_here ones);
  own = only (λ (p : Pass). (p.known 1).own ≡ handled p.handler ones) (pass 1 ones true) refl;
  owners = only (λ (e : Edit). (p : Pass) × Contains (passes_of handlers) p × (p.handler ≡ e.caller.handler)) (edit_of 1 1 1000 (batch_of cells) (record { handler = 1; call = 1 }) Done) (pass 1 ones true, (0, omega arith, refl), refl);
  synced_seen = only (λ (p : Pass). (p.known 1).synced ≤ 0) (pass 1 ones true) (omega arith);
  stored_seen = only (λ (p : Pass). (p.known 1).stored ≤ 0) (pass 1 ones true) (omega arith);
  closed_seen = only (λ (p : Pass). (p.known 1).closed ≤ 0) (pass 1 ones true) (omega arith);
  synced = omega arith;
  stored = omega arith;
  stored_least = omega arith;
  spent = λ p n is. only (λ (p : Pass). Contains (p.known 1).spent n → n ≤ 1) (pass 1 ones true) (λ h. absurd (omega (arith, h.1))) p is;
}

fits : Fits none_found 1 region.base ones 0
fits = record { fit = fit; least = omega arith; most = omega arith; content = is_nothing 1; last = last_is_0 1 }

survives : Survives disk true 1 region
survives = record {
  images = λ J is. (0, subst (λ f. Fits f 1 region.base ones 0) (sym is) fits, omega arith, omega arith, (λ whole. absurd cc));
  stored = λ J v p is. subst (λ f. IsRecovered f 1 v p → v.number ≤ 0 → IsStored f 1 v p) (sym is) (λ recovered low. nothing_recovered 1 v p recovered);
  closed = λ J name es e is. subst (λ f. IsLastLog f name → IsLogFile f name es → Contains es e → e.region ≡ 1 → 0 < e.number) (sym is) (λ last file. no_file name file.bytes file.there);
}

leaves : Leaves none_found disk true 1
leaves = record {
  sound = λ J is low. subst IsSound (sym is) sound;
  others = λ J r is above. subst (λ f. RecoversAlike none_found f r) (sym is) (alike r);
  archived = λ whole. absurd cc;
}

abbrev script : Script
script = record { time = 1000; regions = 1; handlers = (Put 1 false (batch_of cells) ∷ Scan Raw 1 [] [] ∷ Roll ∷ []) ∷ [] }

is_script : IsScript script
is_script = record {
  time_below = omega arith;
  some_region = omega arith;
  regions_below = omega arith;
  some_handler = omega arith;
  handlers_below = omega arith;
  calls_among = All-from_recursion (All (IsAmong 1)) script.handlers (All-from_recursion (IsAmong 1) (Put 1 false (batch_of cells) ∷ Scan Raw 1 [] [] ∷ Roll ∷ []) ((omega arith, omega arith), ((omega arith, omega arith), (tt, tt))), tt);
  calls_few = All-from_recursion (λ (calls : List Call). length calls ≤ 16777216) script.handlers (omega arith, tt);
}

closed : Closed script none_found disk naming handlers (record { region = 1; it = region } ∷ []) true
closed = record {
  script_right = is_script;
  named = record { regions = refl; flushes = λ r. refl };
  runs = all_run;
  calls = refl;
  numbers = refl;
  regions = only (λ (x : ClosedAt). IsClosedRegion naming x.region (passes_of handlers) x.it) (record { region = 1; it = region }) closed_region;
  survives = only (λ (x : ClosedAt). ∥ Survives disk true x.region x.it ∥₁) (record { region = 1; it = region }) ∣ survives ∣₁;
  leaves = ∣ leaves ∣₁;
  seen_broken = λ p is broken. refl;
  sound = sound;
  bases = λ r low high. record { last = last_is_0 r; content = is_nothing r };
}

its_status : FitsStatus 5 replies
its_status = record {
  one_of = inr (inr (inl refl));
  faults = λ r is f. refl;
  clean = λ e. absurd cc;
  spent = λ r is f. inl refl;
  memory = λ e. absurd cc;
  spent_only = λ e. absurd cc;
}

-- so the headline stands
pub fault_has_its_headline : ∥ IsHeadline script disk disk 5 (report_text (report_of (map history_of (record { region = 1; it = region } ∷ [])) replies 5)) ∥₁
fault_has_its_headline = headline closed disk 5 refl ∣ (
  disk.clock,
  record {
    begun = (omega arith, omega arith);
    before = λ t J low high image. inl (subst (λ k. disk.image k J) (same t low high) image);
    since = λ t J low high image.
        let kept = survives.images J (subst (λ k. disk.image k J) (same t low high) image) in
        ∣ only (λ (x : ClosedAt). (m : ℕ) × Fits J x.region x.it.base x.it.edits m) (record { region = 1; it = region }) (kept.0, kept.1) ∣₁;
  },
) ∣₁ its_status (λ no_5. absurd (no_5 refl))
  where
    same : (t : ℕ) → disk.clock ≤ t → t ≤ disk.clock → t ≡ disk.clock
    same t low high = omega (arith, low, high)
