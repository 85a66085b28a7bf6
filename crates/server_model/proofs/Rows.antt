-- A worked example: five synced puts of one handler, of which the fourth meets the fault that ends the log, and a scan.
use Rattle.std.proofs.Common.{◌≡◌, ◌≢◌, ℕ, ◌+◌, ◌-◌, ◌<◌, ◌≤◌, ◌==◌, Bool, true, false, cond, List, [], ◌∷◌, ◌++◌, length, map, filter, Contains, AllPairs, inr, Some, None, refl, sym, ap, subst, ◌∙◌, arith, length-append}
use Rattle.std.specs.List.{AllByRecursion}
use Rattle.std.specs.FinMap.{empty, entries, get, get-empty}
use Rattle.std.proofs.lemmas.Bool.{ne_eqb}
use Rattle.std.proofs.lemmas.List.Elements.{All-from_recursion, All-contains, Contains-append_right}
use Rattle.cell_model.specs.Batch.{Batch, batch_of}
use Rattle.cell_model.specs.Cell.{Cell}
use Rattle.cell_model.specs.Order.{Content, cell_of, NumberedCell, VersionKey, Payload, put_cells, version_cmp}
use Rattle.cell_model.proofs.OrderLaws.{put_in, entries-empty, entries-put_cells}
use Rattle.region_model.specs.Journal.{Edit, Outcome, Done, Failed, InCallOrder, visible, put_edits, is_in_range}
use Rattle.region_model.specs.Calls.{Call, Put, Scan, Raw, Answer, PutOk, PutFault, Scanned, Reply}
use Rattle.region_model.specs.Lawful.{IsLawful, InOrder}
use Rattle.cell_model.specs.Lists.{IsPrefix}
use Rattle.server_model.specs.Pass.{Pass, Known, Naming, IsLaterOf, IsQuiet, IsFresh, handled}
use Rattle.server_model.specs.Steps.{edit_of, Step, Runs}
use Rattle.server_model.specs.Closing.{Region, IsClosedRegion, Handled, Pairs, AllRun, passes_of}
use Rattle.server_model.proofs.JournalLaws.{prefix_here, pairs_all}
use Rattle.server_model.proofs.RepliesLaw.{lawful}

abbrev naming : Naming
naming = record { regions = 1; handlers = 1; bases = λ r. record { content = empty; last = 0 }; flushes = λ r. [] }

abbrev cells : ℕ → List Cell
cells n = record { row = 114 ∷ []; family = 102 ∷ []; qualifier = 113 ∷ []; ts = n; kind = 4; value = 118 ∷ []; tags = [] } ∷ []

abbrev batch : ℕ → Batch
batch n = batch_of (cells n)

abbrev edit : ℕ → Outcome → Edit
edit n outcome = edit_of 1 n 1000 (batch n) (record { handler = 1; call = n }) outcome

abbrev ones : List Edit
ones = edit 1 Done ∷ []

abbrev twos : List Edit
twos = edit 1 Done ∷ edit 2 Done ∷ []

abbrev threes : List Edit
threes = edit 1 Done ∷ edit 2 Done ∷ edit 3 Done ∷ []

abbrev fours : List Edit
fours = edit 1 Done ∷ edit 2 Done ∷ edit 3 Done ∷ edit 4 Failed ∷ []

abbrev known : List Edit → List Edit → ℕ → Known
known own shown synced = record { own = own; shown = shown; spent = []; synced = synced; stored = 0; closed = 0 }

abbrev none : Known
none = known [] [] 0

-- this of region 1, and nothing of others
abbrev at_one : Known → ℕ → Known
at_one k r = cond (r == 1) k none

abbrev pass : ℕ → Known → Bool → Pass
pass calls k broken = record { handler = 1; calls = calls; known = at_one k; broken = broken }

later : (k l : Known) → IsLaterOf k l → (r : ℕ) → IsLaterOf (at_one k r) (at_one l r)
later k l h r = go (r == 1)
  where
    go : (b : Bool) → IsLaterOf (cond b k none) (cond b l none)
    go true = h
    go false = record { shown = prefix_here []; synced = omega arith; stored = omega arith; closed = omega arith }

elsewhere : (k l : Known) (r : ℕ) → r ≢ 1 → IsQuiet (at_one k r) (at_one l r)
elsewhere k l r other = record {
  own = ap (λ b. (cond b l none).own) (ne_eqb r 1 other) ∙ sym (ap (λ b. (cond b k none).own) (ne_eqb r 1 other));
  spent = ap (λ b. (cond b l none).spent) (ne_eqb r 1 other) ∙ sym (ap (λ b. (cond b k none).spent) (ne_eqb r 1 other));
}

quiet : (k l : Known) → l.own ≡ k.own → l.spent ≡ k.spent → (r : ℕ) → IsQuiet (at_one k r) (at_one l r)
quiet k l own spent r = go (r == 1)
  where
    go : (b : Bool) → IsQuiet (cond b k none) (cond b l none)
    go true = record { own = own; spent = spent }
    go false = record { own = refl; spent = refl }

grown : (own own' shown shown' : List Edit) (synced synced' : ℕ) → IsPrefix shown shown' → synced ≤ synced' → IsLaterOf (known own shown synced) (known own' shown' synced')
grown own own' shown shown' synced synced' p le = record { shown = p; synced = le; stored = omega arith; closed = omega arith }

abbrev reply : ℕ → Call → Answer → Reply
reply n call answer = record { handler = 1; number = n; call = call; answer = answer }

-- a put that is shown and durable at once
puts_ok : (n calls : ℕ) (before : List Edit) → length before + 1 ≡ n → calls ≤ n → ((x : Edit) → Contains before x → x.entry.number < n)
    → Step naming 1000 (pass calls (known before before (n - 1)) false) (reply n (Put 1 true (batch n)) (PutOk n)) (pass n (known (before ++ edit n Done ∷ []) (before ++ edit n Done ∷ []) n) false)
puts_ok n calls before len le lower = record {
  handler = refl;
  does = record {
    answered = refl;
    later = record { handler = refl; calls = le; known = later (known before before (n - 1)) (known (before ++ edit n Done ∷ []) (before ++ edit n Done ∷ []) n) (grown _ _ before (before ++ edit n Done ∷ []) (n - 1) n (edit n Done ∷ [], refl) (omega arith)); broken = λ b. b };
    own = refl;
    spent = refl;
    elsewhere = elsewhere (known before before (n - 1)) (known (before ++ edit n Done ∷ []) (before ++ edit n Done ∷ []) n);
    above = λ k is. let same : n ≡ k = cc in omega (arith, len, same);
    above_own = λ k x is member. let same : n ≡ k = cc in omega (arith, same, lower x member);
    seen = λ k is. let same : n ≡ k = cc in omega (arith, same, len, length-append before (edit n Done ∷ []));
    place = λ k is. let same : n ≡ k = cc in
        subst (λ j. Contains (before ++ edit n Done ∷ []) (edit_of 1 j 1000 (batch n) (record { handler = 1; call = n }) Done)) same (Contains-append_right before (edit n Done ∷ []) (edit n Done) (0, omega arith, refl));
    synced = λ k sync is done. let same : n ≡ k = cc in omega (arith, same);
    fault = λ f. absurd f;
    stops = λ b. absurd cc;
    fault_sync = λ k is. absurd cc;
    limit = λ k is. absurd cc;
    used = refl;
  };
}

lower_than : (n : ℕ) (xs : List Edit) → AllByRecursion (λ (x : Edit). x.entry.number < n) xs → (x : Edit) → Contains xs x → x.entry.number < n
lower_than n xs each x is = All-contains (λ (x : Edit). x.entry.number < n) xs x (All-from_recursion (λ (x : Edit). x.entry.number < n) xs each) is

abbrev after_3 : Pass
after_3 = pass 3 (known threes threes 3) false

abbrev after_4 : Pass
after_4 = pass 4 (known fours threes 3) true

abbrev after_5 : Pass
after_5 = pass 5 (known fours threes 3) true

abbrev after_6 : Pass
after_6 = pass 5 (known fours fours 3) true

-- the put in work when the fault came has a number, and its edit is Failed
puts_fault : Step naming 1000 after_3 (reply 4 (Put 1 true (batch 4)) (PutFault (Some 4))) after_4
puts_fault = record {
  handler = refl;
  does = record {
    answered = refl;
    later = record { handler = refl; calls = omega arith; known = later (known threes threes 3) (known fours threes 3) (grown threes fours threes threes 3 3 (prefix_here threes) (omega arith)); broken = λ b. refl };
    own = refl;
    spent = refl;
    elsewhere = elsewhere (known threes threes 3) (known fours threes 3);
    above = λ k is. let same : 4 ≡ k = cc in omega (arith, same);
    above_own = λ k x is member. let same : 4 ≡ k = cc in omega (arith, same, lower_than 4 threes (omega arith, (omega arith, (omega arith, tt))) x member);
    seen = λ k is. absurd cc;
    place = λ k is. absurd cc;
    synced = λ k sync is done. absurd cc;
    fault = λ f. refl;
    stops = λ b. absurd cc;
    fault_sync = λ k is. refl;
    limit = λ k is. absurd cc;
    used = refl;
  };
}

-- later puts have none
puts_none : Step naming 1000 after_4 (reply 5 (Put 1 true (batch 5)) (PutFault None)) after_5
puts_none = record {
  handler = refl;
  does = record {
    answered = refl;
    later = record { handler = refl; calls = omega arith; known = later (known fours threes 3) (known fours threes 3) (grown fours fours threes threes 3 3 (prefix_here threes) (omega arith)); broken = λ b. refl };
    own = refl;
    spent = refl;
    elsewhere = elsewhere (known fours threes 3) (known fours threes 3);
    above = λ k is. absurd cc;
    above_own = λ k x is member. absurd cc;
    seen = λ k is. absurd cc;
    place = λ k is. absurd cc;
    synced = λ k sync is done. absurd cc;
    fault = λ f. refl;
    stops = λ b. refl;
    fault_sync = λ k is. absurd cc;
    limit = λ k is. absurd cc;
    used = refl;
  };
}

abbrev put_all : List Edit → List (VersionKey × Payload) → List (VersionKey × Payload)
put_all [] es = es
put_all (e ∷ edits) es = put_all edits (put_in es e.entry.number e.entry.batch.cells)

entries-put_edits : (edits : List Edit) (m : Content) → entries (put_edits m edits) ≡ put_all edits (entries m)
entries-put_edits [] m = refl
entries-put_edits (e ∷ edits) m = entries-put_edits edits (put_cells m e.entry.number e.entry.batch.cells) ∙ ap (put_all edits) (entries-put_cells m e.entry.number e.entry.batch.cells)

abbrev cell_at : ℕ → NumberedCell
cell_at n = (n, record { row = 114 ∷ []; family = 102 ∷ []; qualifier = 113 ∷ []; ts = n; kind = 4; value = 118 ∷ []; tags = [] })

abbrev seen_cells : List NumberedCell
seen_cells = cell_at 3 ∷ cell_at 2 ∷ cell_at 1 ∷ []

-- a scan at point 4 has the cells of 1 to 3
scanned : visible empty fours 4 [] [] ≡ seen_cells
scanned = ap (λ (es : List (VersionKey × Payload)). filter (is_in_range [] []) (map cell_of es)) (entries-put_edits threes empty ∙ ap (put_all threes) entries-empty)

scans : Step naming 1000 after_5 (reply 6 (Scan Raw 1 [] []) (Scanned 4 seen_cells)) after_6
scans = record {
  handler = refl;
  does = record {
    answered = refl;
    later = record { handler = refl; calls = omega arith; known = later (known fours threes 3) (known fours fours 3) (grown fours fours threes fours 3 3 (edit 4 Failed ∷ [], refl) (omega arith)); broken = λ b. refl };
    own = quiet (known fours threes 3) (known fours fours 3) refl refl;
    used = refl;
    cells = λ p cells is. let point : 4 ≡ p = cc in let same : seen_cells ≡ cells = cc in (sym point, sym same ∙ sym scanned ∙ ap (λ p. visible empty fours p [] []) point);
  };
}

abbrev replies : List Reply
replies =
    reply 1 (Put 1 true (batch 1)) (PutOk 1) ∷ reply 2 (Put 1 true (batch 2)) (PutOk 2) ∷ reply 3 (Put 1 true (batch 3)) (PutOk 3)
    ∷ reply 4 (Put 1 true (batch 4)) (PutFault (Some 4)) ∷ reply 5 (Put 1 true (batch 5)) (PutFault None) ∷ reply 6 (Scan Raw 1 [] []) (Scanned 4 seen_cells) ∷ []

runs : Runs naming 1000 (pass 0 (known [] [] 0) false) replies after_6
runs = (
  pass 1 (known ones ones 1) false,
  puts_ok 1 0 [] refl (omega arith) (lower_than 1 [] tt),
  (
    pass 2 (known twos twos 2) false,
    puts_ok 2 1 ones refl (omega arith) (lower_than 2 ones (omega arith, tt)),
    (
      after_3,
      puts_ok 3 2 twos refl (omega arith) (lower_than 3 twos (omega arith, (omega arith, tt))),
      (after_4, puts_fault, (after_5, puts_none, (after_6, scans, refl))),
    ),
  ),
)

-- ---- what close hands on of it

abbrev region : Region
region = record { base = record { content = empty; last = 0 }; edits = fours; synced = 3; stored = 0; closed = 0 }

abbrev all_handlers : List Handled
all_handlers = record { pass = after_6; replies = replies } ∷ []

fresh : IsFresh 1 (pass 0 (known [] [] 0) false)
fresh = record { handler = refl; calls = refl; own = λ r. own (r == 1); shown = λ r. shown (r == 1); spent = λ r. spent (r == 1) }
  where
    own : (b : Bool) → (cond b (known [] [] 0) none).own ≡ []
    own true = refl
    own false = refl

    shown : (b : Bool) → (cond b (known [] [] 0) none).shown ≡ []
    shown true = refl
    shown false = refl

    spent : (b : Bool) → (cond b (known [] [] 0) none).spent ≡ []
    spent true = refl
    spent false = refl

all_run : AllRun naming 1000 all_handlers
all_run = record { each = ((pass 0 (known [] [] 0) false, fresh, runs), tt); apart = ((λ b is. absurd (omega (arith, is.1))), tt) }

one_pass : (P : Pass → Type 0) → P after_6 → (p : Pass) → Contains (passes_of all_handlers) p → P p
one_pass P h p is = All-contains P (passes_of all_handlers) p (All-from_recursion P (passes_of all_handlers) (h, tt)) is

one_edit : (P : Edit → Type 0) → P (edit 1 Done) → P (edit 2 Done) → P (edit 3 Done) → P (edit 4 Failed) → (e : Edit) → Contains fours e → P e
one_edit P a b c d e is = All-contains P fours e (All-from_recursion P fours (a, (b, (c, (d, tt))))) is

nothing : (v : VersionKey) (p : Payload) → get region.base.content v ≡ Some p → ⊥
nothing v p is = let no : None ≡ Some p = sym (get-empty version_cmp v) ∙ is in absurd cc

closed : IsClosedRegion naming 1 (passes_of all_handlers) region
closed = record {
  base = refl;
  journal = record {
    numbers = (refl, (refl, (refl, (refl, tt))));
    callers = pairs_all InCallOrder fours (
      one_later (edit 1 Done) (edit 2 Done ∷ edit 3 Done ∷ edit 4 Failed ∷ []) ((λ s. omega arith), ((λ s. omega arith), ((λ s. omega arith), tt))),
      (
        one_later (edit 2 Done) (edit 3 Done ∷ edit 4 Failed ∷ []) ((λ s. omega arith), ((λ s. omega arith), tt)),
        (one_later (edit 3 Done) (edit 4 Failed ∷ []) ((λ s. omega arith), tt), (one_later (edit 4 Failed) [] tt, tt)),
      ),
    );
    regions = one_edit (λ e. e.entry.region ≡ 1) refl refl refl refl;
    given = one_edit (λ e. 1 ≤ length e.entry.batch.cells) (omega arith) (omega arith) (omega arith) (omega arith);
    upto = λ v p is. absurd (nothing v p is);
  };
  limit = omega arith;
  shown = one_pass (λ p. IsPrefix (p.known 1).shown fours) (prefix_here fours);
  own = one_pass (λ p. (p.known 1).own ≡ handled p.handler fours) refl;
  owners = one_edit (λ e. (p : Pass) × Contains (passes_of all_handlers) p × (p.handler ≡ e.caller.handler)) it it it it;
  synced_seen = one_pass (λ p. (p.known 1).synced ≤ 3) (omega arith);
  stored_seen = one_pass (λ p. (p.known 1).stored ≤ 0) (omega arith);
  closed_seen = one_pass (λ p. (p.known 1).closed ≤ 0) (omega arith);
  synced = omega arith;
  stored = omega arith;
  stored_least = omega arith;
  spent = λ p n is. one_pass (λ p. Contains (p.known 1).spent n → n ≤ 4) (λ h. absurd (omega (arith, h.1))) p is;
}
  where
    it : (p : Pass) × Contains (passes_of all_handlers) p × (p.handler ≡ 1)
    it = (after_6, (0, omega arith, refl), refl)

    one_later : (x : Edit) (ys : List Edit) → AllByRecursion (InCallOrder x) ys → (y : Edit) → Contains ys y → InCallOrder x y
    one_later x ys h y is = All-contains (InCallOrder x) ys y (All-from_recursion (InCallOrder x) ys h) is

abbrev Rising : List Reply → Type 0
Rising [] = Unit {0}
Rising (x ∷ xs) = AllByRecursion (InOrder x) xs × Rising xs

rising_pairs : (xs : List Reply) → Rising xs → Pairs InOrder xs
rising_pairs [] h = tt
rising_pairs (x ∷ xs) h = ((λ y is. All-contains (InOrder x) xs y (All-from_recursion (InOrder x) xs h.0) is), rising_pairs xs h.1)

in_order : AllPairs InOrder replies
in_order = pairs_all InOrder replies (rising_pairs replies ((inr (refl, omega arith), (inr (refl, omega arith), (inr (refl, omega arith), (inr (refl, omega arith), (inr (refl, omega arith), tt))))), ((inr (refl, omega arith), (inr (refl, omega arith), (inr (refl, omega arith), (inr (refl, omega arith), tt)))), ((inr (refl, omega arith), (inr (refl, omega arith), (inr (refl, omega arith), tt))), ((inr (refl, omega arith), (inr (refl, omega arith), tt)), ((inr (refl, omega arith), tt), (tt, tt)))))))

-- so the law applies to it
pub fault_is_lawful : IsLawful 1 region.base fours replies
fault_is_lawful = lawful naming 1000 1 all_handlers region all_run closed in_order (λ c is. absurd (omega (arith, is.1)))
