-- The edits that are a script's puts are xs many xs these, and each has one cell.
use Rattle.std.proofs.Common.{◌≡◌, ℕ, zero, suc, ◌+◌, ◌-◌, ◌%◌, ◌<◌, ◌≤◌, ◌==◌, ◌&&◌, Bool, true, false, if◌then◌else◌, List, [], ◌∷◌, length, map, filter, Contains, refl, sym, ap, ◌∙◌, subst, arith, inl, inr}
use Rattle.std.specs.FinMap.{empty, len}
use Rattle.std.proofs.lemmas.List.Elements.{All-contains, Contains-append_cases, filter_passes}
use Rattle.region_model.specs.Journal.{Edit, Caller, InCallOrder, put_edits}
use Rattle.region_model.specs.Calls.{Call, Put, Scan, Flush, Roll, RollMemory, Reply}
use Rattle.region_model.specs.Lawful.{InOrder}
use Rattle.script_model.specs.Calls.{Script, Asked, asked_of, asked_from, asked, asked_by, IsAmong}
use Rattle.server_model.specs.Closing.{Pairs}
use Rattle.server_model.proofs.JournalLaws.{filter_has, filter_kept}
use Rattle.run_model.specs.Closed.{caller_of}
use Rattle.run_model.proofs.AskedLaws.{asked_among, replies_order}
use Rattle.run_model.proofs.Lists.{pairs_through}
use Rattle.made_script.specs.Made.{AreOptions, made_call, made_calls, made_handlers, made_script, next_x, first_x}
use Rattle.made_script.specs.Counts.{is_put, counts_of}
use Rattle.made_script.specs.declared.options.LoadOptions.{LoadOptions}
use Rattle.made_script.proofs.MadeLaws.{made_right}
use Rattle.load_model.specs.Loaded.{ArePuts, sum_over, EachPutIsCountedOnce}
use Rattle.load_model.proofs.Members.{no_more, pairs_from, pairs_filtered, pairs_weaker}
use Rattle.load_model.proofs.Tallies.{sum_same, sum_none, sum_split, tally, tally_from, tally_filter, puts_on, puts_there, put_passes, by_region, none_above}
use Rattle.load_model.proofs.Cells.{cells_counted}

-- ---- a put of a load has one cell

abbrev pub HasOneCell : Call → Type 0
HasOneCell (Put region sync batch) = length batch.cells ≡ 1
HasOneCell (Scan view region from to) = Unit {0}
HasOneCell (Flush region family) = Unit {0}
HasOneCell Roll = Unit {0}

either_call : (P : Call → Type 0) (b : Bool) (c d : Call) → P c → P d → P (if b then c else d)
either_call P true c d p q = p
either_call P false c d p q = q

made_one : (n h i x : ℕ) → HasOneCell (made_call n h i x)
unfolding made_call
made_one n h i x =
    either_call HasOneCell (i % 8 == 0) _ _ tt (either_call HasOneCell (i % 64 == 31) _ _ tt (either_call HasOneCell ((h == 1) && (i % 256 == 129)) _ _ tt refl))

calls_one : (n h k i x j : ℕ) (a : Asked) → Contains (asked_of h j (made_calls n h k i x)) a → HasOneCell a.call
calls_one n h zero i x j a is = absurd (omega (arith, is.1))
calls_one n h (suc k) i x j a (zero, lt, e) = subst (λ (b : Asked). HasOneCell b.call) e (made_one n h i (next_x x))
calls_one n h (suc k) i x j a (suc m, lt, e) = calls_one n h k (i + 1) (next_x x) (j + 1) a (m, omega (arith, lt), e)

handlers_one : (o : LoadOptions) (k h g : ℕ) (a : Asked) → Contains (asked_from g (made_handlers o k h)) a → g ≡ h → HasOneCell a.call
handlers_one o zero h g a is same = absurd (omega (arith, is.1))
handlers_one o (suc k) h g a is same = elim (Contains-append_cases (asked_of g 1 (made_calls o.regions h o.count 1 (first_x o.start h))) (asked_from (g + 1) (made_handlers o k (h + 1))) a is) [
  | inl here ↦ calls_one o.regions h o.count 1 (first_x o.start h) 1 a (subst (λ f. Contains (asked_of f 1 (made_calls o.regions h o.count 1 (first_x o.start h))) a) same here)
  | inr later ↦ handlers_one o k (h + 1) (g + 1) a later (omega (arith, same))
]

one_cell : (o : LoadOptions) (e : Edit) (r : ℕ) (edits : List Edit) → ArePuts (made_script o) r edits → Contains edits e → length e.entry.batch.cells ≡ 1
one_cell o e r edits puts is = let p = puts.puts e is in handlers_one o o.handlers 1 1 _ p.1 refl

-- ---- xs many edits xs puts

-- a call xs it is asked, with an answer
abbrev answered : Asked → Reply
answered a = record { handler = a.handler; number = a.number; call = a.call; answer = RollMemory }

asked_again : (xs : List Asked) → map asked_by (map answered xs) ≡ xs
asked_again [] = refl
asked_again (a ∷ xs) = ap (λ l. a ∷ l) (asked_again xs)

in_order : (script : Script) → Pairs (λ a b. InOrder (answered a) (answered b)) (asked script)
in_order script =
    pairs_through answered InOrder (asked script) (pairs_from InOrder (map answered (asked script)) (replies_order script (map answered (asked script)) (asked_again (asked script))))

module _ (script : Script) (r : ℕ) (edits : List Edit) (are : ArePuts script r edits) where
  asked_puts : List Asked
  asked_puts = filter (λ (a : Asked). puts_on r a.call) (asked script)

  not_more : length edits ≤ length asked_puts
  unfolding asked_puts
  not_more = no_more (λ (e : Edit) (a : Asked). e.caller ≡ caller_of a) edits asked_puts each (pairs_weaker InCallOrder _ edits apart (pairs_from InCallOrder edits are.once))
    where
      each : (e : Edit) → Contains edits e → (a : Asked) × Contains (filter (λ (a : Asked). puts_on r a.call) (asked script)) a × (e.caller ≡ caller_of a)
      each e is =
          let p = are.puts e is in
          let a : Asked = record { handler = e.caller.handler; number = e.caller.call; call = Put r p.0 e.entry.batch } in
          (a, filter_has (λ (b : Asked). puts_on r b.call) (asked script) a p.1 (put_passes r p.0 e.entry.batch a.call refl), refl)

      apart : (d e : Edit) → InCallOrder d e → (a : Asked) → d.caller ≡ caller_of a → e.caller ≡ caller_of a → ⊥
      apart d e order a one two =
          let low : d.caller.call < e.caller.call = order (ap (λ (c : Caller). c.handler) (one ∙ sym two)) in
          omega (arith, low, ap (λ (c : Caller). c.call) (one ∙ sym two))

  not_fewer : length asked_puts ≤ length edits
  unfolding asked_puts
  not_fewer =
      no_more (λ (a : Asked) (e : Edit). e.caller ≡ caller_of a) asked_puts edits each
      (pairs_weaker _ _ asked_puts apart (pairs_filtered _ (λ (a : Asked). puts_on r a.call) (asked script) (in_order script)))
    where
      each : (a : Asked) → Contains (filter (λ (b : Asked). puts_on r b.call) (asked script)) a → (e : Edit) × Contains edits e × (e.caller ≡ caller_of a)
      each a is =
          let through : puts_on r a.call ≡ true = All-contains (λ (b : Asked). puts_on r b.call ≡ true) (filter (λ (b : Asked). puts_on r b.call) (asked script)) a (filter_passes (λ (b : Asked). puts_on r b.call) (asked script)) is in
          let put = puts_there r a.call through in
          let e = are.all a put.0 put.1 (filter_kept (λ (b : Asked). puts_on r b.call) (asked script) a is) put.2 in
          (e.0, e.1, e.2)

      apart : (a b : Asked) → InOrder (answered a) (answered b) → (e : Edit) → e.caller ≡ caller_of a → e.caller ≡ caller_of b → ⊥
      apart a b order e one two =
          let handlers : a.handler ≡ b.handler = ap (λ (c : Caller). c.handler) (sym one ∙ two) in
          let numbers : a.number ≡ b.number = ap (λ (c : Caller). c.call) (sym one ∙ two) in
          elim order [ inl lower ↦ omega (arith, lower, handlers) | inr earlier ↦ omega (arith, earlier.1, numbers) ]

  -- The edits are xs many xs the puts that are asked.
  pub as_many : length edits ≡ tally (puts_on r) (asked script)
  unfolding asked_puts
  as_many = omega (arith, not_more, not_fewer, tally_filter (puts_on r) (asked script))

-- ---- all regions

module _ (o : LoadOptions) (edits : ℕ → List Edit) (right : AreOptions o) (are : (r : ℕ) → 1 ≤ r → ArePuts (made_script o) r (edits r)) where
  region_counted : (r : ℕ) → 1 ≤ r → len (put_edits empty (edits r)) ≡ tally (puts_on r) (asked (made_script o))
  region_counted r low =
      cells_counted (edits r) (are r low).numbers (λ e is. one_cell o e r (edits r) (are r low) is) ∙ as_many (made_script o) r (edits r) (are r low)

  among : (a : Asked) → Contains (asked (made_script o)) a → IsAmong o.regions a.call
  among a is = asked_among (made_script o) a (made_right o right).calls_among is

  pub counted_once : sum_over (λ r. len (put_edits empty (edits r))) 1 64 ≡ (counts_of (made_script o)).puts
  counted_once =
      let f : ℕ → ℕ = λ r. len (put_edits empty (edits r)) in
      let parts : 64 ≡ o.regions + (64 - o.regions) = omega (arith, right.regions_most) in
      let low : sum_over f 1 o.regions ≡ (counts_of (made_script o)).puts =
      sum_same f (λ r. tally (puts_on r) (asked (made_script o))) 1 o.regions (λ r above below. region_counted r above)
      ∙ by_region o.regions (asked (made_script o)) among ∙ tally_from is_put 1 (made_script o).handlers in
      let high : sum_over f (1 + o.regions) (64 - o.regions) ≡ 0 =
      sum_none f (1 + o.regions) (64 - o.regions) (λ r above below. region_counted r (omega (arith, above)) ∙ none_above o.regions r (asked (made_script o)) (omega (arith, above)) among) in
      ap (sum_over f 1) parts ∙ sum_split f 1 o.regions (64 - o.regions) ∙ omega (arith, low, high)

pub each_is_counted_once : EachPutIsCountedOnce
each_is_counted_once o edits right are = counted_once o edits right are
