-- Counts of calls, one more at a time.
use Rattle.std.proofs.Common.{◌≡◌, ℕ, ◌+◌, ◌*◌, ◌<◌, ◌≤◌, List, [], ◌∷◌, ◌++◌, length, map, take, get_or, cond, sum_by, sym, ap, ◌∙◌, arith, add_assoc, append-nil}
use Rattle.std.specs.List.{flat_map}
use Rattle.std.proofs.lemmas.List.{take_more, map-append}
use Rattle.std.proofs.lemmas.List.Sums.{sum_by-append, sum_by-take-le, sum_by-le-sum_by}
use Rattle.std.proofs.lemmas.Grind.{flat_map-append}
use Rattle.cell_model.specs.Cell.{Cell, spelled_length}
use Rattle.cell_model.specs.Batch.{Batch, batch_form, IsBatch}
use Rattle.cell_model.specs.declared.form.Form.{Form}
use Rattle.cell_model.specs.declared.form.Form.TheVariants.{Plain, Tagged}
use Rattle.region_model.specs.Calls.{Call}
use Rattle.script_calls.specs.Calls.{call_of}
use Rattle.script_calls.specs.declared.call.Call.{Call as TheirCall}
use Rattle.made_script.specs.declared.counts.CallCounts.{CallCounts}
use Rattle.made_script.specs.Counts.{is_put, is_scan, is_flush, is_roll, value_length, values_length, counts_in, plus, AreUpTo}

counts_append : (xs ys : List Call) → counts_in (xs ++ ys) ≡ plus (counts_in xs) (counts_in ys)
counts_append xs ys = λ i. record {
  puts = sum_by-append (λ c. cond (is_put c) 1 0) xs ys i;
  scans = sum_by-append (λ c. cond (is_scan c) 1 0) xs ys i;
  flushes = sum_by-append (λ c. cond (is_flush c) 1 0) xs ys i;
  rolls = sum_by-append (λ c. cond (is_roll c) 1 0) xs ys i;
  value_bytes = sum_by-append values_length xs ys i;
}

plus_assoc : (a b c : CallCounts) → plus (plus a b) c ≡ plus a (plus b c)
plus_assoc a b c = λ i. record {
  puts = add_assoc a.puts b.puts c.puts i;
  scans = add_assoc a.scans b.scans c.scans i;
  flushes = add_assoc a.flushes b.flushes c.flushes i;
  rolls = add_assoc a.rolls b.rolls c.rolls i;
  value_bytes = add_assoc a.value_bytes b.value_bytes c.value_bytes i;
}

-- a call more
pub one_call_more : (first was now : CallCounts) (xs : List TheirCall) (i : ℕ) (x : TheirCall) → i < length xs → x ≡ get_or xs i x
    → was ≡ plus first (counts_in (map call_of (take i xs))) → now ≡ plus was (counts_in (call_of x ∷ []))
    → now ≡ plus first (counts_in (map call_of (take (i + 1) xs)))
one_call_more first was now xs i x low here so_far counted =
    let front : List Call = map call_of (take i xs) in
    let grown : map call_of (take (i + 1) xs) ≡ front ++ call_of x ∷ [] =
    ap (map call_of) (take_more xs i x low) ∙ map-append call_of (take i xs) (get_or xs i x ∷ []) ∙ ap (λ (d : TheirCall). front ++ call_of d ∷ []) (sym here) in
    counted ∙ ap (λ c. plus c (counts_in (call_of x ∷ []))) so_far ∙ plus_assoc first (counts_in front) (counts_in (call_of x ∷ []))
    ∙ sym (ap (plus first) (ap counts_in grown ∙ counts_append front (call_of x ∷ [])))

-- a handler more
pub one_list_more : (was now : CallCounts) (xs : List (List Call)) (i : ℕ) (x : List Call) → i < length xs → x ≡ get_or xs i x
    → was ≡ counts_in (flat_map (λ calls. calls) (take i xs)) → now ≡ plus was (counts_in x)
    → now ≡ counts_in (flat_map (λ calls. calls) (take (i + 1) xs))
one_list_more was now xs i x low here so_far counted =
    let front : List Call = flat_map (λ (calls : List Call). calls) (take i xs) in
    let grown : flat_map (λ (calls : List Call). calls) (take (i + 1) xs) ≡ front ++ x =
    ap (flat_map (λ (calls : List Call). calls)) (take_more xs i x low) ∙ flat_map-append (λ (calls : List Call). calls) (take i xs) (get_or xs i x ∷ [])
    ∙ ap (λ l. front ++ l) (append-nil (get_or xs i x)) ∙ ap (λ l. front ++ l) (sym here) in
    counted ∙ ap (λ c. plus c (counts_in x)) so_far ∙ sym (ap counts_in grown ∙ counts_append front x)

-- a bound of more
pub up_to_more : (n i : ℕ) (was now : CallCounts) → ((m : ℕ) → AreUpTo m was → AreUpTo (m + 1048576) now) → AreUpTo (n + i * 1048576) was → AreUpTo (n + (i + 1) * 1048576) now
up_to_more n i was now more so_far =
    let h = more (n + i * 1048576) so_far in
    record { puts = omega (arith, h.puts); scans = omega (arith, h.scans); flushes = omega (arith, h.flushes); rolls = omega (arith, h.rolls); value_bytes = omega (arith, h.value_bytes) }

pub up_to_list : (i : ℕ) (was now : CallCounts) → ((m : ℕ) → AreUpTo m was → AreUpTo (m + 17592186044416) now) → AreUpTo (i * 17592186044416) was → AreUpTo ((i + 1) * 17592186044416) now
up_to_list i was now more so_far =
    let h = more (i * 17592186044416) so_far in
    record { puts = omega (arith, h.puts); scans = omega (arith, h.scans); flushes = omega (arith, h.flushes); rolls = omega (arith, h.rolls); value_bytes = omega (arith, h.value_bytes) }

-- the values of a batch's cells fit in its entry's body, however they are spelled there
value_below : (form : Form) (c : Cell) → value_length c ≤ spelled_length form c
value_below Plain c = omega arith
value_below Tagged c = omega arith

pub values_fit : (batch : Batch) (cells : List Cell) (i total : ℕ) → cells ≡ batch.cells → IsBatch batch → total ≡ sum_by value_length (take i cells) → total ≤ 1048576
values_fit batch cells i total same within is =
    let all : sum_by value_length cells ≡ sum_by value_length batch.cells = ap (sum_by value_length) same in
    omega (arith, is, all, sum_by-take-le value_length cells i, sum_by-le-sum_by value_length (spelled_length (batch_form batch)) batch.cells (value_below (batch_form batch)), within.body)
