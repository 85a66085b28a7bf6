-- Worked examples of lawful replies: a run with a fault, and two handlers on one region.
use Rattle.std.proofs.Common.{◌≡◌, ℕ, ◌≤◌, true, List, [], ◌∷◌, Some, None, refl, sym, ap, ◌∙◌, arith, inl, inr, Contains, AllPairs, filter, length}
use Rattle.std.specs.FinMap.{empty, get-empty}
use Rattle.std.proofs.lemmas.List.Elements.{All-from_recursion, All-contains}
use Rattle.std.proofs.lemmas.List.Kept.{AllPairs-cons}
use Rattle.cell_model.specs.Batch.{batch_of}
use Rattle.cell_model.specs.Cell.{Cell}
use Rattle.cell_model.specs.Order.{version_cmp}
use Rattle.region_model.specs.Journal.{Base, Edit, Outcome, Done, Failed, InCallOrder, IsJournal, visible, is_in_range}
use Rattle.region_model.specs.Calls.{Put, Scan, Raw, viewed, IsFlushOf, PutOk, PutFault, PutSpent, Scanned, FlushBusy, Reply, IsAnswerTo}
use Rattle.region_model.specs.Lawful.{IsOn, IsLawful, InOrder, KeepsPlaces, StopsAtFault, IsEditOf, number_of, flushed_of}
use Rattle.region_model.proofs.Rows.{from_empty}

abbrev base : Base
base = record { content = empty; last = 0 }

abbrev cell : Cell
cell = record { row = 114 ∷ []; family = 102 ∷ []; qualifier = 113 ∷ []; ts = 1; kind = 4; value = 97 ∷ []; tags = [] }

-- the edit numbered n of a handler's call
abbrev edit : ℕ → ℕ → ℕ → Outcome → Edit
edit n handler call outcome = record { entry = record { region = 1; number = n; time = 1000; batch = batch_of (cell ∷ []) }; caller = record { handler = handler; call = call }; outcome = outcome }

-- ---- what holds of each of three replies, and of each two of them

module _ (x y z : Reply) where
  each : (P : Reply → Type 0) → P x → P y → P z → (reply : Reply) → Contains (x ∷ y ∷ z ∷ []) reply → P reply
  each P a b c reply is = All-contains P (x ∷ y ∷ z ∷ []) reply (All-from_recursion P (x ∷ y ∷ z ∷ []) (a, (b, (c, tt)))) is

  pairs : (R : Reply → Reply → Type 0) → R x y → R x z → R y z → AllPairs R (x ∷ y ∷ z ∷ [])
  pairs R ab ac bc =
      AllPairs-cons R x (y ∷ z ∷ []) (All-from_recursion (R x) (y ∷ z ∷ []) (ab, (ac, tt)))
      (AllPairs-cons R y (z ∷ []) (All-from_recursion (R y) (z ∷ []) (bc, tt)) (AllPairs-cons R z [] (λ k d lt. absurd (omega arith)) (λ i j d lt le. absurd (omega arith))))

-- each of two edits is one that this reply made
told_both : (x y z : Reply) (d e : Edit) (r s : Reply) → Contains (x ∷ y ∷ z ∷ []) r → IsEditOf r d → Contains (x ∷ y ∷ z ∷ []) s → IsEditOf s e → (f : Edit) → Contains (d ∷ e ∷ []) f
    → (reply : Reply) × Contains (x ∷ y ∷ z ∷ []) reply × IsEditOf reply f
told_both x y z d e r s in_r of_d in_s of_e f is =
    All-contains (λ f. (reply : Reply) × Contains (x ∷ y ∷ z ∷ []) reply × IsEditOf reply f) (d ∷ e ∷ []) f
    (All-from_recursion (λ f. (reply : Reply) × Contains (x ∷ y ∷ z ∷ []) reply × IsEditOf reply f) (d ∷ e ∷ []) ((r, in_r, of_d), ((s, in_s, of_e), tt))) is

-- ---- a put is done, the next one fails in the log, and after it none draws a number

abbrev puts_first : Reply
puts_first = record { handler = 1; number = 1; call = Put 1 true (batch_of (cell ∷ [])); answer = PutOk 1 }

abbrev faults : Reply
faults = record { handler = 1; number = 2; call = Put 1 true (batch_of (cell ∷ [])); answer = PutFault (Some 2) }

abbrev refused : Reply
refused = record { handler = 1; number = 3; call = Put 1 true (batch_of (cell ∷ [])); answer = PutFault None }

pub with_a_fault : IsLawful 1 base (edit 1 1 1 Done ∷ edit 2 1 2 Failed ∷ []) (puts_first ∷ faults ∷ refused ∷ [])
with_a_fault = record {
  order = pairs puts_first faults refused InOrder (inr (refl, omega arith)) (inr (refl, omega arith)) (inr (refl, omega arith));
  answers = λ reply is. each puts_first faults refused (λ r. IsAnswerTo r.call r.answer) refl refl refl reply is;
  places = pairs puts_first faults refused (KeepsPlaces 1)
      (λ a b d p q e. ((λ f. absurd cc), (λ f. absurd cc), (λ f. absurd cc)))
      (λ a b d p q e. ((λ f. absurd cc), (λ f. absurd cc), (λ f. absurd cc)))
      (λ a b d p q e. absurd cc);
  scans = λ reply view from to p cells is. each puts_first faults refused
      (λ r. r.call ≡ Scan view 1 from to → r.answer ≡ Scanned p cells → (0 ≤ p) × (p ≤ 2) × (cells ≡ viewed view (visible empty (edit 1 1 1 Done ∷ edit 2 1 2 Failed ∷ []) p from to)))
      (λ e. absurd cc) (λ e. absurd cc) (λ e. absurd cc) reply is;
  puts = λ reply n is. each puts_first faults refused
      (λ r. IsOn 1 r.call → number_of r.answer ≡ Some n → (e : Edit) × Contains (edit 1 1 1 Done ∷ edit 2 1 2 Failed ∷ []) e × (e.entry.number ≡ n) × IsEditOf r e)
      (λ o e. (edit 1 1 1 Done, (0, omega arith, refl), cc, record { handler = refl; call = refl; sync = true; put = refl; number = refl; outcome = refl }))
      (λ o e. (edit 2 1 2 Failed, (1, omega arith, refl), cc, record { handler = refl; call = refl; sync = true; put = refl; number = refl; outcome = refl }))
      (λ o e. absurd cc) reply is;
  told = told_both puts_first faults refused (edit 1 1 1 Done) (edit 2 1 2 Failed) puts_first faults
      (0, omega arith, refl) record { handler = refl; call = refl; sync = true; put = refl; number = refl; outcome = refl }
      (1, omega arith, refl) record { handler = refl; call = refl; sync = true; put = refl; number = refl; outcome = refl };
  faults = pairs puts_first faults refused StopsAtFault (λ e h. absurd h) (λ e h. absurd h) (λ e h. refl);
  flushes = λ reply n is. each puts_first faults refused (λ r. IsOn 1 r.call → flushed_of r.answer ≡ Some n → (0 ≤ n) × (n ≤ 2)) (λ o e. absurd cc) (λ o e. absurd cc) (λ o e. absurd cc) reply is;
  busy = λ reply h c is. each puts_first faults refused
      (λ r. IsOn 1 r.call → r.answer ≡ FlushBusy h c → (h ≡ r.handler → ⊥) × ((other : Reply) × Contains (puts_first ∷ faults ∷ refused ∷ []) other × (other.handler ≡ h) × (other.number ≡ c) × IsFlushOf 1 other.call))
      (λ o e. absurd cc) (λ o e. absurd cc) (λ o e. absurd cc) reply is;
  spent = λ reply n is. each puts_first faults refused (λ r. IsOn 1 r.call → r.answer ≡ PutSpent n → (n ≡ 281474976710655) × (2 ≡ n)) (λ o e. absurd cc) (λ o e. absurd cc) (λ o e. absurd cc) reply is;
}

-- ---- two handlers put to one region, and the second then sees both edits, the later one first

abbrev puts_second : Reply
puts_second = record { handler = 1; number = 1; call = Put 1 true (batch_of (cell ∷ [])); answer = PutOk 2 }

abbrev puts_before : Reply
puts_before = record { handler = 2; number = 1; call = Put 1 true (batch_of (cell ∷ [])); answer = PutOk 1 }

abbrev sees_both : Reply
sees_both = record { handler = 2; number = 2; call = Scan Raw 1 [] []; answer = Scanned 2 ((2, cell) ∷ (1, cell) ∷ []) }

abbrev both_edits : List Edit
both_edits = edit 1 2 1 Done ∷ edit 2 1 1 Done ∷ []

seen : visible empty both_edits 2 [] [] ≡ (2, cell) ∷ (1, cell) ∷ []
seen = ap (filter (is_in_range [] [])) (from_empty both_edits)

pub by_two_handlers : IsLawful 1 base both_edits (puts_second ∷ puts_before ∷ sees_both ∷ [])
by_two_handlers = record {
  order = pairs puts_second puts_before sees_both InOrder (inl (omega arith)) (inl (omega arith)) (inr (refl, omega arith));
  answers = λ reply is. each puts_second puts_before sees_both (λ r. IsAnswerTo r.call r.answer) refl refl refl reply is;
  places = pairs puts_second puts_before sees_both (KeepsPlaces 1)
      (λ a b d p q e. let never : 1 ≡ 2 = a in absurd (omega (arith, never)))
      (λ a b d p q e. let never : 1 ≡ 2 = a in absurd (omega (arith, never)))
      (λ a b d p q e. ((λ f. let x : 1 ≡ p = cc in let y : 2 ≡ q = cc in omega arith), (λ f. absurd cc), (λ f. absurd cc)));
  scans = λ reply view from to p cells is. each puts_second puts_before sees_both
      (λ r. r.call ≡ Scan view 1 from to → r.answer ≡ Scanned p cells → (0 ≤ p) × (p ≤ 2) × (cells ≡ viewed view (visible empty both_edits p from to)))
      (λ e. absurd cc) (λ e. absurd cc)
      (λ e f. let hv : Raw ≡ view = cc in let hf : [] ≡ from = cc in let ht : [] ≡ to = cc in let hp : 2 ≡ p = cc in let hc : (2, cell) ∷ (1, cell) ∷ [] ≡ cells = cc in
      (omega arith, omega arith, sym hc ∙ sym seen ∙ (λ i. viewed (hv i) (visible empty both_edits (hp i) (hf i) (ht i))))) reply is;
  puts = λ reply n is. each puts_second puts_before sees_both
      (λ r. IsOn 1 r.call → number_of r.answer ≡ Some n → (e : Edit) × Contains both_edits e × (e.entry.number ≡ n) × IsEditOf r e)
      (λ o e. (edit 2 1 1 Done, (1, omega arith, refl), cc, record { handler = refl; call = refl; sync = true; put = refl; number = refl; outcome = refl }))
      (λ o e. (edit 1 2 1 Done, (0, omega arith, refl), cc, record { handler = refl; call = refl; sync = true; put = refl; number = refl; outcome = refl }))
      (λ o e. absurd cc) reply is;
  told = told_both puts_second puts_before sees_both (edit 1 2 1 Done) (edit 2 1 1 Done) puts_before puts_second
      (1, omega arith, refl) record { handler = refl; call = refl; sync = true; put = refl; number = refl; outcome = refl }
      (0, omega arith, refl) record { handler = refl; call = refl; sync = true; put = refl; number = refl; outcome = refl };
  faults = pairs puts_second puts_before sees_both StopsAtFault (λ e h. absurd h) (λ e h. absurd h) (λ e h. absurd h);
  flushes = λ reply n is. each puts_second puts_before sees_both (λ r. IsOn 1 r.call → flushed_of r.answer ≡ Some n → (0 ≤ n) × (n ≤ 2)) (λ o e. absurd cc) (λ o e. absurd cc) (λ o e. absurd cc) reply is;
  busy = λ reply h c is. each puts_second puts_before sees_both
      (λ r. IsOn 1 r.call → r.answer ≡ FlushBusy h c → (h ≡ r.handler → ⊥) × ((other : Reply) × Contains (puts_second ∷ puts_before ∷ sees_both ∷ []) other × (other.handler ≡ h) × (other.number ≡ c) × IsFlushOf 1 other.call))
      (λ o e. absurd cc) (λ o e. absurd cc) (λ o e. absurd cc) reply is;
  spent = λ reply n is. each puts_second puts_before sees_both (λ r. IsOn 1 r.call → r.answer ≡ PutSpent n → (n ≡ 281474976710655) × (2 ≡ n)) (λ o e. absurd cc) (λ o e. absurd cc) (λ o e. absurd cc) reply is;
}

-- the two edits are a journal, each numbered by one above the one before
pub two_edits : IsJournal 1 base both_edits
two_edits = record {
  numbers = (refl, (refl, tt));
  callers = AllPairs-cons InCallOrder (edit 1 2 1 Done) (edit 2 1 1 Done ∷ []) (All-from_recursion (InCallOrder (edit 1 2 1 Done)) (edit 2 1 1 Done ∷ []) ((λ e. let never : 2 ≡ 1 = e in absurd (omega (arith, never))), tt))
      (AllPairs-cons InCallOrder (edit 2 1 1 Done) [] (λ k d lt. absurd (omega arith)) (λ i j d lt le. absurd (omega arith)));
  regions = λ e is. All-contains (λ d. d.entry.region ≡ 1) both_edits e (All-from_recursion (λ d. d.entry.region ≡ 1) both_edits (refl, (refl, tt))) is;
  given = λ e is. All-contains (λ d. 1 ≤ length d.entry.batch.cells) both_edits e (All-from_recursion (λ d. 1 ≤ length d.entry.batch.cells) both_edits (omega arith, (omega arith, tt))) is;
  upto = λ v p e. let none = sym (get-empty version_cmp v) ∙ e in absurd cc;
}
