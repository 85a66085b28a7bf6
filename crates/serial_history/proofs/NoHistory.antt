-- Replies that have no history of one thread.
use Rattle.std.proofs.Common.{◌≡◌, ℕ, ◌+◌, ◌≤◌, true, List, [], ◌∷◌, Contains, Some, refl, sym, ap, ◌∙◌, arith, inl, inr, length-append}
use Rattle.std.specs.FinMap.{empty}
use Rattle.cell_model.specs.Order.{NumberedCell}
use Rattle.cell_model.specs.Batch.{batch_of}
use Rattle.cell_model.specs.Cell.{Cell}
use Rattle.region_model.specs.Journal.{Base, Edit, Done, last_of}
use Rattle.region_model.specs.Calls.{Put, Scan, Raw, PutOk, Scanned, Reply}
use Rattle.region_model.specs.Lawful.{number_of}
use Rattle.region_model.specs.OneThread.{Step, Puts, Scans, Run}
use Rattle.serial_history.specs.History.{ArePlaced, IsHistory}
use Rattle.serial_history.proofs.Lists.{Pairs, pairs_from, pairs_both, pair_of, first_or_later, not_in_none}
use Rattle.serial_history.proofs.Positions.{not_both, same_some}

-- an answer of one thread: a put's sequence id is the next, a scan's point the last, and no edit is taken back
record Answers (base : Base) (old new : List Edit) (x : Reply) : Type 0 where
  drew : (n : ℕ) → number_of x.answer ≡ Some n → n ≡ last_of base.last new
  read : (p : ℕ) (cells : List NumberedCell) → x.answer ≡ Scanned p cells → p ≡ last_of base.last old
  grown : last_of base.last old ≤ last_of base.last new

same_point : (p q : ℕ) (cs ds : List NumberedCell) → Scanned p cs ≡ Scanned q ds → p ≡ q
same_point p q cs ds e = cc

answers : (r : ℕ) (base : Base) (old new : List Edit) (x : Reply) → Step r base old x new → Answers base old new x
answers r base old new x (Puts e made region number is) =
    let long : last_of base.last new ≡ last_of base.last old + 1 = ap (last_of base.last) is ∙ omega (arith, length-append old (e ∷ [])) in
    record {
      drew = λ n told. omega (arith, same_some n e.entry.number (sym told ∙ made.number), number, long);
      read = λ p cells answer. absurd (not_both x.answer e.entry.number p cells made.number answer);
      grown = omega (arith, long);
    }
answers r base old new x (Scans view from to call answer is) =
    let long : last_of base.last new ≡ last_of base.last old = ap (last_of base.last) is in
    record {
      drew = λ n told. absurd (not_both x.answer n (last_of base.last old) _ told answer);
      read = λ p cells said. same_point p (last_of base.last old) cells _ (sym said ∙ answer);
      grown = omega (arith, long);
    }

never_below : (r : ℕ) (base : Base) (old new : List Edit) (xs : List Reply) → Run r base old xs new → (x : Reply) (p : ℕ) (cells : List NumberedCell) → Contains xs x → x.answer ≡ Scanned p cells → last_of base.last old ≤ p
never_below r base old new [] run x p cells is said = absurd (not_in_none x is)
never_below r base old new (y ∷ ys) run x p cells is said =
    let here = answers r base old run.0 y run.1 in
    elim (first_or_later y ys x is) [
      | inl same ↦ omega (arith, here.read p cells (ap (λ (z : Reply). z.answer) same ∙ said))
      | inr later ↦ omega (arith, here.grown, never_below r base run.0 new ys run.2 x p cells later said)
    ]

-- of an earlier and a later reply: a scan after a put reads at its sequence id or above
abbrev SeesPut : Reply → Reply → Type 0
SeesPut a b = (n p : ℕ) (cells : List NumberedCell) → number_of a.answer ≡ Some n → b.answer ≡ Scanned p cells → n ≤ p

-- One thread's scan sees each put before it.
pub sees_puts_before : (r : ℕ) (base : Base) (old new : List Edit) (xs : List Reply) → Run r base old xs new → Pairs SeesPut xs
sees_puts_before r base old new [] run = tt
sees_puts_before r base old new (x ∷ xs) run = (
  (λ y is n p cells told said. omega (arith, (answers r base old run.0 x run.1).drew n told, never_below r base run.0 new xs run.2 y p cells is said)),
  sees_puts_before r base run.0 new xs run.2,
)

-- ---- a handler's scan that is older than its own put

abbrev base : Base
base = record { content = empty; last = 0 }

abbrev cell : Cell
cell = record { row = 114 ∷ []; family = 102 ∷ []; qualifier = 113 ∷ []; ts = 1; kind = 4; value = 97 ∷ []; tags = [] }

abbrev first : Edit
first = record { entry = record { region = 1; number = 1; time = 1000; batch = batch_of (cell ∷ []) }; caller = record { handler = 1; call = 1 }; outcome = Done }

abbrev puts : Reply
puts = record { handler = 1; number = 1; call = Put 1 true (batch_of (cell ∷ [])); answer = PutOk 1 }

abbrev sees_nothing : Reply
sees_nothing = record { handler = 1; number = 2; call = Scan Raw 1 [] []; answer = Scanned 0 [] }

pub older_than_own_put : (history : List Reply) → IsHistory 1 base (first ∷ []) (puts ∷ sees_nothing ∷ []) history → ⊥
older_than_own_put history h =
    let both = pairs_both SeesPut ArePlaced history (sees_puts_before 1 base [] (first ∷ []) history h.runs) (pairs_from ArePlaced history h.in_order) in
    let in_puts = h.whole puts (0, omega arith, refl) record { on = refl; position = 1; is = refl } in
    let in_scan = h.whole sees_nothing (1, omega arith, refl) record { on = refl; position = 0; is = refl } in
    elim (pair_of (λ a b. SeesPut a b × ArePlaced a b) history both puts sees_nothing in_puts in_scan) [
      | inl one ↦ let two : 1 ≡ 2 = ap (λ (x : Reply). x.number) one in omega (arith, two)
      | inr (inl later) ↦ omega (arith, later.0 1 0 [] refl refl)
      | inr (inr earlier) ↦ omega (arith, earlier.1 refl 0 1 refl refl)
    ]
