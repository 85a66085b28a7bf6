-- Two lawful replies: which of them may stand first in a history.
use Rattle.std.proofs.Common.{◌≡◌, ◌≢◌, ℕ, ◌<◌, ◌⊎◌, List, Contains, Some, refl, sym, ap, ◌∙◌, subst, arith, inl, inr}
use Rattle.region_model.specs.Journal.{Base, Edit, InCallOrder, IsJournal}
use Rattle.region_model.specs.Calls.{Reply}
use Rattle.region_model.specs.Lawful.{IsOn, IsLawful, KeepsPlaces, InOrder, place_of, number_of}
use Rattle.serial_history.specs.History.{position_of}
use Rattle.serial_history.proofs.Lists.{Pairs, pairs_from, pairs_both, pair_of}
use Rattle.serial_history.proofs.Positions.{same_some, numbered, placed, put_ok, not_both, IsScanAt}
use Rattle.serial_history.proofs.Views.{rising}

-- a lawful reply of a call on the region, with this position
pub record IsAt (r : ℕ) (replies : List Reply) (p : ℕ) (reply : Reply) : Type 0 where
  pub among : Contains replies reply
  pub on : IsOn r reply.call
  pub is : position_of reply.answer ≡ Some p

-- what is said of an earlier and a later reply of a history, where they are of one handler
pub record AreApart (a b : Reply) : Type 0 where
  pub once : a.number ≢ b.number
  pub placed : (p q : ℕ) → place_of a.answer ≡ Some p → place_of b.answer ≡ Some q → a.number < b.number
  pub numbered : (m n : ℕ) → number_of a.answer ≡ Some m → number_of b.answer ≡ Some n → a.number < b.number

-- the handler made the calls in this order
pub in_turn : (a b : Reply) → a.number < b.number → AreApart a b
in_turn a b lt = record { once = λ same. omega (arith, lt, same); placed = λ p q e f. lt; numbered = λ m n e f. lt }

pub turn_of : (a b : Reply) → InOrder a b → a.handler ≡ b.handler → a.number < b.number
turn_of a b (inl other) same = absurd (omega (arith, other, same))
turn_of a b (inr both) same = both.1

module _ (r : ℕ) (base : Base) (edits : List Edit) (replies : List Reply) (journal : IsJournal r base edits) (law : IsLawful r base edits replies) where
  ordered : Pairs (λ a b. InOrder a b × KeepsPlaces r a b) replies
  ordered = pairs_both InOrder (KeepsPlaces r) replies (pairs_from InOrder replies law.order) (pairs_from (KeepsPlaces r) replies law.places)

  -- one reply, or the handler made the calls in one order or the other
  pub turns : (a b : Reply) → Contains replies a → Contains replies b → a.handler ≡ b.handler → (a ≡ b) ⊎ ((a.number < b.number) ⊎ ((b.number < a.number) × KeepsPlaces r b a))
  turns a b in_a in_b same = elim (pair_of (λ a b. InOrder a b × KeepsPlaces r a b) replies ordered a b in_a in_b) [
    | inl one ↦ inl one
    | inr (inl first) ↦ inr (inl (turn_of a b first.0 same))
    | inr (inr later) ↦ inr (inr (turn_of b a later.0 (sym same), later.1))
  ]

  -- a call was answered once
  pub one_reply : (a b : Reply) → Contains replies a → Contains replies b → a.handler ≡ b.handler → a.number ≡ b.number → a ≡ b
  one_reply a b in_a in_b same number = elim (turns a b in_a in_b same) [
    | inl one ↦ one
    | inr (inl lt) ↦ absurd (omega (arith, lt, number))
    | inr (inr lt) ↦ absurd (omega (arith, lt.0, number))
  ]

  -- of two puts the one with the lower sequence id was called first
  numbers_rise : (a b : Reply) (m n : ℕ) → IsAt r replies m a → IsAt r replies n b → m < n → a.handler ≡ b.handler → number_of a.answer ≡ Some m → number_of b.answer ≡ Some n → a.number < b.number
  numbers_rise a b m n at_a at_b lt same num_a num_b =
      let d = law.puts a m at_a.among at_a.on num_a in
      let e = law.puts b n at_b.among at_b.on num_b in
      let handlers : d.0.caller.handler ≡ e.0.caller.handler = d.3.handler ∙ same ∙ sym e.3.handler in
      let pairs = pairs_both InCallOrder (λ (x y : Edit). x.entry.number < y.entry.number) edits (pairs_from InCallOrder edits journal.callers) (rising base.last edits journal.numbers) in
      elim (pair_of (λ (x y : Edit). InCallOrder x y × (x.entry.number < y.entry.number)) edits pairs d.0 e.0 d.1 e.1) [
        | inl one ↦ absurd (omega (arith, ap (λ (x : Edit). x.entry.number) one, d.2, e.2, lt))
        | inr (inl first) ↦ omega (arith, first.0 handlers, d.3.call, e.3.call)
        | inr (inr later) ↦ absurd (omega (arith, later.1, d.2, e.2, lt))
      ]

  position_is : (a : Reply) (p q : ℕ) → position_of a.answer ≡ Some p → position_of a.answer ≡ Some q → p ≡ q
  position_is a p q e f = same_some p q (sym e ∙ f)

  -- the one with the lower position stands first
  pub ahead : (a b : Reply) (p q : ℕ) → IsAt r replies p a → IsAt r replies q b → p < q → a.handler ≡ b.handler → AreApart a b
  ahead a b p q at_a at_b lt same = record {
    once = λ number. let one = one_reply a b at_a.among at_b.among same number in
        omega (arith, lt, position_is b p q (ap (λ (x : Reply). position_of x.answer) (sym one) ∙ at_a.is) at_b.is);
    placed = λ m n place_a place_b.
        let m_is = position_is a m p (placed a.answer m place_a) at_a.is in
        let n_is = position_is b n q (placed b.answer n place_b) at_b.is in
        elim (turns a b at_a.among at_b.among same) [
          | inl one ↦ absurd (omega (arith, lt, position_is b p q (ap (λ (x : Reply). position_of x.answer) (sym one) ∙ at_a.is) at_b.is))
          | inr (inl first) ↦ first
          | inr (inr later) ↦ absurd (omega (arith, lt, m_is, n_is, (later.1 (sym same) at_b.on at_a.on n m place_b).0 place_a))
        ];
    numbered = λ m n num_a num_b.
        let m_is = position_is a m p (numbered a.answer m num_a) at_a.is in
        let n_is = position_is b n q (numbered b.answer n num_b) at_b.is in
        numbers_rise a b m n (subst (λ z. IsAt r replies z a) (sym m_is) at_a) (subst (λ z. IsAt r replies z b) (sym n_is) at_b) (omega (arith, lt, m_is, n_is)) same num_a num_b;
  }

  -- the put that drew this sequence id stands before a scan that read at it
  pub beside : (a b : Reply) (n : ℕ) → IsAt r replies n a → number_of a.answer ≡ Some n → Contains replies b → IsScanAt r n b → a.handler ≡ b.handler → AreApart a b
  beside a b n at_a num_a in_b scan same = record {
    once = λ number. not_both a.answer n n scan.cells num_a (ap (λ (x : Reply). x.answer) (one_reply a b at_a.among in_b same number) ∙ scan.answer);
    placed = λ m q place_a place_b.
        let on : IsOn r b.call = subst (IsOn r) (sym scan.call) refl in
        let q_is : n ≡ q = same_some n q (sym (ap place_of scan.answer) ∙ place_b) in
        elim (turns a b at_a.among in_b same) [
          | inl one ↦ absurd (not_both a.answer n n scan.cells num_a (ap (λ (x : Reply). x.answer) one ∙ scan.answer))
          | inr (inl first) ↦ first
          | inr (inr later) ↦ absurd (omega (arith, q_is, (later.1 (sym same) on at_a.on q n place_b).1 (put_ok a.answer m n place_a num_a)))
        ];
    numbered = λ m q e num_b. absurd (not_both b.answer q n scan.cells num_b scan.answer);
  }
