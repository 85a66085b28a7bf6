-- Worked examples of chronicles, positions and what is shipped, which the check computes.
use Rattle.std.proofs.Common.{◌≡◌, ℕ, zero, suc, ◌⊎◌, ◌<◌, List, [], ◌∷◌, Contains, Some, None, refl, sym, ap, ◌∙◌, subst, arith, inl, inr}
use Rattle.std.specs.Prelude.{slice_get}
use Rattle.std.proofs.lemmas.Bool.{cases_eq, cases_order}
use Rattle.cell_model.specs.Join.{or_else}
use Rattle.log_model.specs.Entry.{Entry}
use Rattle.log_model.specs.Files.{Files, content}
use Rattle.chronicle_model.specs.Chronicle.{log_name, old_name, bytes_of, HasLog, Placed, StandsIn, ComesBefore, IsOrdered, IsChronicle, Position, behind}
use Rattle.chronicle_model.specs.Growth.{IsReached, IsGoingOn}
use Rattle.chronicle_model.specs.Shipping.{EachOnce, Nothing, First, Again, Shipping, Steps, Grows, Ships, unshipped}
use Rattle.chronicle_model.proofs.Order.{no_member, here, here_or_there, not_itself}
use Rattle.chronicle_model.proofs.Grown.{one_log, one_end, not_there}

-- ---- which log counts

-- of a log and an old log with one number the log
log_counts : (files : Files) (log old : List ℕ) → content files (log_name 7) ≡ Some log → content files (old_name 7) ≡ Some old → bytes_of files 7 ≡ Some log
log_counts files log old is was = ap (λ o. or_else o (content files (old_name 7))) is

-- where no log is there the old log
old_counts : (files : Files) (old : List ℕ) → content files (log_name 7) ≡ None → content files (old_name 7) ≡ Some old → bytes_of files 7 ≡ Some old
old_counts files old none was = ap (λ o. or_else o (content files (old_name 7))) none ∙ was

-- ---- a chronicle

abbrev placed : ℕ → ℕ → Entry → Placed
placed file place entry = record { file = file; place = place; entry = entry }

abbrev position : ℕ → ℕ → Position
position file entries = record { file = file; entries = entries }

one_of : (x y : Placed) → Contains (x ∷ []) y → x ≡ y
one_of x y is = elim (here_or_there x [] y is) as (λ _. x ≡ y) [ inl same ↦ same | inr none ↦ absurd (no_member y none) ]

two_of : (x y z : Placed) → Contains (x ∷ y ∷ []) z → (x ≡ z) ⊎ (y ≡ z)
two_of x y z is = elim (here_or_there x (y ∷ []) z is) as (λ _. (x ≡ z) ⊎ (y ≡ z)) [ inl same ↦ inl same | inr later ↦ inr (one_of y z later) ]

before_each : (x y z : Placed) → ComesBefore x y → ComesBefore x z → (w : Placed) → Contains (y ∷ z ∷ []) w → ComesBefore x w
before_each x y z first second w is = elim (two_of y z w is) as (λ _. ComesBefore x w) [ inl same ↦ subst (ComesBefore x) same first | inr same ↦ subst (ComesBefore x) same second ]

first_or_second : (d e y : Entry) (i : ℕ) → slice_get (d ∷ e ∷ []) i ≡ Some y → ((i ≡ 0) × (d ≡ y)) ⊎ ((i ≡ 1) × (e ≡ y))
first_or_second d e y zero is = inl (refl, cc)
first_or_second d e y (suc zero) is = inr (refl, cc)
first_or_second d e y (suc (suc i)) is = absurd cc

only_first : (d y : Entry) (i : ℕ) → slice_get (d ∷ []) i ≡ Some y → (i ≡ 0) × (d ≡ y)
only_first d y zero is = (refl, cc)
only_first d y (suc i) is = absurd cc

placed_so : (file place : ℕ) (entry : Entry) (x : Placed) → file ≡ x.file → place ≡ x.place → entry ≡ x.entry → placed file place entry ≡ x
placed_so file place entry x f p e i = record { file = f i; place = p i; entry = e i }

module _ (d e f : Entry) where
  -- log 1 with two entries, and log 3 with one
  abbrev three : List Placed
  three = placed 1 1 d ∷ placed 1 2 e ∷ placed 3 1 f ∷ []

  in_order : IsOrdered three
  in_order = (
    before_each (placed 1 1 d) (placed 1 2 e) (placed 3 1 f) (inr (refl, omega arith)) (inl (omega arith)),
    ((λ y is. subst (ComesBefore (placed 1 2 e)) (one_of (placed 3 1 f) y is) (inl (omega arith))), ((λ y is. absurd (no_member y is)), tt)),
  )

  module _ (files : Files) (one : HasLog files 1 (d ∷ e ∷ []) (Some 2)) (third : HasLog files 3 (f ∷ []) None) (others : (n : ℕ) → (n ≡ 1 → ⊥) → (n ≡ 3 → ⊥) → bytes_of files n ≡ None) where
    stands : (x : Placed) → Contains three x → StandsIn files x
    stands x is = elim (here_or_there (placed 1 1 d) (placed 1 2 e ∷ placed 3 1 f ∷ []) x is) as (λ _. StandsIn files x) [
      | inl same ↦ subst (StandsIn files) same (record { entries = d ∷ e ∷ []; ended = Some 2; log = one; at = 0; place = refl; is = refl })
      | inr later ↦ elim (two_of (placed 1 2 e) (placed 3 1 f) x later) as (λ _. StandsIn files x) [
        | inl same ↦ subst (StandsIn files) same (record { entries = d ∷ e ∷ []; ended = Some 2; log = one; at = 1; place = refl; is = refl })
        | inr same ↦ subst (StandsIn files) same (record { entries = f ∷ []; ended = None; log = third; at = 0; place = refl; is = refl })
      ]
    ]

    in_log_one : (x : Placed) → x.file ≡ 1 → StandsIn files x → Contains three x
    in_log_one x same s =
        let its : s.entries ≡ d ∷ e ∷ [] = one_log files x.file s.entries (d ∷ e ∷ []) s.ended (Some 2) s.log (subst (λ (n : ℕ). HasLog files n (d ∷ e ∷ []) (Some 2)) (sym same) one) in
        elim (first_or_second d e x.entry s.at (subst (λ (es : List Entry). slice_get es s.at ≡ Some x.entry) its s.is)) as (λ _. Contains three x) [
          | inl first ↦ subst (Contains three) (placed_so 1 1 d x (sym same) (omega (arith, s.place, first.0)) first.1) (here (placed 1 1 d) (placed 1 2 e ∷ placed 3 1 f ∷ []))
          | inr second ↦ subst (Contains three) (placed_so 1 2 e x (sym same) (omega (arith, s.place, second.0)) second.1) (1, omega arith, refl)
        ]

    in_log_three : (x : Placed) → x.file ≡ 3 → StandsIn files x → Contains three x
    in_log_three x same s =
        let its : s.entries ≡ f ∷ [] = one_log files x.file s.entries (f ∷ []) s.ended None s.log (subst (λ (n : ℕ). HasLog files n (f ∷ []) None) (sym same) third) in
        let only = only_first f x.entry s.at (subst (λ (es : List Entry). slice_get es s.at ≡ Some x.entry) its s.is) in
        subst (Contains three) (placed_so 3 1 f x (sym same) (omega (arith, s.place, only.0)) only.1) (2, omega arith, refl)

    found : (x : Placed) → StandsIn files x → Contains three x
    found x s = elim (cases_eq x.file 1) as (λ _. Contains three x) [
      | inl same ↦ in_log_one x same s
      | inr not_one ↦ elim (cases_eq x.file 3) as (λ _. Contains three x) [
        | inl same ↦ in_log_three x same s
        | inr not_three ↦ absurd (not_there (bytes_of files x.file) s.log.0 (others x.file not_one not_three) s.log.1)
      ]
    ]

    the_chronicle : IsChronicle files three
    the_chronicle = record { order = in_order; exact = λ x. (stands x, found x) }

    none_at : (n : ℕ) → 3 < n → bytes_of files n ≡ None
    none_at n high = others n (λ is. omega (arith, is, high)) (λ is. omega (arith, is, high))

    -- log 1 has an end and log 3 has none
    goes_on : IsGoingOn files
    goes_on n es ended its highest = elim (cases_order n 3) as (λ _. ended ≡ None) [
      | inl same ↦ one_end files 3 es (f ∷ []) ended None (subst (λ (k : ℕ). HasLog files k es ended) same its) third
      | inr (inl low) ↦ absurd (not_there (bytes_of files 3) third.0 (highest 3 low) third.1)
      | inr (inr high) ↦ absurd (not_there (bytes_of files n) its.0 (none_at n high) its.1)
    ]

    -- log 2 is passed by, since log 3 is there
    reached_below : IsReached files (position 2 7)
    reached_below = inl (3, omega arith, (third.0, third.1))

    reached_at_the_end : IsReached files (position 3 1)
    reached_at_the_end = inr (f ∷ [], None, third, omega arith)

    not_reached : IsReached files (position 4 0) → ⊥
    not_reached (inl (m, above, there)) = not_there (bytes_of files m) there.0 (none_at m (omega (arith, above))) there.1
    not_reached (inr (es, ended, log, le)) = not_there (bytes_of files 4) log.0 (none_at 4 (omega arith)) log.1

  -- where log 3 is ended too, nothing goes on
  ended_last : (files : Files) → HasLog files 3 (f ∷ []) (Some 1) → ((n : ℕ) → 3 < n → bytes_of files n ≡ None) → IsGoingOn files → ⊥
  ended_last files log highest on = absurd (cc (on 3 (f ∷ []) (Some 1) log highest))

  -- ---- positions

  from_the_start : behind three (position 0 0) ≡ three
  from_the_start = refl

  behind_one_entry : behind three (position 1 1) ≡ placed 1 2 e ∷ placed 3 1 f ∷ []
  behind_one_entry = refl

  behind_a_log : behind three (position 2 0) ≡ placed 3 1 f ∷ []
  behind_a_log = refl

  behind_all : behind three (position 3 1) ≡ []
  behind_all = refl

  -- ---- what is shipped

  other : (x y : Placed) → ComesBefore y x → Contains (y ∷ []) x → ⊥
  other x y before is = not_itself x (subst (λ (z : Placed). ComesBefore z x) (one_of y x is) before)

  -- the second entry was shipped twice
  abbrev twice : List Placed
  twice = placed 1 1 d ∷ placed 1 2 e ∷ placed 1 2 e ∷ placed 3 1 f ∷ []

  taken_out : EachOnce twice three
  taken_out =
      First (placed 1 1 d ∷ placed 1 2 e ∷ placed 1 2 e ∷ []) (placed 1 1 d ∷ placed 1 2 e ∷ []) (placed 3 1 f)
      (Again (placed 1 1 d ∷ placed 1 2 e ∷ []) (placed 1 1 d ∷ placed 1 2 e ∷ []) (placed 1 2 e)
      (First (placed 1 1 d ∷ []) (placed 1 1 d ∷ []) (placed 1 2 e) (First [] [] (placed 1 1 d) Nothing (no_member (placed 1 1 d))) (other (placed 1 2 e) (placed 1 1 d) (inr (refl, omega arith))))
      (1, omega arith, refl)) new
    where
      new : Contains (placed 1 1 d ∷ placed 1 2 e ∷ placed 1 2 e ∷ []) (placed 3 1 f) → ⊥
      new is = elim (here_or_there (placed 1 1 d) (placed 1 2 e ∷ placed 1 2 e ∷ []) (placed 3 1 f) is) as (λ _. ⊥) [
        | inl same ↦ not_itself (placed 3 1 f) (subst (λ (z : Placed). ComesBefore z (placed 3 1 f)) same (inl (omega arith)))
        | inr later ↦ elim (two_of (placed 1 2 e) (placed 1 2 e) (placed 3 1 f) later) as (λ _. ⊥) [
          | inl same ↦ not_itself (placed 3 1 f) (subst (λ (z : Placed). ComesBefore z (placed 3 1 f)) same (inl (omega arith)))
          | inr same ↦ not_itself (placed 3 1 f) (subst (λ (z : Placed). ComesBefore z (placed 3 1 f)) same (inl (omega arith)))
        ]
      ]

  abbrev state : List Placed → List Placed → Position → Shipping
  state c shipped recorded = record { chronicle = c; shipped = shipped; recorded = recorded }

  -- A call ships two entries and records the first one; the log grows; the next call ships the second one again, and the third.
  two_calls : Steps (position 1 0) (unshipped (placed 1 1 d ∷ placed 1 2 e ∷ []) (position 1 0))
      (state (placed 1 1 d ∷ placed 1 2 e ∷ []) (placed 1 1 d ∷ placed 1 2 e ∷ []) (position 1 1) ∷ state three (placed 1 1 d ∷ placed 1 2 e ∷ []) (position 1 1) ∷ state three twice (position 3 1) ∷ [])
  two_calls = (
    Ships (placed 1 1 d ∷ placed 1 2 e ∷ []) refl ([], refl) refl (placed 1 1 d ∷ []) (placed 1 2 e ∷ [], refl) refl,
    (
      Grows (placed 3 1 f ∷ []) refl in_order refl refl (inr (refl, refl)),
      (Ships (placed 1 2 e ∷ placed 3 1 f ∷ []) refl ([], refl) refl (placed 1 2 e ∷ placed 3 1 f ∷ []) ([], refl) refl, tt),
    ),
  )
