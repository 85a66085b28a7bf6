-- What is read of a log begins what stands after the position, and the rest stands after the position where the reader stops.
use Rattle.std.proofs.Common.{◌≡◌, ◌⊎◌, inl, inr, ℕ, zero, suc, ◌<◌, ◌+◌, ◌-◌, true, false, Bool, cond, List, [], ◌∷◌, ◌++◌, length, drop, filter, Contains, Option, Some, sym, ap, ◌∙◌, subst, arith}
use Rattle.std.specs.Prelude.{slice_get}
use Rattle.std.proofs.lemmas.Bool.{cases_Bool, cases_lt, cases_order}
use Rattle.std.proofs.lemmas.Bool.Decides.{nat_tests}
use Rattle.std.proofs.lemmas.List.Elements.{Contains-append_left, Contains-append_right, Contains-append_cases, All-contains, All-contains_itself, All-filter}
use Rattle.std.proofs.lemmas.Option.{slice_get_within}
use Rattle.log_model.specs.Entry.{Entry}
use Rattle.log_model.specs.Files.{Files}
use Rattle.chronicle_model.specs.Chronicle.{HasLog, Placed, StandsIn, ComesBefore, IsOrdered, IsChronicle, Position, is_behind, behind}
use Rattle.chronicle_model.proofs.Grown.{one_log}
use Rattle.chronicle_model.proofs.Order.{no_member, here, there, here_or_there, ordered_filter, same_lists}
use Rattle.log_tail.specs.Reads.{placed_behind, ReadingGoesOn}

-- ---- members of a filter

kept : (p : Placed → Bool) (xs : List Placed) (y : Placed) → Contains (filter p xs) y → Contains xs y
kept p xs y is = All-contains (Contains xs) (filter p xs) y (All-filter p (Contains xs) xs (All-contains_itself xs)) is

passes : (p : Placed → Bool) (xs : List Placed) (y : Placed) → Contains (filter p xs) y → p y ≡ true
passes p [] y is = absurd (no_member y is)
passes p (x ∷ xs) y is = elim (cases_Bool (p x)) as (λ _. p y ≡ true) [
  | inl yes_it ↦ elim (here_or_there x (filter p xs) y (subst (λ (b : Bool). Contains (cond b (x ∷ filter p xs) (filter p xs)) y) yes_it is)) as (λ _. p y ≡ true) [
    | inl same ↦ ap p (sym same) ∙ yes_it
    | inr later ↦ passes p xs y later
  ]
  | inr not_it ↦ passes p xs y (subst (λ (b : Bool). Contains (cond b (x ∷ filter p xs) (filter p xs)) y) not_it is)
]

stays : (p : Placed → Bool) (xs : List Placed) (y : Placed) → Contains xs y → p y ≡ true → Contains (filter p xs) y
stays p [] y is passed = absurd (no_member y is)
stays p (x ∷ xs) y is passed = elim (here_or_there x xs y is) as (λ _. Contains (filter p (x ∷ xs)) y) [
  | inl same ↦ subst (λ (b : Bool). Contains (cond b (x ∷ filter p xs) (filter p xs)) y) (sym (ap p same ∙ passed)) (subst (λ (z : Placed). Contains (x ∷ filter p xs) z) same (here x (filter p xs)))
  | inr later ↦ elim (cases_Bool (p x)) as (λ _. Contains (filter p (x ∷ xs)) y) [
    | inl yes_it ↦ subst (λ (b : Bool). Contains (cond b (x ∷ filter p xs) (filter p xs)) y) (sym yes_it) (there x (filter p xs) y (stays p xs y later passed))
    | inr not_it ↦ subst (λ (b : Bool). Contains (cond b (x ∷ filter p xs) (filter p xs)) y) (sym not_it) (stays p xs y later passed)
  ]
]

-- ---- the entries with their places

placed_so : (file place : ℕ) (entry : Entry) (x : Placed) → file ≡ x.file → place ≡ x.place → entry ≡ x.entry → record { file = file; place = place; entry = entry } ≡ x
placed_so file place entry x f p e i = record { file = f i; place = p i; entry = e i }

-- each member stands at a place after those before it
pub record StandsAt (number before : ℕ) (es : List Entry) (x : Placed) : Type 0 where
  pub file : x.file ≡ number
  pub at : ℕ
  pub place : x.place ≡ before + at + 1
  pub is : slice_get es at ≡ Some x.entry

pub placed_at : (file before : ℕ) (es : List Entry) (x : Placed) → Contains (placed_behind file before es) x → StandsAt file before es x
placed_at file before [] x is = absurd (no_member x is)
placed_at file before (e ∷ es) x is = elim (here_or_there (record { file = file; place = before + 1; entry = e }) (placed_behind file (before + 1) es) x is) as (λ _. StandsAt file before (e ∷ es) x) [
  | inl same ↦ record {
    file = ap (λ (y : Placed). y.file) (sym same);
    at = 0;
    place = ap (λ (y : Placed). y.place) (sym same) ∙ omega arith;
    is = ap (λ (y : Placed). Some y.entry) same;
  }
  | inr later ↦ (let s = placed_at file (before + 1) es x later in record { file = s.file; at = suc s.at; place = omega (arith, s.place); is = s.is })
]

pub at_place : (file before : ℕ) (es : List Entry) (x : Placed) (at : ℕ) → x.file ≡ file → x.place ≡ before + at + 1 → slice_get es at ≡ Some x.entry → Contains (placed_behind file before es) x
at_place file before [] x at f place is = absurd (omega (arith, slice_get_within [] at x.entry is))
at_place file before (e ∷ es) x zero f place is =
    let same : e ≡ x.entry = cc is in
    let number : before + 1 ≡ x.place = omega (arith, place) in
    subst (Contains (placed_behind file before (e ∷ es))) (placed_so file (before + 1) e x (sym f) number same) (here (record { file = file; place = before + 1; entry = e }) (placed_behind file (before + 1) es))
at_place file before (e ∷ es) x (suc at) f place is =
    there (record { file = file; place = before + 1; entry = e }) (placed_behind file (before + 1) es) x (at_place file (before + 1) es x at f (omega (arith, place)) is)

pub in_order : (file before : ℕ) (es : List Entry) → IsOrdered (placed_behind file before es)
in_order file before [] = tt
in_order file before (e ∷ es) = (
  (λ y is. (let s = placed_at file (before + 1) es y is in inr (sym s.file, omega (arith, s.place)))),
  in_order file (before + 1) es,
)

-- ---- elements of a list from a place on

dropped_get : (n : ℕ) (es : List Entry) (i : ℕ) (e : Entry) → slice_get es (i + n) ≡ Some e → slice_get (drop n es) i ≡ Some e
dropped_get zero es i e is = ap (slice_get es) (omega arith) ∙ is
dropped_get (suc n) [] i e is = absurd (omega (arith, slice_get_within [] (i + suc n) e is))
dropped_get (suc n) (d ∷ es) i e is =
    let same : suc (i + n) ≡ i + suc n = omega arith in
    dropped_get n es i e (ap (slice_get (d ∷ es)) same ∙ is)

whole_get : (n : ℕ) (es : List Entry) (i : ℕ) (e : Entry) → slice_get (drop n es) i ≡ Some e → slice_get es (i + n) ≡ Some e
whole_get zero es i e is = ap (slice_get es) (omega arith) ∙ is
whole_get (suc n) [] i e is = absurd (omega (arith, slice_get_within [] i e is))
whole_get (suc n) (d ∷ es) i e is =
    let same : i + suc n ≡ suc (i + n) = omega arith in
    ap (slice_get (d ∷ es)) same ∙ whole_get n es i e is

-- ---- positions

behind_cases : (p : Position) (x : Placed) → is_behind p x ≡ true → (p.file < x.file) ⊎ ((p.file ≡ x.file) × (p.entries < x.place))
behind_cases p x is = elim (cases_order p.file x.file) as (λ _. (p.file < x.file) ⊎ ((p.file ≡ x.file) × (p.entries < x.place))) [
  | inl same ↦ elim (cases_lt p.entries x.place) as (λ _. (p.file < x.file) ⊎ ((p.file ≡ x.file) × (p.entries < x.place))) [
    | inl lt ↦ inr (same, lt)
    | inr le ↦ (let none : is_behind p x ≡ false = grind (arith, nat_tests, same, le) in absurd (cc (sym is ∙ none)))
  ]
  | inr (inl low) ↦ inl low
  | inr (inr high) ↦ (let none : is_behind p x ≡ false = grind (arith, nat_tests, high) in absurd (cc (sym is ∙ none)))
]

is_later : (p : Position) (x : Placed) → p.file < x.file → is_behind p x ≡ true
is_later p x lt = grind (arith, nat_tests)

is_further : (p : Position) (x : Placed) → p.file ≡ x.file → p.entries < x.place → is_behind p x ≡ true
is_further p x same lt = grind (arith, nat_tests)

-- ---- two lists in order

pub ordered_both : (xs ys : List Placed) → IsOrdered xs → IsOrdered ys → ((x y : Placed) → Contains xs x → Contains ys y → ComesBefore x y) → IsOrdered (xs ++ ys)
ordered_both [] ys ox oy before = oy
ordered_both (x ∷ xs) ys ox oy before = (
  (λ y is. elim (Contains-append_cases xs ys y is) as (λ _. ComesBefore x y) [ inl front ↦ ox.0 y front | inr back ↦ before x y (here x xs) back ]),
  ordered_both xs ys ox.1 oy (λ a b front back. before a b (there x xs a front) back),
)

-- ---- the law

-- after the position stand exactly the entries of the higher logs
record StopsBehind (files : Files) (file : ℕ) (q : Position) : Type 0 where
  pub higher : (x : Placed) → StandsIn files x → is_behind q x ≡ true → file < x.file
  pub all : (x : Placed) → StandsIn files x → file < x.file → is_behind q x ≡ true

module _ (files : Files) (c : List Placed) (is : IsChronicle files c) (p q : Position) (es : List Entry) (ended : Option ℕ) (log : HasLog files p.file es ended) (stops : StopsBehind files p.file q) where
  abbrev front : List Placed
  front = placed_behind p.file p.entries (drop p.entries es)

  stands : (x : Placed) → Contains front x → StandsIn files x
  stands x has =
      let s = placed_at p.file p.entries (drop p.entries es) x has in
      record {
        entries = es;
        ended = ended;
        log = subst (λ (n : ℕ). HasLog files n es ended) (sym s.file) log;
        at = s.at + p.entries;
        place = omega (arith, s.place);
        is = whole_get p.entries es s.at x.entry s.is;
      }

  in_front : (x : Placed) → StandsIn files x → p.file ≡ x.file → p.entries < x.place → Contains front x
  in_front x s same lt =
      let its : s.entries ≡ es = one_log files x.file s.entries es s.ended ended s.log (subst (λ (n : ℕ). HasLog files n es ended) same log) in
      let at : ℕ = s.at - p.entries in
      let back : at + p.entries ≡ s.at = omega (arith, lt, s.place) in
      at_place p.file p.entries (drop p.entries es) x at (sym same) (omega (arith, lt, s.place, back))
      (dropped_get p.entries es at x.entry (ap (slice_get es) back ∙ subst (λ (l : List Entry). slice_get l s.at ≡ Some x.entry) its s.is))

  here_or_later : (x : Placed) → Contains (behind c p) x → Contains (front ++ behind c q) x
  here_or_later x has =
      let s = (is.exact x).0 (kept (is_behind p) c x has) in
      elim (behind_cases p x (passes (is_behind p) c x has)) as (λ _. Contains (front ++ behind c q) x) [
        | inl lt ↦ Contains-append_right front (behind c q) x (stays (is_behind q) c x (kept (is_behind p) c x has) (stops.all x s lt))
        | inr both ↦ Contains-append_left front (behind c q) x (in_front x s both.0 both.1)
      ]

  is_higher : (x : Placed) → Contains (behind c q) x → p.file < x.file
  is_higher x has = stops.higher x ((is.exact x).0 (kept (is_behind q) c x has)) (passes (is_behind q) c x has)

  all_behind : (x : Placed) → Contains (front ++ behind c q) x → Contains (behind c p) x
  all_behind x has = elim (Contains-append_cases front (behind c q) x has) as (λ _. Contains (behind c p) x) [
    | inl first ↦
        let s = placed_at p.file p.entries (drop p.entries es) x first in
        stays (is_behind p) c x ((is.exact x).1 (stands x first)) (is_further p x (sym s.file) (omega (arith, s.place)))
    | inr later ↦ stays (is_behind p) c x (kept (is_behind q) c x later) (is_later p x (is_higher x later))
  ]

  reads_on : behind c p ≡ front ++ behind c q
  reads_on = same_lists (behind c p) (front ++ behind c q) (ordered_filter (is_behind p) c is.order)
      (ordered_both front (behind c q) (in_order p.file p.entries (drop p.entries es)) (ordered_filter (is_behind q) c is.order)
      (λ x y first later. inl (subst (λ (n : ℕ). n < y.file) (sym (placed_at p.file p.entries (drop p.entries es) x first).file) (is_higher y later))))
      here_or_later all_behind

-- the position before the next log, and that after all entries of this one
stops_next : (files : Files) (file : ℕ) → StopsBehind files file (record { file = file + 1; entries = 0 })
stops_next files file = record {
  higher = λ x s is. elim (behind_cases (record { file = file + 1; entries = 0 }) x is) as (λ _. file < x.file) [ inl lt ↦ omega (arith, lt) | inr both ↦ omega (arith, both.0) ];
  all = λ x s lt. elim (cases_lt (file + 1) x.file) as (λ _. is_behind (record { file = file + 1; entries = 0 }) x ≡ true) [
    | inl above ↦ is_later (record { file = file + 1; entries = 0 }) x above
    | inr le ↦ is_further (record { file = file + 1; entries = 0 }) x (omega (arith, lt, le)) (omega (arith, s.place))
  ];
}

stops_here : (files : Files) (file : ℕ) (es : List Entry) (ended : Option ℕ) → HasLog files file es ended → StopsBehind files file (record { file = file; entries = length es })
stops_here files file es ended log = record {
  higher = λ x s is. elim (behind_cases (record { file = file; entries = length es }) x is) as (λ _. file < x.file) [
    | inl lt ↦ lt
    | inr both ↦
        let its : s.entries ≡ es = one_log files x.file s.entries es s.ended ended s.log (subst (λ (n : ℕ). HasLog files n es ended) both.0 log) in
        let len : length s.entries ≡ length es = ap (λ (l : List Entry). length l) its in
        absurd (omega (arith, both.1, s.place, len, slice_get_within s.entries s.at x.entry s.is))
  ];
  all = λ x s lt. is_later (record { file = file; entries = length es }) x lt;
}

pub goes_on : ReadingGoesOn
goes_on files c p q given (inl r) is =
    let stops : StopsBehind files p.file q =
    elim r.stops as (λ _. StopsBehind files p.file q) [
      | inl over ↦ subst (StopsBehind files p.file) (sym over.1) (stops_next files p.file)
      | inr more ↦ subst (StopsBehind files p.file) (sym more.1) (stops_here files p.file r.entries r.ended r.log)
    ] in
    subst (λ (l : List Entry). behind c p ≡ placed_behind p.file p.entries l ++ behind c q) (sym r.rest) (reads_on files c is p q r.entries r.ended r.log stops)
goes_on files c p q given (inr a) is =
    subst (λ (l : List Entry). behind c p ≡ placed_behind p.file p.entries l ++ behind c q) (sym a.none) (ap (behind c) (sym a.stays))
