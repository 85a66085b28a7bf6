-- Cells of stores and of entries, sorted as one.
use Rattle.std.proofs.Common.{◌≡◌, ◌≢◌, ◌⊎◌, ◌↔◌, inl, inr, ℕ, ◌<◌, ◌≤◌, nat_lt, Bool, true, false, cond, List, [], ◌∷◌, ◌++◌, map, Contains, Option, Some, None, refl, sym, ap, ◌∙◌, subst, arith}
use Rattle.std.specs.Prelude.{T}
use Rattle.std.specs.declared.cmp.Ordering.{Ordering}
use Rattle.std.specs.declared.cmp.Ordering.TheVariants.{Less, Equal, Greater}
use Rattle.std.specs.Ordering.{eq_by_cmp, is_eq}
use Rattle.std.specs.FinMap.{get, insert, empty, get-insert, get-empty}
use Rattle.std.specs.FinMap.Entries.{below_all}
use Rattle.std.proofs.lemmas.Bool.{cases_Bool, cases_lt, ltb-true, ltb-false}
use Rattle.std.proofs.lemmas.Cmp.{tied_itself, eq_by_cmp_equiv}
use Rattle.std.proofs.lemmas.List.Elements.{Contains-append_left, Contains-append_right, Contains-append_cases, Contains-push, Contains-push_cases}
use Rattle.cell_model.specs.Cell.{Cell}
use Rattle.cell_model.specs.Order.{VersionKey, version_cmp, Payload, payload_of, Content, NumberedCell, version_of, put_cells}
use Rattle.cell_model.specs.Merge.{entry_of, IsRising, put_numbered, at_number}
use Rattle.cell_model.specs.Join.{or_else}
use Rattle.cell_model.proofs.OrderLaws.{version_cmp_total, version_cmp_exact}
use Rattle.cell_model.proofs.MergeLaws.{get-put_numbered, put_numbered-append, put_cells-numbered}
use Rattle.log_model.specs.Entry.{Entry}
use Rattle.log_model.specs.Files.{Files}
use Rattle.log_model.specs.Recovered.{FlushesTo, IsFlushed, Holds, Puts, IsUnflushed, IsRecovered, put_entries}
use Rattle.recovery_laws.specs.Kept.{AreApart}
use Rattle.recovery_laws.proofs.Contents.{cut_has, puts_family, puts_number}
use Rattle.recovery_laws.proofs.Numbers.{held_range, logged_given}
use Rattle.recovery_laws.proofs.Stores.{held_family}
use Rattle.mem_segments.proofs.Contents.{first, second, less}
use Rattle.region_replay.specs.Bases.{Numbered, AreRising, AreUnflushed, stores_cells, cells_above, entries_cells, OneSortGivesTheBase}

abbrev pub HasCell : List NumberedCell → VersionKey → Payload → Type 0
HasCell xs v p = (x : NumberedCell) × Contains xs x × (version_of x ≡ v) × (payload_of x.1 ≡ p)

abbrev pub put_all : List NumberedCell → Content
put_all xs = put_numbered empty xs

option_cases : (o : Option Payload) → (o ≡ None) ⊎ ((p : Payload) × (o ≡ Some p))
option_cases None = inl refl
option_cases (Some p) = inr (p, refl)

pub none_in : {A : Type 0} (x : A) → Contains [] x → ⊥
none_in x h = omega (arith, h.1)

pub first_or_later : {A : Type 0} (x : A) (xs : List A) (y : A) → Contains (x ∷ xs) y → (x ≡ y) ⊎ Contains xs y
first_or_later x xs y h = elim (Contains-append_cases (x ∷ []) xs y h) as (λ _. (x ≡ y) ⊎ Contains xs y) [
  | inl here ↦ elim (Contains-push_cases [] x y here) as (λ _. (x ≡ y) ⊎ Contains xs y) [ inl none ↦ absurd (none_in y none) | inr is ↦ inl is ]
  | inr later ↦ inr later
]

pub is_first : {A : Type 0} (x : A) (xs : List A) → Contains (x ∷ xs) x
is_first x xs = Contains-append_left (x ∷ []) xs x (Contains-push [] x)

pub is_later : {A : Type 0} (x : A) (xs : List A) (y : A) → Contains xs y → Contains (x ∷ xs) y
is_later x xs y has = Contains-append_right (x ∷ []) xs y has

is_equal : (o : Ordering) → is_eq o ≡ true → o ≡ Equal
is_equal Less e = absurd cc
is_equal Equal e = refl
is_equal Greater e = absurd cc

one_payload : (p q : Payload) → Some p ≡ Some q → p ≡ q
one_payload p q same = cc (same)

-- one cell alone
abbrev no_cells : Content
no_cells = empty

abbrev one : NumberedCell → Content
one x = insert empty (version_of x) (payload_of x.1)

one_got : (x : NumberedCell) (v : VersionKey) (p : Payload) → get (one x) v ≡ Some p → (version_of x ≡ v) × (payload_of x.1 ≡ p)
one_got x v p is = elim (cases_Bool (eq_by_cmp version_cmp v (version_of x))) as (λ _. (version_of x ≡ v) × (payload_of x.1 ≡ p)) [
  | inl same ↦ (
    sym (version_cmp_exact v (version_of x) (is_equal (version_cmp v (version_of x)) same)),
    one_payload (payload_of x.1) p (sym (get-insert version_cmp_total no_cells (version_of x) (payload_of x.1) v ∙ ap (λ (b : Bool). cond b (Some (payload_of x.1)) (get no_cells v)) same) ∙ is),
  )
  | inr other ↦ (let none : None ≡ Some p = sym (get-insert version_cmp_total no_cells (version_of x) (payload_of x.1) v ∙ ap (λ (b : Bool). cond b (Some (payload_of x.1)) (get no_cells v)) other ∙ get-empty version_cmp v) ∙ is in absurd (cc (none)))
]

got_one : (x : NumberedCell) → get (one x) (version_of x) ≡ Some (payload_of x.1)
got_one x = get-insert version_cmp_total no_cells (version_of x) (payload_of x.1) (version_of x) ∙ ap (λ (b : Bool). cond b (Some (payload_of x.1)) (get no_cells (version_of x))) ((eq_by_cmp_equiv version_cmp_total).refl (version_of x))

or_cases : (a b : Option Payload) (p : Payload) → or_else a b ≡ Some p → (a ≡ Some p) ⊎ ((a ≡ None) × (b ≡ Some p))
or_cases None b p is = inr (refl, is)
or_cases (Some q) b p is = inl is

or_first : (a b : Option Payload) (p : Payload) → a ≡ Some p → or_else a b ≡ Some p
or_first a b p is = ap (λ (x : Option Payload). or_else x b) is

or_second : (a b : Option Payload) (p : Payload) → a ≡ None → b ≡ Some p → or_else a b ≡ Some p
or_second a b p none is = ap (λ (x : Option Payload). or_else x b) none ∙ is

-- what is put is one of the cells
pub got_has : (xs : List NumberedCell) (v : VersionKey) (p : Payload) → get (put_all xs) v ≡ Some p → HasCell xs v p
got_has [] v p is = (let none : None ≡ Some p = sym (get-empty version_cmp v) ∙ is in absurd (cc (none)))
got_has (x ∷ xs) v p is = elim (or_cases (get (put_all xs) v) (get (one x) v) p (sym (get-put_numbered (one x) xs v) ∙ is)) as (λ _. HasCell (x ∷ xs) v p) [
  | inl later ↦ (let h = got_has xs v p later in (h.0, is_later x xs h.0 h.1, h.2, h.3))
  | inr here ↦ (let h = one_got x v p here.1 in (x, is_first x xs, h.0, h.1))
]

each_less : (x : NumberedCell) (ys : List NumberedCell) → T (below_all version_cmp (version_of x) (map entry_of ys)) → (y : NumberedCell) → Contains ys y → version_cmp (version_of x) (version_of y) ≡ Less
each_less x [] below y has = absurd (none_in y has)
each_less x (z ∷ zs) below y has = elim (first_or_later z zs y has) as (λ _. version_cmp (version_of x) (version_of y) ≡ Less) [
  | inl is ↦ subst (λ (w : NumberedCell). version_cmp (version_of x) (version_of w) ≡ Less) is (less (version_cmp (version_of x) (version_of z)) (first _ _ below))
  | inr later ↦ each_less x zs (second _ _ below) y later
]

-- of cells in order each is put
pub has_got : (xs : List NumberedCell) (v : VersionKey) (p : Payload) → IsRising xs → HasCell xs v p → get (put_all xs) v ≡ Some p
has_got [] v p rises h = absurd (none_in h.0 h.1)
has_got (x ∷ xs) v p rises h = get-put_numbered (one x) xs v ∙ elim (first_or_later x xs h.0 h.1) as (λ _. or_else (get (put_all xs) v) (get (one x) v) ≡ Some p) [
  | inl is ↦
      let version : version_of x ≡ v = ap (λ (y : NumberedCell). version_of y) is ∙ h.2 in
      let payload : payload_of x.1 ≡ p = ap (λ (y : NumberedCell). payload_of y.1) is ∙ h.3 in
      or_second (get (put_all xs) v) (get (one x) v) p
      (elim (option_cases (get (put_all xs) v)) as (λ _. get (put_all xs) v ≡ None) [
        | inl none ↦ none
        | inr some ↦
            let y = got_has xs v some.0 some.1 in
            let lower = each_less x xs (first _ _ rises) y.0 y.1 in
            let same : version_cmp (version_of x) (version_of y.0) ≡ Equal = ap (λ (w : VersionKey). version_cmp (version_of x) w) (y.2 ∙ sym version) ∙ tied_itself version_cmp_total (version_of x) in
            absurd (cc (sym lower ∙ same))
      ])
      (subst (λ (w : VersionKey). get (one x) w ≡ Some p) version (got_one x ∙ ap (λ (q : Payload). Some q) payload))
  | inr later ↦ or_first (get (put_all xs) v) (get (one x) v) p (has_got xs v p (second _ _ rises) (h.0, later, h.2, h.3))
]

-- ---- stores

abbrev pub Each : List Numbered → Type 0
Each ss = (x : Numbered) → Contains ss x → IsRising x.1.cells

pub record Newest (ss : List Numbered) (v : VersionKey) (p : Payload) : Type 0 where
  pub at : Numbered
  pub among : Contains ss at
  pub holds : Holds at.1 v p
  pub last : (y : Numbered) (q : Payload) → Contains ss y → Holds y.1 v q → y.0 ≤ at.0

got_stores : (x : Numbered) (xs : List Numbered) (v : VersionKey) → get (put_all (stores_cells (x ∷ xs))) v ≡ or_else (get (put_all (stores_cells xs)) v) (get (put_all x.1.cells) v)
got_stores x xs v = ap (λ (c : Content). get c v) (put_numbered-append empty x.1.cells (stores_cells xs)) ∙ get-put_numbered (put_all x.1.cells) (stores_cells xs) v

later_each : (x : Numbered) (xs : List Numbered) → Each (x ∷ xs) → Each xs
later_each x xs each y has = each y (is_later x xs y has)

some_got : (ss : List Numbered) (y : Numbered) (v : VersionKey) (q : Payload) → Each ss → Contains ss y → Holds y.1 v q → get (put_all (stores_cells ss)) v ≡ None → ⊥
some_got [] y v q each has holds none = none_in y has
some_got (x ∷ xs) y v q each has holds none = elim (option_cases (get (put_all (stores_cells xs)) v)) as (λ _. ⊥) [
  | inl nothing ↦ elim (first_or_later x xs y has) as (λ _. ⊥) [
    | inl is ↦ (let here : get (put_all x.1.cells) v ≡ Some q = has_got x.1.cells v q (each x (is_first x xs)) (subst (λ (z : Numbered). Holds z.1 v q) (sym is) holds) in
        absurd (cc (sym (got_stores x xs v ∙ or_second (get (put_all (stores_cells xs)) v) (get (put_all x.1.cells) v) q nothing here) ∙ none)))
    | inr later ↦ some_got xs y v q (later_each x xs each) later holds nothing
  ]
  | inr some ↦ absurd (cc (sym (got_stores x xs v ∙ or_first (get (put_all (stores_cells xs)) v) (get (put_all x.1.cells) v) some.0 some.1) ∙ none))
]

pub got_newest : (ss : List Numbered) (v : VersionKey) (p : Payload) → Each ss → AreRising ss → get (put_all (stores_cells ss)) v ≡ Some p → Newest ss v p
got_newest [] v p each rising is = (let none : None ≡ Some p = sym (get-empty version_cmp v) ∙ is in absurd (cc (none)))
got_newest (x ∷ xs) v p each rising is = elim (or_cases (get (put_all (stores_cells xs)) v) (get (put_all x.1.cells) v) p (sym (got_stores x xs v) ∙ is)) as (λ _. Newest (x ∷ xs) v p) [
  | inl later ↦ (
      let h = got_newest xs v p (later_each x xs each) rising.1 later in
      record {
        at = h.at;
        among = is_later x xs h.at h.among;
        holds = h.holds;
        last = λ y q has holds. elim (first_or_later x xs y has) as (λ _. y.0 ≤ h.at.0) [
          | inl is ↦ (let number : x.0 ≡ y.0 = ap (λ (z : Numbered). z.0) is in omega (arith, number, rising.0 h.at h.among))
          | inr in_rest ↦ h.last y q in_rest holds
        ];
      })
  | inr here ↦ record {
    at = x;
    among = is_first x xs;
    holds = got_has x.1.cells v p here.1;
    last = λ y q has holds. elim (first_or_later x xs y has) as (λ _. y.0 ≤ x.0) [
      | inl is ↦ (let number : x.0 ≡ y.0 = ap (λ (z : Numbered). z.0) is in omega (arith, number))
      | inr in_rest ↦ absurd (some_got xs y v q (later_each x xs each) in_rest holds here.0)
    ];
  }
]

pub newest_got : (ss : List Numbered) (v : VersionKey) (p : Payload) → Each ss → AreRising ss → Newest ss v p → get (put_all (stores_cells ss)) v ≡ Some p
newest_got [] v p each rising h = absurd (none_in h.at h.among)
newest_got (x ∷ xs) v p each rising h = got_stores x xs v ∙ elim (first_or_later x xs h.at h.among) as (λ _. or_else (get (put_all (stores_cells xs)) v) (get (put_all x.1.cells) v) ≡ Some p) [
  | inl is ↦
      or_second (get (put_all (stores_cells xs)) v) (get (put_all x.1.cells) v) p
      (elim (option_cases (get (put_all (stores_cells xs)) v)) as (λ _. get (put_all (stores_cells xs)) v ≡ None) [
        | inl none ↦ none
        | inr some ↦
            let n = got_newest xs v some.0 (later_each x xs each) rising.1 some.1 in
            let number : x.0 ≡ h.at.0 = ap (λ (z : Numbered). z.0) is in
            absurd (omega (arith, number, rising.0 n.at n.among, h.last n.at some.0 (is_later x xs n.at n.among) n.holds))
      ])
      (has_got x.1.cells v p (each x (is_first x xs)) (subst (λ (z : Numbered). Holds z.1 v p) (sym is) h.holds))
  | inr later ↦ or_first (get (put_all (stores_cells xs)) v) (get (put_all x.1.cells) v) p
      (newest_got xs v p (later_each x xs each) rising.1 (record { at = h.at; among = later; holds = h.holds; last = λ y q has holds. h.last y q (is_later x xs y has) holds }))
]

-- ---- the cells of entries above what is flushed of their families

module _ (flushed : List ℕ → ℕ) (n : ℕ) (v : VersionKey) where
  abbrev kept : List Cell → List NumberedCell
  kept cs = at_number n (cells_above flushed n cs)

  abbrev every : List Cell → List NumberedCell
  every cs = at_number n cs

  none_here : (c : Cell) → c.family ≢ v.key.family → get (one (n, c)) v ≡ None
  none_here c other = elim (option_cases (get (one (n, c)) v)) as (λ _. get (one (n, c)) v ≡ None) [
    | inl none ↦ none
    | inr some ↦ absurd (other (ap (λ (w : VersionKey). w.key.family) (one_got (n, c) v some.0 some.1).0))
  ]

  or_none : (a b : Option Payload) → b ≡ None → or_else a b ≡ a
  or_none None b none = none
  or_none (Some p) b none = refl

  none_none : (a b : Option Payload) → a ≡ None → b ≡ None → or_else a b ≡ None
  none_none a b first second = or_none a b second ∙ first

  kept_cells : (c : Cell) (cs : List Cell) → (b : Bool) → nat_lt (flushed c.family) n ≡ b → kept (c ∷ cs) ≡ cond b ((n, c) ∷ kept cs) (kept cs)
  kept_cells c cs true is = ap (λ (t : Bool). at_number n (cond t (c ∷ cells_above flushed n cs) (cells_above flushed n cs))) is
  kept_cells c cs false is = ap (λ (t : Bool). at_number n (cond t (c ∷ cells_above flushed n cs) (cells_above flushed n cs))) is

  -- of a family that is flushed up to a lower number each cell is kept
  pub kept_above : flushed v.key.family < n → (cs : List Cell) → get (put_all (kept cs)) v ≡ get (put_all (every cs)) v
  kept_above above [] = refl
  kept_above above (c ∷ cs) = elim (cases_Bool (nat_lt (flushed c.family) n)) as (λ _. get (put_all (kept (c ∷ cs))) v ≡ get (put_all (every (c ∷ cs))) v) [
    | inl is ↦ ap (λ (xs : List NumberedCell). get (put_all xs) v) (kept_cells c cs true is) ∙ get-put_numbered (one (n, c)) (kept cs) v
        ∙ ap (λ (o : Option Payload). or_else o (get (one (n, c)) v)) (kept_above above cs) ∙ sym (get-put_numbered (one (n, c)) (every cs) v)
    | inr not ↦
        let other : c.family ≢ v.key.family = λ same. (let lt : flushed c.family < n = subst (λ (f : List ℕ). flushed f < n) (sym same) above in let le = ltb-false (flushed c.family) n not in omega (arith, lt, le)) in
        ap (λ (xs : List NumberedCell). get (put_all xs) v) (kept_cells c cs false not) ∙ kept_above above cs
        ∙ sym (get-put_numbered (one (n, c)) (every cs) v ∙ or_none (get (put_all (every cs)) v) (get (one (n, c)) v) (none_here c other))
  ]

  -- and of one that is flushed up to this number none
  pub none_kept : n ≤ flushed v.key.family → (cs : List Cell) → get (put_all (kept cs)) v ≡ None
  none_kept low [] = get-empty version_cmp v
  none_kept low (c ∷ cs) = elim (cases_Bool (nat_lt (flushed c.family) n)) as (λ _. get (put_all (kept (c ∷ cs))) v ≡ None) [
    | inl is ↦
        let other : c.family ≢ v.key.family = λ same. (let le : n ≤ flushed c.family = subst (λ (f : List ℕ). n ≤ flushed f) (sym same) low in let lt = ltb-true (flushed c.family) n is in omega (arith, lt, le)) in
        ap (λ (xs : List NumberedCell). get (put_all xs) v) (kept_cells c cs true is) ∙ get-put_numbered (one (n, c)) (kept cs) v
        ∙ none_none (get (put_all (kept cs)) v) (get (one (n, c)) v) (none_kept low cs) (none_here c other)
    | inr not ↦ ap (λ (xs : List NumberedCell). get (put_all xs) v) (kept_cells c cs false not) ∙ none_kept low cs
  ]

-- an entry with those of its cells alone
abbrev cut_entry : (List ℕ → ℕ) → Entry → Entry
cut_entry flushed e = record { region = e.region; number = e.number; time = e.time; batch = record { table = e.batch.table; cells = cells_above flushed e.number e.batch.cells } }

abbrev cut_all : (List ℕ → ℕ) → List Entry → List Entry
cut_all flushed es = map (cut_entry flushed) es

-- ---- both

put_entries_all : (flushed : List ℕ → ℕ) (es : List Entry) (m : Content) → put_numbered m (entries_cells flushed es) ≡ put_entries m (cut_all flushed es)
put_entries_all flushed [] m = refl
put_entries_all flushed (e ∷ es) m =
    put_numbered-append m (at_number e.number (cells_above flushed e.number e.batch.cells)) (entries_cells flushed es)
    ∙ ap (λ (c : Content). put_numbered c (entries_cells flushed es)) (sym (put_cells-numbered m e.number (cells_above flushed e.number e.batch.cells)))
    ∙ put_entries_all flushed es (put_cells m e.number (cells_above flushed e.number e.batch.cells))

in_cut : (flushed : List ℕ → ℕ) (es : List Entry) (d : Entry) → Contains (cut_all flushed es) d → (e : Entry) × Contains es e × (cut_entry flushed e ≡ d)
in_cut flushed [] d has = absurd (none_in d has)
in_cut flushed (e ∷ es) d has = elim (first_or_later (cut_entry flushed e) (cut_all flushed es) d has) as (λ _. (y : Entry) × Contains (e ∷ es) y × (cut_entry flushed y ≡ d)) [
  | inl here ↦ (e, is_first e es, here)
  | inr later ↦ (let r = in_cut flushed es d later in (r.0, is_later e es r.0 r.1, r.2))
]

to_cut : (flushed : List ℕ → ℕ) (es : List Entry) (e : Entry) → Contains es e → Contains (cut_all flushed es) (cut_entry flushed e)
to_cut flushed [] e has = absurd (none_in e has)
to_cut flushed (y ∷ ys) e has = elim (first_or_later y ys e has) as (λ _. Contains (cut_all flushed (y ∷ ys)) (cut_entry flushed e)) [
  | inl here ↦ subst (λ (z : Entry). Contains (cut_all flushed (y ∷ ys)) (cut_entry flushed z)) here (is_first (cut_entry flushed y) (cut_all flushed ys))
  | inr later ↦ is_later (cut_entry flushed y) (cut_all flushed ys) (cut_entry flushed e) (to_cut flushed ys e later)
]

cut_apart : (flushed : List ℕ → ℕ) (es : List Entry) → AreApart es → AreApart (cut_all flushed es)
cut_apart flushed [] apart = tt
cut_apart flushed (e ∷ es) apart = (
  λ d has same. (let r = in_cut flushed es d has in apart.0 r.0 r.1 (ap (λ (y : Entry). y.number) r.2 ∙ same)),
  cut_apart flushed es apart.1,
)

-- such an entry puts what it put of families that are flushed up to a lower number
cut_puts : (flushed : List ℕ → ℕ) (e : Entry) (v : VersionKey) (p : Payload) → flushed v.key.family < e.number → Puts e v p ↔ Puts (cut_entry flushed e) v p
cut_puts flushed e v p above = (λ is. same ∙ is, λ is. sym same ∙ is)
  where
    by_number : (cs : List Cell) → get (put_cells empty e.number cs) v ≡ get (put_all (at_number e.number cs)) v
    by_number cs = ap (λ (c : Content). get c v) (put_cells-numbered empty e.number cs)

    same : get (put_cells empty e.number (cells_above flushed e.number e.batch.cells)) v ≡ get (put_cells empty e.number e.batch.cells) v
    same = by_number (cells_above flushed e.number e.batch.cells) ∙ kept_above flushed e.number v above e.batch.cells ∙ sym (by_number e.batch.cells)

cut_none : (flushed : List ℕ → ℕ) (e : Entry) (v : VersionKey) (p : Payload) → e.number ≤ flushed v.key.family → Puts (cut_entry flushed e) v p → ⊥
cut_none flushed e v p low puts =
    let none : get (put_cells empty e.number (cells_above flushed e.number e.batch.cells)) v ≡ None =
    ap (λ (c : Content). get c v) (put_cells-numbered empty e.number (cells_above flushed e.number e.batch.cells)) ∙ none_kept flushed e.number v low e.batch.cells in
    absurd (cc (sym none ∙ puts))

module _ (files : Files) (r : ℕ) (flushed : List ℕ → ℕ) (es : List Entry) (are : (f : List ℕ) → IsFlushed files r f (flushed f)) (unflushed : AreUnflushed files r es) (v : VersionKey) (p : Payload) where
  abbrev cells : Content
  cells = put_all (entries_cells flushed es)

  -- what the entries' cells put is unflushed, and all that is
  pub cells_unflushed : get cells v ≡ Some p → IsUnflushed files r v p
  cells_unflushed is =
      let h = (cut_has (cut_all flushed es) v p (cut_apart flushed es unflushed.apart)).0 (ap (λ (c : Content). get c v) (sym (put_entries_all flushed es empty)) ∙ is) in
      let c = in_cut flushed es h.0 h.1 in
      let puts : Puts (cut_entry flushed c.0) v p = subst (λ (d : Entry). Puts d v p) (sym c.2) h.2 in
      let e = unflushed.each c.0 c.1 in
      elim (cases_lt (flushed v.key.family) c.0.number) as (λ _. IsUnflushed files r v p) [
        | inl above ↦ record { entry = c.0; logged = e.0; region = e.1; above = λ n f. (let low = (are v.key.family).bound n f in omega (arith, low, above)); puts = (cut_puts flushed c.0 v p above).1 puts }
        | inr low ↦ absurd (cut_none flushed c.0 v p low puts)
      ]

  pub unflushed_cells : IsUnflushed files r v p → get cells v ≡ Some p
  unflushed_cells u =
      let above : flushed v.key.family < u.entry.number = elim (are v.key.family).reached as (λ _. flushed v.key.family < u.entry.number) [
        | inl f ↦ u.above (flushed v.key.family) f
        | inr zero ↦ (let given = logged_given files u.entry u.logged in omega (arith, zero, given))
      ] in
      let has = unflushed.all u.entry u.logged u.region (v.key.family, puts_family u.entry v p u.puts, λ n f. u.above n (subst (λ (q : ℕ). FlushesTo files q v.key.family n) u.region f)) in
      ap (λ (c : Content). get c v) (put_entries_all flushed es empty)
      ∙ (cut_has (cut_all flushed es) v p (cut_apart flushed es unflushed.apart)).1 (cut_entry flushed u.entry, to_cut flushed es u.entry has, (cut_puts flushed u.entry v p above).0 u.puts)

pub one_sort : OneSortGivesTheBase
one_sort files r flushed ss es are stores unflushed v p = (forth, back)
  where
    each : Each ss
    each x has = (stores.each x has).1.file.text.store.rising

    both : get (put_all (stores_cells ss ++ entries_cells flushed es)) v ≡ or_else (get (put_all (entries_cells flushed es)) v) (get (put_all (stores_cells ss)) v)
    both = ap (λ (c : Content). get c v) (put_numbered-append empty (stores_cells ss) (entries_cells flushed es)) ∙ get-put_numbered (put_all (stores_cells ss)) (entries_cells flushed es) v

    forth : get (put_all (stores_cells ss ++ entries_cells flushed es)) v ≡ Some p → IsRecovered files r v p
    forth is = elim (or_cases (get (put_all (entries_cells flushed es)) v) (get (put_all (stores_cells ss)) v) p (sym both ∙ is)) as (λ _. IsRecovered files r v p) [
      | inl new ↦ inr (cells_unflushed files r flushed es are unflushed v p new)
      | inr old ↦ (
          let h = got_newest ss v p each stores.rising old.1 in
          let f = stores.each h.at h.among in
          inl (record {
            name = f.0;
            store = h.at.1;
            file = f.1;
            holds = h.holds;
            newest = λ other s q file holds. (let low : other.number ≤ h.at.0 = h.last (other.number, s) q (stores.all other s file) holds in omega (arith, low, f.2));
          }))
    ]

    back : IsRecovered files r v p → get (put_all (stores_cells ss ++ entries_cells flushed es)) v ≡ Some p
    back (inl st) = both ∙ or_second (get (put_all (entries_cells flushed es)) v) (get (put_all (stores_cells ss)) v) p
        (elim (option_cases (get (put_all (entries_cells flushed es)) v)) as (λ _. get (put_all (entries_cells flushed es)) v ≡ None) [
          | inl none ↦ none
          | inr some ↦
              let u = cells_unflushed files r flushed es are unflushed v some.0 some.1 in
              let is_for = held_family r st.file.file.bytes st.store v p st.file.file.text st.holds in
              let above = u.above st.store.to (st.name, st.store, st.file, is_for, refl) in
              absurd (omega (arith, above, puts_number u.entry v some.0 u.puts, (held_range r st.file.file.bytes st.store v p st.file.file.text st.holds).1))
        ])
        (newest_got ss v p each stores.rising (record {
          at = (st.name.number, st.store);
          among = stores.all st.name st.store st.file;
          holds = st.holds;
          last = λ y q has holds. (let f = stores.each y has in let low : f.0.number ≤ st.name.number = st.newest f.0 y.1 q f.1 holds in omega (arith, low, f.2));
        }))
    back (inr u) = both ∙ or_first (get (put_all (entries_cells flushed es)) v) (get (put_all (stores_cells ss)) v) p (unflushed_cells files r flushed es are unflushed v p u)
