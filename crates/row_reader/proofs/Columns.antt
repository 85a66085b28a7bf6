-- What is kept of a column, as a pass goes from cell to cell.
use Rattle.std.proofs.Common.{◌≡◌, ℕ, Some, ◌-◌, ◌+◌, ◌⊎◌, ◌&&◌, ◌||◌, ◌==◌, not, nat_lt, Bool, true, false, cond, List, [], ◌∷◌, ◌++◌, length, filter, get_or, Contains, refl, sym, ap, ◌∙◌, subst, arith, inl, inr}
use Rattle.std.specs.List.{list_any}
use Rattle.std.specs.declared.cmp.Ordering.TheVariants.{Less}
use Rattle.std.proofs.lemmas.Bool.{and_parts, and_from, eqb-true, eq-eqb, lt-ltb, ltb-true, true≢false, false_from_ne_true, cases_Bool}
use Rattle.std.proofs.lemmas.List.Elements.{filter-append, Contains-append_cases, Contains-append_right}
use Rattle.std.proofs.lemmas.List.Folds.{list_any-append}
use Rattle.cell_model.specs.Order.{NumberedCell, numbered_cmp, version_of}
use Rattle.cell_model.specs.Merge.{IsRising}
use Rattle.mask_model.specs.Masked.{same, in_column, masks, hides, is_shown, count_in_column, first_versions}
use Rattle.mask_model.specs.Passing.{covered, deleted_in, held_in}
use Rattle.mask_model.proofs.Order.{Less_than, IsColumn, above, below, newer, column_between, same_itself}
use Rattle.mask_model.proofs.Passing.{some_there, same_bool, column_from, column_back, shown_in_one_pass}
use Rattle.mask_model.proofs.Limit.{first_versions_more}
use Rattle.row_reader.specs.Column.{Met, holds, fresh, shows, gives, passed, IsMet, IsReadyAt, IsPassedUpTo}
use Rattle.row_reader.proofs.Splits.{behind_none, one_there, IsEnding, before_seam, at_seam}
use Rattle.cell_model.proofs.OrderLaws.{version_cmp_total}
use Rattle.std.specs.Prelude.{if◌then◌else◌}
use Rattle.std.proofs.lemmas.List.{length-append}

-- ---- columns

to_column : (x y : NumberedCell) → IsColumn x y → in_column x.1 y.1 ≡ true
to_column x y c =
    (λ i. (same (c.of.row i) y.1.row && same (c.of.family i) y.1.family) && same (c.qualifier i) y.1.qualifier)
    ∙ and_from (same y.1.row y.1.row && same y.1.family y.1.family) _ (and_from (same y.1.row y.1.row) _ (same_itself y.1.row) (same_itself y.1.family)) (same_itself y.1.qualifier)

pub itself : (x : NumberedCell) → in_column x.1 x.1 ≡ true
itself x = to_column x x (record { of = record { row = refl; family = refl }; qualifier = refl })

joined : (x y z : NumberedCell) → IsColumn x y → IsColumn y z → IsColumn x z
joined x y z a b = record { of = record { row = a.of.row ∙ b.of.row; family = a.of.family ∙ b.of.family }; qualifier = a.qualifier ∙ b.qualifier }

deleted_alike : (before : List NumberedCell) (x y : NumberedCell) → IsColumn x y → deleted_in before x ≡ deleted_in before y
deleted_alike before x y c =
    λ i. list_any (λ (d : NumberedCell). d.1.kind == 12 && ((same d.1.row (c.of.row i) && same d.1.family (c.of.family i)) && same d.1.qualifier (c.qualifier i))) before

counted_alike : (cells : List NumberedCell) (x y : NumberedCell) → IsColumn x y → count_in_column x cells ≡ count_in_column y cells
counted_alike cells x y c =
    λ i. length (filter (λ (d : NumberedCell). (same d.1.row (c.of.row i) && same d.1.family (c.of.family i)) && same d.1.qualifier (c.qualifier i)) cells)

-- ---- where a column begins

none_there : {A : Type 0} (f : A → Bool) (xs : List A) → ((x : A) → Contains xs x → f x ≡ true → ⊥) → list_any f xs ≡ false
none_there f xs none = false_from_ne_true (list_any f xs) (λ e. let y = some_there f xs e in none y.0 y.1 y.2)

none_left : (p q : NumberedCell → Bool) (xs : List NumberedCell) → ((x : NumberedCell) → Contains xs x → p x ≡ true → ⊥) → filter p (filter q xs) ≡ []
none_left p q [] none = refl
none_left p q (x ∷ xs) none =
    let rest = none_left p q xs (λ y is. none y (Contains-append_right (x ∷ []) xs y is)) in
    let out = false_from_ne_true (p x) (none x (0, omega arith, refl)) in
    elim (cases_Bool (q x)) [
      | inl t ↦ ap (λ b. filter p (cond b (x ∷ filter q xs) (filter q xs))) t ∙ ap (λ b. cond b (x ∷ filter p (filter q xs)) (filter p (filter q xs))) out ∙ rest
      | inr f ↦ ap (λ b. filter p (cond b (x ∷ filter q xs) (filter q xs))) f ∙ rest
    ]

pub fresh_met : (v : ℕ) (cells before : List NumberedCell) (x : NumberedCell) (behind : NumberedCell → Type 0)
    → ((e : NumberedCell) → Contains before e → in_column e.1 x.1 ≡ true → ⊥) → IsMet v cells before x behind (fresh v)
fresh_met v cells before x behind none = record {
  deleted = none_there (λ d. d.1.kind == 12 && in_column d.1 x.1) before (λ d is e. none d is (and_parts (d.1.kind == 12) _ e).1);
  held = λ p c at. none_there (λ d. (d.1.kind == 8 || d.1.kind == 4) && (in_column d.1 p.1 && d.1.ts == p.1.ts)) before
      (λ d is e. none d is (to_column d x (joined d p x (column_from d p (and_parts (in_column d.1 p.1) _ (and_parts (d.1.kind == 8 || d.1.kind == 4) _ e).1).0) (column_back x p (column_from x p c)))));
  left = let empty : count_in_column x (filter (is_shown cells) before) ≡ 0 = ap length (none_left (λ y. in_column y.1 x.1) (is_shown cells) before none) in omega (arith, empty);
}

next_is_above : (front after : List NumberedCell) (y x : NumberedCell) → IsRising (front ++ y ∷ (x ∷ after)) → Less_than y x
next_is_above front after y x rises = above front (x ∷ after) y x rises (0, omega arith, refl)

-- none stands before a cell whose predecessor is of another column
pub none_before : (front after : List NumberedCell) (y x : NumberedCell) → IsRising (front ++ y ∷ (x ∷ after)) → in_column y.1 x.1 ≡ false
    → (e : NumberedCell) → Contains (front ++ y ∷ []) e → in_column e.1 x.1 ≡ true → ⊥
none_before front after y x rises apart e is same = elim (Contains-append_cases front (y ∷ []) e is) [
  | inl early ↦ (let between = column_between e y x (below front (x ∷ after) y e rises early) (next_is_above front after y x rises) (column_from e x same) in
      true≢false (sym (to_column y x (joined y e x (column_back e y between) (column_from e x same))) ∙ apart))
  | inr here ↦ true≢false (sym (subst (λ z. in_column z.1 x.1 ≡ true) (sym (one_there y e here)) same) ∙ apart)
]

-- ---- where it goes on

pub goes_on : (v : ℕ) (cells front after : List NumberedCell) (y x : NumberedCell) (m : Met) → IsRising (front ++ y ∷ (x ∷ after)) → in_column y.1 x.1 ≡ true
    → IsMet v cells (front ++ y ∷ []) y (λ p. numbered_cmp y p ≡ Less) m
    → IsMet v cells (front ++ y ∷ []) x (λ p. (x ≡ p) ⊎ (numbered_cmp x p ≡ Less)) m
goes_on v cells front after y x m rises of met =
    let c = column_from y x of in
    let step = next_is_above front after y x rises in
    record {
      deleted = deleted_alike (front ++ y ∷ []) x y (column_back y x c) ∙ met.deleted;
      held = λ p same at. met.held p (to_column y p (joined y x p c (column_from x p same))) (elim at as (λ _. numbered_cmp y p ≡ Less) [
        | inl is ↦ subst (λ z. numbered_cmp y z ≡ Less) is step
        | inr less ↦ version_cmp_total.trans (version_of y) (version_of x) (version_of p) step less
      ]);
      left = met.left ∙ ap (λ n. v - n) (counted_alike (filter (is_shown cells) (front ++ y ∷ [])) y x c);
    }

-- ---- at a place

abbrev or_behind : NumberedCell → NumberedCell → Type 0
or_behind x p = (x ≡ p) ⊎ (numbered_cmp x p ≡ Less)

pub at_first : (v : ℕ) (cells : List NumberedCell) (place : ℕ) → place ≡ 0 → IsReadyAt v cells place (fresh v)
at_first v cells place first before after x split here = fresh_met v cells before x (or_behind x) (λ e is same. omega (arith, is.1, here, first))

module _ (v : ℕ) (cells : List NumberedCell) (place : ℕ) (y z : NumberedCell) (rises : IsRising cells) (later : place ≡ 0 → ⊥)
    (y_is : y ≡ get_or cells (place - 1) y) (z_is : z ≡ get_or cells place z) where
  ends : (before after : List NumberedCell) (x : NumberedCell) → cells ≡ before ++ x ∷ after → length before ≡ place → IsEnding cells before after x y
  ends before after x split here = before_seam cells before after x y place (place - 1) split here (omega (arith, later)) y_is

  pub at_next : (m : Met) → in_column y.1 z.1 ≡ true → IsPassedUpTo v cells place m → IsReadyAt v cells place m
  at_next m of met before after x split here =
      let end = ends before after x split here in
      let of_x : in_column y.1 x.1 ≡ true = subst (λ (w : NumberedCell). in_column y.1 w.1 ≡ true) (at_seam cells before after x z place split here z_is) of in
      subst (λ b. IsMet v cells b x (or_behind x) m) (sym end.before_is)
      (goes_on v cells end.front after y x m (subst IsRising end.split rises) of_x (met end.front (x ∷ after) y end.split (omega (arith, end.long, here))))

  pub at_other : in_column y.1 z.1 ≡ false → IsReadyAt v cells place (fresh v)
  at_other apart before after x split here =
      let end = ends before after x split here in
      let from_x : in_column y.1 x.1 ≡ false = subst (λ (w : NumberedCell). in_column y.1 w.1 ≡ false) (at_seam cells before after x z place split here z_is) apart in
      fresh_met v cells before x (or_behind x)
      (λ e is same. none_before end.front after y x (subst IsRising end.split rises) from_x e (subst (λ b. Contains b e) end.before_is is) same)

-- ---- past a cell

plain : (b : Bool) → (b && true) || false ≡ b
plain true = refl
plain false = refl

bare : (a : Bool) → a || (false || false) ≡ a
bare true = refl
bare false = refl

absorbed : (a b : Bool) → (a ≡ true → b ≡ true) → a || (b || false) ≡ b
absorbed true b f = sym (f refl)
absorbed false true f = refl
absorbed false false f = refl

wanted : (count v : ℕ) → nat_lt 0 (v - count) ≡ nat_lt count v
wanted count v = same_bool (nat_lt 0 (v - count)) (nat_lt count v)
    (λ e. lt-ltb count v (omega (arith, ltb-true 0 (v - count) e)))
    (λ e. lt-ltb 0 (v - count) (omega (arith, ltb-true count v e)))

module _ (v : ℕ) (before after : List NumberedCell) (x : NumberedCell) (m : Met) (c : Bool) (rises : IsRising (before ++ x ∷ after))
    (met : IsMet v (before ++ x ∷ after) before x (λ p. (x ≡ p) ⊎ (numbered_cmp x p ≡ Less)) m) (covers : c ≡ covered (before ++ x ∷ after) x) where
  abbrev cells : List NumberedCell
  cells = before ++ x ∷ after

  pub shows_it : shows m c x.1 ≡ is_shown cells x
  shows_it = elim (cases_Bool (x.1.kind == 4)) [
    | inl put ↦ ap (λ b. b && not (c || (m.deleted || holds m.held x.1.ts))) put
        ∙ (λ i. not (covers i || (sym met.deleted i || sym (met.held x (itself x) (inl refl)) i)))
        ∙ sym (shown_in_one_pass before after x rises (eqb-true x.1.kind 4 put))
    | inr other ↦ ap (λ b. b && not (c || (m.deleted || holds m.held x.1.ts))) other
        ∙ sym (ap (λ b. b && (not (list_any (λ d. masks d.1 x.1) cells) && not (list_any (λ q. hides q x) cells))) other)
  ]

  shown_more : filter (is_shown cells) (before ++ x ∷ []) ≡ filter (is_shown cells) before ++ cond (shows m c x.1) (x ∷ []) []
  shown_more = filter-append (is_shown cells) before (x ∷ []) ∙ ap (λ b. filter (is_shown cells) before ++ cond b (x ∷ []) []) (sym shows_it)

  abbrev count : ℕ
  count = count_in_column x (filter (is_shown cells) before)

  one_more : count_in_column x (filter (is_shown cells) before ++ x ∷ []) ≡ count + 1
  one_more =
      ap length (filter-append (λ y. in_column y.1 x.1) (filter (is_shown cells) before) (x ∷ []))
      ∙ length-append (filter (λ y. in_column y.1 x.1) (filter (is_shown cells) before)) (cond (in_column x.1 x.1) (x ∷ []) [])
      ∙ ap (λ b. count + length (cond b (x ∷ []) [])) (itself x)

  left_now : (passed m c x.1).left ≡ v - count_in_column x (filter (is_shown cells) (before ++ x ∷ []))
  left_now = elim (cases_Bool (shows m c x.1)) [
    | inl shown ↦ (let counted : count_in_column x (filter (is_shown cells) (before ++ x ∷ [])) ≡ count + 1
        = ap (count_in_column x) (shown_more ∙ ap (λ b. filter (is_shown cells) before ++ cond b (x ∷ []) []) shown) ∙ one_more in
        ap (λ b. if b then m.left - 1 else m.left) shown ∙ omega (arith, met.left, counted))
    | inr not_shown ↦ (let counted : count_in_column x (filter (is_shown cells) (before ++ x ∷ [])) ≡ count
        = ap (count_in_column x) (shown_more ∙ ap (λ b. filter (is_shown cells) before ++ cond b (x ∷ []) []) not_shown ∙ behind_none (filter (is_shown cells) before)) in
        ap (λ b. if b then m.left - 1 else m.left) not_shown ∙ omega (arith, met.left, counted))
  ]

  -- where a put or delete before it has the timestamp of one after it, it has that timestamp itself
  same_ts : (p : NumberedCell) → in_column x.1 p.1 ≡ true → numbered_cmp x p ≡ Less → held_in before p ≡ true → x.1.ts == p.1.ts ≡ true
  same_ts p same less e =
      let d = some_there (λ d. (d.1.kind == 8 || d.1.kind == 4) && (in_column d.1 p.1 && d.1.ts == p.1.ts)) before e in
      let k = and_parts (in_column d.0.1 p.1) (d.0.1.ts == p.1.ts) (and_parts (d.0.1.kind == 8 || d.0.1.kind == 4) _ d.2).1 in
      let above_x = newer d.0 x (below before after x d.0 rises d.1) (joined d.0 p x (column_from d.0 p k.0) (column_back x p (column_from x p same))) in
      let below_x = newer x p less (column_from x p same) in
      eq-eqb x.1.ts p.1.ts (omega (arith, above_x.ts, below_x.ts, eqb-true d.0.1.ts p.1.ts k.1))

  held_now : (p : NumberedCell) → in_column x.1 p.1 ≡ true → numbered_cmp x p ≡ Less → held_in (before ++ x ∷ []) p ≡ holds (passed m c x.1).held p.1.ts
  held_now p same less =
      list_any-append (λ d. (d.1.kind == 8 || d.1.kind == 4) && (in_column d.1 p.1 && d.1.ts == p.1.ts)) before (x ∷ []) ∙ elim (cases_Bool (x.1.kind == 8 || x.1.kind == 4)) [
        | inl holder ↦ (λ i. held_in before p || ((holder i && (same i && x.1.ts == p.1.ts)) || false))
            ∙ absorbed (held_in before p) (x.1.ts == p.1.ts) (same_ts p same less)
            ∙ sym (ap (λ b. holds (if b then Some x.1.ts else m.held) p.1.ts) holder)
        | inr other ↦ (λ i. held_in before p || ((other i && (in_column x.1 p.1 && x.1.ts == p.1.ts)) || false))
            ∙ bare (held_in before p)
            ∙ met.held p same (inr less)
            ∙ sym (ap (λ b. holds (if b then Some x.1.ts else m.held) p.1.ts) other)
      ]

  pub past : IsMet v cells (before ++ x ∷ []) x (λ p. numbered_cmp x p ≡ Less) (passed m c x.1)
  past = record {
    deleted = list_any-append (λ d. d.1.kind == 12 && in_column d.1 x.1) before (x ∷ []) ∙ (λ i. met.deleted i || ((x.1.kind == 12 && itself x i) || false))
        ∙ ap (λ b. m.deleted || b) (plain (x.1.kind == 12));
    held = held_now;
    left = left_now;
  }

  pub given_more : first_versions v [] (filter (is_shown cells) (before ++ x ∷ [])) ≡ first_versions v [] (filter (is_shown cells) before) ++ cond (gives m c x.1) (x ∷ []) []
  given_more = elim (cases_Bool (shows m c x.1)) [
    | inl shown ↦ ap (first_versions v []) (shown_more ∙ ap (λ b. filter (is_shown cells) before ++ cond b (x ∷ []) []) shown)
        ∙ first_versions_more v [] (filter (is_shown cells) before) x
        ∙ ap (λ b. first_versions v [] (filter (is_shown cells) before) ++ cond b (x ∷ []) []) (sym (ap (λ n. nat_lt 0 n) met.left ∙ wanted count v) ∙ sym (ap (λ b. b && nat_lt 0 m.left) shown))
    | inr not_shown ↦ ap (first_versions v []) (shown_more ∙ ap (λ b. filter (is_shown cells) before ++ cond b (x ∷ []) []) not_shown ∙ behind_none (filter (is_shown cells) before))
        ∙ sym (behind_none (first_versions v [] (filter (is_shown cells) before)))
        ∙ ap (λ b. first_versions v [] (filter (is_shown cells) before) ++ cond (b && nat_lt 0 m.left) (x ∷ []) []) (sym not_shown)
  ]
