-- Whether a put is shown is told by the deletes of its family and by the cells of its column that stand before it, in one pass.
use Rattle.std.proofs.Common.{◌≡◌, zero, suc, ◌&&◌, ◌||◌, ◌==◌, not, nat_le, nat_lt, Bool, true, false, List, [], ◌∷◌, ◌++◌, Contains, refl, sym, ap, ◌∙◌, subst, arith, inl, inr}
use Rattle.std.specs.List.{list_any}
use Rattle.std.proofs.lemmas.Bool.{and_parts, and_from, or_cases, or_left, or_right, eqb-true, eq-eqb, leb-true, le-leb, lt-ltb, ltb-true, false_from_ne_true, true≢false, cases_Bool}
use Rattle.std.proofs.lemmas.List.Elements.{Contains-append_cases, Contains-append_left, Contains-append_right}
use Rattle.cell_model.specs.Order.{NumberedCell}
use Rattle.cell_model.specs.Merge.{IsRising}
use Rattle.mask_model.specs.Masked.{same, in_family, in_column, by_delete_family, by_delete_family_version, by_delete_column, by_delete, masks, hides, is_shown}
use Rattle.mask_model.specs.Passing.{covered, deleted_in, held_in}
use Rattle.mask_model.proofs.Order.{Less_than, IsFamily, IsColumn, above, below, newer, equal_from}

-- ---- tests of lists

pub some_there : {A : Type 0} (f : A → Bool) (xs : List A) → list_any f xs ≡ true → (x : A) × Contains xs x × (f x ≡ true)
some_there f [] e = absurd cc
some_there f (x ∷ xs) e = elim (or_cases (f x) (list_any f xs) e) [
  | inl here ↦ (x, (0, omega arith, refl), here)
  | inr later ↦ (let y = some_there f xs later in (y.0, Contains-append_right (x ∷ []) xs y.0 y.1, y.2))
]

pub is_there : {A : Type 0} (f : A → Bool) (xs : List A) (x : A) → Contains xs x → f x ≡ true → list_any f xs ≡ true
is_there f [] x is e = absurd (omega (arith, is.1))
is_there f (y ∷ xs) x (zero, lt, s) e = or_left (f y) (list_any f xs) (subst (λ z. f z ≡ true) (sym s) e)
is_there f (y ∷ xs) x (suc k, lt, s) e = or_right (f y) (list_any f xs) (is_there f xs x (k, omega (arith, lt), s) e)

pub same_bool : (a b : Bool) → (a ≡ true → b ≡ true) → (b ≡ true → a ≡ true) → a ≡ b
same_bool a b f g = elim (cases_Bool a) [
  | inl holds ↦ holds ∙ sym (f holds)
  | inr fails ↦ fails ∙ sym (false_from_ne_true b (λ e. true≢false (sym (g e) ∙ fails)))
]

-- ---- families and columns, told by their tests

pub family_from : (x y : NumberedCell) → in_family x.1 y.1 ≡ true → IsFamily x y
family_from x y e = let p = and_parts (same x.1.row y.1.row) (same x.1.family y.1.family) e in record { row = equal_from x.1.row y.1.row p.0; family = equal_from x.1.family y.1.family p.1 }

pub column_from : (x y : NumberedCell) → in_column x.1 y.1 ≡ true → IsColumn x y
column_from x y e = let p = and_parts (in_family x.1 y.1) (same x.1.qualifier y.1.qualifier) e in record { of = family_from x y p.0; qualifier = equal_from x.1.qualifier y.1.qualifier p.1 }

pub column_back : (x y : NumberedCell) → IsColumn x y → IsColumn y x
column_back x y c = record { of = record { row = sym c.of.row; family = sym c.of.family }; qualifier = sym c.qualifier }

module _ (before after : List NumberedCell) (p : NumberedCell) (rises : IsRising (before ++ p ∷ after)) (put : p.1.kind ≡ 4) where
  abbrev all : List NumberedCell
  all = before ++ p ∷ after

  -- where a cell of the list stands
  data Stands (d : NumberedCell) : Type 0 where
    Earlier : Contains before d → Less_than d p → Stands d
    Itself : p ≡ d → Stands d
    Later : Less_than p d → Stands d

  place : (d : NumberedCell) → Contains all d → Stands d
  place d is = elim (Contains-append_cases before (p ∷ after) d is) [
    | inl front ↦ Earlier front (below before after p d rises front)
    | inr rest ↦ elim (Contains-append_cases (p ∷ []) after d rest) [
      | inl here ↦ Itself (one p d here)
      | inr back ↦ Later (above before after p d rises back)
    ]
  ]
    where
      one : (p d : NumberedCell) → Contains (p ∷ []) d → p ≡ d
      one p d (zero, lt, e) = e
      one p d (suc k, lt, e) = absurd (omega (arith, lt))

  abbrev blocked : Bool
  blocked = covered all p || (deleted_in before p || held_in before p)

  by_column_blocks : (d : NumberedCell) → Contains all d → by_delete_column d.1 p.1 ≡ true → deleted_in before p ≡ true
  by_column_blocks d is e =
      let k = and_parts (d.1.kind == 12) (in_column d.1 p.1 && nat_le p.1.ts d.1.ts) e in
      let c = and_parts (in_column d.1 p.1) (nat_le p.1.ts d.1.ts) k.1 in
      elim (place d is) as (λ _. deleted_in before p ≡ true) [
        | Earlier front lt ↦ is_there _ before d front (and_from (d.1.kind == 12) (in_column d.1 p.1) k.0 c.0)
        | Itself e ↦ absurd (omega (arith, put, eqb-true d.1.kind 12 k.0, ap (λ (z : NumberedCell). z.1.kind) e))
        | Later lt ↦ (let n = newer p d lt (column_back d p (column_from d p c.0)) in
            absurd (omega (arith, put, eqb-true d.1.kind 12 k.0, n.kind (omega (arith, n.ts, leb-true p.1.ts d.1.ts c.1)))))
      ]

  by_delete_blocks : (d : NumberedCell) → Contains all d → by_delete d.1 p.1 ≡ true → held_in before p ≡ true
  by_delete_blocks d is e =
      let k = and_parts (d.1.kind == 8) (in_column d.1 p.1 && d.1.ts == p.1.ts) e in
      let c = and_parts (in_column d.1 p.1) (d.1.ts == p.1.ts) k.1 in
      elim (place d is) as (λ _. held_in before p ≡ true) [
        | Earlier front lt ↦ is_there _ before d front (and_from (d.1.kind == 8 || d.1.kind == 4) (in_column d.1 p.1 && d.1.ts == p.1.ts) (or_left (d.1.kind == 8) (d.1.kind == 4) k.0) k.1)
        | Itself e ↦ absurd (omega (arith, put, eqb-true d.1.kind 8 k.0, ap (λ (z : NumberedCell). z.1.kind) e))
        | Later lt ↦ (let n = newer p d lt (column_back d p (column_from d p c.0)) in
            absurd (omega (arith, put, eqb-true d.1.kind 8 k.0, n.kind (eqb-true d.1.ts p.1.ts c.1))))
      ]

  hides_blocks : (q : NumberedCell) → Contains all q → hides q p ≡ true → held_in before p ≡ true
  hides_blocks q is e =
      let k = and_parts (q.1.kind == 4) (in_column q.1 p.1 && (q.1.ts == p.1.ts && nat_lt p.0 q.0)) e in
      let c = and_parts (in_column q.1 p.1) (q.1.ts == p.1.ts && nat_lt p.0 q.0) k.1 in
      let t = and_parts (q.1.ts == p.1.ts) (nat_lt p.0 q.0) c.1 in
      let lt = ltb-true p.0 q.0 t.1 in
      elim (place q is) as (λ _. held_in before p ≡ true) [
        | Earlier front less ↦ is_there _ before q front (and_from (q.1.kind == 8 || q.1.kind == 4) (in_column q.1 p.1 && q.1.ts == p.1.ts) (or_right (q.1.kind == 8) (q.1.kind == 4) k.0) (and_from (in_column q.1 p.1) (q.1.ts == p.1.ts) c.0 t.0))
        | Itself e ↦ absurd (omega (arith, lt, ap (λ (z : NumberedCell). z.0) e))
        | Later less ↦ (let n = newer p q less (column_back q p (column_from q p c.0)) in
            absurd (omega (arith, lt, n.number (eqb-true q.1.ts p.1.ts t.0) (eqb-true q.1.kind 4 k.0 ∙ sym put))))
      ]

  -- what masks or hides the put blocks it
  masked_is_blocked : list_any (λ d. masks d.1 p.1) all || list_any (λ q. hides q p) all ≡ true → blocked ≡ true
  masked_is_blocked e = elim (or_cases (list_any (λ d. masks d.1 p.1) all) (list_any (λ q. hides q p) all) e) [
    | inl some ↦ (let d = some_there (λ d. masks d.1 p.1) all some in of_mask d.0 d.1 d.2)
    | inr some ↦ (let q = some_there (λ q. hides q p) all some in or_right (covered all p) (deleted_in before p || held_in before p) (or_right (deleted_in before p) (held_in before p) (hides_blocks q.0 q.1 q.2)))
  ]
    where
      covers : (d : NumberedCell) → Contains all d → by_delete_family d.1 p.1 || by_delete_family_version d.1 p.1 ≡ true → blocked ≡ true
      covers d is e = or_left (covered all p) (deleted_in before p || held_in before p) (is_there (λ d. by_delete_family d.1 p.1 || by_delete_family_version d.1 p.1) all d is e)

      of_mask : (d : NumberedCell) → Contains all d → masks d.1 p.1 ≡ true → blocked ≡ true
      of_mask d is e = elim (or_cases (by_delete_family d.1 p.1) (by_delete_family_version d.1 p.1 || (by_delete_column d.1 p.1 || by_delete d.1 p.1)) e) [
        | inl family ↦ covers d is (or_left (by_delete_family d.1 p.1) (by_delete_family_version d.1 p.1) family)
        | inr other ↦ elim (or_cases (by_delete_family_version d.1 p.1) (by_delete_column d.1 p.1 || by_delete d.1 p.1) other) [
          | inl version ↦ covers d is (or_right (by_delete_family d.1 p.1) (by_delete_family_version d.1 p.1) version)
          | inr column ↦ or_right (covered all p) (deleted_in before p || held_in before p) (elim (or_cases (by_delete_column d.1 p.1) (by_delete d.1 p.1) column) as (λ _. deleted_in before p || held_in before p ≡ true) [
            | inl a ↦ or_left (deleted_in before p) (held_in before p) (by_column_blocks d is a)
            | inr b ↦ or_right (deleted_in before p) (held_in before p) (by_delete_blocks d is b)
          ])
        ]
      ]

  in_all : (d : NumberedCell) → Contains before d → Contains all d
  in_all d is = Contains-append_left before (p ∷ after) d is

  -- and what blocks it masks or hides it
  blocked_is_masked : blocked ≡ true → list_any (λ d. masks d.1 p.1) all || list_any (λ q. hides q p) all ≡ true
  blocked_is_masked e = elim (or_cases (covered all p) (deleted_in before p || held_in before p) e) [
    | inl some ↦ (let d = some_there (λ d. by_delete_family d.1 p.1 || by_delete_family_version d.1 p.1) all some in masked_by d.0 d.1 (by_either d.0 d.2))
    | inr other ↦ elim (or_cases (deleted_in before p) (held_in before p) other) [
      | inl some ↦ (let d = some_there (λ d. d.1.kind == 12 && in_column d.1 p.1) before some in
          let k = and_parts (d.0.1.kind == 12) (in_column d.0.1 p.1) d.2 in
          let n = newer d.0 p (below before after p d.0 rises d.1) (column_from d.0 p k.1) in
          masked_by d.0 (in_all d.0 d.1) (or_right (by_delete_family d.0.1 p.1) _ (or_right (by_delete_family_version d.0.1 p.1) _ (or_left (by_delete_column d.0.1 p.1) (by_delete d.0.1 p.1)
          (and_from (d.0.1.kind == 12) (in_column d.0.1 p.1 && nat_le p.1.ts d.0.1.ts) k.0 (and_from (in_column d.0.1 p.1) (nat_le p.1.ts d.0.1.ts) k.1 (le-leb p.1.ts d.0.1.ts n.ts)))))))
      | inr some ↦ (let d = some_there (λ d. (d.1.kind == 8 || d.1.kind == 4) && (in_column d.1 p.1 && d.1.ts == p.1.ts)) before some in
          let k = and_parts (d.0.1.kind == 8 || d.0.1.kind == 4) (in_column d.0.1 p.1 && d.0.1.ts == p.1.ts) d.2 in
          let c = and_parts (in_column d.0.1 p.1) (d.0.1.ts == p.1.ts) k.1 in
          let n = newer d.0 p (below before after p d.0 rises d.1) (column_from d.0 p c.0) in
          elim (or_cases (d.0.1.kind == 8) (d.0.1.kind == 4) k.0) [
            | inl eight ↦ masked_by d.0 (in_all d.0 d.1) (or_right (by_delete_family d.0.1 p.1) _ (or_right (by_delete_family_version d.0.1 p.1) _ (or_right (by_delete_column d.0.1 p.1) (by_delete d.0.1 p.1) (and_from (d.0.1.kind == 8) (in_column d.0.1 p.1 && d.0.1.ts == p.1.ts) eight k.1))))
            | inr four ↦ or_right (list_any (λ d. masks d.1 p.1) all) (list_any (λ q. hides q p) all) (is_there (λ q. hides q p) all d.0 (in_all d.0 d.1)
                (and_from (d.0.1.kind == 4) _ four (and_from (in_column d.0.1 p.1) _ c.0 (and_from (d.0.1.ts == p.1.ts) (nat_lt p.0 d.0.0) c.1
                (lt-ltb p.0 d.0.0 (n.number (sym (eqb-true d.0.1.ts p.1.ts c.1)) (put ∙ sym (eqb-true d.0.1.kind 4 four))))))))
          ])
    ]
  ]
    where
      masked_by : (d : NumberedCell) → Contains all d → masks d.1 p.1 ≡ true → list_any (λ d. masks d.1 p.1) all || list_any (λ q. hides q p) all ≡ true
      masked_by d is e = or_left (list_any (λ d. masks d.1 p.1) all) (list_any (λ q. hides q p) all) (is_there (λ d. masks d.1 p.1) all d is e)

      by_either : (d : NumberedCell) → by_delete_family d.1 p.1 || by_delete_family_version d.1 p.1 ≡ true → masks d.1 p.1 ≡ true
      by_either d e = elim (or_cases (by_delete_family d.1 p.1) (by_delete_family_version d.1 p.1) e) [
        | inl family ↦ or_left (by_delete_family d.1 p.1) _ family
        | inr version ↦ or_right (by_delete_family d.1 p.1) _ (or_left (by_delete_family_version d.1 p.1) (by_delete_column d.1 p.1 || by_delete d.1 p.1) version)
      ]

  -- The put is shown exactly where no delete of its family covers it, and no cell of its column that stands before it deletes or holds it.
  pub shown_in_one_pass : is_shown all p ≡ not blocked
  shown_in_one_pass = ap (λ b. b && (not (list_any (λ d. masks d.1 p.1) all) && not (list_any (λ q. hides q p) all))) (eq-eqb p.1.kind 4 put)
      ∙ neither (list_any (λ d. masks d.1 p.1) all) (list_any (λ q. hides q p) all) ∙ ap not (same_bool _ blocked masked_is_blocked blocked_is_masked)
    where
      neither : (a b : Bool) → not a && not b ≡ not (a || b)
      neither true b = refl
      neither false b = refl
