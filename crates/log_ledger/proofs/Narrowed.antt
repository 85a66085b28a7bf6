-- What an entry puts of the cells whose family passes a test.
use Rattle.std.proofs.Common.{◌≡◌, inl, inr, ℕ, Bool, true, cond, List, [], ◌∷◌, map, filter, Contains, Some, refl, sym, ap, ◌∙◌, subst}
use Rattle.std.specs.FinMap.{get, insert, empty, get-insert}
use Rattle.std.specs.Ordering.{eq_by_cmp, is_eq}
use Rattle.std.specs.declared.cmp.Ordering.{Ordering}
use Rattle.std.specs.declared.cmp.Ordering.TheVariants.{Less, Equal, Greater}
use Rattle.std.proofs.lemmas.Bool.{cases_Bool}
use Rattle.cell_model.specs.Cell.{Cell}
use Rattle.cell_model.specs.Order.{VersionKey, Payload, Content, version_cmp, key_of, payload_of, put_cells}
use Rattle.cell_model.proofs.OrderLaws.{version_cmp_total, version_cmp_exact}
use Rattle.log_model.specs.Entry.{Entry}
use Rattle.log_model.specs.Recovered.{Puts}
use Rattle.recovery_laws.specs.Kept.{AreApart}
use Rattle.recovery_laws.proofs.Contents.{puts_family}
use Rattle.log_ledger.proofs.Chains.{none_at, at_first, at_later, at_either}
use Rattle.log_ledger.proofs.Filters.{in_filter}

is_equal : (o : Ordering) → is_eq o ≡ true → o ≡ Equal
is_equal Less e = absurd cc
is_equal Equal e = refl
is_equal Greater e = absurd cc

same_cells : (cs : List Cell) (m k : Content) (n : ℕ) (v : VersionKey) → get m v ≡ get k v → get (put_cells m n cs) v ≡ get (put_cells k n cs) v
same_cells [] m k n v same = same
same_cells (c ∷ cs) m k n v same =
    let key : VersionKey = record { key = key_of c; number = n } in
    same_cells cs (insert m key (payload_of c)) (insert k key (payload_of c)) n v
    (get-insert version_cmp_total m key (payload_of c) v ∙ ap (λ o. cond (eq_by_cmp version_cmp v key) (Some (payload_of c)) o) same ∙ sym (get-insert version_cmp_total k key (payload_of c) v))

-- the entry with the cells whose family passes
abbrev pub narrow : (Entry → List ℕ → Bool) → Entry → Entry
narrow t e = record { region = e.region; number = e.number; time = e.time; batch = record { table = e.batch.table; cells = filter (λ c. t e c.family) e.batch.cells } }

-- a cell of another family puts nothing here
passed_over : (c : Cell) (m : Content) (n : ℕ) (v : VersionKey) → (c.family ≡ v.key.family → ⊥) → get (insert m (record { key = key_of c; number = n }) (payload_of c)) v ≡ get m v
passed_over c m n v other = get-insert version_cmp_total m (record { key = key_of c; number = n }) (payload_of c) v ∙ elim (cases_Bool (eq_by_cmp version_cmp v (record { key = key_of c; number = n }))) as
    (λ _. cond (eq_by_cmp version_cmp v (record { key = key_of c; number = n })) (Some (payload_of c)) (get m v) ≡ get m v) [
      | inl same ↦ absurd (other (sym (ap (λ (w : VersionKey). w.key.family) (version_cmp_exact v (record { key = key_of c; number = n }) (is_equal (version_cmp v (record { key = key_of c; number = n })) same)))))
      | inr differ ↦ ap (λ b. cond b (Some (payload_of c)) (get m v)) differ
    ]

-- the cells whose family passes put the same of a family that does
filtered : (t : List ℕ → Bool) (cs : List Cell) (m : Content) (n : ℕ) (v : VersionKey) → t v.key.family ≡ true → get (put_cells m n (filter (λ (c : Cell). t c.family) cs)) v ≡ get (put_cells m n cs) v
filtered t [] m n v passes = refl
filtered t (c ∷ cs) m n v passes = elim (cases_Bool (t c.family)) as (λ _. get (put_cells m n (filter (λ (d : Cell). t d.family) (c ∷ cs))) v ≡ get (put_cells m n (c ∷ cs)) v) [
  | inl is ↦ ap (λ (b : Bool). get (put_cells m n (cond b (c ∷ filter (λ (d : Cell). t d.family) cs) (filter (λ (d : Cell). t d.family) cs))) v) is
      ∙ filtered t cs (insert m (record { key = key_of c; number = n }) (payload_of c)) n v passes
  | inr not ↦ ap (λ (b : Bool). get (put_cells m n (cond b (c ∷ filter (λ (d : Cell). t d.family) cs) (filter (λ (d : Cell). t d.family) cs))) v) not
      ∙ filtered t cs m n v passes
      ∙ same_cells cs m (insert m (record { key = key_of c; number = n }) (payload_of c)) n v (sym (passed_over c m n v (λ same. absurd (cc (sym not ∙ ap t same ∙ passes)))))
]

pub narrow_puts : (t : Entry → List ℕ → Bool) (e : Entry) (v : VersionKey) (p : Payload) → Puts (narrow t e) v p → Puts e v p × (t e v.key.family ≡ true)
narrow_puts t e v p puts =
    let has = puts_family (narrow t e) v p puts in
    let passes : t e v.key.family ≡ true = ap (t e) (sym has.2) ∙ (in_filter (λ (c : Cell). t e c.family) e.batch.cells has.0 has.1).1 in
    (sym (filtered (t e) e.batch.cells empty e.number v passes) ∙ puts, passes)

pub puts_narrow : (t : Entry → List ℕ → Bool) (e : Entry) (v : VersionKey) (p : Payload) → Puts e v p → t e v.key.family ≡ true → Puts (narrow t e) v p
puts_narrow t e v p puts passes = filtered (t e) e.batch.cells empty e.number v passes ∙ puts

pub in_narrow : (t : Entry → List ℕ → Bool) (es : List Entry) (d : Entry) → Contains (map (narrow t) es) d → (e : Entry) × Contains es e × (narrow t e ≡ d)
in_narrow t [] d has = absurd (none_at d has)
in_narrow t (e ∷ es) d has = elim (at_either (narrow t e) (map (narrow t) es) d has) as (λ _. (x : Entry) × Contains (e ∷ es) x × (narrow t x ≡ d)) [
  | inl is ↦ (e, at_first e es, is)
  | inr later ↦ (let more = in_narrow t es d later in (more.0, at_later e es more.0 more.1, more.2))
]

pub narrow_in : (t : Entry → List ℕ → Bool) (es : List Entry) (e : Entry) → Contains es e → Contains (map (narrow t) es) (narrow t e)
narrow_in t [] e has = absurd (none_at e has)
narrow_in t (d ∷ es) e has = elim (at_either d es e has) as (λ _. Contains (map (narrow t) (d ∷ es)) (narrow t e)) [
  | inl is ↦ subst (λ (x : Entry). Contains (map (narrow t) (d ∷ es)) (narrow t x)) is (at_first (narrow t d) (map (narrow t) es))
  | inr later ↦ at_later (narrow t d) (map (narrow t) es) (narrow t e) (narrow_in t es e later)
]

pub apart_narrow : (t : Entry → List ℕ → Bool) (es : List Entry) → AreApart es → AreApart (map (narrow t) es)
apart_narrow t [] apart = tt
apart_narrow t (e ∷ es) apart = ((λ d has same. let found = in_narrow t es d has in apart.0 found.0 found.1 (ap (λ (x : Entry). x.number) found.2 ∙ same)), apart_narrow t es apart.1)
