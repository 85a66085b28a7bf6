-- Worked examples of store files, which the check computes.
use Rattle.std.proofs.Common.{◌≡◌, ◌≢◌, ℕ, ◌<◌, ◌≤◌, ◌⊎◌, inl, inr, List, [], ◌∷◌, ◌++◌, length, Some, None, Contains, zero, suc, refl, sym, ap, ◌∙◌, subst, arith, get_or}
use Rattle.cell_model.specs.Cell.{Cell, spelling, tagged_spelling, number_at}
use Rattle.std.specs.FinMap.{get-insert, empty}
use Rattle.cell_model.specs.Order.{NumberedCell, VersionKey, Payload, key_of, payload_of, put_cells, version_of}
use Rattle.cell_model.proofs.OrderLaws.{version_cmp_total}
use Rattle.cell_model.specs.declared.form.Form.TheVariants.{Plain, Tagged}
use Rattle.log_model.specs.declared.name.Name.{Name}
use Rattle.log_model.specs.declared.name.NameKind.TheVariants as kinds
use Rattle.log_model.specs.Entry.{Entry}
use Rattle.log_model.specs.StoreText.{Store, form_at, store_text, field_fault}
use Rattle.log_model.specs.Files.{Files, IsLogged, IsStoreFile}
use Rattle.log_model.specs.Recovered.{IsCounting, IsFor, FlushesTo, IsFlushed, IsWhole, IsSeen, IsLast, HasFamily, Holds, IsStored, Puts, IsUnflushed, IsRecovered, IsWhollyFlushed}

-- ---- bytes

-- a put of r q at 1 with the value v, of this family
abbrev cell_of : List ℕ → Cell
cell_of family = record { row = 114 ∷ []; family = family; qualifier = 113 ∷ []; ts = 1; kind = 4; value = 118 ∷ []; tags = [] }

-- the family f of region 1, from 1 to 2, with one cell of the edit 2
abbrev of_f : Store
of_f = record { region = 1; scope = 0; family = 102 ∷ []; from = 1; to = 2; cells = (2, cell_of (102 ∷ [])) ∷ [] }

-- gate, `HWS2`, region, scope, the family's length and the family, the two sequence ids, the count, and the pair with no tags
text_of_f : store_text Tagged of_f ≡ 165 ∷ 72 ∷ 87 ∷ 83 ∷ 50 ∷ 0 ∷ 0 ∷ 0 ∷ 1 ∷ 0 ∷ 1 ∷ 102 ∷ 0 ∷ 0 ∷ 0 ∷ 0 ∷ 0 ∷ 0 ∷ 0 ∷ 1 ∷ 0 ∷ 0 ∷ 0 ∷ 0 ∷ 0 ∷ 0 ∷ 0 ∷ 2 ∷ 0 ∷ 0 ∷ 0 ∷ 0 ∷ 0 ∷ 0 ∷ 0 ∷ 1 ∷ 0 ∷ 0 ∷ 0 ∷ 0 ∷ 0 ∷ 0 ∷ 0 ∷ 2 ∷ 0 ∷ 0 ∷ 0 ∷ 15 ∷ 0 ∷ 0 ∷ 0 ∷ 1 ∷ 0 ∷ 1 ∷ 114 ∷ 1 ∷ 102 ∷ 113 ∷ 0 ∷ 0 ∷ 0 ∷ 0 ∷ 0 ∷ 0 ∷ 0 ∷ 1 ∷ 4 ∷ 118 ∷ 0 ∷ 0 ∷ []
unfolding store_text spelling tagged_spelling
text_of_f = refl

-- nothing is wrong with its fields, in region 1
right_fields : field_fault 1 (store_text Tagged of_f) ≡ None
unfolding store_text spelling tagged_spelling field_fault form_at number_at
right_fields = refl

-- a text of the former format is right too
former_fields : field_fault 1 (165 ∷ 72 ∷ 87 ∷ 83 ∷ 49 ∷ 0 ∷ 0 ∷ 0 ∷ 1 ∷ 0 ∷ 0 ∷ 0 ∷ 0 ∷ 0 ∷ 0 ∷ 0 ∷ 1 ∷ 0 ∷ 0 ∷ 0 ∷ 0 ∷ 0 ∷ 0 ∷ 0 ∷ 2 ∷ 0 ∷ 0 ∷ 0 ∷ 0 ∷ 0 ∷ 0 ∷ 0 ∷ 0 ∷ []) ≡ None
unfolding field_fault form_at number_at
former_fields = refl

-- a third format
third_format : field_fault 1 (165 ∷ 72 ∷ 87 ∷ 83 ∷ 51 ∷ 0 ∷ 0 ∷ 0 ∷ 1 ∷ []) ≡ Some 1
unfolding field_fault form_at number_at
third_format = refl

-- a scope above 1, and one of 1 with a family
wide_scope : field_fault 1 (165 ∷ 72 ∷ 87 ∷ 83 ∷ 50 ∷ 0 ∷ 0 ∷ 0 ∷ 1 ∷ 2 ∷ 0 ∷ []) ≡ Some 9
unfolding field_fault form_at number_at
wide_scope = refl

scope_of_a_family : field_fault 1 (165 ∷ 72 ∷ 87 ∷ 83 ∷ 50 ∷ 0 ∷ 0 ∷ 0 ∷ 1 ∷ 1 ∷ 1 ∷ 102 ∷ []) ≡ Some 10
unfolding field_fault form_at number_at
scope_of_a_family = refl

-- a family that is too long, one that isn't whole, and flushed-from after it
long_family : field_fault 1 (165 ∷ 72 ∷ 87 ∷ 83 ∷ 50 ∷ 0 ∷ 0 ∷ 0 ∷ 1 ∷ 0 ∷ 128 ∷ 102 ∷ []) ≡ Some 10
unfolding field_fault form_at number_at
long_family = refl

cut_family : field_fault 1 (165 ∷ 72 ∷ 87 ∷ 83 ∷ 50 ∷ 0 ∷ 0 ∷ 0 ∷ 1 ∷ 0 ∷ 2 ∷ 102 ∷ []) ≡ Some 11
unfolding field_fault form_at number_at
cut_family = refl

from_zero_behind : field_fault 1 (165 ∷ 72 ∷ 87 ∷ 83 ∷ 50 ∷ 0 ∷ 0 ∷ 0 ∷ 1 ∷ 0 ∷ 1 ∷ 102 ∷ 0 ∷ 0 ∷ 0 ∷ 0 ∷ 0 ∷ 0 ∷ 0 ∷ 0 ∷ []) ≡ Some 12
unfolding field_fault form_at number_at
from_zero_behind = refl

-- ---- which stores count

-- a store of the scope 1 replaces those with lower numbers
replaced : (files : Files) (r : ℕ) (low high : Name) (s t : Store) → IsCounting files r low s → IsStoreFile files r high t → t.scope ≡ 1 → low.number < high.number → ⊥
replaced files r low high s t counts file one lower = omega (arith, counts.stands high t file one, lower)

-- what is flushed of the whole region is flushed of each family
whole_for_all : (files : Files) (r n : ℕ) (f : List ℕ) → FlushesTo files r [] n → FlushesTo files r f n
whole_for_all files r n f (name, s, counts, inl none, to) = (name, s, counts, inl none, to)
whole_for_all files r n f (name, s, counts, inr none, to) = (name, s, counts, inl none, to)

-- ---- a put of the families f and g, a put of f, and a flush of f

abbrev store_1 : Name
store_1 = record { kind = kinds.Store; region = 1; number = 1 }

abbrev first_put : Entry
first_put = record { region = 1; number = 1; time = 1000; batch = record { table = []; cells = cell_of (102 ∷ []) ∷ cell_of (103 ∷ []) ∷ [] } }

abbrev second_put : Entry
second_put = record { region = 1; number = 2; time = 1000; batch = record { table = []; cells = cell_of (102 ∷ []) ∷ [] } }

abbrev flushed_f : Store
flushed_f = record { region = 1; scope = 0; family = 102 ∷ []; from = 1; to = 2; cells = (2, cell_of (102 ∷ [])) ∷ (1, cell_of (102 ∷ [])) ∷ [] }

record After (files : Files) : Type 0 where
  pub store : IsStoreFile files 1 store_1 flushed_f
  pub no_other : (name : Name) (s : Store) → IsStoreFile files 1 name s → (name ≡ store_1) × (s ≡ flushed_f)
  pub first : IsLogged files first_put
  pub second : IsLogged files second_put
  pub no_more : (e : Entry) → IsLogged files e → (e ≡ first_put) ⊎ (e ≡ second_put)

it_counts : (files : Files) → After files → IsCounting files 1 store_1 flushed_f
it_counts files h = record { file = h.store; stands = λ other t file one. absurd (let scope : t.scope ≡ 0 = ap (λ (s : Store). s.scope) (h.no_other other t file).1 in omega (arith, scope, one)) }

family_is : (files : Files) (name : Name) (s : Store) → After files → IsStoreFile files 1 name s → (s.family ≡ 102 ∷ []) × (s.to ≡ 2)
family_is files name s h file = (ap (λ (t : Store). t.family) (h.no_other name s file).1, ap (λ (t : Store). t.to) (h.no_other name s file).1)

not_for : (s f : List ℕ) → s ≡ 102 ∷ [] → IsFor s f → f ≡ 102 ∷ []
not_for s f is (inl none) = let h : 1 ≡ 0 = ap length (sym is ∙ none) in absurd (omega (arith, h))
not_for s f is (inr same) = sym same ∙ is

-- f is flushed up to 2, g and the whole region aren't, and the last sequence id is 2
flushed_of_f : (files : Files) → After files → IsFlushed files 1 (102 ∷ []) 2
flushed_of_f files h = record { reached = inl (store_1, flushed_f, it_counts files h, inr refl, refl); bound = λ m g. omega (arith, sym g.4, (family_is files g.0 g.1 h g.2.file).1) }

none_of : (files : Files) (f : List ℕ) → After files → f ≢ 102 ∷ [] → IsFlushed files 1 f 0
none_of files f h other = record { reached = inr refl; bound = λ m g. absurd (other (not_for g.1.family f (family_is files g.0 g.1 h g.2.file).0 g.3)) }

flushed_of_g : (files : Files) → After files → IsFlushed files 1 (103 ∷ []) 0
flushed_of_g files h = none_of files (103 ∷ []) h (λ e. let n : 103 ≡ 102 = ap (λ (l : List ℕ). get_or l 0 0) e in omega (arith, n))

whole_is_none : (files : Files) → After files → IsWhole files 1 0
whole_is_none files h = none_of files [] h (λ e. let n : 0 ≡ 1 = ap length e in omega (arith, n))

last_is : (files : Files) → After files → IsLast files 1 2
last_is files h = record { reached = inl (inl (store_1, flushed_f, it_counts files h, refl)); bound = bound }
  where
    bound : (m : ℕ) → IsSeen files 1 m → m ≤ 2
    bound m (inl (name, s, counts, to)) = omega (arith, to, (family_is files name s h counts.file).1)
    bound m (inr (e, logged, region, number)) = elim (h.no_more e logged) as (λ _. m ≤ 2) [
      | inl is ↦ (let n : e.number ≡ 1 = ap (λ (d : Entry). d.number) is in omega (arith, n, number))
      | inr is ↦ (let n : e.number ≡ 2 = ap (λ (d : Entry). d.number) is in omega (arith, n, number))
    ]

-- the first put has a cell above what is flushed of its family, and the second has none
first_is_unflushed : HasFamily first_put (103 ∷ [])
first_is_unflushed = (cell_of (103 ∷ []), (1, omega arith, refl), refl)

second_is_flushed : (f : List ℕ) → HasFamily second_put f → f ≡ 102 ∷ []
second_is_flushed f (c, (zero, lt, is), family) = sym family ∙ sym (ap (λ (d : Cell). d.family) is)
second_is_flushed f (c, (suc k, lt, is), family) = absurd (omega (arith, lt))

-- of the first put the cell of f is stored, and the cell of g is logged above what is flushed of its family
abbrev f_of_first : VersionKey
f_of_first = version_of (1, cell_of (102 ∷ []))

abbrev g_of_first : VersionKey
g_of_first = version_of (1, cell_of (103 ∷ []))

abbrev held : Payload
held = payload_of (cell_of (102 ∷ []))

f_is_stored : (files : Files) → After files → IsStored files 1 f_of_first held
f_is_stored files h = record {
  name = store_1;
  store = flushed_f;
  file = it_counts files h;
  holds = ((1, cell_of (102 ∷ [])), (1, omega arith, refl), refl, refl);
  newest = λ other s q counts holds. let n : other.number ≡ 1 = ap (λ (m : Name). m.number) (h.no_other other s counts.file).0 in omega (arith, n);
}

f_is_recovered : (files : Files) → After files → IsRecovered files 1 f_of_first held
f_is_recovered files h = inl (f_is_stored files h)

g_puts : Puts first_put g_of_first held
g_puts = get-insert version_cmp_total (put_cells empty 1 (cell_of (102 ∷ []) ∷ [])) g_of_first held g_of_first

g_is_recovered : (files : Files) → After files → IsRecovered files 1 g_of_first held
g_is_recovered files h = inr (record {
  entry = first_put;
  logged = h.first;
  region = refl;
  above = λ n flushes. absurd (let same = not_for flushes.1.family (103 ∷ []) (family_is files flushes.0 flushes.1 h flushes.2.file).0 flushes.3 in let d : 103 ≡ 102 = ap (λ (l : List ℕ). get_or l 0 0) same in omega (arith, d));
  puts = g_puts;
})

-- neither is recovered in the other way
f_is_not_unflushed : (files : Files) (p : Payload) → After files → IsUnflushed files 1 f_of_first p → ⊥
f_is_not_unflushed files p h u =
    let above : 2 < u.entry.number = u.above 2 (store_1, flushed_f, it_counts files h, inr refl, refl) in
    elim (h.no_more u.entry u.logged) as (λ _. ⊥) [
      | inl is ↦ (let n : u.entry.number ≡ 1 = ap (λ (d : Entry). d.number) is in omega (arith, n, above))
      | inr is ↦ (let n : u.entry.number ≡ 2 = ap (λ (d : Entry). d.number) is in omega (arith, n, above))
    ]

abbrev family_of : VersionKey → ℕ
family_of v = get_or v.key.family 0 0

no_g_in : (p : Payload) → Holds flushed_f g_of_first p → ⊥
no_g_in p (x, (zero, lt, is), version, payload) = let d : 102 ≡ 103 = ap (λ (y : NumberedCell). get_or y.1.family 0 0) is ∙ ap family_of version in omega (arith, d)
no_g_in p (x, (suc zero, lt, is), version, payload) = let d : 102 ≡ 103 = ap (λ (y : NumberedCell). get_or y.1.family 0 0) is ∙ ap family_of version in omega (arith, d)
no_g_in p (x, (suc (suc k), lt, is), version, payload) = omega (arith, lt)

g_is_not_stored : (files : Files) (p : Payload) → After files → IsStored files 1 g_of_first p → ⊥
g_is_not_stored files p h stored = no_g_in p (subst (λ (s : Store). Holds s g_of_first p) (h.no_other stored.name stored.store stored.file.file).1 stored.holds)

-- ---- a closed log is wholly flushed once each family of its entries is

first_has : (f : List ℕ) → HasFamily first_put f → (f ≡ 102 ∷ []) ⊎ (f ≡ 103 ∷ [])
first_has f (c, (zero, lt, is), family) = inl (sym family ∙ sym (ap (λ (d : Cell). d.family) is))
first_has f (c, (suc zero, lt, is), family) = inr (sym family ∙ sym (ap (λ (d : Cell). d.family) is))
first_has f (c, (suc (suc k), lt, is), family) = absurd (omega (arith, lt))

-- with f flushed up to 2, a log of the second put alone
second_is_whole : (flushed : ℕ → List ℕ → ℕ) → flushed 1 (102 ∷ []) ≡ 2 → IsWhollyFlushed flushed (second_put ∷ [])
second_is_whole flushed to e f (zero, lt, is) has =
    let same : f ≡ 102 ∷ [] = second_is_flushed f (subst (λ (d : Entry). HasFamily d f) (sym is) has) in
    let reached : flushed 1 f ≡ 2 = ap (flushed 1) same ∙ to in
    let within : 2 ≤ flushed 1 f = omega (arith, reached) in
    subst (λ (d : Entry). d.number ≤ flushed d.region f) is within
second_is_whole flushed to e f (suc k, lt, is) has = absurd (omega (arith, lt))

-- a log with the first put isn't before g is flushed up to 1
first_is_not_whole : (flushed : ℕ → List ℕ → ℕ) → flushed 1 (103 ∷ []) ≡ 0 → IsWhollyFlushed flushed (first_put ∷ second_put ∷ []) → ⊥
first_is_not_whole flushed none whole = let reached : 1 ≤ flushed 1 (103 ∷ []) = whole first_put (103 ∷ []) (0, omega arith, refl) first_is_unflushed in omega (arith, reached, none)

both_are_whole : (flushed : ℕ → List ℕ → ℕ) → flushed 1 (102 ∷ []) ≡ 2 → flushed 1 (103 ∷ []) ≡ 1 → IsWhollyFlushed flushed (first_put ∷ [])
both_are_whole flushed f_to g_to e f (zero, lt, is) has =
    let within : 1 ≤ flushed 1 f = elim (first_has f (subst (λ (d : Entry). HasFamily d f) (sym is) has)) as (λ _. 1 ≤ flushed 1 f) [
      | inl same ↦ (let reached : flushed 1 f ≡ 2 = ap (flushed 1) same ∙ f_to in omega (arith, reached))
      | inr same ↦ (let reached : flushed 1 f ≡ 1 = ap (flushed 1) same ∙ g_to in omega (arith, reached))
    ] in
    subst (λ (d : Entry). d.number ≤ flushed d.region f) is within
both_are_whole flushed f_to g_to e f (suc k, lt, is) has = absurd (omega (arith, lt))

-- ---- one version in two stores, with another value each: the store with the greater number gives it

abbrev store_2 : Name
store_2 = record { kind = kinds.Store; region = 1; number = 2 }

abbrev cell_with : List ℕ → Cell
cell_with value = record { row = 114 ∷ []; family = 102 ∷ []; qualifier = 113 ∷ []; ts = 1; kind = 4; value = value; tags = [] }

abbrev store_with : List ℕ → Store
store_with value = record { region = 1; scope = 0; family = []; from = 1; to = 1; cells = (1, cell_with value) ∷ [] }

record TwoStores (files : Files) : Type 0 where
  pub older : IsStoreFile files 1 store_1 (store_with (118 ∷ []))
  pub newer : IsStoreFile files 1 store_2 (store_with (119 ∷ []))
  pub no_other : (name : Name) (s : Store) → IsStoreFile files 1 name s → ((name ≡ store_1) × (s ≡ store_with (118 ∷ []))) ⊎ ((name ≡ store_2) × (s ≡ store_with (119 ∷ [])))

scope_is : (files : Files) (name : Name) (s : Store) → TwoStores files → IsStoreFile files 1 name s → s.scope ≡ 0
scope_is files name s h file = elim (h.no_other name s file) as (λ _. s.scope ≡ 0) [
  | inl is ↦ ap (λ (t : Store). t.scope) is.1
  | inr is ↦ ap (λ (t : Store). t.scope) is.1
]

each_counts : (files : Files) (name : Name) (s : Store) → TwoStores files → IsStoreFile files 1 name s → IsCounting files 1 name s
each_counts files name s h file = record { file = file; stands = λ other t of one. absurd (let none = scope_is files other t h of in omega (arith, none, one)) }

up_to_2 : (files : Files) (name : Name) (s : Store) → TwoStores files → IsStoreFile files 1 name s → name.number ≤ 2
up_to_2 files name s h file = elim (h.no_other name s file) as (λ _. name.number ≤ 2) [
  | inl is ↦ (let n : name.number ≡ 1 = ap (λ (m : Name). m.number) is.0 in omega (arith, n))
  | inr is ↦ (let n : name.number ≡ 2 = ap (λ (m : Name). m.number) is.0 in omega (arith, n))
]

newer_holds : Holds (store_with (119 ∷ [])) f_of_first (payload_of (cell_with (119 ∷ [])))
newer_holds = ((1, cell_with (119 ∷ [])), (0, omega arith, refl), refl, refl)

newer_is_stored : (files : Files) → TwoStores files → IsStored files 1 f_of_first (payload_of (cell_with (119 ∷ [])))
newer_is_stored files h = record {
  name = store_2;
  store = store_with (119 ∷ []);
  file = each_counts files store_2 (store_with (119 ∷ [])) h h.newer;
  holds = newer_holds;
  newest = λ other s q counts holds. up_to_2 files other s h counts.file;
}

abbrev value_of : Payload → ℕ
value_of p = get_or p.value 0 0

one_value : (p : Payload) → Holds (store_with (119 ∷ [])) f_of_first p → value_of p ≡ 119
one_value p (x, (zero, lt, is), version, payload) = ap value_of (sym payload) ∙ ap (λ (y : NumberedCell). value_of (payload_of y.1)) (sym is)
one_value p (x, (suc k, lt, is), version, payload) = absurd (omega (arith, lt))

older_is_not_stored : (files : Files) → TwoStores files → IsStored files 1 f_of_first (payload_of (cell_with (118 ∷ []))) → ⊥
older_is_not_stored files h stored = elim (h.no_other stored.name stored.store stored.file.file) as (λ _. ⊥) [
  | inl is ↦ (
      let n : stored.name.number ≡ 1 = ap (λ (m : Name). m.number) is.0 in
      let above : 2 ≤ stored.name.number = stored.newest store_2 (store_with (119 ∷ [])) (payload_of (cell_with (119 ∷ []))) (each_counts files store_2 (store_with (119 ∷ [])) h h.newer) newer_holds in
      omega (arith, n, above))
  | inr is ↦ (
      let v : 118 ≡ 119 = one_value (payload_of (cell_with (118 ∷ []))) (subst (λ (s : Store). Holds s f_of_first (payload_of (cell_with (118 ∷ [])))) is.1 stored.holds) in
      omega (arith, v))
]
