-- The content that entries put, one after the other, is what was there with what each of them puts.
use Rattle.std.proofs.Common.{◌≡◌, ℕ, suc, ◌≤◌, ◌⊎◌, ◌↔◌, Bool, true, false, cond, List, [], ◌∷◌, ◌++◌, Contains, Option, Some, None, refl, sym, ap, ◌∙◌, subst, arith, inl, inr}
use Rattle.std.specs.FinMap.{get, insert, empty, get-insert, get-empty}
use Rattle.std.specs.Ordering.{eq_by_cmp, is_eq}
use Rattle.std.specs.declared.cmp.Ordering.{Ordering}
use Rattle.std.specs.declared.cmp.Ordering.TheVariants.{Less, Equal, Greater}
use Rattle.std.proofs.lemmas.Bool.{cases_Bool, cases_eq, eqb-true}
use Rattle.cell_model.specs.Cell.{Cell}
use Rattle.cell_model.specs.Order.{Key, VersionKey, Payload, Content, version_cmp, key_of, payload_of, put_cells}
use Rattle.cell_model.proofs.OrderLaws.{version_cmp_total, version_cmp_exact}
use Rattle.log_model.specs.Entry.{Entry}
use Rattle.log_model.specs.Files.{Files}
use Rattle.log_model.specs.Recovered.{Puts, HasFamily, IsRecovered, IsContent, is_of, entries_of, put_entries}
use Rattle.recovery_laws.specs.Change.{RecoversWith}
use Rattle.recovery_laws.specs.Kept.{raised, AreRising, AreApart}
use Rattle.recovery_laws.proofs.Lists.{none_in, first_or_later, is_first, is_later, of_region, has_region}
use Rattle.recovery_laws.proofs.Rising.{raised_here, raised_no_less, above_last}

is_equal : (o : Ordering) → is_eq o ≡ true → o ≡ Equal
is_equal Less e = absurd cc
is_equal Equal e = refl
is_equal Greater e = absurd cc

other_version : (m : Content) (k v : VersionKey) (p : Payload) → (v.number ≡ k.number → ⊥) → get (insert m k p) v ≡ get m v
other_version m k v p differ = get-insert version_cmp_total m k p v ∙ elim (cases_Bool (eq_by_cmp version_cmp v k)) [
  | inl same ↦ absurd (differ (ap (λ (w : VersionKey). w.number) (version_cmp_exact v k (is_equal (version_cmp v k) same))))
  | inr other ↦ ap (λ b. cond b (Some p) (get m v)) other
]

-- cells of one number change no version of another one
other_cells : (cs : List Cell) (m : Content) (n : ℕ) (v : VersionKey) → (v.number ≡ n → ⊥) → get (put_cells m n cs) v ≡ get m v
other_cells [] m n v differ = refl
other_cells (c ∷ cs) m n v differ = other_cells cs (insert m (record { key = key_of c; number = n }) (payload_of c)) n v differ ∙ other_version m (record { key = key_of c; number = n }) v (payload_of c) differ

same_cells : (cs : List Cell) (m k : Content) (n : ℕ) (v : VersionKey) → get m v ≡ get k v → get (put_cells m n cs) v ≡ get (put_cells k n cs) v
same_cells [] m k n v same = same
same_cells (c ∷ cs) m k n v same =
    let key : VersionKey = record { key = key_of c; number = n } in
    same_cells cs (insert m key (payload_of c)) (insert k key (payload_of c)) n v
    (get-insert version_cmp_total m key (payload_of c) v ∙ ap (λ o. cond (eq_by_cmp version_cmp v key) (Some (payload_of c)) o) same ∙ sym (get-insert version_cmp_total k key (payload_of c) v))

-- an entry puts versions of its own number
pub puts_number : (e : Entry) (v : VersionKey) (p : Payload) → Puts e v p → v.number ≡ e.number
puts_number e v p puts = elim (cases_eq v.number e.number) [
  | inl same ↦ same
  | inr differ ↦ (let none : None ≡ Some p = sym (other_cells e.batch.cells empty e.number v differ ∙ get-empty version_cmp v) ∙ puts in absurd cc)
]

-- what cells put is of one of them, or was there
put_from : (cs : List Cell) (m : Content) (n : ℕ) (v : VersionKey) (p : Payload) → get (put_cells m n cs) v ≡ Some p → (get m v ≡ Some p) ⊎ ((c : Cell) × Contains cs c × (key_of c ≡ v.key))
put_from [] m n v p is = inl is
put_from (c ∷ cs) m n v p is =
    let key : VersionKey = record { key = key_of c; number = n } in
    elim (put_from cs (insert m key (payload_of c)) n v p is) as (λ _. (get m v ≡ Some p) ⊎ ((d : Cell) × Contains (c ∷ cs) d × (key_of d ≡ v.key))) [
      | inl here ↦ elim (cases_Bool (eq_by_cmp version_cmp v key)) as (λ _. (get m v ≡ Some p) ⊎ ((d : Cell) × Contains (c ∷ cs) d × (key_of d ≡ v.key))) [
        | inl same ↦ inr (c, (0, omega arith, refl), sym (ap (λ (w : VersionKey). w.key) (version_cmp_exact v key (is_equal (version_cmp v key) same))))
        | inr other ↦ inl (sym (get-insert version_cmp_total m key (payload_of c) v ∙ ap (λ b. cond b (Some (payload_of c)) (get m v)) other) ∙ here)
      ]
      | inr later ↦ inr (later.0, (suc later.1.0, omega (arith, later.1.1), later.1.2), later.2)
    ]

-- what an entry puts is of the family of one of its cells
pub puts_family : (e : Entry) (v : VersionKey) (p : Payload) → Puts e v p → HasFamily e v.key.family
puts_family e v p puts = elim (put_from e.batch.cells empty e.number v p puts) as (λ _. HasFamily e v.key.family) [
  | inl none ↦ (let no : None ≡ Some p = sym (get-empty version_cmp v) ∙ none in absurd (cc no))
  | inr found ↦ (found.0, found.1, ap (λ (k : Key). k.family) found.2)
]

-- no version of the content has the entry's number
abbrev pub IsNew : Content → Entry → Type 0
IsNew c e = (v : VersionKey) (p : Payload) → get c v ≡ Some p → v.number ≡ e.number → ⊥

option_cases : (o : Option Payload) → (o ≡ None) ⊎ ((p : Payload) × (o ≡ Some p))
option_cases None = inl refl
option_cases (Some p) = inr (p, refl)

pub puts_one : (c : Content) (e : Entry) → IsNew c e → (v : VersionKey) (p : Payload) → (get (put_cells c e.number e.batch.cells) v ≡ Some p) ↔ ((get c v ≡ Some p) ⊎ Puts e v p)
puts_one c e fresh v p = elim (cases_eq v.number e.number) [
  | inl same ↦ (elim (option_cases (get c v)) [
    | inl none ↦ (let alike : get (put_cells c e.number e.batch.cells) v ≡ get (put_cells empty e.number e.batch.cells) v = same_cells e.batch.cells c empty e.number v (none ∙ sym (get-empty version_cmp v)) in
        ((λ is. inr (sym alike ∙ is)), (λ is. elim is [ inl before ↦ absurd (fresh v p before same) | inr puts ↦ alike ∙ puts ])))
    | inr some ↦ absurd (fresh v some.0 some.1 same)
  ])
  | inr differ ↦ (let alike : get (put_cells c e.number e.batch.cells) v ≡ get c v = other_cells e.batch.cells c e.number v differ in
      ((λ is. inl (sym alike ∙ is)), (λ is. elim is [ inl before ↦ alike ∙ before | inr puts ↦ absurd (differ (puts_number e v p puts)) ])))
]

-- each entry has another number than those before it and than the content's versions
abbrev pub AreNew : Content → List Entry → Type 0
AreNew c [] = Unit {0}
AreNew c (e ∷ es) = IsNew c e × ((d : Entry) → Contains es d → d.number ≡ e.number → ⊥) × AreNew c es

new_behind : (c : Content) (e : Entry) (es : List Entry) → IsNew c e → ((d : Entry) → Contains es d → d.number ≡ e.number → ⊥) → AreNew c es → AreNew (put_cells c e.number e.batch.cells) es
new_behind c e [] fresh apart each = tt
new_behind c e (d ∷ es) fresh apart each = (
  (λ v p is same. elim ((puts_one c e fresh v p).0 is) [
    | inl before ↦ each.0 v p before same
    | inr puts ↦ apart d (is_first d es) (sym same ∙ puts_number e v p puts)
  ]),
  each.1,
  new_behind c e es fresh (λ x is. apart x (is_later d es x is)) each.2,
)

pub puts_all : (es : List Entry) (c : Content) → AreNew c es → (v : VersionKey) (p : Payload) → (get (put_entries c es) v ≡ Some p) ↔ ((get c v ≡ Some p) ⊎ ((e : Entry) × Contains es e × Puts e v p))
puts_all [] c fresh v p = ((λ is. inl is), (λ is. elim is [ inl before ↦ before | inr none ↦ absurd (none_in none.0 none.1) ]))
puts_all (e ∷ es) c fresh v p =
    let more = puts_all es (put_cells c e.number e.batch.cells) (new_behind c e es fresh.0 fresh.1 fresh.2) v p in
    let one = puts_one c e fresh.0 v p in (
      (λ is. elim (more.0 is) [
        | inl before ↦ (elim (one.0 before) [ inl old ↦ inl old | inr puts ↦ inr (e, is_first e es, puts) ])
        | inr later ↦ inr (later.0, is_later e es later.0 later.1, later.2)
      ]),
      (λ is. elim is [
        | inl before ↦ more.1 (inl (one.1 (inl before)))
        | inr puts ↦ (elim (first_or_later e es puts.0 puts.1) [
          | inl first ↦ more.1 (inl (one.1 (inr (subst (λ (x : Entry). Puts x v p) (sym first) puts.2))))
          | inr later ↦ more.1 (inr (puts.0, later, puts.2))
        ])
      ]),
    )

apart_new : (es : List Entry) → AreApart es → AreNew empty es
apart_new [] apart = tt
apart_new (e ∷ es) apart = ((λ v p is same. let none : None ≡ Some p = sym (get-empty version_cmp v) ∙ is in absurd (cc (none))), apart.0, apart_new es apart.1)

-- the content of entries with different numbers is what each of them puts
pub cut_has : (es : List Entry) (v : VersionKey) (p : Payload) → AreApart es → (get (put_entries empty es) v ≡ Some p) ↔ ((e : Entry) × Contains es e × Puts e v p)
cut_has es v p apart =
    let all = puts_all es empty (apart_new es apart) v p in (
      (λ is. elim (all.0 is) [ inl none ↦ (let no : None ≡ Some p = sym (get-empty version_cmp v) ∙ none in absurd (cc (no))) | inr found ↦ found ]),
      (λ found. all.1 (inr found)),
    )

-- one list after the other
pub put_entries-append : (m : Content) (xs ys : List Entry) → put_entries m (xs ++ ys) ≡ put_entries (put_entries m xs) ys
put_entries-append m [] ys = refl
put_entries-append m (x ∷ xs) ys = put_entries-append (put_cells m x.number x.batch.cells) xs ys

-- entries that rise from a number on are new to a content up to it
new_more : (b : Bool) (c : Content) (last : ℕ → ℕ) (r : ℕ) (e : Entry) (es : List Entry) → is_of r e ≡ b → ((v : VersionKey) (p : Payload) → get c v ≡ Some p → v.number ≤ last r) → AreRising last (e ∷ es) → AreNew c (entries_of r es)
    → AreNew c (cond b (e ∷ entries_of r es) (entries_of r es))
new_more true c last r e es is low rise new =
    let here : e.region ≡ r = eqb-true e.region r is in
    let at : last e.region ≡ last r = ap last here in (
      (λ v p has same. omega (arith, low v p has, rise.0, same, at)),
      (λ d later same. let of = of_region r es d later in omega (arith, above_last (raised last e) es d rise.1 of.0, raised_here last e d.region (here ∙ sym of.1), same)),
      new,
    )
new_more false c last r e es is low rise new = new

pub rising_new : (c : Content) (last : ℕ → ℕ) (r : ℕ) (es : List Entry) → ((v : VersionKey) (p : Payload) → get c v ≡ Some p → v.number ≤ last r) → AreRising last es → AreNew c (entries_of r es)
rising_new c last r [] low rise = tt
rising_new c last r (e ∷ es) low rise =
    new_more (is_of r e) c last r e es refl low rise
    (rising_new c (raised last e) r es (λ v p has. omega (arith, low v p has, raised_no_less last e r rise.0)) rise.1)

-- what recovers with more entries has the content with them put in
pub content_with : (old new : Files) (more : List Entry) (r : ℕ) (c : Content) → RecoversWith old more new → IsContent (IsRecovered old r) c → AreNew c (entries_of r more)
    → IsContent (IsRecovered new r) (put_entries c (entries_of r more))
content_with old new more r c with_more held fresh v p =
    let both = with_more r v p in
    let all = puts_all (entries_of r more) c fresh v p in (
      (λ is. elim (all.0 is) [
        | inl before ↦ both.1 (inl ((held v p).0 before))
        | inr puts ↦ (let k = of_region r more puts.0 puts.1 in both.1 (inr (puts.0, k.0, k.1, puts.2)))
      ]),
      (λ is. elim (both.0 is) [
        | inl before ↦ all.1 (inl ((held v p).1 before))
        | inr puts ↦ all.1 (inr (puts.0, has_region r more puts.0 puts.1 puts.2, puts.3))
      ]),
    )
