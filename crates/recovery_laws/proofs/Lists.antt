-- What stands in a list of entries.
use Rattle.std.proofs.Common.{◌≡◌, ◌⊎◌, inl, inr, ℕ, ◌≤◌, Bool, true, false, ◌&&◌, ◌||◌, ◌==◌, nat_eq, cond, List, [], ◌∷◌, length, Contains, refl, sym, ap, ◌∙◌, subst, arith}
use Rattle.std.specs.Cmp.Lexicographic.{pointwise}
use Rattle.std.specs.Bool.{Decides}
use Rattle.std.proofs.lemmas.Bool.{cases_eq}
use Rattle.std.proofs.lemmas.Bool.Decides.{Decides-eqb, not_from_Decides}
use Rattle.std.proofs.lemmas.Slice.Eq.{slice_eq-Decides}
use Rattle.std.proofs.lemmas.List.{nil_from_length}
use Rattle.cell_model.specs.Cell.{Cell}
use Rattle.log_model.specs.Recovered.{IsFor, HasFamily}
use Rattle.recovery_laws.specs.Kept.{Kept, is_for, flushed_to}
use Rattle.std.specs.List.{AllByRecursion}
use Rattle.std.proofs.lemmas.Bool.{eq-eqb, eqb-true}
use Rattle.std.proofs.lemmas.List.Elements.{All-contains, All-contains_itself, All-filter, filter_passes, Contains-append_left, Contains-append_right, Contains-append_cases, Contains-push, Contains-push_cases}
use Rattle.log_model.specs.Entry.{Entry}
use Rattle.log_model.specs.Recovered.{is_of, entries_of}

pub none_in : (e : Entry) → Contains [] e → ⊥
none_in e h = omega (arith, h.1)

pub first_or_later : (x : Entry) (xs : List Entry) (e : Entry) → Contains (x ∷ xs) e → (x ≡ e) ⊎ Contains xs e
first_or_later x xs e h = elim (Contains-append_cases (x ∷ []) xs e h) as (λ _. (x ≡ e) ⊎ Contains xs e) [
  | inl first ↦ elim (Contains-push_cases [] x e first) as (λ _. (x ≡ e) ⊎ Contains xs e) [ inl none ↦ absurd (none_in e none) | inr is ↦ inl is ]
  | inr later ↦ inr later
]

pub is_first : (x : Entry) (xs : List Entry) → Contains (x ∷ xs) x
is_first x xs = Contains-append_left (x ∷ []) xs x (Contains-push [] x)

pub is_later : (x : Entry) (xs : List Entry) (e : Entry) → Contains xs e → Contains (x ∷ xs) e
is_later x xs e h = Contains-append_right (x ∷ []) xs e h

pub entries_in : (P : Entry → Type 0) (es : List Entry) (e : Entry) → AllByRecursion P es → Contains es e → P e
entries_in P [] e all h = absurd (none_in e h)
entries_in P (x ∷ xs) e all h = elim (first_or_later x xs e h) as (λ _. P e) [ inl is ↦ subst P is all.0 | inr later ↦ entries_in P xs e all.1 later ]

-- the entries of one region are those entries that are of it
pub of_region : (r : ℕ) (es : List Entry) (e : Entry) → Contains (entries_of r es) e → Contains es e × (e.region ≡ r)
of_region r es e is = (
  All-contains (Contains es) (entries_of r es) e (All-filter (is_of r) (Contains es) es (All-contains_itself es)) is,
  eqb-true e.region r (All-contains (λ (x : Entry). is_of r x ≡ true) (entries_of r es) e (filter_passes (is_of r) es) is),
)

kept_by : (b : Bool) (x : Entry) (l : List Entry) (e : Entry) → Contains l e → Contains (cond b (x ∷ l) l) e
kept_by true x l e is = is_later x l e is
kept_by false x l e is = is

pub has_region : (r : ℕ) (es : List Entry) (e : Entry) → Contains es e → e.region ≡ r → Contains (entries_of r es) e
has_region r [] e is of = absurd (none_in e is)
has_region r (x ∷ xs) e is of = elim (first_or_later x xs e is) as (λ _. Contains (entries_of r (x ∷ xs)) e) [
  | inl here ↦ subst (λ (b : Bool). Contains (cond b (x ∷ entries_of r xs) (entries_of r xs)) e) (sym (eq-eqb x.region r (ap (λ (d : Entry). d.region) here ∙ of)))
      (subst (λ (d : Entry). Contains (x ∷ entries_of r xs) d) here (is_first x (entries_of r xs)))
  | inr later ↦ kept_by (is_of r x) x (entries_of r xs) e (has_region r xs e later of)
]

-- ---- families

bytes_decide : (a b : List ℕ) → Decides (pointwise nat_eq a b) (a ≡ b)
bytes_decide a b = slice_eq-Decides Decides-eqb a b (pointwise nat_eq a b) refl

none_decides : (a : List ℕ) → Decides (length a == 0) (a ≡ [])
none_decides a = (λ e. nil_from_length a (eqb-true (length a) 0 e), λ none. eq-eqb (length a) 0 (ap length none))

either_decides : (a b : Bool) (P Q : Type 0) → Decides a P → Decides b Q → Decides (a || b) (P ⊎ Q)
either_decides true b P Q d e = (λ _. inl (d.0 refl), λ _. refl)
either_decides false b P Q d e = (λ t. inr (e.0 t), λ h. elim h as (λ _. b ≡ true) [ inl p ↦ (let no : false ≡ true = d.1 p in absurd (cc no)) | inr q ↦ e.1 q ])

-- the test of a flush's family says what it is to say
pub for_decides : (family f : List ℕ) → Decides (is_for family f) (IsFor family f)
for_decides family f = either_decides (length family == 0) (pointwise nat_eq family f) (family ≡ []) (family ≡ f) (none_decides family) (bytes_decide family f)

pub for_cases : (family f : List ℕ) → ((is_for family f ≡ true) × IsFor family f) ⊎ ((is_for family f ≡ false) × (IsFor family f → ⊥))
for_cases family f = by (is_for family f) refl
  where
    by : (b : Bool) → is_for family f ≡ b → ((is_for family f ≡ true) × IsFor family f) ⊎ ((is_for family f ≡ false) × (IsFor family f → ⊥))
    by true e = inl (e, (for_decides family f).0 e)
    by false e = inr (e, not_from_Decides (is_for family f) (for_decides family f) e)

-- what is flushed of a family where it, or all, is flushed further
pub flushed_here : (k : Kept) (r : ℕ) (family : List ℕ) (n q : ℕ) (f : List ℕ) → r ≡ q → IsFor family f → (flushed_to k r family n).flushed q f ≡ n
flushed_here k r family n q f is for = ap (λ (b : Bool). cond (b && is_for family f) n (k.flushed q f)) (eq-eqb r q is) ∙ ap (λ (b : Bool). cond b n (k.flushed q f)) ((for_decides family f).1 for)

pub flushed_there : (k : Kept) (r : ℕ) (family : List ℕ) (n q : ℕ) (f : List ℕ) → (r ≡ q → IsFor family f → ⊥) → (flushed_to k r family n).flushed q f ≡ k.flushed q f
flushed_there k r family n q f other = by (r == q) refl
  where
    inner : (b : Bool) → (b ≡ true → ⊥) → cond b n (k.flushed q f) ≡ k.flushed q f
    inner true n_t = absurd (n_t refl)
    inner false n_t = refl

    by : (b : Bool) → (r == q) ≡ b → cond (b && is_for family f) n (k.flushed q f) ≡ k.flushed q f
    by true e = inner (is_for family f) (λ t. other (eqb-true r q e) ((for_decides family f).0 t))
    by false e = refl

pub flush_cases : (r : ℕ) (family : List ℕ) (q : ℕ) (f : List ℕ) → ((r ≡ q) × IsFor family f) ⊎ (r ≡ q → IsFor family f → ⊥)
flush_cases r family q f = elim (cases_eq r q) as (λ _. ((r ≡ q) × IsFor family f) ⊎ (r ≡ q → IsFor family f → ⊥)) [
  | inl is ↦ elim (for_cases family f) as (λ _. ((r ≡ q) × IsFor family f) ⊎ (r ≡ q → IsFor family f → ⊥)) [ inl hit ↦ inl (is, hit.1) | inr miss ↦ inr (λ _ h. miss.1 h) ]
  | inr other ↦ inr (λ is _. other is)
]

-- ---- the families of an entry's cells

pub some_family : (e : Entry) → 1 ≤ length e.batch.cells → (f : List ℕ) × HasFamily e f
some_family e some = go e.batch.cells some
  where
    go : (cs : List Cell) → 1 ≤ length cs → (f : List ℕ) × ((c : Cell) × Contains cs c × (c.family ≡ f))
    go [] h = absurd (omega (arith, h))
    go (c ∷ cs) h = (c.family, (c, (0, omega arith, refl), refl))
