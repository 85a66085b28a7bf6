-- Families of entries, and tests of them.
use Rattle.std.proofs.Common.{◌≡◌, inl, inr, ℕ, ◌<◌, Bool, true, false, cond, not, leb, ◌&&◌, ◌||◌, ◌==◌, List, [], ◌∷◌, map, Contains, refl, sym, ap, ◌∙◌, subst}
use Rattle.std.specs.List.{list_any}
use Rattle.std.specs.Cmp.Lexicographic.{bytes_decides}
use Rattle.std.proofs.lemmas.Bool.{cases_Bool, eq-eqb, eqb-true, leb-false, lt-leb}
use Rattle.cell_model.specs.Cell.{Cell}
use Rattle.log_model.specs.Entry.{Entry}
use Rattle.log_model.specs.Recovered.{HasFamily, IsFor}
use Rattle.recovery_laws.proofs.Lists.{for_decides}
use Rattle.seq_accounting.specs.Marks.{is_same, has_family}
use Rattle.seq_accounting.specs.Accounts.{Accounts, is_for, flushed_at}
use Rattle.seq_accounting.specs.Noted.{Note, is_noted_of, AreNotedAs}
use Rattle.log_trucks.specs.Held.{Haul, Carries}
use Rattle.log_trucks.specs.Unflushed.{is_unflushed, has_unflushed}
use Rattle.log_ledger.specs.Counted.{note_of}
use Rattle.log_ledger.proofs.Chains.{none_at, at_first, at_later, at_either}

or_true : (a : Bool) → (a || true) ≡ true
or_true true = refl
or_true false = refl

-- one that passes settles the test
pub any_from : {A : Type 0} (p : A → Bool) (xs : List A) (x : A) → Contains xs x → p x ≡ true → list_any p xs ≡ true
any_from p [] x has is = absurd (none_at x has)
any_from {A} p (y ∷ ys) x has is = elim (at_either y ys x has) as (λ _. list_any p (y ∷ ys) ≡ true) [
  | inl here ↦ ap (λ (b : Bool). b || list_any p ys) (ap p here ∙ is)
  | inr later ↦ ap (λ (b : Bool). p y || b) (any_from p ys x later is) ∙ or_true (p y)
]

-- where the test passes there is one
pub any_to : {A : Type 0} (p : A → Bool) (xs : List A) → list_any p xs ≡ true → (x : A) × Contains xs x × (p x ≡ true)
any_to p [] is = absurd (cc is)
any_to {A} p (y ∷ ys) is = elim (cases_Bool (p y)) as (λ _. (x : A) × Contains (y ∷ ys) x × (p x ≡ true)) [
  | inl here ↦ (y, at_first y ys, here)
  | inr miss ↦ (let more = any_to p ys (sym (ap (λ (b : Bool). b || list_any p ys) miss) ∙ is) in (more.0, at_later y ys more.0 more.1, more.2))
]

pub family_there : (fs : List (List ℕ)) (f : List ℕ) → has_family fs f ≡ true → Contains fs f
family_there fs f is =
    let found = any_to (λ (g : List ℕ). is_same g f) fs is in
    subst (Contains fs) ((bytes_decides found.0 f).0 found.2) found.1

has_cell : (cs : List Cell) (f : List ℕ) (c : Cell) → Contains cs c → c.family ≡ f → has_family (map (λ (d : Cell). d.family) cs) f ≡ true
has_cell [] f c has is = absurd (none_at c has)
has_cell (d ∷ cs) f c has is = elim (at_either d cs c has) as (λ _. has_family (map (λ (x : Cell). x.family) (d ∷ cs)) f ≡ true) [
  | inl here ↦ ap (λ (b : Bool). b || has_family (map (λ (x : Cell). x.family) cs) f) ((bytes_decides d.family f).1 (ap (λ (x : Cell). x.family) here ∙ is))
  | inr later ↦ ap (λ (b : Bool). is_same d.family f || b) (has_cell cs f c later is) ∙ or_true (is_same d.family f)
]

cell_of : (cs : List Cell) (f : List ℕ) → has_family (map (λ (d : Cell). d.family) cs) f ≡ true → (c : Cell) × Contains cs c × (c.family ≡ f)
cell_of [] f is = absurd (cc is)
cell_of (d ∷ cs) f is = elim (cases_Bool (is_same d.family f)) as (λ _. (c : Cell) × Contains (d ∷ cs) c × (c.family ≡ f)) [
  | inl here ↦ (d, at_first d cs, (bytes_decides d.family f).0 here)
  | inr miss ↦ (let more = cell_of cs f (sym (ap (λ (b : Bool). b || has_family (map (λ (x : Cell). x.family) cs) f) miss) ∙ is) in (more.0, at_later d cs more.0 more.1, more.2))
]

-- the entry has the family exactly if its note does
pub family_noted : (e : Entry) (f : List ℕ) → HasFamily e f → has_family (map (λ (c : Cell). c.family) e.batch.cells) f ≡ true
family_noted e f has = has_cell e.batch.cells f has.0 has.1 has.2

pub noted_family : (e : Entry) (f : List ℕ) → has_family (map (λ (c : Cell). c.family) e.batch.cells) f ≡ true → HasFamily e f
noted_family e f is = cell_of e.batch.cells f is

pub and_both : (a b : Bool) → (a && b) ≡ true → (a ≡ true) × (b ≡ true)
and_both true b is = (refl, is)
and_both false b is = absurd (cc is)

pub note_from : (e : Entry) (r : ℕ) (f : List ℕ) → e.region ≡ r → HasFamily e f → is_noted_of (note_of e) r f ≡ true
note_from e r f here has = ap (λ (b : Bool). b && has_family (map (λ (c : Cell). c.family) e.batch.cells) f) (eq-eqb e.region r here) ∙ family_noted e f has

pub note_to : (e : Entry) (r : ℕ) (f : List ℕ) → is_noted_of (note_of e) r f ≡ true → (e.region ≡ r) × HasFamily e f
note_to e r f is = let both = and_both (e.region == r) (has_family (map (λ (c : Cell). c.family) e.batch.cells) f) is in (eqb-true e.region r both.0, noted_family e f both.1)

pub noted_there : (x : Note) (r : ℕ) (f : List ℕ) → is_noted_of x r f ≡ true → (x.region ≡ r) × Contains x.families f
noted_there x r f is = let both = and_both (x.region == r) (has_family x.families f) is in (eqb-true x.region r both.0, family_there x.families f both.1)

pub noted_as : (t : Haul) (e : Entry) → Carries t e → AreNotedAs t.families t.region t.number (note_of e)
noted_as t e c = record { region = c.region; number = c.number; families = λ f. sym (c.families f) }

-- which of two a flush gives
pub pick_here : (r : ℕ) (family : List ℕ) (q : ℕ) (f : List ℕ) (n m : ℕ) → r ≡ q → IsFor family f → cond (r == q && is_for family f) n m ≡ n
pick_here r family q f n m is for = ap (λ (b : Bool). cond (b && is_for family f) n m) (eq-eqb r q is) ∙ ap (λ (b : Bool). cond b n m) ((for_decides family f).1 for)

pub pick_there : (r : ℕ) (family : List ℕ) (q : ℕ) (f : List ℕ) (n m : ℕ) → (r ≡ q → IsFor family f → ⊥) → cond (r == q && is_for family f) n m ≡ m
pick_there r family q f n m other = elim (cases_Bool (r == q && is_for family f)) as (λ _. cond (r == q && is_for family f) n m ≡ m) [
  | inl hit ↦ (let both = and_both (r == q) (is_for family f) hit in absurd (other (eqb-true r q both.0) ((for_decides family f).0 both.1)))
  | inr miss ↦ ap (λ (b : Bool). cond b n m) miss
]

not_true : (b : Bool) → not b ≡ true → b ≡ false
not_true true is = absurd (cc is)
not_true false is = refl

pub both_and : (a b : Bool) → a ≡ true → b ≡ true → (a && b) ≡ true
both_and a b one two = ap (λ (x : Bool). x && b) one ∙ two

-- a family is above what is flushed of it
abbrev pub family_above : Accounts → ℕ → ℕ → List ℕ → Bool
family_above a r n f = not (leb n (flushed_at a r f))

pub above_of : (a : Accounts) (r n : ℕ) (f : List ℕ) → family_above a r n f ≡ true → flushed_at a r f < n
above_of a r n f is = leb-false n (flushed_at a r f) (not_true (leb n (flushed_at a r f)) is)

pub of_above : (a : Accounts) (r n : ℕ) (f : List ℕ) → flushed_at a r f < n → family_above a r n f ≡ true
of_above a r n f above = ap not (lt-leb n (flushed_at a r f) above)

-- a cell that isn't flushed
pub cell_above : (a : Accounts) (r n : ℕ) (c : Cell) → is_unflushed a r n c ≡ true → flushed_at a r c.family < n
cell_above a r n c is = leb-false n (flushed_at a r c.family) (not_true (leb n (flushed_at a r c.family)) is)

pub above_cell : (a : Accounts) (r n : ℕ) (c : Cell) → flushed_at a r c.family < n → is_unflushed a r n c ≡ true
above_cell a r n c above = ap not (lt-leb n (flushed_at a r c.family) above)

-- an entry has one exactly if a family of it isn't flushed
pub entry_above : (a : Accounts) (r : ℕ) (e : Entry) → has_unflushed a r e ≡ true → (f : List ℕ) × HasFamily e f × (flushed_at a r f < e.number)
entry_above a r e is = let found = any_to (is_unflushed a r e.number) e.batch.cells is in (found.0.family, (found.0, found.1, refl), cell_above a r e.number found.0 found.2)

pub above_entry : (a : Accounts) (r : ℕ) (e : Entry) (f : List ℕ) → HasFamily e f → flushed_at a r f < e.number → has_unflushed a r e ≡ true
above_entry a r e f has above = any_from (is_unflushed a r e.number) e.batch.cells has.0 has.1
    (above_cell a r e.number has.0 (subst (λ (g : List ℕ). flushed_at a r g < e.number) (sym has.2) above))
