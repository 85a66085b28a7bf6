-- What each call makes of the marks of a region.
use Rattle.std.proofs.Common.{◌≡◌, ◌≢◌, inl, inr, ℕ, ◌<◌, ◌≤◌, ⊎_elim, max, Bool, true, false, cond, ◌&&◌, ◌||◌, eqb, List, [], ◌∷◌, ◌++◌, length, get_or, set, refl, sym, ap, subst, ◌∙◌, arith}
use Rattle.std.proofs.lemmas.Bool.{cases_eq, cases_Bool, and_parts, eqb-true, eq-eqb, ne_eqb}
use Rattle.seq_accounting.specs.Marks.{FamilyMark, IsPut, AreGiven, ArePoured, is_same, is_of, first_given, number_of, has_family, families_in}
use Rattle.seq_accounting.specs.Accounts.{Accounts, Flush, is_for, flushed_at, since_at, oldest_at}
use Rattle.seq_accounting.specs.Order.{IsInOrder}
use Rattle.seq_accounting.proofs.KeyLaws.{first_zero, first_assoc, first_none}
use Rattle.seq_accounting.proofs.OrderLaws.{number_set, marks_set}

-- a place of one region is another's, or the same
pub by_region : (r q : ℕ) (P : Bool → Type 0) → (r ≡ q → P true) → P false → P (eqb r q)
by_region r q P here there = by (eqb r q) refl
  where
    by : (b : Bool) → eqb r q ≡ b → P b
    by true e = here (eqb-true r q e)
    by false e = there

-- marks of the families of an entry, each of its number
pub fresh_number : (fresh ms : List FamilyMark) (r n : ℕ) → AreGiven [] fresh r n ms → (q : ℕ) (f : List ℕ) → number_of fresh q f ≡ cond (eqb r q && has_family (families_in ms) f) n 0
fresh_number fresh ms r n given q f = given q f

-- ---- an entry is noted while no flush is under way

pub oldest_idle : (o s n : ℕ) (hit : Bool) → s ≡ 0 → first_given (first_given o (cond hit n 0)) s ≡ cond hit (first_given (first_given o s) n) (first_given o s)
oldest_idle o s n true none = rw none (first_zero (first_given o n) ∙ ap (λ k. first_given k n) (sym (first_zero o)))
oldest_idle o s n false none = ap (λ k. first_given k s) (first_zero o)

-- and while one is

pub oldest_busy : (o s n : ℕ) (hit : Bool) → first_given o (first_given s (cond hit n 0)) ≡ cond hit (first_given (first_given o s) n) (first_given o s)
oldest_busy o s n true = sym (first_assoc o s n)
oldest_busy o s n false = ap (first_given o) (first_zero s)

-- where an entry of the region is noted: its families have numbers, and others none
abbrev pub AreFresh : List FamilyMark → ℕ → ℕ → List (List ℕ) → Type 0
AreFresh fresh r n families = (q : ℕ) (f : List ℕ) → number_of fresh q f ≡ cond (eqb r q && has_family families f) n 0

poured_here : (fresh old new : List FamilyMark) (r n : ℕ) (families : List (List ℕ)) (q : ℕ) (f : List ℕ) → AreFresh fresh r n families → ArePoured old new fresh → r ≡ q
    → number_of new q f ≡ first_given (number_of old q f) (cond (has_family families f) n 0)
poured_here fresh old new r n families q f of poured e =
    poured q f ∙ ap (first_given (number_of old q f)) (of q f ∙ ap (λ b. cond (b && has_family families f) n 0) (eq-eqb r q e))

pub oldest_noted_idle : (a b : Accounts) (r n : ℕ) (families : List (List ℕ)) (fresh t : List FamilyMark) → IsInOrder a → r ≤ 64 → get_or a.flushing r 0 ≡ 0
    → AreFresh fresh r n families → ArePoured (get_or a.oldest r []) t fresh → b.oldest ≡ set a.oldest r t → b.since ≡ a.since
    → (q : ℕ) (f : List ℕ) → oldest_at b q f ≡ cond (eqb r q && has_family families f) (first_given (oldest_at a q f) n) (oldest_at a q f)
oldest_noted_idle a b r n families fresh t order within idle of poured oldest since q f =
    rw (oldest, since, marks_set a.oldest r t q within order.wide.oldest)
    (by_region r q (λ y. first_given (number_of (cond y t (get_or a.oldest q [])) q f) (since_at a q f) ≡ cond (y && has_family families f) (first_given (oldest_at a q f) n) (oldest_at a q f))
    (λ e. ap (λ k. first_given k (since_at a q f)) (poured_here fresh (get_or a.oldest r []) t r n families q f of poured e ∙ ap (λ k. first_given (number_of (get_or a.oldest k []) q f) (cond (has_family families f) n 0)) e)
    ∙ oldest_idle (number_of (get_or a.oldest q []) q f) (since_at a q f) n (has_family families f) ((order.regions q).since_none (sym (ap (λ k. get_or a.flushing k 0) e) ∙ idle) f))
    refl)

pub since_noted_idle : (a b : Accounts) (r n : ℕ) (families : List (List ℕ)) → get_or a.flushing r 0 ≡ 0 → b.since ≡ a.since
    → (q : ℕ) (f : List ℕ) → since_at b q f ≡ cond (eqb r q && has_family families f) (cond (eqb (get_or a.flushing q 0) 0) (since_at a q f) (first_given (since_at a q f) n)) (since_at a q f)
since_noted_idle a b r n families idle since q f =
    rw since (by_region r q (λ y. since_at a q f ≡ cond (y && has_family families f) (cond (eqb (get_or a.flushing q 0) 0) (since_at a q f) (first_given (since_at a q f) n)) (since_at a q f))
    (λ e. rw (eq-eqb (get_or a.flushing q 0) 0 (sym (ap (λ k. get_or a.flushing k 0) e) ∙ idle)) (both (has_family families f)))
    refl)
  where
    both : (y : Bool) → since_at a q f ≡ cond y (since_at a q f) (since_at a q f)
    both true = refl
    both false = refl

pub oldest_noted_busy : (a b : Accounts) (r n : ℕ) (families : List (List ℕ)) (fresh t : List FamilyMark) → IsInOrder a → r ≤ 64
    → AreFresh fresh r n families → ArePoured (get_or a.since r []) t fresh → b.oldest ≡ a.oldest → b.since ≡ set a.since r t
    → (q : ℕ) (f : List ℕ) → oldest_at b q f ≡ cond (eqb r q && has_family families f) (first_given (oldest_at a q f) n) (oldest_at a q f)
oldest_noted_busy a b r n families fresh t order within of poured oldest since q f =
    rw (oldest, since, marks_set a.since r t q within order.wide.since)
    (by_region r q (λ y. first_given (number_of (get_or a.oldest q []) q f) (number_of (cond y t (get_or a.since q [])) q f) ≡ cond (y && has_family families f) (first_given (oldest_at a q f) n) (oldest_at a q f))
    (λ e. ap (first_given (number_of (get_or a.oldest q []) q f)) (poured_here fresh (get_or a.since r []) t r n families q f of poured e ∙ ap (λ k. first_given (number_of (get_or a.since k []) q f) (cond (has_family families f) n 0)) e)
    ∙ oldest_busy (number_of (get_or a.oldest q []) q f) (since_at a q f) n (has_family families f))
    refl)

pub since_noted_busy : (a b : Accounts) (r n : ℕ) (families : List (List ℕ)) (fresh t : List FamilyMark) → IsInOrder a → r ≤ 64 → get_or a.flushing r 0 ≢ 0
    → AreFresh fresh r n families → ArePoured (get_or a.since r []) t fresh → b.since ≡ set a.since r t
    → (q : ℕ) (f : List ℕ) → since_at b q f ≡ cond (eqb r q && has_family families f) (cond (eqb (get_or a.flushing q 0) 0) (since_at a q f) (first_given (since_at a q f) n)) (since_at a q f)
since_noted_busy a b r n families fresh t order within busy of poured since q f =
    rw (since, marks_set a.since r t q within order.wide.since)
    (by_region r q (λ y. number_of (cond y t (get_or a.since q [])) q f ≡ cond (y && has_family families f) (cond (eqb (get_or a.flushing q 0) 0) (since_at a q f) (first_given (since_at a q f) n)) (since_at a q f))
    (λ e. poured_here fresh (get_or a.since r []) t r n families q f of poured e ∙ ap (λ k. first_given (number_of (get_or a.since k []) q f) (cond (has_family families f) n 0)) e
    ∙ rw (ne_eqb (get_or a.flushing q 0) 0 (λ z. busy (ap (λ k. get_or a.flushing k 0) e ∙ z))) (push (has_family families f)))
    refl)
  where
    push : (y : Bool) → first_given (since_at a q f) (cond y n 0) ≡ cond y (first_given (since_at a q f) n) (since_at a q f)
    push true = refl
    push false = first_zero (since_at a q f)

-- ---- a flush ends

pub since_ended : (a b : Accounts) (r : ℕ) → IsInOrder a → r ≤ 64 → b.since ≡ set a.since r [] → (q : ℕ) (f : List ℕ) → since_at b q f ≡ cond (eqb r q) 0 (since_at a q f)
since_ended a b r order within since q f =
    rw (since, marks_set a.since r [] q within order.wide.since)
    (by_region r q (λ y. number_of (cond y [] (get_or a.since q [])) q f ≡ cond y 0 (since_at a q f)) (λ e. refl) refl)

-- of all families

pub flushed_all : (a b : Accounts) (r n : ℕ) → IsInOrder a → r ≤ 64 → b.whole ≡ set a.whole r n → b.flushed ≡ set a.flushed r []
    → (q : ℕ) (f : List ℕ) → flushed_at b q f ≡ cond (eqb r q && is_for [] f) n (flushed_at a q f)
flushed_all a b r n order within whole flushed q f =
    rw (whole, flushed, marks_set a.flushed r [] q within order.wide.flushed, number_set a.whole r n q within order.wide.whole)
    (by_region r q (λ y. max (cond y n (get_or a.whole q 0)) (number_of (cond y [] (get_or a.flushed q [])) q f) ≡ cond (y && is_for [] f) n (flushed_at a q f)) (λ e. omega arith) refl)

pub oldest_all : (a b : Accounts) (r : ℕ) → IsInOrder a → r ≤ 64 → b.oldest ≡ set a.oldest r (get_or a.since r []) → b.since ≡ set a.since r []
    → (q : ℕ) (f : List ℕ) → oldest_at b q f ≡ cond (eqb r q && is_for [] f) (since_at a q f) (oldest_at a q f)
oldest_all a b r order within oldest since q f =
    rw (oldest, since, marks_set a.oldest r (get_or a.since r []) q within order.wide.oldest, marks_set a.since r [] q within order.wide.since)
    (by_region r q (λ y. first_given (number_of (cond y (get_or a.since r []) (get_or a.oldest q [])) q f) (number_of (cond y [] (get_or a.since q [])) q f) ≡ cond (y && is_for [] f) (since_at a q f) (oldest_at a q f))
    (λ e. first_zero (number_of (get_or a.since r []) q f) ∙ ap (λ k. number_of (get_or a.since k []) q f) e)
    refl)

-- of one family

same_for : (family f : List ℕ) → 1 ≤ length family → is_for family f ≡ is_same family f
same_for family f given = ap (λ b. b || is_same family f) (ne_eqb (length family) 0 (λ z. absurd (omega arith)))

pub flushed_one : (a b : Accounts) (r n : ℕ) (family : List ℕ) (t : List FamilyMark) → IsInOrder a → r ≤ 64 → 1 ≤ length family → 1 ≤ n → get_or a.flushing r 0 ≡ n
    → b.whole ≡ a.whole → b.flushed ≡ set a.flushed r t → IsPut (get_or a.flushed r []) t r family n
    → (q : ℕ) (f : List ℕ) → flushed_at b q f ≡ cond (eqb r q && is_for family f) n (flushed_at a q f)
flushed_one a b r n family t order within named given under_way whole flushed put q f =
    rw (whole, flushed, marks_set a.flushed r t q within order.wide.flushed, same_for family f named)
    (by_region r q (λ y. max (get_or a.whole q 0) (number_of (cond y t (get_or a.flushed q [])) q f) ≡ cond (y && is_same family f) n (flushed_at a q f))
    (λ e. let old = ap (λ k. number_of (get_or a.flushed k []) q f) e in
    ap (max (get_or a.whole q 0)) (put.numbers q f ∙ ap (λ y. cond (y && is_same family f) n (number_of (get_or a.flushed r []) q f)) (eq-eqb r q e) ∙ ap (λ k. cond (is_same family f) n k) old)
    ∙ (let low = (order.regions q).flushing_above (let at = sym (ap (λ k. get_or a.flushing k 0) e) ∙ under_way in omega arith) f in let at = sym (ap (λ k. get_or a.flushing k 0) e) ∙ under_way in
    reach (is_same family f) (get_or a.whole q 0) (number_of (get_or a.flushed q []) q f) (omega arith)))
    refl)
  where
    reach : (y : Bool) (w k : ℕ) → w ≤ n → max w (cond y n k) ≡ cond y n (max w k)
    reach true w k le = omega arith
    reach false w k le = refl

pub oldest_one : (a b : Accounts) (r : ℕ) (family : List ℕ) (t u : List FamilyMark) → IsInOrder a → r ≤ 64 → 1 ≤ length family
    → IsPut (get_or a.oldest r []) t r family 0 → ArePoured t u (get_or a.since r []) → b.oldest ≡ set a.oldest r u → b.since ≡ set a.since r []
    → (q : ℕ) (f : List ℕ) → oldest_at b q f ≡ cond (eqb r q && is_for family f) (since_at a q f) (oldest_at a q f)
oldest_one a b r family t u order within named put poured oldest since q f =
    rw (oldest, since, marks_set a.oldest r u q within order.wide.oldest, marks_set a.since r [] q within order.wide.since, same_for family f named)
    (by_region r q (λ y. first_given (number_of (cond y u (get_or a.oldest q [])) q f) (number_of (cond y [] (get_or a.since q [])) q f) ≡ cond (y && is_same family f) (since_at a q f) (oldest_at a q f))
    (λ e. first_zero (number_of u q f) ∙ poured q f
    ∙ ap (λ k. first_given (number_of t q f) (number_of (get_or a.since k []) q f)) e
    ∙ ap (λ k. first_given k (since_at a q f)) (put.numbers q f ∙ ap (λ y. cond (y && is_same family f) 0 (number_of (get_or a.oldest r []) q f)) (eq-eqb r q e) ∙ ap (λ k. cond (is_same family f) 0 (number_of (get_or a.oldest k []) q f)) e)
    ∙ choose (is_same family f) (number_of (get_or a.oldest q []) q f) (since_at a q f))
    refl)
  where
    choose : (y : Bool) (o s : ℕ) → first_given (cond y 0 o) s ≡ cond y s (first_given o s)
    choose true o s = refl
    choose false o s = refl

-- it failed

pub oldest_aborted : (a b : Accounts) (r : ℕ) (t : List FamilyMark) → IsInOrder a → r ≤ 64 → ArePoured (get_or a.oldest r []) t (get_or a.since r [])
    → b.oldest ≡ set a.oldest r t → b.since ≡ set a.since r [] → (q : ℕ) (f : List ℕ) → oldest_at b q f ≡ oldest_at a q f
oldest_aborted a b r t order within poured oldest since q f =
    rw (oldest, since, marks_set a.oldest r t q within order.wide.oldest, marks_set a.since r [] q within order.wide.since)
    (by_region r q (λ y. first_given (number_of (cond y t (get_or a.oldest q [])) q f) (number_of (cond y [] (get_or a.since q [])) q f) ≡ oldest_at a q f)
    (λ e. first_zero (number_of t q f) ∙ poured q f ∙ ap (λ k. first_given (number_of (get_or a.oldest k []) q f) (number_of (get_or a.since k []) q f)) e)
    refl)
