-- What each call makes of the accounts, from what it does to their parts.
use Rattle.std.proofs.Common.{◌≡◌, ◌≢◌, inl, inr, ℕ, ◌<◌, ◌≤◌, ⊎_elim, Bool, true, false, cond, ◌&&◌, eqb, List, [], ◌∷◌, ◌++◌, length, get_or, set, refl, sym, ap, subst, ◌∙◌, arith, length-set}
use Rattle.std.proofs.lemmas.Grind.{get_or-set_at}
use Rattle.std.proofs.lemmas.Bool.{ne_eqb}
use Rattle.seq_accounting.specs.Marks.{FamilyMark, IsPut, AreGiven, ArePoured, is_same, first_given, number_of, has_family, families_in}
use Rattle.seq_accounting.specs.Branch.{Branch}
use Rattle.seq_accounting.specs.Regions.{IsPutAt, IsPouredAt}
use Rattle.seq_accounting.specs.Accounts.{Accounts, Flush, is_for, flushed_at, since_at, oldest_at}
use Rattle.seq_accounting.specs.Steps.{SameFlushed, SameFiles, IsNoted, IsCompleted, IsAborted}
use Rattle.seq_accounting.specs.Noted.{Note, NoneAbove, IsLeastAbove, HasNoted}
use Rattle.seq_accounting.specs.Order.{IsInOrder, AreWide}
use Rattle.seq_accounting.proofs.KeyLaws.{first_none, first_some}
use Rattle.seq_accounting.proofs.OrderLaws.{marks_set, order_noted}
use Rattle.seq_accounting.proofs.StepLaws.{AreFresh, by_region, oldest_noted_idle, since_noted_idle, oldest_noted_busy, since_noted_busy, since_ended, flushed_all, oldest_all, flushed_one, oldest_one, oldest_aborted}

-- ---- an entry is noted

-- what a note does whether or not a flush is under way
pub record Notes (a b : Accounts) (r n : ℕ) (families : List (List ℕ)) (fresh : List FamilyMark) : Type 0 where
  pub account : List FamilyMark
  pub file : List FamilyMark
  pub of_account : families_in account ≡ families
  pub of_file : (f : List ℕ) → has_family (families_in file) f ≡ has_family families f
  pub given : AreGiven [] fresh r n account
  pub current : AreGiven a.current b.current r n file
  pub noted : b.noted ≡ set a.noted r n
  pub flushed : SameFlushed a b
  pub flushing : b.flushing ≡ a.flushing
  pub files : SameFiles a b

fresh_of : (a b : Accounts) (r n : ℕ) (families : List (List ℕ)) (fresh : List FamilyMark) → Notes a b r n families fresh → AreFresh fresh r n families
fresh_of a b r n families fresh is q f = is.given q f ∙ ap (λ l. cond (eqb r q && has_family l f) n 0) is.of_account

current_of : (a b : Accounts) (r n : ℕ) (families : List (List ℕ)) (fresh : List FamilyMark) → Notes a b r n families fresh
    → (q : ℕ) (f : List ℕ) → number_of b.current q f ≡ cond (eqb r q && has_family families f) n (number_of a.current q f)
current_of a b r n families fresh is q f = is.current q f ∙ ap (λ h. cond (eqb r q && h) n (number_of a.current q f)) (is.of_file f)

pub noted_idle : (a b : Accounts) (r n : ℕ) (families : List (List ℕ)) (fresh : List FamilyMark) → IsInOrder a → r ≤ 64 → get_or a.flushing r 0 ≡ 0 → Notes a b r n families fresh
    → IsPouredAt a.oldest b.oldest r fresh → b.since ≡ a.since → IsNoted a b r n families
noted_idle a b r n families fresh order within idle is poured since = record {
  noted = is.noted;
  current = current_of a b r n families fresh is;
  oldest = oldest_noted_idle a b r n families fresh poured.now order within idle (fresh_of a b r n families fresh is) poured.poured poured.set since;
  since = since_noted_idle a b r n families idle since;
  flushed = is.flushed;
  flushing = is.flushing;
  files = is.files;
}

pub noted_busy : (a b : Accounts) (r n : ℕ) (families : List (List ℕ)) (fresh : List FamilyMark) → IsInOrder a → r ≤ 64 → get_or a.flushing r 0 ≢ 0 → Notes a b r n families fresh
    → b.oldest ≡ a.oldest → IsPouredAt a.since b.since r fresh → IsNoted a b r n families
noted_busy a b r n families fresh order within busy is oldest poured = record {
  noted = is.noted;
  current = current_of a b r n families fresh is;
  oldest = oldest_noted_busy a b r n families fresh poured.now order within (fresh_of a b r n families fresh is) poured.poured oldest poured.set;
  since = since_noted_busy a b r n families fresh poured.now order within busy (fresh_of a b r n families fresh is) poured.poured poured.set;
  flushed = is.flushed;
  flushing = is.flushing;
  files = is.files;
}

pub wide_noted : (a b : Accounts) (r n : ℕ) (families : List (List ℕ)) → IsInOrder a → IsNoted a b r n families → length b.oldest ≡ 65 → length b.since ≡ 65 → AreWide b
wide_noted a b r n families order is oldest since = record {
  whole = ap length is.flushed.whole ∙ order.wide.whole;
  noted = ap length is.noted ∙ length-set a.noted r n ∙ order.wide.noted;
  flushing = ap length is.flushing ∙ order.wide.flushing;
  flushed = ap length is.flushed.flushed ∙ order.wide.flushed;
  oldest = oldest;
  since = since;
}

-- ---- a flush ends

pub record Ends (a b : Accounts) (r : ℕ) : Type 0 where
  pub since : b.since ≡ set a.since r []
  pub flushing : b.flushing ≡ set a.flushing r 0
  pub noted : b.noted ≡ a.noted
  pub current : b.current ≡ a.current
  pub files : SameFiles a b

pub completed_all : (a b : Accounts) (r n : ℕ) → IsInOrder a → r ≤ 64 → Ends a b r → b.whole ≡ set a.whole r n → b.flushed ≡ set a.flushed r [] → b.oldest ≡ set a.oldest r (get_or a.since r [])
    → IsCompleted a b (record { region = r; family = []; number = n })
completed_all a b r n order within ends whole flushed oldest = record {
  flushed = flushed_all a b r n order within whole flushed;
  whole = whole;
  oldest = oldest_all a b r order within oldest ends.since;
  since = since_ended a b r order within ends.since;
  flushing = ends.flushing;
  noted = ends.noted;
  current = ends.current;
  files = ends.files;
}

-- set twice is set once
again : (xs : List (List FamilyMark)) (r : ℕ) (t u : List FamilyMark) → r ≤ 64 → length xs ≡ 65 → (q : ℕ) → get_or (set (set xs r t) r u) q [] ≡ get_or (set xs r u) q []
again xs r t u within wide q = marks_set (set xs r t) r u q within (length-set xs r t ∙ wide)
    ∙ ap (cond (eqb r q) u) (marks_set xs r t q within wide) ∙ same (eqb r q) ∙ sym (marks_set xs r u q within wide)
  where
    same : (b : Bool) → cond b u (cond b t (get_or xs q [])) ≡ cond b u (get_or xs q [])
    same true = refl
    same false = refl

pub completed_one : (a b : Accounts) (r n : ℕ) (family : List ℕ) (m k : Branch) (mid : List (List FamilyMark)) → IsInOrder a → r ≤ 64 → 1 ≤ length family → 1 ≤ n → get_or a.flushing r 0 ≡ n → Ends a b r
    → m ≡ record { region = r; family = family; number = n; below = [] } → k ≡ record { region = r; family = family; number = 0; below = [] }
    → b.whole ≡ a.whole → IsPutAt a.flushed b.flushed r m → IsPutAt a.oldest mid r k → IsPouredAt mid b.oldest r (get_or a.since r [])
    → IsCompleted a b (record { region = r; family = family; number = n })
completed_one a b r n family m k mid order within named given under_way ends is_m is_k whole flushed first poured = record {
  flushed = flushed_one a b r n family flushed.now order within named given under_way whole flushed.set (subst (λ (x : Branch). IsPut (get_or a.flushed r []) flushed.now x.region x.family x.number) is_m flushed.put);
  whole = whole ∙ sym (ap (λ t. cond t (set a.whole r n) a.whole) (ne_eqb (length family) 0 (λ z. absurd (omega arith))));
  oldest = λ q f. ap (λ (l : List FamilyMark). first_given (number_of l q f) (since_at b q f)) (moved q) ∙ oldest_one a (record b { oldest = set a.oldest r poured.now }) r family first.now poured.now order within named
      (subst (λ (x : Branch). IsPut (get_or a.oldest r []) first.now x.region x.family x.number) is_k first.put)
      (subst (λ (l : List FamilyMark). ArePoured l poured.now (get_or a.since r [])) there poured.poured) refl ends.since q f;
  since = since_ended a b r order within ends.since;
  flushing = ends.flushing;
  noted = ends.noted;
  current = ends.current;
  files = ends.files;
}
  where
    there : get_or mid r [] ≡ first.now
    there = ap (λ l. get_or l r []) first.set ∙ get_or-set_at a.oldest r r first.now [] refl (let w = order.wide.oldest in omega arith)

    moved : (q : ℕ) → get_or b.oldest q [] ≡ get_or (set a.oldest r poured.now) q []
    moved q = ap (λ l. get_or l q []) (poured.set ∙ ap (λ l. set l r poured.now) first.set) ∙ again a.oldest r first.now poured.now within order.wide.oldest q

pub aborted : (a b : Accounts) (flush : Flush) → IsInOrder a → flush.region ≤ 64 → Ends a b flush.region → SameFlushed a b → IsPouredAt a.oldest b.oldest flush.region (get_or a.since flush.region []) → IsAborted a b flush
aborted a b flush order within ends flushed poured = record {
  flushed = flushed;
  oldest = oldest_aborted a b flush.region poured.now order within poured.poured poured.set ends.since;
  since = since_ended a b flush.region order within ends.since;
  flushing = ends.flushing;
  noted = ends.noted;
  current = ends.current;
  files = ends.files;
}

-- ---- the least number that isn't flushed

pub none_unflushed : (a : Accounts) (notes : List Note) (r : ℕ) (f : List ℕ) → number_of (get_or a.oldest r []) r f ≡ 0 → since_at a r f ≡ 0 → HasNoted a notes → NoneAbove notes r f (flushed_at a r f)
none_unflushed a notes r f one two h = (h.oldest r f).none (first_none (number_of (get_or a.oldest r []) r f) (since_at a r f) one ∙ two)

pub least_old : (a : Accounts) (notes : List Note) (r : ℕ) (f : List ℕ) (k : ℕ) → number_of (get_or a.oldest r []) r f ≡ k → k ≢ 0 → HasNoted a notes → IsLeastAbove notes r f (flushed_at a r f) k
least_old a notes r f k is some h =
    let at : oldest_at a r f ≡ k = first_some (number_of (get_or a.oldest r []) r f) (since_at a r f) (λ z. some (sym is ∙ z)) ∙ is in
    subst (IsLeastAbove notes r f (flushed_at a r f)) at ((h.oldest r f).some (omega arith))

pub least_since : (a : Accounts) (notes : List Note) (r : ℕ) (f : List ℕ) (k : ℕ) → number_of (get_or a.oldest r []) r f ≡ 0 → since_at a r f ≡ k → k ≢ 0 → HasNoted a notes → IsLeastAbove notes r f (flushed_at a r f) k
least_since a notes r f k one is some h =
    let at : oldest_at a r f ≡ k = first_none (number_of (get_or a.oldest r []) r f) (since_at a r f) one ∙ is in
    subst (IsLeastAbove notes r f (flushed_at a r f)) at ((h.oldest r f).some (omega arith))

-- ---- order and history after a note

pub order_idle : (a b : Accounts) (r n : ℕ) (families : List (List ℕ)) (fresh : List FamilyMark) → IsInOrder a → r ≤ 64 → get_or a.noted r 0 < n → get_or a.flushing r 0 ≡ 0 → Notes a b r n families fresh
    → IsPouredAt a.oldest b.oldest r fresh → b.since ≡ a.since → length b.oldest ≡ 65 → IsInOrder b
order_idle a b r n families fresh order within above idle is poured since places =
    let noted = noted_idle a b r n families fresh order within idle is poured since in
    order_noted a b r n families order within above noted (wide_noted a b r n families order noted places (ap length since ∙ order.wide.since))

pub order_busy : (a b : Accounts) (r n : ℕ) (families : List (List ℕ)) (fresh : List FamilyMark) → IsInOrder a → r ≤ 64 → get_or a.noted r 0 < n → get_or a.flushing r 0 ≢ 0 → Notes a b r n families fresh
    → b.oldest ≡ a.oldest → IsPouredAt a.since b.since r fresh → length b.since ≡ 65 → IsInOrder b
order_busy a b r n families fresh order within above busy is oldest poured places =
    let noted = noted_busy a b r n families fresh order within busy is oldest poured in
    order_noted a b r n families order within above noted (wide_noted a b r n families order noted (ap length oldest ∙ order.wide.oldest) places)

-- ---- and after the end of a flush

pub wide_ended : (a b : Accounts) (r : ℕ) → IsInOrder a → Ends a b r → length b.whole ≡ 65 → length b.flushed ≡ 65 → length b.oldest ≡ 65 → AreWide b
wide_ended a b r order ends whole flushed oldest = record {
  whole = whole;
  noted = ap length ends.noted ∙ order.wide.noted;
  flushing = ap length ends.flushing ∙ length-set a.flushing r 0 ∙ order.wide.flushing;
  flushed = flushed;
  oldest = oldest;
  since = ap length ends.since ∙ length-set a.since r [] ∙ order.wide.since;
}
