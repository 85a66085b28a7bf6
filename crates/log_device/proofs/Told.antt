-- What is told of regions after a flush.
use Rattle.std.proofs.Common.{◌≡◌, ◌≢◌, ◌↔◌, inl, inr, ℕ, ◌+◌, ◌≤◌, ◌<◌, Bool, true, false, not, List, [], length, set, Contains, Option, None, Some, IfSome, is_some, option_copied, Bor, get_or, refl, sym, ap, ◌∙◌, subst, arith}
use Rattle.std.proofs.lemmas.Bool.{cases_eq, cases_lt}
use Rattle.std.proofs.lemmas.List.{get_or-set_same, get_or-set_other, get_or_past}
use Rattle.recovery_laws.specs.Kept.{lasts}
use Rattle.log_ledger.specs.declared.base.RegionBase.{RegionBase}
use Rattle.log_ledger.specs.Bases.{IsAmong, AreNumbersOf}
use Rattle.log_ledger.specs.Numbers.{Numbers, IsServed, AreInOrder}
use Rattle.log_ledger.specs.History.{History, family_in}

-- of the region it is this number where all of it was asked for, and else all is as it was
pub record IsTold (r : ℕ) (family : Option (List ℕ)) (n : ℕ) (old new : Numbers) : Type 0 where
  pub all : family ≡ None → get_or new.stored r 0 ≡ n
  pub one : (f : List ℕ) → family ≡ Some f → new.stored ≡ old.stored
  pub others : (q : ℕ) → (q ≡ r → ⊥) → get_or new.stored q 0 ≡ get_or old.stored q 0
  pub rises : (q : ℕ) → get_or old.stored q 0 ≤ get_or new.stored q 0

pub told_all : (r n : ℕ) (old new : Numbers) → r < length old.stored → new.stored ≡ set old.stored r n → get_or old.stored r 0 ≤ n → IsTold r None n old new
told_all r n old new place stored low = record { all = λ all. here; one = λ f one. absurd (cc one); others = elsewhere; rises = risen }
  where
    here : get_or new.stored r 0 ≡ n
    here = ap (λ (l : List ℕ). get_or l r 0) stored ∙ get_or-set_same old.stored r n 0 place

    elsewhere : (q : ℕ) → (q ≡ r → ⊥) → get_or new.stored q 0 ≡ get_or old.stored q 0
    elsewhere q other = ap (λ (l : List ℕ). get_or l q 0) stored ∙ get_or-set_other old.stored r q n 0 other

    risen : (q : ℕ) → get_or old.stored q 0 ≤ get_or new.stored q 0
    risen q = elim (cases_eq q r) as (λ _. get_or old.stored q 0 ≤ get_or new.stored q 0) [
      | inl is ↦ subst (λ (k : ℕ). get_or old.stored k 0 ≤ get_or new.stored k 0) (sym is) (omega (arith, here, low))
      | inr other ↦ (let same = elsewhere q other in omega (arith, same))
    ]

pub told_one : (r n : ℕ) (f : List ℕ) (old new : Numbers) → new.stored ≡ old.stored → IsTold r (Some f) n old new
told_one r n f old new same = record {
  all = λ all. absurd (cc all);
  one = λ g one. same;
  others = λ q other. ap (λ (l : List ℕ). get_or l q 0) same;
  rises = λ q. let is = ap (λ (l : List ℕ). get_or l q 0) same in omega (arith, is);
}

-- a region is served on when its store's number is counted on
pub still_served : (old new : Numbers) (r : ℕ) → r < length old.next_store → new.next_store ≡ set old.next_store r (get_or old.next_store r 0 + 1) → (q : ℕ) → IsServed old q → IsServed new q
still_served old new r place stores q served = elim (cases_eq q r) as (λ _. IsServed new q) [
  | inl is ↦
      let next : get_or new.next_store q 0 ≡ get_or old.next_store r 0 + 1 = (λ i. get_or (stores i) (is i) 0) ∙ get_or-set_same old.next_store r (get_or old.next_store r 0 + 1) 0 place in
      omega (arith, next)
  | inr other ↦
      let next : get_or new.next_store q 0 ≡ get_or old.next_store q 0 = ap (λ (l : List ℕ). get_or l q 0) stores ∙ get_or-set_other old.next_store r q (get_or old.next_store r 0 + 1) 0 other in
      omega (arith, next, served)
]

-- a region that is served has a place
pub served_place : (b : Numbers) (r : ℕ) → AreInOrder b → IsServed b r → r < 65
served_place b r order served = elim (cases_lt r (length b.next_store)) as (λ _. r < 65) [
  | inl within ↦ omega (arith, within, order.wide.next_store)
  | inr past ↦ absurd (let none = get_or_past b.next_store r 0 past in omega (arith, none, served))
]

pub served_low : (b : Numbers) (r : ℕ) → AreInOrder b → IsServed b r → r ≤ 64
served_low b r order served = omega (arith, served_place b r order served)

pub told_place : (b : Numbers) (r : ℕ) → AreInOrder b → IsServed b r → r < length b.stored
told_place b r order served = omega (arith, served_place b r order served, order.wide.stored)

pub store_place : (b : Numbers) (r : ℕ) → AreInOrder b → IsServed b r → r < length b.next_store
store_place b r order served = omega (arith, served_place b r order served, order.wide.next_store)

-- at the start each region is told as it was found
pub started_low : (regions : List RegionBase) (flushed : ℕ → ℕ) (b : Numbers) → ((m : RegionBase) → Contains regions m → flushed m.region ≡ m.flushed) → ((r : ℕ) → IsServed b r ↔ IsAmong regions r)
    → AreNumbersOf (λ m. m.flushed) regions b.drawn → b.stored ≡ b.drawn → (r : ℕ) → get_or b.stored r 0 ≤ flushed r
started_low regions flushed b marks served numbers stored r = elim (cases_lt 0 (get_or b.next_store r 0)) as (λ _. get_or b.stored r 0 ≤ flushed r) [
  | inl some ↦
      let m = (served r).0 some in
      let number = numbers.named m.0 m.1 in
      let at : get_or b.stored r 0 ≡ get_or b.drawn m.0.region 0 = (λ i. get_or (stored i) (sym m.2 i) 0) in
      omega (arith, at, number, marks m.0 m.1, ap flushed m.2)
  | inr none ↦
      let zero = numbers.others r (λ m has is. let some = (served r).1 (m, has, is) in omega (arith, none, some)) in
      let at : get_or b.stored r 0 ≡ get_or b.drawn r 0 = (λ i. get_or (stored i) r 0) in
      omega (arith, at, zero)
]

-- a family that is given has a name
pub family_given : (family : Option (Bor (List ℕ))) → IfSome family (λ f. (1 ≤ length f.now) × (length f.now ≤ 127)) → (f : List ℕ) → option_copied family ≡ Some f → f ≢ []
family_given None given f is none = absurd (cc is)
family_given (Some b) given f is none =
    let same : b.now ≡ f = cc is in
    let empty : length b.now ≡ 0 = ap length (same ∙ none) in
    omega (arith, given.0, empty)

pub family_short : (family : Option (Bor (List ℕ))) → IfSome family (λ f. (1 ≤ length f.now) × (length f.now ≤ 127)) → length (family_in (option_copied family)) ≤ 127
family_short None given = omega arith
family_short (Some b) given = given.1

-- what a flush that came off tells
pub stored_told : (r n : ℕ) (family : Option (List ℕ)) (old new : Numbers) → r < length old.stored → (family_in family ≡ [] → new.stored ≡ set old.stored r n) → (family_in family ≢ [] → new.stored ≡ old.stored)
    → ((f : List ℕ) → family ≡ Some f → f ≢ []) → (family ≡ None → get_or old.stored r 0 ≤ n) → IsTold r family n old new
stored_told r n None old new place all one given low = told_all r n old new place (all refl) (low refl)
stored_told r n (Some f) old new place all one given low = told_one r n f old new (one (given f refl))

-- in the words of the ledger's flush
pub flush_told : (r n : ℕ) (family : Option (Bor (List ℕ))) (room : List ℕ) (old now new : Numbers) → now ≡ old → room ≡ family_in (option_copied family) → n ≡ get_or old.drawn r 0 → AreInOrder old → IsServed old r
    → IfSome family (λ f. (1 ≤ length f.now) × (length f.now ≤ 127)) → (option_copied family ≡ None → get_or old.stored r 0 < get_or old.drawn r 0)
    → (room ≡ [] → new.stored ≡ set now.stored r (get_or now.drawn r 0)) → (room ≢ [] → new.stored ≡ now.stored) → IsTold r (option_copied family) n old new
flush_told r n family room old now new same room_is n_is order served given above put still =
    stored_told r n (option_copied family) old new (told_place old r order served)
    (λ all. subst (λ (b : Numbers). new.stored ≡ set b.stored r (get_or b.drawn r 0)) same (put (room_is ∙ all)) ∙ ap (λ (m : ℕ). set old.stored r m) (sym n_is))
    (λ one. still (λ none. one (sym room_is ∙ none)) ∙ ap (λ (b : Numbers). b.stored) same) (family_given family given) (λ all. let lower = above all in omega (arith, lower, n_is))

-- as it is told whether one is given
pub none_given : (family : Option (Bor (List ℕ))) (none : Bool) → is_some family ≡ not none → none ≡ true → option_copied family ≡ None
none_given None none says is = refl
none_given (Some b) none says is = absurd (cc (says, ap not is))

pub some_given : (family : Option (Bor (List ℕ))) (none : Bool) → is_some family ≡ not none → none ≡ false → (f : List ℕ) × (option_copied family ≡ Some f)
some_given None none says is = absurd (cc (says, ap not is))
some_given (Some b) none says is = (b.now, refl)

-- what a flush that found nothing tells
pub kept_told : (r n : ℕ) (family : Option (List ℕ)) (old new : Numbers) → family ≡ None → r < length old.stored → new.stored ≡ set old.stored r n → get_or old.stored r 0 ≤ n → IsTold r family n old new
kept_told r n family old new none place stored low = subst (λ (f : Option (List ℕ)). IsTold r f n old new) (sym none) (told_all r n old new place stored low)

pub same_told_of : (r n : ℕ) (family : Option (List ℕ)) (f : List ℕ) (old : Numbers) → family ≡ Some f → IsTold r family n old old
same_told_of r n family f old some = subst (λ (g : Option (List ℕ)). IsTold r g n old old) (sym some) (told_one r n f old old refl)

-- after a flush what is told of a region is its last committed number, or as it was
pub told_after : (r n : ℕ) (family : Option (List ℕ)) (old new : Numbers) (h : History) → IsTold r family n old new → n ≡ lasts h.kept.first h.kept.durable r → ((q : ℕ) → get_or old.stored q 0 ≤ lasts h.kept.first h.kept.durable q)
    → (q : ℕ) → get_or new.stored q 0 ≤ lasts h.kept.first h.kept.durable q
told_after r n None old new h told is was q = elim (cases_eq q r) as (λ _. get_or new.stored q 0 ≤ lasts h.kept.first h.kept.durable q) [
  | inl here ↦ subst (λ (k : ℕ). get_or new.stored k 0 ≤ lasts h.kept.first h.kept.durable k) (sym here) (let now = told.all refl in omega (arith, now, is))
  | inr other ↦ (let same = told.others q other in omega (arith, same, was q))
]
told_after r n (Some f) old new h told is was q = subst (λ (l : List ℕ). get_or l q 0 ≤ lasts h.kept.first h.kept.durable q) (sym (told.one f refl)) (was q)
