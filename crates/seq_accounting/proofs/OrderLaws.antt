-- Numbers that stay in order.
use Rattle.std.proofs.Common.{◌≡◌, ◌≢◌, ◌⊎◌, inl, inr, ℕ, zero, suc, ◌<◌, ◌≤◌, ⊎_elim, max, Bool, true, false, cond, ◌&&◌, eqb, List, [], ◌∷◌, ◌++◌, length, get_or, set, replicate, Contains, refl, sym, ap, subst, ◌∙◌, arith, get_or-set_other, length-set}
use Rattle.std.specs.Prelude.{AllPairs}
use Rattle.std.proofs.lemmas.Grind.{get_or-set_at}
use Rattle.std.proofs.lemmas.Bool.{cases_eq, cases_Bool, and_parts, eqb-true, eq-eqb, ne_eqb}
use Rattle.std.specs.List.{filter, All}
use Rattle.std.proofs.lemmas.List.Elements.{Contains-get_or, Contains-push_cases, All-filter}
use Rattle.std.proofs.lemmas.List.Quantifiers.{all_pairs_push}
use Rattle.seq_accounting.specs.Marks.{FamilyMark, first_given, number_of, has_family}
use Rattle.seq_accounting.specs.Accounts.{ClosedFile, Accounts, Flush, IsBefore, is_for, flushed_at, since_at}
use Rattle.seq_accounting.specs.Steps.{IsNoted, IsStarted, IsCompleted, IsAborted, SameFiles, SameNumbers}
use Rattle.seq_accounting.specs.Order.{AreOfRegion, IsOfFiles, AreWide, IsInOrder}

-- a list of numbers where one is set
pub number_set : (xs : List ℕ) (r n q : ℕ) → r ≤ 64 → length xs ≡ 65 → get_or (set xs r n) q 0 ≡ cond (eqb r q) n (get_or xs q 0)
number_set xs r n q within wide = ⊎_elim
    (λ (e : q ≡ r). get_or-set_at xs r q n 0 e (omega arith) ∙ sym (ap (λ b. cond b n (get_or xs q 0)) (eq-eqb r q (sym e))))
    (λ (ne : q ≢ r). get_or-set_other xs r q n 0 ne ∙ sym (ap (λ b. cond b n (get_or xs q 0)) (ne_eqb r q (λ e. ne (sym e)))))
    (cases_eq q r)

-- a list of marks by region where one is set
pub marks_set : (xs : List (List FamilyMark)) (r : ℕ) (ms : List FamilyMark) (q : ℕ) → r ≤ 64 → length xs ≡ 65 → get_or (set xs r ms) q [] ≡ cond (eqb r q) ms (get_or xs q [])
marks_set xs r ms q within wide = ⊎_elim
    (λ (e : q ≡ r). get_or-set_at xs r q ms [] e (omega arith) ∙ sym (ap (λ b. cond b ms (get_or xs q [])) (eq-eqb r q (sym e))))
    (λ (ne : q ≢ r). get_or-set_other xs r q ms [] ne ∙ sym (ap (λ b. cond b ms (get_or xs q [])) (ne_eqb r q (λ e. ne (sym e)))))
    (cases_eq q r)

-- the highest numbers are no lower where one is set that is no lower
not_lower : (xs : List ℕ) (r n q : ℕ) → r ≤ 64 → length xs ≡ 65 → get_or xs r 0 ≤ n → get_or xs q 0 ≤ get_or (set xs r n) q 0
not_lower xs r n q within wide le = ⊎_elim
    (λ (e : q ≡ r). let at = get_or-set_at xs r q n 0 e (omega arith) in let same = ap (λ k. get_or xs k 0) e in omega arith)
    (λ (ne : q ≢ r). let at = get_or-set_other xs r q n 0 ne in omega arith)
    (cases_eq q r)

files_higher : (a : Accounts) (noted : List ℕ) → IsInOrder a → ((q : ℕ) → get_or a.noted q 0 ≤ get_or noted q 0) → (c : ClosedFile) → Contains a.closed c → IsOfFiles a.last noted c
files_higher a noted order higher c there = let of = order.files c there in record {
  given = of.given;
  closed = of.closed;
  highest = λ r f. let low = of.highest r f in let up = higher r in omega arith;
}

-- an entry was noted
pub order_noted : (a b : Accounts) (r n : ℕ) (families : List (List ℕ)) → IsInOrder a → r ≤ 64 → get_or a.noted r 0 < n → IsNoted a b r n families → AreWide b → IsInOrder b
order_noted a b r n families order within above is wide = record {
  wide = wide;
  regions = λ q. let h = order.regions q in let up = higher q in record {
    flushed_noted = λ f. rw (is.flushed.whole, is.flushed.flushed) (let low = h.flushed_noted f in omega arith);
    current_noted = λ f. rw (is.current q f) (elim (cases_Bool (eqb r q && has_family families f)) as (λ _. cond (eqb r q && has_family families f) n (number_of a.current q f) ≤ get_or b.noted q 0) [
      | inl hit ↦ rw hit (
          let e = eqb-true r q (and_parts (eqb r q) (has_family families f) hit).0 in
          let at = ap (λ l. get_or l q 0) is.noted ∙ get_or-set_at a.noted r q n 0 (sym e) (let w = order.wide.noted in omega arith) in omega arith)
      | inr miss ↦ rw miss (let low = h.current_noted f in omega arith)
    ]);
    flushing_noted = rw is.flushing (let low = h.flushing_noted in omega arith);
    flushing_above = rw (is.flushed.whole, is.flushed.flushed, is.flushing) h.flushing_above;
    since_none = rw is.flushing (λ idle f. is.since q f ∙ by (eqb r q && has_family families f) (eqb (get_or a.flushing q 0) 0) (since_at a q f) (first_given (since_at a q f) n) (eq-eqb (get_or a.flushing q 0) 0 idle) (h.since_none idle f));
  };
  rising = rw is.files.closed order.rising;
  files = rw (is.files.closed, is.files.last) (files_higher a b.noted order higher);
}
  where
    higher : (q : ℕ) → get_or a.noted q 0 ≤ get_or b.noted q 0
    higher q = rw is.noted (not_lower a.noted r n q within order.wide.noted (omega arith))

    by : (hit idle : Bool) (s k : ℕ) → idle ≡ true → s ≡ 0 → cond hit (cond idle s k) s ≡ 0
    by true idle s k e z = ap (λ b. cond b s k) e ∙ z
    by false idle s k e z = z

-- a flush began
pub order_started : (a b : Accounts) (r n : ℕ) → IsInOrder a → r ≤ 64 → 1 ≤ n → get_or a.noted r 0 ≤ n → IsStarted a b r n → IsInOrder b
order_started a b r n order within given highest is = record {
  wide = record {
    whole = ap length is.flushed.whole ∙ order.wide.whole;
    noted = ap length is.noted ∙ length-set a.noted r n ∙ order.wide.noted;
    flushing = ap length is.flushing ∙ length-set a.flushing r n ∙ order.wide.flushing;
    flushed = ap length is.flushed.flushed ∙ order.wide.flushed;
    oldest = ap length is.oldest.oldest ∙ order.wide.oldest;
    since = ap length is.oldest.since ∙ order.wide.since;
  };
  regions = λ q. let h = order.regions q in let up = higher q in record {
    flushed_noted = λ f. rw (is.flushed.whole, is.flushed.flushed) (let low = h.flushed_noted f in omega arith);
    current_noted = λ f. rw is.current (let low = h.current_noted f in omega arith);
    flushing_noted = ⊎_elim
        (λ (e : q ≡ r). let one = flushing_at q e in let two = noted_at q e in omega arith)
        (λ (ne : q ≢ r). let one = flushing_other q ne in let low = h.flushing_noted in omega arith)
        (cases_eq q r);
    flushing_above = ⊎_elim
        (λ (e : q ≡ r). λ _ f. rw (is.flushed.whole, is.flushed.flushed) (let one = flushing_at q e in let low = h.flushed_noted f in let same = ap (λ k. get_or a.noted k 0) e in omega arith))
        (λ (ne : q ≢ r). rw (is.flushed.whole, is.flushed.flushed, flushing_other q ne) h.flushing_above)
        (cases_eq q r);
    since_none = ⊎_elim
        (λ (e : q ≡ r). λ idle f. let one = flushing_at q e in absurd (omega arith))
        (λ (ne : q ≢ r). rw (is.oldest.since, flushing_other q ne) h.since_none)
        (cases_eq q r);
  };
  rising = rw is.files.closed order.rising;
  files = rw (is.files.closed, is.files.last) (files_higher a b.noted order higher);
}
  where
    higher : (q : ℕ) → get_or a.noted q 0 ≤ get_or b.noted q 0
    higher q = rw is.noted (not_lower a.noted r n q within order.wide.noted highest)

    flushing_at : (q : ℕ) → q ≡ r → get_or b.flushing q 0 ≡ n
    flushing_at q e = rw is.flushing (get_or-set_at a.flushing r q n 0 e (let w = order.wide.flushing in omega arith))

    noted_at : (q : ℕ) → q ≡ r → get_or b.noted q 0 ≡ n
    noted_at q e = rw is.noted (get_or-set_at a.noted r q n 0 e (let w = order.wide.noted in omega arith))

    flushing_other : (q : ℕ) → q ≢ r → get_or b.flushing q 0 ≡ get_or a.flushing q 0
    flushing_other q ne = rw is.flushing (get_or-set_other a.flushing r q n 0 ne)

-- a flush ended, and each family is flushed as before or up to its number
ended : (a b : Accounts) (flush : Flush) → IsInOrder a → flush.region ≤ 64 → get_or a.flushing flush.region 0 ≡ flush.number
    → ((q : ℕ) (f : List ℕ) → (flushed_at b q f ≡ flushed_at a q f) ⊎ ((flush.region ≡ q) × (flushed_at b q f ≡ flush.number)))
    → ((q : ℕ) (f : List ℕ) → since_at b q f ≡ cond (eqb flush.region q) 0 (since_at a q f))
    → b.flushing ≡ set a.flushing flush.region 0 → b.noted ≡ a.noted → b.current ≡ a.current → SameFiles a b → AreWide b → IsInOrder b
ended a b flush order within under_way flushed since flushing noted current files wide = record {
  wide = wide;
  regions = λ q. let h = order.regions q in record {
    flushed_noted = λ f. rw noted (elim (flushed q f) as (λ _. flushed_at b q f ≤ get_or a.noted q 0) [
      | inl same ↦ rw same (h.flushed_noted f)
      | inr more ↦ rw more.1 (let low = h.flushing_noted in let at = sym (ap (λ k. get_or a.flushing k 0) more.0) ∙ under_way in omega arith)
    ]);
    current_noted = rw (noted, current) h.current_noted;
    flushing_noted = ⊎_elim
        (λ (e : q ≡ flush.region). let z = flushing_at q e in omega arith)
        (λ (ne : q ≢ flush.region). rw (flushing_other q ne, noted) h.flushing_noted)
        (cases_eq q flush.region);
    flushing_above = ⊎_elim
        (λ (e : q ≡ flush.region). λ given. let z = flushing_at q e in absurd (omega arith))
        (λ (ne : q ≢ flush.region). rw (flushing_other q ne) (λ given f. elim (flushed q f) as (λ _. flushed_at b q f ≤ get_or a.flushing q 0) [
          | inl same ↦ rw same (h.flushing_above given f)
          | inr more ↦ absurd (ne (sym more.0))
        ]))
        (cases_eq q flush.region);
    since_none = ⊎_elim
        (λ (e : q ≡ flush.region). λ idle f. since q f ∙ ap (λ t. cond t 0 (since_at a q f)) (eq-eqb flush.region q (sym e)))
        (λ (ne : q ≢ flush.region). rw (flushing_other q ne) (λ idle f. since q f ∙ ap (λ t. cond t 0 (since_at a q f)) (ne_eqb flush.region q (λ e. ne (sym e))) ∙ h.since_none idle f))
        (cases_eq q flush.region);
  };
  rising = rw files.closed order.rising;
  files = rw (files.closed, files.last, noted) order.files;
}
  where
    flushing_at : (q : ℕ) → q ≡ flush.region → get_or b.flushing q 0 ≡ 0
    flushing_at q e = rw flushing (get_or-set_at a.flushing flush.region q 0 0 e (let w = order.wide.flushing in omega arith))

    flushing_other : (q : ℕ) → q ≢ flush.region → get_or b.flushing q 0 ≡ get_or a.flushing q 0
    flushing_other q ne = rw flushing (get_or-set_other a.flushing flush.region q 0 0 ne)

pub order_completed : (a b : Accounts) (flush : Flush) → IsInOrder a → flush.region ≤ 64 → get_or a.flushing flush.region 0 ≡ flush.number → IsCompleted a b flush → AreWide b → IsInOrder b
order_completed a b flush order within under_way is wide = ended a b flush order within under_way
    (λ q f. elim (cases_Bool (eqb flush.region q && is_for flush.family f)) as (λ _. (flushed_at b q f ≡ flushed_at a q f) ⊎ ((flush.region ≡ q) × (flushed_at b q f ≡ flush.number))) [
      | inl hit ↦ inr (eqb-true flush.region q (and_parts (eqb flush.region q) (is_for flush.family f) hit).0, is.flushed q f ∙ ap (λ t. cond t flush.number (flushed_at a q f)) hit)
      | inr miss ↦ inl (is.flushed q f ∙ ap (λ t. cond t flush.number (flushed_at a q f)) miss)
    ])
    is.since is.flushing is.noted is.current is.files wide

pub order_aborted : (a b : Accounts) (flush : Flush) → IsInOrder a → flush.region ≤ 64 → get_or a.flushing flush.region 0 ≡ flush.number → IsAborted a b flush → AreWide b → IsInOrder b
order_aborted a b flush order within under_way is wide = ended a b flush order within under_way
    (λ q f. inl (ap (λ w. max (get_or w q 0) (number_of (get_or b.flushed q []) q f)) is.flushed.whole ∙ ap (λ l. max (get_or a.whole q 0) (number_of (get_or l q []) q f)) is.flushed.flushed))
    is.since is.flushing is.noted is.current is.files wide

-- what is told of numbers is the same, and there are other files
pub order_files : (a b : Accounts) → IsInOrder a → SameNumbers a b → ((q : ℕ) (f : List ℕ) → number_of b.current q f ≤ get_or a.noted q 0) → AllPairs IsBefore b.closed
    → ((c : ClosedFile) → Contains b.closed c → IsOfFiles b.last a.noted c) → IsInOrder b
order_files a b order same current rising files = record {
  wide = record {
    whole = ap length same.flushed.whole ∙ order.wide.whole;
    noted = ap length same.noted ∙ order.wide.noted;
    flushing = ap length same.flushing ∙ order.wide.flushing;
    flushed = ap length same.flushed.flushed ∙ order.wide.flushed;
    oldest = ap length same.oldest.oldest ∙ order.wide.oldest;
    since = ap length same.oldest.since ∙ order.wide.since;
  };
  regions = λ q. let h = order.regions q in record {
    flushed_noted = rw (same.flushed.whole, same.flushed.flushed, same.noted) h.flushed_noted;
    current_noted = rw same.noted (current q);
    flushing_noted = rw (same.flushing, same.noted) h.flushing_noted;
    flushing_above = rw (same.flushed.whole, same.flushed.flushed, same.flushing) h.flushing_above;
    since_none = rw (same.flushing, same.oldest.since) h.since_none;
  };
  rising = rising;
  files = rw same.noted files;
}

-- the current file was closed
pub rising_closed : (a : Accounts) (new : ClosedFile) → IsInOrder a → a.last < new.file → AllPairs IsBefore (a.closed ++ new ∷ [])
rising_closed a new order above = all_pairs_push IsBefore a.closed new order.rising (λ k d lt.
    let low = (order.files (get_or a.closed k d) (Contains-get_or a.closed k d lt)).closed in omega arith)

pub files_closed : (a : Accounts) (new : ClosedFile) → IsInOrder a → 1 ≤ new.file → a.last < new.file → new.highest ≡ a.current
    → (c : ClosedFile) → Contains (a.closed ++ new ∷ []) c → IsOfFiles new.file a.noted c
files_closed a new order given above highest c there = ⊎_elim
    (λ (old : Contains a.closed c). let of = order.files c old in let low = of.closed in record { given = of.given; closed = omega arith; highest = of.highest })
    (λ (e : new ≡ c). subst (IsOfFiles new.file a.noted) e (record {
      given = given;
      closed = omega arith;
      highest = λ q f. rw highest ((order.regions q).current_noted f);
    }))
    (Contains-push_cases a.closed new c there)

-- some closed files were forgotten
pub files_kept : (a : Accounts) (p : ClosedFile → Bool) → IsInOrder a → (c : ClosedFile) → Contains (filter p a.closed) c → IsOfFiles a.last a.noted c
files_kept a p order c there =
    let P = IsOfFiles a.last a.noted in
    let all : All P a.closed = λ k d lt. order.files (get_or a.closed k d) (Contains-get_or a.closed k d lt) in
    subst P there.2 (All-filter p P a.closed all there.0 c there.1)

pub nothing : (n q : ℕ) → get_or {A = ℕ} (replicate n 0) q 0 ≡ 0
nothing zero q = refl {A = ℕ}
nothing (suc n) zero = refl {A = ℕ}
nothing (suc n) (suc q) = nothing n q

pub unmarked : (n q : ℕ) → get_or {A = List FamilyMark} (replicate n []) q [] ≡ []
unmarked zero q = refl
unmarked (suc n) zero = refl
unmarked (suc n) (suc q) = unmarked n q

pub cleared : (current : List FamilyMark) (noted : List ℕ) → current ≡ [] → (q : ℕ) (f : List ℕ) → number_of current q f ≤ get_or noted q 0
cleared current noted is q f = subst (λ l. number_of l q f ≤ get_or noted q 0) (sym is) (least (get_or noted q 0))
  where
    least : (k : ℕ) → 0 ≤ k
    least k = omega arith
