-- What was noted, after each call.
use Rattle.std.proofs.Common.{◌≡◌, ◌≢◌, ℕ, ◌<◌, ◌≤◌, inl, inr, ⊎_elim, Bool, true, false, cond, ◌&&◌, eqb, List, [], ◌∷◌, ◌++◌, length, get_or, set, Contains, refl, sym, ap, subst, ◌∙◌, arith, get_or-set_other}
use Rattle.std.proofs.lemmas.Grind.{get_or-set_at}
use Rattle.std.proofs.lemmas.Bool.{cases_eq, cases_Bool, and_parts, eqb-true, eq-eqb, ne_eqb, true≢false}
use Rattle.std.proofs.lemmas.List.Elements.{Contains-append_left, Contains-push, Contains-push_cases}
use Rattle.seq_accounting.specs.Marks.{first_given, has_family}
use Rattle.seq_accounting.specs.Accounts.{Accounts, Flush, is_for, flushed_at, oldest_at, since_at}
use Rattle.seq_accounting.specs.Steps.{IsNoted, IsStarted, IsCompleted, IsAborted, SameNumbers}
use Rattle.seq_accounting.specs.Noted.{Note, is_noted_of, NoneAbove, IsLeastAbove, IsFirstAbove, HasNoted, AreNotedAs}
use Rattle.seq_accounting.specs.Order.{IsInOrder}
use Rattle.seq_accounting.proofs.KeyLaws.{first_none, first_some}

-- an entry of another region, or without a cell of the family, was noted
first_other : (notes : List Note) (x : Note) (q : ℕ) (f : List ℕ) (m k : ℕ) → is_noted_of x q f ≡ false → IsFirstAbove notes q f m k → IsFirstAbove (notes ++ x ∷ []) q f m k
first_other notes x q f m k other h = record {
  none = λ z y c is. ⊎_elim
      (λ (old : Contains notes y). h.none z y old is)
      (λ (e : x ≡ y). absurd (not_it y e is))
      (Contains-push_cases notes x y c);
  some = λ given. let l = h.some given in record {
    note = l.note;
    member = Contains-append_left notes (x ∷ []) l.note l.member;
    of = l.of;
    number = l.number;
    above = l.above;
    lowest = λ y c is up. ⊎_elim
        (λ (old : Contains notes y). l.lowest y old is up)
        (λ (e : x ≡ y). absurd (not_it y e is))
        (Contains-push_cases notes x y c);
  };
}
  where
    not_it : (y : Note) → x ≡ y → is_noted_of y q f ≡ true → ⊥
    not_it y e is = true≢false (sym is ∙ sym (ap (λ (n : Note). is_noted_of n q f) e) ∙ other)

-- a number above all others of the region was noted, and none above m before
first_new : (notes : List Note) (x : Note) (q : ℕ) (f : List ℕ) (m : ℕ) → is_noted_of x q f ≡ true → m < x.number → NoneAbove notes q f m → IsFirstAbove (notes ++ x ∷ []) q f m x.number
first_new notes x q f m is up h = record {
  none = λ z. absurd (omega arith);
  some = λ given. record {
    note = x;
    member = Contains-push notes x;
    of = is;
    number = refl;
    above = up;
    lowest = λ y c of above. ⊎_elim
        (λ (old : Contains notes y). let low = h y old of in absurd (omega arith))
        (λ (e : x ≡ y). let same = ap (λ (n : Note). n.number) e in omega arith)
        (Contains-push_cases notes x y c);
  };
}

-- a number above all others of the region was noted, and the first one stays
first_stays : (notes : List Note) (x : Note) (q : ℕ) (f : List ℕ) (m k top : ℕ) → 0 < k → top < x.number → ((y : Note) → Contains notes y → is_noted_of y q f ≡ true → y.number ≤ top)
    → IsFirstAbove notes q f m k → IsFirstAbove (notes ++ x ∷ []) q f m k
first_stays notes x q f m k top given up all h =
    let l = h.some given in let low = all l.note l.member l.of in record {
      none = λ z. absurd (omega arith);
      some = λ _. record {
        note = l.note;
        member = Contains-append_left notes (x ∷ []) l.note l.member;
        of = l.of;
        number = l.number;
        above = l.above;
        lowest = λ y c of above. ⊎_elim
            (λ (old : Contains notes y). l.lowest y old of above)
            (λ (e : x ≡ y). let same = ap (λ (n : Note). n.number) e in let is = l.number in omega arith)
            (Contains-push_cases notes x y c);
      };
    }

first_same : (notes : List Note) (x : Note) (q : ℕ) (f : List ℕ) (m k top : ℕ) → is_noted_of x q f ≡ true → m ≤ top → top < x.number
    → ((y : Note) → Contains notes y → is_noted_of y q f ≡ true → y.number ≤ top) → IsFirstAbove notes q f m k → IsFirstAbove (notes ++ x ∷ []) q f m (first_given k x.number)
first_same notes x q f m k top is low up all h = ⊎_elim
    (λ (z : k ≡ 0). subst (IsFirstAbove (notes ++ x ∷ []) q f m) (sym (first_none k x.number z)) (first_new notes x q f m is (omega arith) (h.none z)))
    (λ (nz : k ≢ 0). subst (IsFirstAbove (notes ++ x ∷ []) q f m) (sym (first_some k x.number nz)) (first_stays notes x q f m k top (omega arith) up all h))
    (cases_eq k 0)

-- what the test of a note says of its region
of_region : (x : Note) (q : ℕ) (f : List ℕ) → is_noted_of x q f ≡ true → x.region ≡ q
of_region x q f is = eqb-true x.region q (and_parts (eqb x.region q) (has_family x.families f) is).0

noted_alike : (families : List (List ℕ)) (r n : ℕ) (x : Note) (q : ℕ) (f : List ℕ) → AreNotedAs families r n x → (eqb r q && has_family families f) ≡ is_noted_of x q f
noted_alike families r n x q f alike = ap (λ k. eqb k q && has_family families f) (sym alike.region) ∙ ap (λ b. eqb x.region q && b) (sym (alike.families f))

-- no number of the region is above the highest one
below_noted : (a : Accounts) (notes : List Note) (q : ℕ) (f : List ℕ) → HasNoted a notes → (y : Note) → Contains notes y → is_noted_of y q f ≡ true → y.number ≤ get_or a.noted q 0
below_noted a notes q f h y c is = subst (λ k. y.number ≤ get_or a.noted k 0) (of_region y q f is) (h.highest y c)

-- one more was noted
pub noted_more : (a b : Accounts) (notes : List Note) (families : List (List ℕ)) (r n : ℕ) (x : Note) → IsInOrder a → r ≤ 64 → get_or a.noted r 0 < n
    → IsNoted a b r n families → AreNotedAs families r n x → HasNoted a notes → HasNoted b (notes ++ x ∷ [])
noted_more a b notes families r n x order within above is alike h = record {
  highest = λ y c. ⊎_elim
      (λ (e : y.region ≡ r). let at = ap (λ (l : List ℕ). get_or l y.region 0) is.noted ∙ get_or-set_at a.noted r y.region n 0 e (let w = order.wide.noted in omega arith) in ⊎_elim
      (λ (old : Contains notes y). let low = subst (λ k. y.number ≤ get_or a.noted k 0) e (h.highest y old) in omega arith)
      (λ (same : x ≡ y). let number = ap (λ (z : Note). z.number) same in let own = alike.number in omega arith)
      (Contains-push_cases notes x y c))
      (λ (ne : y.region ≢ r). let at = ap (λ (l : List ℕ). get_or l y.region 0) is.noted ∙ get_or-set_other a.noted r y.region n 0 ne in ⊎_elim
      (λ (old : Contains notes y). let low = h.highest y old in omega arith)
      (λ (same : x ≡ y). absurd (ne (sym (ap (λ (z : Note). z.region) same) ∙ alike.region)))
      (Contains-push_cases notes x y c))
      (cases_eq y.region r);
  oldest = λ q f. rw (is.oldest q f, is.flushed.whole, is.flushed.flushed, noted_alike families r n x q f alike) (elim (cases_Bool (is_noted_of x q f)) as
      (λ _. IsFirstAbove (notes ++ x ∷ []) q f (flushed_at a q f) (cond (is_noted_of x q f) (first_given (oldest_at a q f) n) (oldest_at a q f))) [
        | inl of ↦ rw of (let top = top_of q f of in subst (λ k. IsFirstAbove (notes ++ x ∷ []) q f (flushed_at a q f) (first_given (oldest_at a q f) k)) alike.number
            (first_same notes x q f (flushed_at a q f) (oldest_at a q f) (get_or a.noted q 0) of ((order.regions q).flushed_noted f) top (below_noted a notes q f h) (h.oldest q f)))
        | inr other ↦ rw other (first_other notes x q f (flushed_at a q f) (oldest_at a q f) other (h.oldest q f))
      ]);
  since = λ q f. rw (is.since q f, is.flushing, noted_alike families r n x q f alike) (λ given. rw (ne_eqb (get_or a.flushing q 0) 0 (λ z. absurd (omega arith))) (elim (cases_Bool (is_noted_of x q f)) as
      (λ _. IsFirstAbove (notes ++ x ∷ []) q f (get_or a.flushing q 0) (cond (is_noted_of x q f) (first_given (since_at a q f) n) (since_at a q f))) [
        | inl of ↦ rw of (let top = top_of q f of in subst (λ k. IsFirstAbove (notes ++ x ∷ []) q f (get_or a.flushing q 0) (first_given (since_at a q f) k)) alike.number
            (first_same notes x q f (get_or a.flushing q 0) (since_at a q f) (get_or a.noted q 0) of (order.regions q).flushing_noted top (below_noted a notes q f h) (h.since q f given)))
        | inr other ↦ rw other (first_other notes x q f (get_or a.flushing q 0) (since_at a q f) other (h.since q f given))
      ]));
}
  where
    top_of : (q : ℕ) (f : List ℕ) → is_noted_of x q f ≡ true → get_or a.noted q 0 < x.number
    top_of q f of = rw (alike.number, ← (of_region x q f of), alike.region) above

-- a flush began, of a number at or above all noted ones
pub noted_start : (a b : Accounts) (notes : List Note) (r n : ℕ) → IsInOrder a → r ≤ 64 → get_or a.noted r 0 ≤ n → get_or a.flushing r 0 ≡ 0
    → IsStarted a b r n → HasNoted a notes → HasNoted b notes
noted_start a b notes r n order within highest idle is h = record {
  highest = λ y c. ⊎_elim
      (λ (e : y.region ≡ r). let at = ap (λ (l : List ℕ). get_or l y.region 0) is.noted ∙ get_or-set_at a.noted r y.region n 0 e (let w = order.wide.noted in omega arith) in
      let low = subst (λ k. y.number ≤ get_or a.noted k 0) e (h.highest y c) in omega arith)
      (λ (ne : y.region ≢ r). let at = ap (λ (l : List ℕ). get_or l y.region 0) is.noted ∙ get_or-set_other a.noted r y.region n 0 ne in let low = h.highest y c in omega arith)
      (cases_eq y.region r);
  oldest = rw (is.flushed.whole, is.flushed.flushed, is.oldest.oldest, is.oldest.since) h.oldest;
  since = λ q f. rw (is.flushing, is.oldest.since) (⊎_elim
      (λ (e : q ≡ r). rw (get_or-set_at a.flushing r q n 0 e (let w = order.wide.flushing in omega arith)) (λ given. record {
        none = λ _ y c of. let low = below_noted a notes q f h y c of in let same = ap (λ k. get_or a.noted k 0) e in omega arith;
        some = λ first. let z = (order.regions q).since_none (ap (λ k. get_or a.flushing k 0) e ∙ idle) f in absurd (omega arith);
      }))
      (λ (ne : q ≢ r). rw (get_or-set_other a.flushing r q n 0 ne) (h.since q f))
      (cases_eq q r));
}

-- a flush was completed
pub noted_complete : (a b : Accounts) (notes : List Note) (flush : Flush) → IsInOrder a → flush.region ≤ 64 → 1 ≤ flush.number → get_or a.flushing flush.region 0 ≡ flush.number
    → IsCompleted a b flush → HasNoted a notes → HasNoted b notes
noted_complete a b notes flush order within given under_way is h = record {
  highest = rw is.noted h.highest;
  oldest = λ q f. rw (is.flushed q f, is.oldest q f) (elim (cases_Bool (eqb flush.region q && is_for flush.family f)) as
      (λ _. IsFirstAbove notes q f (cond (eqb flush.region q && is_for flush.family f) flush.number (flushed_at a q f)) (cond (eqb flush.region q && is_for flush.family f) (since_at a q f) (oldest_at a q f))) [
        | inl hit ↦ rw hit (
            let e = eqb-true flush.region q (and_parts (eqb flush.region q) (is_for flush.family f) hit).0 in
            let number = sym (ap (λ k. get_or a.flushing k 0) e) ∙ under_way in
            subst (λ k. IsFirstAbove notes q f k (since_at a q f)) number (h.since q f (omega arith)))
        | inr miss ↦ rw miss (h.oldest q f)
      ]);
  since = λ q f. rw (is.flushing, is.since q f) (⊎_elim
      (λ (e : q ≡ flush.region). rw (get_or-set_at a.flushing flush.region q 0 0 e (let w = order.wide.flushing in omega arith)) (λ none. absurd (omega arith)))
      (λ (ne : q ≢ flush.region). rw (get_or-set_other a.flushing flush.region q 0 0 ne, ne_eqb flush.region q (λ e. ne (sym e))) (h.since q f))
      (cases_eq q flush.region));
}

-- a flush was aborted
pub noted_abort : (a b : Accounts) (notes : List Note) (flush : Flush) → IsInOrder a → flush.region ≤ 64 → IsAborted a b flush → HasNoted a notes → HasNoted b notes
noted_abort a b notes flush order within is h = record {
  highest = rw is.noted h.highest;
  oldest = λ q f. rw (is.flushed.whole, is.flushed.flushed, is.oldest q f) (h.oldest q f);
  since = λ q f. rw (is.flushing, is.since q f) (⊎_elim
      (λ (e : q ≡ flush.region). rw (get_or-set_at a.flushing flush.region q 0 0 e (let w = order.wide.flushing in omega arith)) (λ none. absurd (omega arith)))
      (λ (ne : q ≢ flush.region). rw (get_or-set_other a.flushing flush.region q 0 0 ne, ne_eqb flush.region q (λ e. ne (sym e))) (h.since q f))
      (cases_eq q flush.region));
}

-- what is told of numbers is the same
pub noted_same : (a b : Accounts) (notes : List Note) → SameNumbers a b → HasNoted a notes → HasNoted b notes
noted_same a b notes same h = record {
  highest = rw same.noted h.highest;
  oldest = rw (same.flushed.whole, same.flushed.flushed, same.oldest.oldest, same.oldest.since) h.oldest;
  since = rw (same.flushing, same.oldest.since) h.since;
}

pub noted_nothing : (a : Accounts) → ((r : ℕ) (f : List ℕ) → oldest_at a r f ≡ 0) → ((r : ℕ) → get_or a.flushing r 0 ≡ 0) → HasNoted a []
noted_nothing a oldest flushing = record {
  highest = λ x c. let none = c.1 in absurd (omega arith);
  oldest = λ r f. let z = oldest r f in record {
    none = λ _ x c _. let none = c.1 in absurd (omega arith);
    some = λ given. absurd (omega arith);
  };
  since = λ r f given. let z = flushing r in absurd (omega arith);
}
