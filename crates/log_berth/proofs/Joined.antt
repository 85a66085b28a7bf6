-- Seats that are joined from the last on.
use Rattle.std.proofs.Common.{◌≡◌, ℕ, ◌≤◌, ◌||◌, Bool, true, false, cond, refl, le_refl, true≢false, List, [], ◌∷◌, ◌++◌, get_or, arith, sym, subst, ◌∙◌, append_assoc}
use Rattle.std.proofs.lemmas.List.{append-nil}
use Rattle.atomic_table.specs.Seated.{TableId}
use Rattle.log_berth.specs.declared.known.Known.{Known}
use Rattle.log_berth.specs.Words.{NoMore, Same, greater, lesser, reached, ended, informed, Informs}
use Rattle.log_berth.specs.Standing.{Standing, AreBack, Saw, AllSaw, InformAll}
use Rattle.log_berth.proofs.Numbers.{greater_at, lesser_at}

-- all are the seats that are left and then seats of which this knows all
abbrev pub InformLater : List Standing → List Standing → Known → Type 0
InformLater all left v = (done : List Standing) × (all ≡ left ++ done) × InformAll done v

pub no_more-trans : (xs ys zs : List ℕ) → NoMore xs ys → NoMore ys zs → NoMore xs zs
no_more-trans xs ys zs p q i = let a : get_or xs i 0 ≤ get_or ys i 0 = p i in let b : get_or ys i 0 ≤ get_or zs i 0 = q i in omega arith

-- at or above what was seen, and where there is a fault at or above what was seen last
reached_seen : (xs ys : List ℕ) (b : Bool) → NoMore xs (cond b (greater xs ys) xs)
reached_seen xs ys true i = omega (arith, greater_at xs ys i)
reached_seen xs ys false i = le_refl (get_or xs i 0)

reached_last : (xs ys : List ℕ) (b : Bool) → b ≡ true → NoMore ys (cond b (greater xs ys) xs)
reached_last xs ys true e i = omega (arith, greater_at xs ys i)
reached_last xs ys false e i = absurd (true≢false (sym e))

pub reached_low : (xs ys ns : List ℕ) (b : Bool) → NoMore xs ns → (b ≡ true → NoMore ys ns) → NoMore (cond b (greater xs ys) xs) ns
reached_low xs ys ns true p q i = let a : get_or xs i 0 ≤ get_or ns i 0 = p i in let b : get_or ys i 0 ≤ get_or ns i 0 = q refl i in omega (arith, greater_at xs ys i)
reached_low xs ys ns false p q i = p i

pub informs-same : (v : Known) → Informs v v
informs-same v = record {
  seen = reached_seen v.seen v.last v.broken;
  fault = λ b. (b, reached_last v.seen v.last v.broken b, λ i. le_refl (get_or v.last i 0));
}

pub informs-trans : (u v w : Known) → Informs u v → Informs v w → Informs u w
informs-trans u v w p q =
    let more : NoMore (reached v) (reached w) = reached_low v.seen v.last (reached w) v.broken q.seen (λ b. (q.fault b).1) in
    record {
      seen = no_more-trans u.seen (reached v) (reached w) p.seen more;
      fault = λ b. let f = p.fault b in let g = q.fault f.0 in (g.0, no_more-trans u.last (reached v) (reached w) f.1 more, no_more-trans w.last v.last u.last g.2 f.2);
    }

ended_left : (xs ys : List ℕ) (b c : Bool) → b ≡ true → NoMore (cond b (cond c (lesser xs ys) xs) ys) xs
ended_left xs ys true true e i = omega (arith, lesser_at xs ys i)
ended_left xs ys true false e i = le_refl (get_or xs i 0)
ended_left xs ys false c e i = absurd (true≢false (sym e))

ended_right : (xs ys : List ℕ) (b c : Bool) → c ≡ true → NoMore (cond b (cond c (lesser xs ys) xs) ys) ys
ended_right xs ys true true e i = omega (arith, lesser_at xs ys i)
ended_right xs ys false c e i = le_refl (get_or ys i 0)
ended_right xs ys true false e i = absurd (true≢false (sym e))

or_left : (b c : Bool) → b ≡ true → (b || c) ≡ true
or_left true c e = refl
or_left false c e = absurd (true≢false (sym e))

or_right : (b c : Bool) → c ≡ true → (b || c) ≡ true
or_right true c e = refl
or_right false c e = e

greater_left : (xs ys : List ℕ) → NoMore xs (greater xs ys)
greater_left xs ys i = omega (arith, greater_at xs ys i)

greater_right : (xs ys : List ℕ) → NoMore ys (greater xs ys)
greater_right xs ys i = omega (arith, greater_at xs ys i)

pub informs-left : (v w : Known) → Informs v (informed v w)
informs-left v w =
    let both : List ℕ = greater (reached v) (reached w) in
    let more : NoMore (reached v) (reached (informed v w)) = no_more-trans (reached v) both (reached (informed v w)) (greater_left (reached v) (reached w)) (reached_seen both (ended v w) (v.broken || w.broken)) in
    record {
      seen = no_more-trans v.seen (reached v) (reached (informed v w)) (reached_seen v.seen v.last v.broken) more;
      fault = λ b. (
        or_left v.broken w.broken b,
        no_more-trans v.last (reached v) (reached (informed v w)) (reached_last v.seen v.last v.broken b) more,
        ended_left v.last w.last v.broken w.broken b,
      );
    }

pub informs-right : (v w : Known) → Informs w (informed v w)
informs-right v w =
    let both : List ℕ = greater (reached v) (reached w) in
    let more : NoMore (reached w) (reached (informed v w)) = no_more-trans (reached w) both (reached (informed v w)) (greater_right (reached v) (reached w)) (reached_seen both (ended v w) (v.broken || w.broken)) in
    record {
      seen = no_more-trans w.seen (reached w) (reached (informed v w)) (reached_seen w.seen w.last w.broken) more;
      fault = λ b. (
        or_right v.broken w.broken b,
        no_more-trans w.last (reached w) (reached (informed v w)) (reached_last w.seen w.last w.broken b) more,
        ended_right v.last w.last v.broken w.broken b,
      );
    }

pub inform_all-more : (ss : List Standing) (v w : Known) → InformAll ss v → Informs v w → InformAll ss w
inform_all-more [] v w p q = tt
inform_all-more (s ∷ ss) v w p q = (informs-trans s.knows v w p.0 q, inform_all-more ss v w p.1 q)

pub inform_later-start : (all : List Standing) (v : Known) → InformLater all all v
inform_later-start all v = ([], sym (append-nil all), tt)

pub inform_later-one : (all left : List Standing) (s : Standing) (v w : Known) → InformLater all (left ++ s ∷ []) v → Informs v w → Informs s.knows w → InformLater all left w
inform_later-one all left s v w p more here = (s ∷ p.0, p.1 ∙ append_assoc left (s ∷ []) p.0, (here, inform_all-more p.0 v w p.2 more))

-- the words are at or above what was seen, and where the fault was seen they are those that were seen last
pub words_saw : (s : Standing) (v : Known) (numbers : List ℕ) (broken : Bool) → Informs s.knows v → NoMore v.seen numbers → (v.broken ≡ true → (broken ≡ true) × Same v.last numbers) → Saw s numbers broken
words_saw s v numbers broken p low told =
    let below : NoMore (reached v) numbers = reached_low v.seen v.last numbers v.broken low (λ b i. subst (λ (x : ℕ). x ≤ get_or numbers i 0) (sym ((told b).1 i)) (le_refl (get_or numbers i 0))) in
    record {
      seen = no_more-trans s.knows.seen (reached v) numbers p.seen below;
      fault = λ b.
          let f = p.fault b in
          let t = told f.0 in
          (t.0, λ i. let x : get_or s.knows.last i 0 ≤ get_or (reached v) i 0 = f.1 i in let y : get_or (reached v) i 0 ≤ get_or numbers i 0 = below i in let z : get_or v.last i 0 ≤ get_or s.knows.last i 0 = f.2 i in let e : get_or v.last i 0 ≡ get_or numbers i 0 = t.1 i in omega arith);
    }

pub all_saw : (ss : List Standing) (v : Known) (numbers : List ℕ) (broken : Bool) → InformAll ss v → NoMore v.seen numbers → (v.broken ≡ true → (broken ≡ true) × Same v.last numbers) → AllSaw ss numbers broken
all_saw [] v numbers broken p low told = tt
all_saw (s ∷ ss) v numbers broken p low told = (words_saw s v numbers broken p.0 low told, all_saw ss v numbers broken p.1 low told)

pub are_back-front : (id : TableId) (left : List Standing) (s : Standing) → AreBack id (left ++ s ∷ []) → AreBack id left × AreBack id (s ∷ [])
are_back-front id [] s p = (tt, p)
are_back-front id (x ∷ xs) s p = let r = are_back-front id xs s p.1 in ((p.0, r.0), r.1)

pub all_saw-snoc : (left : List Standing) (s : Standing) (numbers : List ℕ) (broken : Bool) → AllSaw left numbers broken → Saw s numbers broken → AllSaw (left ++ s ∷ []) numbers broken
all_saw-snoc [] s numbers broken p q = (q, tt)
all_saw-snoc (x ∷ xs) s numbers broken p q = (p.0, all_saw-snoc xs s numbers broken p.1 q)
