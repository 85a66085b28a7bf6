-- Each step keeps the rule of the desk.
use Rattle.std.proofs.Common.{replicate, slice_get, Some, ◌≡◌, ◌≢◌, ◌⊎◌, ℕ, zero, suc, ◌+◌, ◌<◌, List, [], ◌∷◌, ◌++◌, length, set, Bool, true, false, true≢false, eqb, eq-eqb, ne_eqb, refl, sym, ap, ◌∙◌, subst, inl, inr, ⊎_elim, arith, length-append}
use mathlib.Core.Option.{Option, some, some-ne-none, some-injective}
use lib.ListN.{get_elem?}
use prog.Atomic.{either}
use Rattle.atomic_table.specs.Table.{State, Step, keeps, Allows, Splits, Joins}
use Rattle.atomic_table.proofs.Lists.{at_set, set_here, set_else, set_again, at_longer, at_last}
use Rattle.hand_register.specs.declared.known.Known.{Known}
use Rattle.hand_register.specs.declared.known.Record.{Record}
use Rattle.atomic_table.specs.Seated.{TableId}
use Rattle.hand_register.specs.Views.{HandView}
use Rattle.hand_register.specs.Desks.{AreFresh}
use Rattle.hand_register.specs.Rule.{empty, nobody, desk_of, with_one_more, newest, received, sent, handed_back, Fits, Kept, Met, Added, Amended, Marked, changed, said_or, but_last}

module _ {A : Type 0} where
  pub length-set : (l : List A) (i : ℕ) (a : A) → length (set l i a) ≡ length l
  length-set [] i a = refl
  length-set (x ∷ xs) zero a = refl
  length-set (x ∷ xs) (suc i) a = ap suc (length-set xs i a)

  pub at_lt : (l : List A) (i : ℕ) (a : A) → get_elem? l i ≡ some a → i < length l
  at_lt [] i a e = absurd (some-ne-none a (sym e))
  at_lt (x ∷ xs) zero a e = omega arith
  at_lt (x ∷ xs) (suc i) a e = let r = at_lt xs i a e in omega arith

  pub at_end : (l : List A) (a b : A) (j : ℕ) → get_elem? (l ++ a ∷ []) j ≡ some b → (get_elem? l j ≡ some b) ⊎ ((j ≡ length l) × (a ≡ b))
  at_end [] a b zero e = inr (refl, some-injective a b e)
  at_end [] a b (suc j) e = absurd (some-ne-none b (sym e))
  at_end (x ∷ xs) a b zero e = inl e
  at_end (x ∷ xs) a b (suc j) e = ⊎_elim (λ t. inl t) (λ t. inr (ap suc t.0, t.1)) (at_end xs a b j e)

  pub seen_at : (l : List A) (i : ℕ) (a : A) → get_elem? l i ≡ some a → slice_get l i ≡ Some a
  seen_at [] i a e = absurd (some-ne-none a (sym e))
  seen_at (x ∷ xs) zero a e = ap Some (some-injective x a e)
  seen_at (x ∷ xs) (suc i) a e = seen_at xs i a e

  pub two_ways : (l : List A) (i : ℕ) (a b : A) → get_elem? l i ≡ some a → get_elem? l i ≡ some b → a ≡ b
  two_ways l i a b p q = some-injective a b (sym p ∙ q)

not_one : ◌≡◌ {A = ℕ} 0 1 → ⊥
not_one e = absurd (omega arith)

not_two : ◌≡◌ {A = ℕ} 0 2 → ⊥
not_two e = absurd (omega arith)

one_two : ◌≡◌ {A = ℕ} 1 2 → ⊥
one_two e = absurd (omega arith)

two_one : ◌≡◌ {A = ℕ} 2 1 → ⊥
two_one e = absurd (omega arith)

-- a number that is out is another than one that is in
apart : (outs : List Bool) (i j : ℕ) → get_elem? outs i ≡ some true → get_elem? outs j ≡ some false → i ≢ j
apart outs i j p q e = true≢false (two_ways outs j true false (subst (λ (k : ℕ). get_elem? outs k ≡ some true) e p) q)

-- one owner more
abbrev owned : ℕ → ℕ → (ℕ → ℕ) → ℕ → ℕ
owned n seat owner k = either (eqb k n) seat (owner k)

owned_here : (n seat : ℕ) (owner : ℕ → ℕ) → owned n seat owner n ≡ seat
owned_here n seat owner = ap (λ b. either b seat (owner n)) (eq-eqb n n refl)

owned_else : (n seat : ℕ) (owner : ℕ → ℕ) (k : ℕ) → k ≢ n → owned n seat owner k ≡ owner k
owned_else n seat owner k ne = ap (λ b. either b seat (owner k)) (ne_eqb k n ne)

module _ {X : Type 0} where
  nobody_fits : (desk : ℕ) (owner : ℕ → ℕ) (all : List (Record X)) (outs : List Bool) (j : ℕ) → Fits desk owner all outs j nobody
  nobody_fits desk owner all outs j = ((λ e. absurd (not_one e)), (λ e. absurd (not_two e)))

  -- a hand comes to the desk
  pub comes : (id : ℕ) (v : Known X) (other : ℕ) (w : Known X) → v.role ≡ 1 → w.role ≡ 2 → Joins Kept id v other w (received v w) nobody
  comes id v other w is_desk is_hand s h at ne there =
      let mine = (h.each id v at).0 is_desk in
      let theirs = ⊎_elim (λ (t : (other ≡ id) × (received v w ≡ w)). absurd (ne t.0)) (λ (t : (other ≢ id) × (get_elem? s.views other ≡ some w)). (h.each other w t.1).1 is_hand) (at_set s.views id other (received v w) w there) in
      let outs' : List Bool = set h.outs w.place false in
      record {
        desk = h.desk;
        owner = h.owner;
        all = h.all;
        outs = outs';
        even = h.even ∙ sym (length-set h.outs w.place false);
        each = λ j u e. ⊎_elim
            (λ (t : (j ≡ other) × (nobody ≡ u)). subst (Fits h.desk h.owner h.all outs' j) t.1 (nobody_fits h.desk h.owner h.all outs' j))
            (λ (t : (j ≢ other) × (get_elem? (set s.views id (received v w)) j ≡ some u)). ⊎_elim
            (λ (r : (j ≡ id) × (received v w ≡ u)). subst (Fits h.desk h.owner h.all outs' j) r.1
            ((λ _. (r.0 ∙ mine.0, mine.1, ap (λ (l : List Bool). set l w.place false) mine.2, λ _. (set_here h.outs w.place false (at_lt h.outs w.place true theirs.1), theirs.2))), (λ e. absurd (one_two e))))
            (λ (r : (j ≢ id) × (get_elem? s.views j ≡ some u)). others j u t.0 r.0 r.1 theirs.0 mine.0)
            (at_set s.views id j (received v w) u t.1))
            (at_set (set s.views id (received v w)) other j nobody u e);
      }
    where
      others : (j : ℕ) (u : Known X) → j ≢ other → j ≢ id → get_elem? s.views j ≡ some u → other ≡ h.owner w.place → id ≡ h.desk → Fits h.desk h.owner h.all (set h.outs w.place false) j u
      others j u n m e own desk = (
        (λ r. absurd (m (((h.each j u e).0 r).0 ∙ sym desk))),
        (λ r. let f = (h.each j u e).1 r in
            let d : u.place ≢ w.place = λ q. n (f.0 ∙ ap h.owner q ∙ sym own) in
            (f.0, set_else h.outs w.place u.place false d ∙ f.1, f.2)),
      )

  -- with the hand in the call, its record becomes r in both
  pub changes : (id : ℕ) (v : Known X) (r : Record X) (s : State X (Known X)) → v.role ≡ 1 → v.inside ≡ true → Kept s → get_elem? s.views id ≡ some v
      → (words : List ℕ) (homes : List (Option X)) → Kept record { words = words; homes = homes; views = set s.views id (changed v r) }
  changes id v r s is_desk inside h at words homes =
      let mine = (h.each id v at).0 is_desk in
      let here = mine.3 inside in
      let all' : List (Record X) = set h.all v.place r in
      record {
        desk = h.desk;
        owner = h.owner;
        all = all';
        outs = h.outs;
        even = length-set h.all v.place r ∙ h.even;
        each = λ j u e. ⊎_elim
            (λ (t : (j ≡ id) × (changed v r ≡ u)). subst (Fits h.desk h.owner all' h.outs j) t.1
            ((λ _. (t.0 ∙ mine.0, ap (λ (l : List (Record X)). set l v.place r) mine.1, mine.2, λ _. (here.0, set_here h.all v.place r (at_lt h.all v.place v.mine here.1)))), (λ e. absurd (one_two e))))
            (λ (t : (j ≢ id) × (get_elem? s.views j ≡ some u)). (
              (λ one. absurd (t.0 (((h.each j u t.1).0 one).0 ∙ sym mine.0))),
              (λ two. let f = (h.each j u t.1).1 two in
                  (f.0, f.1, set_else h.all v.place u.place r (apart h.outs u.place v.place f.1 here.0) ∙ f.2)),
            ))
            (at_set s.views id j (changed v r) u e);
      }

  -- what is known of the hand in the call
  pub agrees : (id : ℕ) (v : Known X) (s : State X (Known X)) → v.role ≡ 1 → v.inside ≡ true → Kept s → get_elem? s.views id ≡ some v → slice_get v.all v.place ≡ Some v.mine
  agrees id v s is_desk inside h at =
      let mine = (h.each id v at).0 is_desk in
      seen_at v.all v.place v.mine (subst (λ (l : List (Record X)). get_elem? l v.place ≡ some v.mine) (sym mine.1) (mine.3 inside).1)

  pub meets : (id slots : ℕ) (v : Known X) (st : Step X) → v.role ≡ 1 → v.inside ≡ true → Allows Kept slots id (v, []) 0 (λ n. n) (Met st (v, []))
  meets id slots v st is_desk inside s h wide at small = (
    v,
    keeps,
    tt,
    record {
      desk = h.desk;
      owner = h.owner;
      all = h.all;
      outs = h.outs;
      even = h.even;
      each = λ j u e. h.each j u (subst (λ (l : List (Known X)). get_elem? l j ≡ some u) (set_again s.views id v at) e);
    },
    (refl, agrees id v s is_desk inside h at),
  )

  -- the step by which the record becomes r
  pub turns : (id slots : ℕ) (v : Known X) (r : Record X) (f : ℕ → ℕ) → v.role ≡ 1 → v.inside ≡ true
      → Allows Kept slots id (v, []) 0 f (λ n m'. (m' ≡ (changed v r, [])) × (slice_get v.all v.place ≡ Some v.mine))
  turns id slots v r f is_desk inside s h wide at small =
      (changed v r, keeps, tt, changes id v r s is_desk inside h at _ _, (refl, agrees id v s is_desk inside h at))

  -- the hand goes again, with a new seat
  pub goes : (id : ℕ) (v : Known X) → v.role ≡ 1 → v.inside ≡ true → Splits Kept id v (sent v) (handed_back v)
  goes id v is_desk inside s h at =
      let mine = (h.each id v at).0 is_desk in
      let here = mine.3 inside in
      let outs' : List Bool = set h.outs v.place true in
      let seat : ℕ = length s.views in
      let owner' : ℕ → ℕ = owned v.place seat h.owner in
      record {
        desk = h.desk;
        owner = owner';
        all = h.all;
        outs = outs';
        even = h.even ∙ sym (length-set h.outs v.place true);
        each = λ j u e. ⊎_elim
            (λ (was : get_elem? (set s.views id (sent v)) j ≡ some u). ⊎_elim
            (λ (t : (j ≡ id) × (sent v ≡ u)). subst (Fits h.desk owner' h.all outs' j) t.1
            ((λ _. (t.0 ∙ mine.0, mine.1, ap (λ (l : List Bool). set l v.place true) mine.2, λ b. absurd (true≢false (sym b)))), (λ e. absurd (one_two e))))
            (λ (t : (j ≢ id) × (get_elem? s.views j ≡ some u)). (
              (λ one. absurd (t.0 (((h.each j u t.1).0 one).0 ∙ sym mine.0))),
              (λ two. let f = (h.each j u t.1).1 two in
                  let d = apart h.outs u.place v.place f.1 here.0 in
                  (f.0 ∙ sym (owned_else v.place seat h.owner u.place d), set_else h.outs v.place u.place true d ∙ f.1, f.2)),
            ))
            (at_set s.views id j (sent v) u was))
            (λ (t : (j ≡ length (set s.views id (sent v))) × (handed_back v ≡ u)). subst (Fits h.desk owner' h.all outs' j) t.1
            ((λ e. absurd (two_one e)), (λ _. (t.0 ∙ length-set s.views id (sent v) ∙ sym (owned_here v.place seat h.owner), set_here h.outs v.place true (at_lt h.outs v.place false here.0), here.1))))
            (at_end (set s.views id (sent v)) (handed_back v) u j e);
      }

  -- a new hand is made
  pub makes : (id : ℕ) (v : Known X) → v.role ≡ 1 → v.inside ≡ false → Splits Kept id v (with_one_more v) (newest v)
  makes id v is_desk out s h at =
      let mine = (h.each id v at).0 is_desk in
      let n : ℕ = length v.all in
      let all' : List (Record X) = h.all ++ empty ∷ [] in
      let outs' : List Bool = h.outs ++ true ∷ [] in
      let seat : ℕ = length s.views in
      let owner' : ℕ → ℕ = owned n seat h.owner in
      let long : length h.all ≡ n = ap length (sym mine.1) in
      record {
        desk = h.desk;
        owner = owner';
        all = all';
        outs = outs';
        even = let e = h.even in omega (arith, length-append h.all (empty ∷ []), length-append h.outs (true ∷ []));
        each = λ j u e. ⊎_elim
            (λ (was : get_elem? (set s.views id (with_one_more v)) j ≡ some u). ⊎_elim
            (λ (t : (j ≡ id) × (with_one_more v ≡ u)). subst (Fits h.desk owner' all' outs' j) t.1
            ((λ _. (t.0 ∙ mine.0, ap (λ (l : List (Record X)). l ++ empty ∷ []) mine.1, ap (λ (l : List Bool). l ++ true ∷ []) mine.2, λ b. absurd (true≢false (sym b)))), (λ e. absurd (one_two e))))
            (λ (t : (j ≢ id) × (get_elem? s.views j ≡ some u)). (
              (λ one. absurd (t.0 (((h.each j u t.1).0 one).0 ∙ sym mine.0))),
              (λ two. let f = (h.each j u t.1).1 two in
                  let lt = at_lt h.all u.place u.mine f.2 in
                  let d : u.place ≢ n = λ q. absurd (omega arith) in
                  (f.0 ∙ sym (owned_else n seat h.owner u.place d), at_longer h.outs (true ∷ []) u.place true f.1, at_longer h.all (empty ∷ []) u.place u.mine f.2)),
            ))
            (at_set s.views id j (with_one_more v) u was))
            (λ (t : (j ≡ length (set s.views id (with_one_more v))) × (newest v ≡ u)). subst (Fits h.desk owner' all' outs' j) t.1
            ((λ e. absurd (two_one e)), (λ _. (t.0 ∙ length-set s.views id (with_one_more v) ∙ sym (owned_here n seat h.owner), at_last h.outs true n (sym h.even ∙ long), at_last h.all empty n long))))
            (at_end (set s.views id (with_one_more v)) (newest v) u j e);
      }

  -- the desk at the start
  pub opens : (words : List ℕ) (homes : List (Option X)) → Kept record { words = words; homes = homes; views = desk_of [] [] ∷ [] }
  opens words homes = record { desk = 0; owner = λ k. 0; all = []; outs = []; even = refl; each = each }
    where
      each : (j : ℕ) (v : Known X) → get_elem? (desk_of [] [] ∷ []) j ≡ some v → Fits 0 (λ k. 0) [] [] j v
      each zero v e = subst (Fits 0 (λ k. 0) [] [] 0) (some-injective _ _ e) ((λ _. (refl, refl, refl, λ b. absurd (true≢false (sym b)))), (λ e. absurd (one_two e)))
      each (suc j) v e = absurd (some-ne-none v (sym e))

  -- the steps, at a seat whose view is known
  pub meets_at : (id slots : ℕ) (me : Known X × List (ℕ × X)) (v : Known X) (st : Step X) → me ≡ (v, []) → v.role ≡ 1 → v.inside ≡ true → Allows Kept slots id me 0 (λ n. n) (Met st me)
  meets_at id slots me v st is role inside = subst (λ (m : Known X × List (ℕ × X)). Allows Kept slots id m 0 (λ n. n) (Met st m)) (sym is) (meets id slots v st role inside)

  pub adds_at : (id slots : ℕ) (me : Known X × List (ℕ × X)) (v : Known X) (st : Step X) (f : ℕ → ℕ) → me ≡ (v, []) → v.role ≡ 1 → v.inside ≡ true → Allows Kept slots id me 0 f (Added st me)
  adds_at id slots me v st f is role inside = subst (λ (m : Known X × List (ℕ × X)). Allows Kept slots id m 0 f (Added st m)) (sym is) (turns id slots v (record { list = said_or st.said v.mine.list; mark = v.mine.mark }) f role inside)

  pub amends_at : (id slots : ℕ) (me : Known X × List (ℕ × X)) (v : Known X) (st : Step X) (f : ℕ → ℕ) → me ≡ (v, []) → v.role ≡ 1 → v.inside ≡ true → Allows Kept slots id me 0 f (Amended st me)
  amends_at id slots me v st f is role inside = subst (λ (m : Known X × List (ℕ × X)). Allows Kept slots id m 0 f (Amended st m)) (sym is) (turns id slots v (record { list = said_or st.said (but_last v.mine.list); mark = v.mine.mark }) f role inside)

  pub marks_at : (id slots : ℕ) (me : Known X × List (ℕ × X)) (v : Known X) (st : Step X) (f : ℕ → ℕ) → me ≡ (v, []) → v.role ≡ 1 → v.inside ≡ true → Allows Kept slots id me 0 f (λ _. Marked st me st.first)
  marks_at id slots me v st f is role inside = subst (λ (m : Known X × List (ℕ × X)). Allows Kept slots id m 0 f (λ _. Marked st m st.first)) (sym is) (turns id slots v (record { list = v.mine.list; mark = st.first }) f role inside)

  pub fresh_more : (id : TableId) (n : ℕ) (hs : List (HandView X)) (h : HandView X) → AreFresh id n hs → h.number ≡ n + length hs → h.record ≡ empty → h.desk ≡ id → AreFresh id n (hs ++ h ∷ [])
  fresh_more id n [] h f num blank of = (omega arith, blank, of, tt)
  fresh_more id n (k ∷ hs) h f num blank of = (f.0, f.1, f.2, fresh_more id (n + 1) hs h f.3 (omega arith) blank of)

  replicate_more : (n : ℕ) (r : Record X) → replicate n r ++ r ∷ [] ≡ replicate (suc n) r
  replicate_more zero r = refl
  replicate_more (suc n) r = ap (λ (l : List (Record X)). r ∷ l) (replicate_more n r)

  pub posed_more : (me me' : Known X × List (ℕ × X)) (n : ℕ) → me ≡ (desk_of (replicate n empty) me.0.outs, []) → me' ≡ (with_one_more me.0, []) → me' ≡ (desk_of (replicate (n + 1) empty) me'.0.outs, [])
  posed_more me me' n was now =
      let one : suc n ≡ n + 1 = omega arith in
      let e : me' ≡ (desk_of (replicate n empty ++ empty ∷ []) (me.0.outs ++ true ∷ []), []) = now ∙ ap (λ (m : Known X × List (ℕ × X)). (desk_of (m.0.all ++ empty ∷ []) (me.0.outs ++ true ∷ []), [])) was in
      e ∙ ap (λ (l : List (Record X)). (desk_of l (me.0.outs ++ true ∷ []), [])) (replicate_more n empty ∙ ap (λ (k : ℕ). replicate k empty) one) ∙ ap (λ (o : List Bool). (desk_of (replicate (n + 1) empty) o, [])) (sym (ap (λ (m : Known X × List (ℕ × X)). m.0.outs) e))
