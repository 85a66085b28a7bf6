-- Each step keeps the rule of the berth.
use Rattle.std.proofs.Common.{◌≡◌, ◌≢◌, ◌⊎◌, ℕ, zero, suc, ◌+◌, ◌<◌, ◌≤◌, ◌==◌, ◌||◌, Bool, true, false, cond, true≢false, eqb, List, [], ◌∷◌, ◌++◌, length, get_or, take, set, refl, sym, ap, ◌∙◌, subst, ⊎_elim, inl, inr, arith, le_refl, length-set, get_or-set_other, get_or-set_same, eq-eqb, ne_eqb}
use mathlib.Core.Option.{none, some, some-injective, some-ne-none}
use mathlib.Core.Logic.{dite}
use native.Mathlib.Decide.{ℕ_discrete}
use lib.ListN.{get_elem?}
use prog.Atomic.{either}
use Rattle.std.proofs.lemmas.Bool.Decides.{nat_tests}
use Rattle.std.specs.Prelude.{Option, Some}
use Rattle.std.proofs.lemmas.List.{get_or-take, set-get_or, take-set-le}
use Rattle.atomic_table.specs.Table.{State, Me, step, Act, keeps, takes, gives, Valid, carried_after, stepped, Allows, Splits, Joins, Final, Seen}
use Rattle.atomic_table.proofs.Lists.{at_set, set_here, set_else, exchanged}
use Rattle.log_berth.specs.declared.known.Known.{Known}
use Rattle.log_berth.specs.declared.known.Plan.{Plan}
use Rattle.log_berth.specs.Words.{known, new_seat, nobody, less_one, one_part, saw, missed, fault_set, without_turn, looked, tried, starts, noted, NoMore, Same, parts_of, HasHolder, Fits, Backs, Kept, sees_word, sees_fault, raised, broke, gave, took, greater, lesser, reached, informed}
use Rattle.log_berth.proofs.Numbers.{noted_same, noted_other, noted_each, greater_at, lesser_at, set_elsewhere, set_at, at_front, at_end, at_snoc_end, parts_set, parts_snoc, parts_two, each_set, had, holder_set, starts_below}

module _ {W : Type 0} (numbers_of : W → List ℕ) (is_broken : W → Bool) where
  abbrev St : Type 0
  St = State (Option W) Known

  abbrev M : Type 0
  M = Me (Option W) Known

  abbrev K : ℕ × ℕ → St → Type 0
  K k s = Kept numbers_of is_broken k s

  abbrev with : St → List ℕ → ℕ → Known → St
  with s ws id w = record { words = ws; homes = s.homes; views = set s.views id w }

  -- the words stay, and the seat has the turn and the parts that it had
  pub looks : (k : ℕ × ℕ) (s : St) (i id : ℕ) (v w : Known) → K k s → get_elem? s.views id ≡ some v → w.turn ≡ v.turn → w.parts ≡ v.parts → Fits (take k.0 s.words) (get_or s.words k.0 0) w
      → K k (with s (set s.words i (get_or s.words i 0)) id w)
  looks k s i id v w kept at turn parts fits =
      let less : w.turn ≡ true → v.turn ≡ true = λ t. sym turn ∙ t in
      subst (λ (ws : List ℕ). K k (with s ws id w)) (sym (set-get_or s.words i 0)) record {
        wide = kept.wide;
        home = kept.home;
        away = λ j u e t. let o = had s.views id w v at less j u e t in kept.away j o.0 o.1 o.2;
        one = λ i j u x e e' t t'. let o = had s.views id w v at less i u e t in let p = had s.views id w v at less j x e' t' in kept.one i j o.0 p.0 o.1 p.1 o.2 p.2;
        holder = λ ne. holder_set s.views id w v at (λ t. turn ∙ t) (kept.holder ne);
        each = each_set s.views id w (Fits (take k.0 s.words) (get_or s.words k.0 0)) fits (λ j u _ e. kept.each j u e);
        all = let p = parts_set s.views id v w at in omega (arith, p, kept.all);
      }

  pub sees : (k : ℕ × ℕ) (slots id : ℕ) (me : M) (i : ℕ) → i < k.0 → Allows (K k) slots id me i (λ x. x) (sees_word (step slots i 0 0 none) me)
  sees k slots id me i low s kept _ at _ =
      let n : ℕ = k.0 in
      let f = kept.each id me.0 at in
      let x : ℕ = get_or s.words i 0 in
      let v : Known = me.0 in
      let here : get_or (take n s.words) i 0 ≡ x = get_or-take n s.words i 0 low in
      let w : Known = saw v i x in
      let fits : Fits (take n s.words) (get_or s.words n 0) w = record {
        seen = noted_each (λ j y. y ≤ get_or (take n s.words) j 0) v.seen i x (omega arith) f.seen;
        stands = f.stands;
        exact = λ t. (noted_each (λ j y. y ≡ get_or (take n s.words) j 0) v.seen i x (sym here) (f.exact t).0, (f.exact t).1, (f.exact t).2);
      } in
      (w, keeps, tt, looks k s i id v w kept at refl refl fits, (refl, refl, subst (λ (y : ℕ). get_or v.seen i 0 ≤ y) here (f.seen i), λ b. sym ((f.stands b).1 i ∙ here)))

  -- whether the fault word was found set
  pub sees_set : (k : ℕ × ℕ) (slots id : ℕ) (me : M) → Allows (K k) slots id me k.0 (λ x. x) (sees_fault (step slots k.0 0 0 none) me)
  sees_set k slots id me s kept _ at _ =
      let n : ℕ = k.0 in
      let f = kept.each id me.0 at in
      let x : ℕ = get_or s.words n 0 in
      let v : Known = me.0 in
      dite (ℕ_discrete x 1)
      (λ is.
      let yes : (x == 1) ≡ true = eq-eqb x 1 is in
      let last : List ℕ = cond v.broken v.last (take n s.words) in
      let w : Known = known v.parts v.turn v.seen (x == 1) last (looked v.tally) in
      let ends : (b : Bool) → v.broken ≡ b → Same (cond b v.last (take n s.words)) (take n s.words) = elim [ true ↦ (λ e. (f.stands e).1) | false ↦ (λ e i. refl) ] in
      let fits : Fits (take n s.words) x w = record { seen = f.seen; stands = λ _. (is, ends v.broken refl); exact = λ t. ((f.exact t).0, refl, (f.exact t).2) } in
      let reached : NoMore v.seen last = λ i. subst (λ (y : ℕ). get_or v.seen i 0 ≤ y) (sym (ends v.broken refl i)) (f.seen i) in
      (w, keeps, tt, looks k s n id v w kept at refl refl fits, (refl, refl, refl, refl, refl, refl, (λ b. (is, ap (λ (c : Bool). cond c v.last (take n s.words)) b)), (λ _. reached), λ t. sym (f.exact t).1)))
      (λ no.
      let not : (x == 1) ≡ false = ne_eqb x 1 no in
      let w : Known = known v.parts v.turn v.seen (x == 1) v.last (looked v.tally) in
      let fits : Fits (take n s.words) x w = record { seen = f.seen; stands = λ b. absurd (true≢false (sym b ∙ not)); exact = λ t. ((f.exact t).0, refl, (f.exact t).2) } in
      (w, keeps, tt, looks k s n id v w kept at refl refl fits, (refl, refl, refl, refl, refl, refl, (λ b. absurd (no (f.stands b).0)), (λ set. absurd (no set)), λ t. sym (f.exact t).1)))

  -- the numbers or the fault word change, by the seat that has the turn
  pub writes : (k : ℕ × ℕ) (s : St) (i y id : ℕ) (v w : Known) → K k s → i < k.0 + 1 → get_elem? s.views id ≡ some v → v.turn ≡ true → w.turn ≡ true → w.parts ≡ v.parts
      → Fits (take k.0 (set s.words i y)) (get_or (set s.words i y) k.0 0) w
      → ((j : ℕ) (u : Known) → u.turn ≢ true → Fits (take k.0 s.words) (get_or s.words k.0 0) u → Fits (take k.0 (set s.words i y)) (get_or (set s.words i y) k.0 0) u)
      → K k (with s (set s.words i y) id w)
  writes k s i y id v w kept low at turn turn' parts fits others =
      let n : ℕ = k.0 in
      let out : get_or s.words (n + 1) 0 ≡ 1 = kept.away id v at turn in
      let still : get_or (set s.words i y) (n + 1) 0 ≡ get_or s.words (n + 1) 0 = get_or-set_other s.words i (n + 1) y 0 (λ e. omega arith) in
      record {
        wide = length-set s.words i y ∙ kept.wide;
        home = λ z. let z' : get_or (set s.words i y) (n + 1) 0 ≡ 0 = z in absurd (omega arith);
        away = λ j u e t. still ∙ out;
        one = λ i j u x e e' t t'. let o = had s.views id w v at (λ _. turn) i u e t in let p = had s.views id w v at (λ _. turn) j x e' t' in kept.one i j o.0 p.0 o.1 p.1 o.2 p.2;
        holder = λ _. (id, w, set_at s.views id v w at, turn');
        each = each_set s.views id w (Fits (take n (set s.words i y)) (get_or (set s.words i y) n 0)) fits
            (λ j u apart e. others j u (λ t. apart (kept.one j id u v e at t turn)) (kept.each j u e));
        all = let p = parts_set s.views id v w at in omega (arith, p, kept.all);
      }

  pub raises : (k : ℕ × ℕ) (slots id : ℕ) (me : M) (i y : ℕ) → i < k.0 → me.0.turn ≡ true → me.0.broken ≡ false → get_or me.0.seen i 0 ≤ y
      → Allows (K k) slots id me i (λ _. y) (λ _. raised (step slots i y 0 none) me y)
  raises k slots id me i y low turn whole more s kept _ at _ =
      let n : ℕ = k.0 in
      let f = kept.each id me.0 at in
      let v : Known = me.0 in
      let old : List ℕ = take n s.words in
      let new : List ℕ = take n (set s.words i y) in
      let w : Known = saw v i y in
      let far : i < length s.words = omega (arith, kept.wide) in
      let here : get_or new i 0 ≡ y = get_or-take n (set s.words i y) i 0 low ∙ get_or-set_same s.words i y 0 far in
      let was : get_or old i 0 ≤ y = subst (λ (z : ℕ). z ≤ y) ((f.exact turn).0 i) more in
      let fault : get_or (set s.words i y) n 0 ≡ get_or s.words n 0 = get_or-set_other s.words i n y 0 (λ e. omega arith) in
      let not : (get_or s.words n 0 == 1) ≡ false = sym (f.exact turn).1 ∙ whole in
      let else : (j : ℕ) → j ≢ i → get_or new j 0 ≡ get_or old j 0 = λ j ne. set_elsewhere n s.words i j y ne in
      let rises : NoMore old new = λ j. dite (ℕ_discrete j i) (λ e. subst (λ (z : ℕ). get_or old z 0 ≤ get_or new z 0) (sym e) (subst (λ (z : ℕ). get_or old i 0 ≤ z) (sym here) was))
      (λ ne. subst (λ (z : ℕ). get_or old j 0 ≤ z) (sym (else j ne)) (le_refl (get_or old j 0))) in
      let sound : (u : Known) → u.turn ≢ true → Fits old (get_or s.words n 0) u → Fits new (get_or (set s.words i y) n 0) u =
      λ u no g. record {
        seen = λ j. let a : get_or u.seen j 0 ≤ get_or old j 0 = g.seen j in let b : get_or old j 0 ≤ get_or new j 0 = rises j in omega arith;
        stands = λ b. absurd (true≢false (sym (eq-eqb (get_or s.words n 0) 1 (g.stands b).0) ∙ not));
        exact = λ t. absurd (no t);
      } in
      let same : Same (noted v.seen i y) new = λ j. dite (ℕ_discrete j i)
      (λ e. subst (λ (z : ℕ). get_or (noted v.seen i y) z 0 ≡ get_or new z 0) (sym e) (noted_same v.seen i y ∙ sym here))
      (λ ne. noted_other v.seen i j y ne ∙ (f.exact turn).0 j ∙ sym (else j ne)) in
      let fits : Fits new (get_or (set s.words i y) n 0) w = record {
        seen = λ j. subst (λ (z : ℕ). get_or (noted v.seen i y) j 0 ≤ z) (same j) (le_refl (get_or (noted v.seen i y) j 0));
        stands = λ b. absurd (true≢false (sym b ∙ whole));
        exact = λ t. (same, (f.exact turn).1 ∙ ap (λ (z : ℕ). z == 1) (sym fault), (f.exact turn).2);
      } in
      (w, keeps, tt, writes k s i y id v w kept (omega arith) at turn turn refl fits (λ j u. sound u), (refl, refl))

  pub breaks : (k : ℕ × ℕ) (slots id : ℕ) (me : M) → me.0.turn ≡ true → Allows (K k) slots id me k.0 (λ _. 1) (λ _. broke (step slots k.0 1 0 none) me 1)
  breaks k slots id me turn s kept _ at _ =
      let n : ℕ = k.0 in
      let f = kept.each id me.0 at in
      let v : Known = me.0 in
      let far : n < length s.words = omega (arith, kept.wide) in
      let numbers : take n (set s.words n 1) ≡ take n s.words = take-set-le n s.words n 1 (le_refl n) in
      let fault : get_or (set s.words n 1) n 0 ≡ 1 = get_or-set_same s.words n 1 0 far in
      let w : Known = fault_set v in
      let sound : (u : Known) → u.turn ≢ true → Fits (take n s.words) (get_or s.words n 0) u → Fits (take n (set s.words n 1)) (get_or (set s.words n 1) n 0) u =
      λ u no g. subst (λ (l : List ℕ). Fits l (get_or (set s.words n 1) n 0) u) (sym numbers) record { seen = g.seen; stands = λ b. (fault, (g.stands b).1); exact = λ t. absurd (no t) } in
      let fits : Fits (take n (set s.words n 1)) (get_or (set s.words n 1) n 0) w = subst (λ (l : List ℕ). Fits l (get_or (set s.words n 1) n 0) w) (sym numbers)
      record { seen = f.seen; stands = λ b. (fault, (f.exact turn).0); exact = λ t. ((f.exact turn).0, sym (eq-eqb (get_or (set s.words n 1) n 0) 1 fault), (f.exact turn).2) } in
      (w, keeps, tt, writes k s n 1 id v w kept (omega arith) at turn refl refl fits (λ j u. sound u), (refl, refl))

  -- a view is cut in two: the left one stays at the seat, the right one goes to a new seat, and one of them has the turn if the view had it
  splits : (k : ℕ × ℕ) (id : ℕ) (v left right : Known) (s : St) → K k s → get_elem? s.views id ≡ some v → left.parts + right.parts ≡ v.parts
      → (left.turn ≡ true → (v.turn ≡ true) × (right.turn ≡ false)) → (right.turn ≡ true → (v.turn ≡ true) × (left.turn ≡ false)) → (v.turn ≡ true → (left.turn ≡ true) ⊎ (right.turn ≡ true))
      → Fits (take k.0 s.words) (get_or s.words k.0 0) left → Fits (take k.0 s.words) (get_or s.words k.0 0) right
      → K k record { words = s.words; homes = s.homes; views = set s.views id left ++ right ∷ [] }
  splits k id v left right s kept at parts l r lr fl fr =
      let vs : List Known = set s.views id left in
      let some_one : (j : ℕ) (u : Known) → get_elem? (vs ++ right ∷ []) j ≡ some u → u.turn ≡ true → ((o : Known) × (get_elem? s.views j ≡ some o) × (o.turn ≡ true) × (j ≡ id → left.turn ≡ true)) ⊎ ((j ≡ length vs) × (right.turn ≡ true)) =
      λ j u e t. ⊎_elim
      (λ was. inl (⊎_elim
      (λ (x : (j ≡ id) × (left ≡ u)). let lt : left.turn ≡ true = ap (λ (y : Known). y.turn) x.1 ∙ t in (v, ap (λ (i : ℕ). get_elem? s.views i) x.0 ∙ at, (l lt).0, λ _. lt))
      (λ (x : (j ≢ id) × (get_elem? s.views j ≡ some u)). (u, x.1, t, λ e'. absurd (x.0 e')))
      (at_set s.views id j left u was)))
      (λ (x : (j ≡ length vs) × (right ≡ u)). inr (x.0, ap (λ (y : Known). y.turn) x.1 ∙ t))
      (at_snoc_end vs right u j e) in
      let both : (j : ℕ) (o : Known) → get_elem? s.views j ≡ some o → o.turn ≡ true → (j ≡ id → left.turn ≡ true) → right.turn ≡ true → ⊥ =
      λ j o e t il rt. let vt = (r rt).0 in let same : j ≡ id = kept.one j id o v e at t vt in true≢false (sym (il same) ∙ (r rt).1) in
      record {
        wide = kept.wide;
        home = kept.home;
        away = λ j u e t. ⊎_elim (λ o. kept.away j o.0 o.1 o.2) (λ (x : (j ≡ length vs) × (right.turn ≡ true)). kept.away id v at (r x.1).0) (some_one j u e t);
        one = λ i j u x e e' t t'. ⊎_elim
            (λ o. ⊎_elim (λ p. kept.one i j o.0 p.0 o.1 p.1 o.2 p.2) (λ (y : (j ≡ length vs) × (right.turn ≡ true)). absurd (both i o.0 o.1 o.2 o.3 y.1)) (some_one j x e' t'))
            (λ (y : (i ≡ length vs) × (right.turn ≡ true)). ⊎_elim (λ p. absurd (both j p.0 p.1 p.2 p.3 y.1)) (λ (z : (j ≡ length vs) × (right.turn ≡ true)). y.0 ∙ sym z.0) (some_one j x e' t'))
            (some_one i u e t);
        holder = λ ne. holds (kept.holder ne);
        each = λ j u e. ⊎_elim (each_set s.views id left (Fits (take k.0 s.words) (get_or s.words k.0 0)) fl (λ i x _ f. kept.each i x f) j u)
            (λ (x : (j ≡ length vs) × (right ≡ u)). subst (Fits (take k.0 s.words) (get_or s.words k.0 0)) x.1 fr) (at_snoc_end vs right u j e);
        all = omega (arith, parts_snoc vs right, parts_set s.views id v left at, kept.all, parts);
      }
    where
      holds : HasHolder s.views → HasHolder (set s.views id left ++ right ∷ [])
      holds h = dite (ℕ_discrete h.0 id)
          (λ e.
          let same : v ≡ h.1 = some-injective v h.1 (sym at ∙ (ap (λ (i : ℕ). get_elem? s.views i) (sym e) ∙ h.2)) in
          ⊎_elim
          (λ (lt : left.turn ≡ true). (id, left, at_front (set s.views id left) (right ∷ []) id left (set_at s.views id v left at), lt))
          (λ (rt : right.turn ≡ true). (length (set s.views id left), right, at_end (set s.views id left) right, rt))
          (lr (ap (λ (y : Known). y.turn) same ∙ h.3)))
          (λ ne. (h.0, h.1, at_front (set s.views id left) (right ∷ []) h.0 h.1 (set_else s.views id h.0 left ne ∙ h.2), h.3))

  no_turn : {A : Type 0} → false ≡ true → A
  no_turn e = absurd (true≢false (sym e))

  fits_nobody : (ns : List ℕ) (fault : ℕ) → Fits ns fault nobody
  fits_nobody ns fault = record { seen = λ i. let z : 0 ≤ get_or ns i 0 = omega arith in z; stands = λ b. no_turn b; exact = λ t. no_turn t }

  pub cuts : (k : ℕ × ℕ) (id : ℕ) (v : Known) → 0 < v.parts → v.turn ≡ false → Splits (K k) id v (less_one v) (one_part v)
  cuts k id v some_part off s kept at =
      let f = kept.each id v at in
      splits k id v (less_one v) (one_part v) s kept at (omega arith) (λ t. absurd (true≢false (sym t ∙ off))) (λ t. no_turn t) (λ t. absurd (true≢false (sym t ∙ off)))
      record { seen = f.seen; stands = f.stands; exact = λ t. absurd (true≢false (sym t ∙ off)) }
      record { seen = f.seen; stands = f.stands; exact = λ t. no_turn t }

  pub hands : (k : ℕ × ℕ) (id : ℕ) (v : Known) → Splits (K k) id v nobody v
  hands k id v s kept at = splits k id v nobody v s kept at (omega arith) (λ t. no_turn t) (λ t. (t, refl)) (λ t. inr t) (fits_nobody (take k.0 s.words) (get_or s.words k.0 0)) (kept.each id v at)

  -- two views become one, which has the turn if either had it
  unites : (k : ℕ × ℕ) (id : ℕ) (v : Known) (other : ℕ) (w both : Known) (s : St) → K k s → get_elem? s.views id ≡ some v → ¬ (other ≡ id) → get_elem? (set s.views id both) other ≡ some w
      → both.parts ≡ v.parts + w.parts → (both.turn ≡ true → (v.turn ≡ true) ⊎ (w.turn ≡ true)) → (v.turn ≡ true → both.turn ≡ true) → (w.turn ≡ true → both.turn ≡ true)
      → (Fits (take k.0 s.words) (get_or s.words k.0 0) v → Fits (take k.0 s.words) (get_or s.words k.0 0) w → Fits (take k.0 s.words) (get_or s.words k.0 0) both)
      → K k record { words = s.words; homes = s.homes; views = set (set s.views id both) other nobody }
  unites k id v other w both s kept at apart there parts either_one vb wb fits =
      let mid : List Known = set s.views id both in
      let ns : List ℕ = take k.0 s.words in
      let fault : ℕ = get_or s.words k.0 0 in
      let was : get_elem? s.views other ≡ some w = ⊎_elim (λ (x : (other ≡ id) × (both ≡ w)). absurd (apart x.0)) (λ (x : (other ≢ id) × (get_elem? s.views other ≡ some w)). x.1) (at_set s.views id other both w there) in
      let old : (j : ℕ) (u : Known) → get_elem? (set mid other nobody) j ≡ some u → u.turn ≡ true → ((j ≡ id) × (both.turn ≡ true)) ⊎ ((j ≢ id) × (j ≢ other) × (get_elem? s.views j ≡ some u)) =
      λ j u e t. ⊎_elim (λ (x : (j ≡ other) × (nobody ≡ u)). no_turn (ap (λ (y : Known). y.turn) x.1 ∙ t))
      (λ (x : (j ≢ other) × (get_elem? mid j ≡ some u)). ⊎_elim (λ (y : (j ≡ id) × (both ≡ u)). inl (y.0, ap (λ (z : Known). z.turn) y.1 ∙ t)) (λ (y : (j ≢ id) × (get_elem? s.views j ≡ some u)). inr (y.0, x.0, y.1)) (at_set s.views id j both u x.1))
      (at_set mid other j nobody u e) in
      let clash : (j : ℕ) (u : Known) → j ≢ id → j ≢ other → get_elem? s.views j ≡ some u → u.turn ≡ true → both.turn ≡ true → ⊥ =
      λ j u ne ne' e t bt. ⊎_elim (λ (vt : v.turn ≡ true). ne (kept.one j id u v e at t vt)) (λ (wt : w.turn ≡ true). ne' (kept.one j other u w e was t wt)) (either_one bt) in
      record {
        wide = kept.wide;
        home = kept.home;
        away = λ j u e t. ⊎_elim (λ (x : (j ≡ id) × (both.turn ≡ true)). ⊎_elim (λ (vt : v.turn ≡ true). kept.away id v at vt) (λ (wt : w.turn ≡ true). kept.away other w was wt) (either_one x.1))
            (λ (x : (j ≢ id) × (j ≢ other) × (get_elem? s.views j ≡ some u)). kept.away j u x.2 t) (old j u e t);
        one = λ i j u y e e' t t'. ⊎_elim
            (λ (x : (i ≡ id) × (both.turn ≡ true)). ⊎_elim (λ (z : (j ≡ id) × (both.turn ≡ true)). x.0 ∙ sym z.0) (λ (z : (j ≢ id) × (j ≢ other) × (get_elem? s.views j ≡ some y)). absurd (clash j y z.0 z.1 z.2 t' x.1)) (old j y e' t'))
            (λ (x : (i ≢ id) × (i ≢ other) × (get_elem? s.views i ≡ some u)). ⊎_elim (λ (z : (j ≡ id) × (both.turn ≡ true)). absurd (clash i u x.0 x.1 x.2 t z.1)) (λ (z : (j ≢ id) × (j ≢ other) × (get_elem? s.views j ≡ some y)). kept.one i j u y x.2 z.2 t t') (old j y e' t'))
            (old i u e t);
        holder = λ ne. holds (kept.holder ne) was;
        each = each_set mid other nobody (Fits ns fault) (fits_nobody ns fault) (λ j u _ e. each_set s.views id both (Fits ns fault) (fits (kept.each id v at) (kept.each other w was)) (λ i x _ e'. kept.each i x e') j u e);
        all = omega (arith, parts_set mid other w nobody there, parts_set s.views id v both at, kept.all, parts);
      }
    where
      holds : HasHolder s.views → get_elem? s.views other ≡ some w → HasHolder (set (set s.views id both) other nobody)
      holds h was =
          let here : both.turn ≡ true → HasHolder (set (set s.views id both) other nobody) = λ bt. (id, both, set_else (set s.views id both) other id nobody (λ e. apart (sym e)) ∙ set_at s.views id v both at, bt) in
          dite (ℕ_discrete h.0 id)
          (λ e. here (vb (ap (λ (y : Known). y.turn) (some-injective v h.1 (sym at ∙ (ap (λ (i : ℕ). get_elem? s.views i) (sym e) ∙ h.2))) ∙ h.3)))
          (λ ne. dite (ℕ_discrete h.0 other)
          (λ e. here (wb (ap (λ (y : Known). y.turn) (some-injective w h.1 (sym was ∙ (ap (λ (i : ℕ). get_elem? s.views i) (sym e) ∙ h.2))) ∙ h.3)))
          (λ ne'. (h.0, h.1, set_else (set s.views id both) other h.0 nobody ne' ∙ (set_else s.views id h.0 both ne ∙ h.2), h.3)))

  stands_or : (fault : ℕ) (ns xs ys : List ℕ) (b c : Bool) → (b ≡ true → (fault ≡ 1) × Same xs ns) → (c ≡ true → (fault ≡ 1) × Same ys ns) → (b || c) ≡ true → (fault ≡ 1) × Same (cond b (cond c (lesser xs ys) xs) ys) ns
  stands_or fault ns xs ys true true p q e = ((p refl).0, λ i. let a : get_or xs i 0 ≡ get_or ns i 0 = (p refl).1 i in let b : get_or ys i 0 ≡ get_or ns i 0 = (q refl).1 i in omega (arith, lesser_at xs ys i))
  stands_or fault ns xs ys true false p q e = p refl
  stands_or fault ns xs ys false true p q e = q refl
  stands_or fault ns xs ys false false p q e = absurd (true≢false (sym e))

  -- the words are at or above what a seat knows that they had reached
  reached_below : (fault : ℕ) (ns xs ys : List ℕ) (b : Bool) → NoMore xs ns → (b ≡ true → (fault ≡ 1) × Same ys ns) → NoMore (cond b (greater xs ys) xs) ns
  reached_below fault ns xs ys true p q i = let a : get_or xs i 0 ≤ get_or ns i 0 = p i in let b : get_or ys i 0 ≡ get_or ns i 0 = (q refl).1 i in omega (arith, greater_at xs ys i)
  reached_below fault ns xs ys false p q i = p i

  -- seats without the turn
  pub merges : (k : ℕ × ℕ) (id : ℕ) (v : Known) (other : ℕ) (w : Known) → v.turn ≡ false → w.turn ≡ false → Joins (K k) id v other w (informed v w) nobody
  merges k id v other w off off' s kept at apart there =
      unites k id v other w (informed v w) s kept at apart there refl (λ t. inl t) (λ t. t) (λ t. absurd (true≢false (sym t ∙ off'))) (λ f g. record {
        seen = λ i.
            let ns : List ℕ = take k.0 s.words in
            let a : get_or (reached v) i 0 ≤ get_or ns i 0 = reached_below (get_or s.words k.0 0) ns v.seen v.last v.broken f.seen f.stands i in
            let b : get_or (reached w) i 0 ≤ get_or ns i 0 = reached_below (get_or s.words k.0 0) ns w.seen w.last w.broken g.seen g.stands i in
            omega (arith, greater_at (reached v) (reached w) i);
        stands = stands_or (get_or s.words k.0 0) (take k.0 s.words) v.last w.last v.broken w.broken f.stands g.stands;
        exact = λ t. absurd (true≢false (sym t ∙ off));
      })

  -- the seat that kept the slot takes in what the other knows
  pub regains : (k : ℕ × ℕ) (id : ℕ) (v : Known) (other : ℕ) (w : Known) → v ≡ nobody → Joins (K k) id v other w w nobody
  regains k id v other w is s kept at apart there =
      let none' : v.parts ≡ 0 = ap (λ (y : Known). y.parts) is in
      unites k id v other w w s kept at apart there (omega arith) (λ t. inr t) (λ t. no_turn (sym (ap (λ (y : Known). y.turn) is) ∙ t)) (λ t. t) (λ f g. g)

  abbrev pub Goes : ℕ × ℕ → St → ℕ → ℕ → M → (ℕ → M → Type 0) → ℕ → Type 0
  Goes k s i id me then x = (w : Known) × (a : Act (Option W)) × Valid s.homes me.1 a × K k (stepped s i x id me.1 w a) × then (get_or s.words i 0) (w, carried_after me.1 a)

  -- the turn word lies beside the numbers and the fault word
  beside : (n : ℕ) (ws : List ℕ) (y : ℕ) (u : Known) → Fits (take n ws) (get_or ws n 0) u → Fits (take n (set ws (n + 1) y)) (get_or (set ws (n + 1) y) n 0) u
  beside n ws y u g =
      let a : take n ws ≡ take n (set ws (n + 1) y) = sym (take-set-le n ws (n + 1) y (omega arith)) in
      let b : get_or ws n 0 ≡ get_or (set ws (n + 1) y) n 0 = sym (get_or-set_other ws (n + 1) n y 0 (λ e. omega arith)) in
      subst (λ (p : List ℕ × ℕ). Fits p.0 p.1 u) (λ i. (a i, b i)) g

  pub takes_turn : (k : ℕ × ℕ) (slots id : ℕ) (me : M) → 0 < me.0.parts → Allows (K k) slots id me (k.0 + 1) (λ y. either (eqb y 0) 1 y) (took numbers_of is_broken (step slots (k.0 + 1) 0 1 none) me)
  takes_turn k slots id me some_part s kept _ at _ =
      let n : ℕ = k.0 in
      let f = kept.each id me.0 at in
      let v : Known = me.0 in
      let y : ℕ = get_or s.words (n + 1) 0 in
      let told = took numbers_of is_broken (step slots (n + 1) 0 1 none) me in
      exchanged y 0 1 (Goes k s (n + 1) id me told)
      (λ free.
      let home = kept.home free in
      let ns : List ℕ = take n s.words in
      let fault : ℕ = get_or s.words n 0 in
      let w : Known = known v.parts true ns (fault == 1) ns (tried v.tally 0) in
      let fits : Fits ns fault w = record { seen = λ i. le_refl (get_or ns i 0); stands = λ b. (set_means fault b, λ i. refl); exact = λ _. ((λ i. refl), refl, some_part) } in
      let far : n + 1 < length s.words = omega (arith, kept.wide) in
      let now : get_or (set s.words (n + 1) 1) (n + 1) 0 ≡ 1 = get_or-set_same s.words (n + 1) 1 0 far in
      let mine : (j : ℕ) (u : Known) → get_elem? (set s.views id w) j ≡ some u → u.turn ≡ true → j ≡ id =
      λ j u e t. ⊎_elim (λ (x : (j ≡ id) × (w ≡ u)). x.0) (λ (x : (j ≢ id) × (get_elem? s.views j ≡ some u)). let one : y ≡ 1 = kept.away j u x.1 t in absurd (omega arith)) (at_set s.views id j w u e) in (
        w,
        takes 0 (Some home.0),
        home.1,
        record {
          wide = length-set s.words (n + 1) 1 ∙ kept.wide;
          home = λ z. let z' : get_or (set s.words (n + 1) 1) (n + 1) 0 ≡ 0 = z in absurd (omega arith);
          away = λ _ _ _ _. now;
          one = λ i j u x e e' t t'. mine i u e t ∙ sym (mine j x e' t');
          holder = λ _. (id, w, set_at s.views id v w at, refl);
          each = each_set s.views id w (Fits (take n (set s.words (n + 1) 1)) (get_or (set s.words (n + 1) 1) n 0)) (beside n s.words 1 w fits) (λ j u _ e. beside n s.words 1 u (kept.each j u e));
          all = let p = parts_set s.views id v w at in omega (arith, p, kept.all);
        },
        (
          (λ _. (
            home.0,
            refl,
            record {
              turn = refl;
              parts = refl;
              tally = refl;
              seen = f.seen;
              below = home.2.below;
              broken = home.2.same;
              stands = λ b. (eq-eqb fault 1 (f.stands b).0, (f.stands b).1);
            },
          )),
          λ miss. absurd (miss free),
        ),
      ))
      (λ busy.
      let w : Known = missed v y in
      (w, keeps, tt, looks k s (n + 1) id v w kept at refl refl record { seen = f.seen; stands = f.stands; exact = f.exact }, ((λ free. absurd (busy free)), λ _. refl)))
    where
      set_means : (z : ℕ) → (z == 1) ≡ true → z ≡ 1
      set_means z e = grind (arith, nat_tests)

  pub gives_turn : (k : ℕ × ℕ) (slots id : ℕ) (me : M) (ware : W) → 0 < slots → me.1 ≡ (0, Some ware) ∷ [] → me.0.turn ≡ true → NoMore me.0.seen (numbers_of ware) → is_broken ware ≡ me.0.broken
      → Allows (K k) slots id me (k.0 + 1) (λ _. 0) (λ _. gave (step slots (k.0 + 1) 0 0 none) me 0)
  gives_turn k slots id me ware some_slot holds turn below same s kept wide at _ =
      let n : ℕ = k.0 in
      let f = kept.each id me.0 at in
      let v : Known = me.0 in
      let w : Known = without_turn v in
      let fits : Fits (take n s.words) (get_or s.words n 0) w = record { seen = f.seen; stands = f.stands; exact = λ t. absurd (true≢false (sym t)) } in
      let off : (j : ℕ) (u : Known) → get_elem? (set s.views id w) j ≡ some u → u.turn ≡ true → ⊥ =
      λ j u e t. ⊎_elim (λ (x : (j ≡ id) × (w ≡ u)). true≢false (sym t ∙ ap (λ (z : Known). z.turn) (sym x.1))) (λ (x : (j ≢ id) × (get_elem? s.views j ≡ some u)). x.0 (kept.one j id u v x.1 at t turn)) (at_set s.views id j w u e) in
      let far : n + 1 < length s.words = omega (arith, kept.wide) in
      let zeroed : get_or (set s.words (n + 1) 0) (n + 1) 0 ≡ 0 = get_or-set_same s.words (n + 1) 0 0 far in
      let numbers : take n (set s.words (n + 1) 0) ≡ take n s.words = take-set-le n s.words (n + 1) 0 (omega arith) in
      let fault : get_or (set s.words (n + 1) 0) n 0 ≡ get_or s.words n 0 = get_or-set_other s.words (n + 1) n 0 0 (λ e. omega arith) in
      let backs : Backs numbers_of is_broken (take n s.words) (get_or s.words n 0) ware = record { below = λ i. subst (λ (z : ℕ). z ≤ get_or (numbers_of ware) i 0) ((f.exact turn).0 i) (below i); same = same ∙ (f.exact turn).1 } in (
        w,
        gives,
        tt,
        subst (λ (c : List (ℕ × Option W)). K k (stepped s (n + 1) 0 id c w gives)) (sym holds) record {
          wide = length-set s.words (n + 1) 0 ∙ kept.wide;
          home = λ _. (ware, set_here s.homes 0 (some (Some ware)) (let l : 0 < length s.homes = omega (arith, wide) in l), subst (λ (p : List ℕ × ℕ). Backs numbers_of is_broken p.0 p.1 ware) (λ i. (sym numbers i, sym fault i)) backs);
          away = λ j u e t. absurd (off j u e t);
          one = λ i j u x e e' t t'. absurd (off i u e t);
          holder = λ ne. absurd (ne zeroed);
          each = each_set s.views id w (Fits (take n (set s.words (n + 1) 0)) (get_or (set s.words (n + 1) 0) n 0)) (beside n s.words 0 w fits) (λ j u _ e. beside n s.words 0 u (kept.each j u e));
          all = let p = parts_set s.views id v w at in omega (arith, p, kept.all);
        },
        (refl, refl),
      )

  -- with every part, and without the turn, the ware is home
  pub ends : (k : ℕ × ℕ) (id : ℕ) (v : Known) (ws : List ℕ) (xs : List (Option W)) → v.parts ≡ k.1 → v.turn ≡ false → Final (Seen (K k) id v) ws xs
      → (ware : W) × (get_elem? xs 0 ≡ some (Some ware)) × Backs numbers_of is_broken (take k.0 ws) (get_or ws k.0 0) ware × NoMore v.seen (take k.0 ws)
      × (v.broken ≡ true → (get_or ws k.0 0 ≡ 1) × Same v.last (take k.0 ws))
  ends k id v ws xs all off final =
      let s = final.0 in
      let kept = final.1.0 in
      let at = final.1.1 in
      let f = kept.each id v at in
      let home = kept.home (dite (ℕ_discrete (get_or s.words (k.0 + 1) 0) 0) (λ z. z) (λ ne. absurd (none_else s kept at (kept.holder ne)))) in
      let words = final.2 in (
        home.0,
        final.4 0 (Some home.0) home.1,
        subst (λ (l : List ℕ). Backs numbers_of is_broken (take k.0 l) (get_or l k.0 0) home.0) words home.2,
        subst (λ (l : List ℕ). NoMore v.seen (take k.0 l)) words f.seen,
        λ b. subst (λ (l : List ℕ). (get_or l k.0 0 ≡ 1) × Same v.last (take k.0 l)) words (f.stands b),
      )
    where
      none_else : (s : St) → K k s → get_elem? s.views id ≡ some v → HasHolder s.views → ⊥
      none_else s kept at h = dite (ℕ_discrete h.0 id)
          (λ e. true≢false (sym h.3 ∙ (ap (λ (y : Known). y.turn) (sym (some-injective v h.1 (sym at ∙ (ap (λ (i : ℕ). get_elem? s.views i) (sym e) ∙ h.2)))) ∙ off)))
          (λ ne.
          let g = kept.each h.0 h.1 h.2 in
          let some_part : 0 < h.1.parts = (g.exact h.3).2 in
          let two : h.1.parts + v.parts ≤ parts_of s.views = parts_two s.views h.0 id h.1 v h.2 at ne in
          omega (arith, kept.all))

  pub begins : (plan : Plan) (ware : W) → length plan.words.items ≡ plan.regions + 2 → take plan.regions plan.words.items ≡ starts plan.regions (numbers_of ware) → get_or plan.words.items plan.regions 0 ≡ 0 → get_or plan.words.items (plan.regions + 1) 0 ≡ 0
      → is_broken ware ≡ false → K (plan.regions, plan.seats) record { words = plan.words.items; homes = some (Some ware) ∷ []; views = new_seat plan ∷ [] }
  begins plan ware wide start fault turn whole = record {
    wide = wide;
    home = λ _. (ware, refl, record { below = subst (λ (l : List ℕ). NoMore l (numbers_of ware)) (sym start) (starts_below n (numbers_of ware)); same = whole ∙ sym (ne_eqb (get_or ws n 0) 1 (λ e. omega arith)) });
    away = λ j u e t. absurd (true≢false (sym t ∙ quiet j u e));
    one = λ i j u x e e' t t'. absurd (true≢false (sym t ∙ quiet i u e));
    holder = λ ne. absurd (ne turn);
    each = fits;
    all = omega arith;
  }
    where
      n : ℕ
      n = plan.regions

      ws : List ℕ
      ws = plan.words.items

      quiet : (j : ℕ) (u : Known) → get_elem? (new_seat plan ∷ []) j ≡ some u → u.turn ≡ false
      quiet zero u e = ap (λ (y : Known). y.turn) (sym (some-injective (new_seat plan) u e))
      quiet (suc j) u e = absurd (some-ne-none u (sym e))

      fits : (j : ℕ) (u : Known) → get_elem? (new_seat plan ∷ []) j ≡ some u → Fits (take n ws) (get_or ws n 0) u
      fits zero u e = subst (Fits (take n ws) (get_or ws n 0)) (some-injective (new_seat plan) u e) record { seen = λ i. le_refl (get_or (take n ws) i 0); stands = λ b. absurd (true≢false (sym b)); exact = λ t. absurd (true≢false (sym t)) }
      fits (suc j) u e = absurd (some-ne-none u (sym e))
