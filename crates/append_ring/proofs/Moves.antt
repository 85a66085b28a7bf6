-- Each move keeps the rule of the ring.
use Rattle.std.proofs.Common.{◌≡◌, ◌≢◌, ℕ, zero, suc, ◌+◌, ◌<◌, ◌≤◌, true, false, true≢false, List, [], ◌∷◌, ◌++◌, length, set, refl, sym, ap, ◌∙◌, subst, ⊎_elim, arith, append_assoc}
use mathlib.Core.Option.{some, some-injective, some-ne-none}
use mathlib.Core.Logic.{dite}
use Rattle.std.proofs.lemmas.List.{append-nil}
use native.Mathlib.Decide.{ℕ_discrete}
use lib.ListN.{get_elem?}
use Rattle.std.specs.Prelude.{Option}
use Rattle.crossbeam_queue.specs.Fifo.{Pushes, Pops, Forks, Merges, Learns}
use Rattle.crossbeam_queue.proofs.Lists.{at_set}
use Rattle.append_ring.specs.declared.knows.Knows.{Knows}
use Rattle.append_ring.specs.Rules.{knows, new_pass, nobody, based, one_more, next_region, compared, HasPushed, base_of, of, Totals, end_of, Follows, IsGood, Runs, Fits, Kept, HasPopped, Possible}
use Rattle.append_ring.proofs.Lists.{put, put_same, put_other, at_snoc_end, of-append, of_here, of_else, runs_snoc, runs_mid}

module _ {T : Type 0} (place : T → ℕ) (number : T → Option ℕ) (is_whole : T → Type 0) (in_order : List ℕ → List T → Type 0) (order_empty : (lasts : List ℕ) → in_order lasts []) (order_front : (lasts : List ℕ) (xs ys : List T) → in_order lasts (xs ++ ys) → in_order lasts xs) where
  abbrev V : Type 0
  V = Knows T

  abbrev K : List T → List V → Type 0
  K items views = Kept place number is_whole in_order items views

  abbrev All : (ℕ → V → Type 0) → List V → Type 0
  All F views = (j : ℕ) (u : V) → get_elem? views j ≡ some u → F j u

  all_set : (F : ℕ → V → Type 0) (views : List V) (pass : ℕ) (w : V) → F pass w → ((j : ℕ) (u : V) → j ≢ pass → get_elem? views j ≡ some u → F j u) → All F (set views pass w)
  all_set F views pass w mine others j u e =
      ⊎_elim (λ (x : (j ≡ pass) × (w ≡ u)). subst (λ (y : ℕ × V). F y.0 y.1) (λ i. (sym x.0 i, x.1 i)) mine) (λ (x : (j ≢ pass) × (get_elem? views j ≡ some u)). others j u x.0 x.1) (at_set views pass j w u e)

  off : false ≡ true → ⊥
  off e = true≢false (sym e)

  pub begins : K [] (new_pass ∷ [])
  begins = record {
    lasts = [];
    made = 0;
    reader = 0;
    seat = λ _. 0;
    pushed = λ _. [];
    popped = [];
    flows = λ r. refl;
    runs = λ r. tt;
    ordered = λ r. order_empty [];
    unmade = λ r _. refl;
    zeroth = refl;
    each = one;
  }
    where
      one : (j : ℕ) (u : V) → get_elem? (new_pass ∷ []) j ≡ some u → Fits place number is_whole in_order [] 0 0 (λ _. 0) (λ _. []) [] j u
      one zero u e = subst (Fits place number is_whole in_order [] 0 0 (λ _. 0) (λ _. []) [] 0) (some-injective new_pass u e) record { writes = λ no. absurd (no refl); reads = λ _. (refl, refl, refl, refl) }
      one (suc j) u e = absurd (some-ne-none u (sym e))

  pub pushes : (room pass : ℕ) (v : V) (x : T) → 0 < v.region → v.region ≤ length v.lasts → place x ≡ v.region → is_whole x → in_order v.lasts (v.pushed ++ x ∷ []) → Follows number (end_of number (base_of v.lasts v.region) v.pushed) x
      → Pushes K room pass v x (HasPushed v x)
  pushes room pass v x pos low at whole order next items views _ h seen =
      let r : ℕ = v.region in
      let more : List T = v.pushed ++ x ∷ [] in
      let w : V = knows r v.pops v.made v.lasts more v.popped in
      let mine = h.each pass v seen in
      let f = mine.writes (λ z. omega arith) in
      let pushed : ℕ → List T = put h.pushed r more in
      let good : IsGood place number is_whole in_order (length v.lasts) x = (whole, omega arith, omega arith) in
      let joined : of place r h.popped ++ of place r (items ++ x ∷ []) ≡ more =
      ap (λ l. of place r h.popped ++ l) (of-append place r items (x ∷ []) ∙ ap (λ l. of place r items ++ l) (of_here place r x [] at))
      ∙ (sym (append_assoc (of place r h.popped) (of place r items) (x ∷ [])) ∙ ap (λ l. l ++ x ∷ []) (h.flows r ∙ sym f.1)) in
      let ran : Runs place number is_whole in_order (length h.lasts) (base_of h.lasts r) more =
      subst (λ (l : List ℕ). Runs place number is_whole in_order (length l) (base_of l r) more) f.2
      (runs_snoc place number is_whole in_order (length v.lasts) (base_of v.lasts r) v.pushed x
      (subst (λ (p : List ℕ × List T). Runs place number is_whole in_order (length p.0) (base_of p.0 r) p.1) (λ i. (sym f.2 i, sym f.1 i)) (h.runs r)) good next) in (
        w,
        record {
          lasts = h.lasts;
          made = h.made;
          reader = h.reader;
          seat = h.seat;
          pushed = pushed;
          popped = h.popped;
          flows = λ k. dite (ℕ_discrete k r)
              (λ e. subst (λ (j : ℕ). of place j h.popped ++ of place j (items ++ x ∷ []) ≡ pushed j) (sym e) (joined ∙ sym (put_same h.pushed r more)))
              (λ ne. ap (λ l. of place k h.popped ++ l) (of-append place k items (x ∷ []) ∙ (ap (λ l. of place k items ++ l) (of_else place k x [] (λ e. ne (sym e ∙ at))) ∙ append-nil (of place k items))) ∙ (h.flows k ∙ sym (put_other h.pushed r more k ne)));
          runs = λ k. dite (ℕ_discrete k r)
              (λ e. subst (λ (j : ℕ). Runs place number is_whole in_order (length h.lasts) (base_of h.lasts j) (pushed j)) (sym e) (subst (Runs place number is_whole in_order (length h.lasts) (base_of h.lasts r)) (sym (put_same h.pushed r more)) ran))
              (λ ne. subst (Runs place number is_whole in_order (length h.lasts) (base_of h.lasts k)) (sym (put_other h.pushed r more k ne)) (h.runs k));
          ordered = λ k. dite (ℕ_discrete k r)
              (λ e. subst (λ (j : ℕ). in_order h.lasts (pushed j)) (sym e) (subst (in_order h.lasts) (sym (put_same h.pushed r more)) (subst (λ (l : List ℕ). in_order l more) f.2 order)))
              (λ ne. subst (in_order h.lasts) (sym (put_other h.pushed r more k ne)) (h.ordered k));
          unmade = λ k lt. put_other h.pushed r more k (λ e. let a : r ≤ h.made = f.3 in omega arith) ∙ h.unmade k lt;
          zeroth = put_other h.pushed r more 0 (λ e. omega arith) ∙ h.zeroth;
          each = all_set (Fits place number is_whole in_order h.lasts h.made h.reader h.seat pushed h.popped) views pass w
              record { writes = λ _. (f.0, sym (put_same h.pushed r more), f.2, f.3); reads = mine.reads }
              (λ j u apart e. record {
                writes = λ no. let o = (h.each j u e).writes no in
                    (o.0, o.1 ∙ sym (put_other h.pushed r more u.region (λ same. apart (o.0 ∙ (ap h.seat same ∙ sym f.0)))), o.2, o.3);
                reads = (h.each j u e).reads;
              });
        },
        refl,
      )

  pub pops : (pass : ℕ) (v : V) → v.pops ≡ true → Pops K pass v (HasPopped place number is_whole in_order v)
  pops pass v may x items views h seen =
      let mine = h.each pass v seen in
      let f = mine.reads may in
      let w : V = knows v.region v.pops v.made v.lasts v.pushed (v.popped ++ x ∷ []) in
      let popped : List T = h.popped ++ x ∷ [] in
      let r : ℕ = place x in
      let lay : (k : ℕ) → of place k popped ++ of place k items ≡ h.pushed k = λ k.
      ap (λ l. l ++ of place k items) (of-append place k h.popped (x ∷ []))
      ∙ (append_assoc (of place k h.popped) (of place k (x ∷ [])) (of place k items) ∙ (ap (λ l. of place k h.popped ++ l) (sym (of-append place k (x ∷ []) items)) ∙ h.flows k)) in
      let parted : of place r h.popped ++ x ∷ of place r items ≡ h.pushed r = ap (λ l. of place r h.popped ++ l) (sym (of_here place r x items refl)) ∙ h.flows r in
      let tail : of place r popped ≡ of place r h.popped ++ x ∷ [] = of-append place r h.popped (x ∷ []) ∙ ap (λ l. of place r h.popped ++ l) (of_here place r x [] refl) in
      let ran = runs_mid place number is_whole in_order (length h.lasts) (base_of h.lasts r) (of place r h.popped) x (of place r items) (subst (Runs place number is_whole in_order (length h.lasts) (base_of h.lasts r)) (sym parted) (h.runs r)) in (
        w,
        record {
          lasts = h.lasts;
          made = h.made;
          reader = h.reader;
          seat = h.seat;
          pushed = h.pushed;
          popped = popped;
          flows = lay;
          runs = h.runs;
          ordered = h.ordered;
          unmade = h.unmade;
          zeroth = h.zeroth;
          each = all_set (Fits place number is_whole in_order h.lasts h.made h.reader h.seat h.pushed popped) views pass w
              record { writes = mine.writes; reads = λ _. (f.0, ap (λ l. l ++ x ∷ []) f.1, f.2, f.3) }
              (λ j u apart e. record { writes = (h.each j u e).writes; reads = λ p. absurd (apart (((h.each j u e).reads p).0 ∙ sym f.0)) });
        },
        record {
          good = subst (λ (l : List ℕ). IsGood place number is_whole in_order (length l) x) (sym f.2) ran.0;
          follows = subst (λ (p : List ℕ × List T). Follows number (end_of number (base_of p.0 r) (of place r p.1)) x) (λ i. (sym f.2 i, sym f.1 i)) ran.1;
          ordered = subst (λ (p : List ℕ × List T). in_order p.0 (of place r (p.1 ++ x ∷ []))) (λ i. (sym f.2 i, sym f.1 i)) (subst (in_order h.lasts) (sym tail) (order_front h.lasts (of place r h.popped ++ x ∷ []) (of place r items) (subst (in_order h.lasts) (sym parted ∙ sym (append_assoc (of place r h.popped) (x ∷ []) (of place r items))) (h.ordered r))));
          oldest = (items, (views, pass, h, seen));
          now = refl;
        },
      )

  pub allows : (pass : ℕ) (v : V) → Learns K pass v (Possible place number is_whole in_order v)
  allows pass v items views h seen = (views, pass, h, seen)

  -- no region has a pass yet, so the bases may be anything
  pub bases : (pass : ℕ) (v : V) (ls : List ℕ) → v.pops ≡ true → v.made ≡ 0 → Forks K pass v (based v ls) nobody
  bases pass v ls may none items views h seen =
      let f = (h.each pass v seen).reads may in
      let none' : h.made ≡ 0 = sym f.3 ∙ none in
      let empty : (r : ℕ) → h.pushed r ≡ [] = elim [ zero ↦ h.zeroth | suc r ↦ h.unmade (suc r) (omega arith) ] in
      let F : ℕ → V → Type 0 = Fits place number is_whole in_order ls h.made h.reader h.seat h.pushed h.popped in
      let vs : List V = set views pass (based v ls) in
      let no_writer : (j : ℕ) (u : V) → get_elem? views j ≡ some u → u.region ≢ 0 → ⊥ = λ j u e no. let o = (h.each j u e).writes no in let a : u.region ≤ h.made = o.3 in no (omega arith) in
      let all : All F vs = all_set F views pass (based v ls) record { writes = λ no. absurd (no_writer pass v seen no); reads = λ _. (f.0, f.1, refl, f.3) }
      (λ j u apart e. record { writes = λ no. absurd (no_writer j u e no); reads = λ p. absurd (apart (((h.each j u e).reads p).0 ∙ sym f.0)) }) in
      record {
        lasts = ls;
        made = h.made;
        reader = h.reader;
        seat = h.seat;
        pushed = h.pushed;
        popped = h.popped;
        flows = h.flows;
        runs = λ r. subst (Runs place number is_whole in_order (length ls) (base_of ls r)) (sym (empty r)) tt;
        ordered = λ r. subst (in_order ls) (sym (empty r)) (order_empty ls);
        unmade = h.unmade;
        zeroth = h.zeroth;
        each = λ j u e. ⊎_elim (λ was. all j u was) (λ (t : (j ≡ length vs) × (nobody ≡ u)). subst (F j) t.1 record { writes = λ no. absurd (no refl); reads = λ p. absurd (off p) }) (at_snoc_end vs nobody u j e);
      }

  pub makes : (pass : ℕ) (v : V) → v.pops ≡ true → Forks K pass v (one_more v) (next_region v)
  makes pass v may items views h seen =
      let mine = h.each pass v seen in
      let f = mine.reads may in
      let r : ℕ = v.made + 1 in
      let r_is : r ≡ h.made + 1 = ap (λ (k : ℕ). k + 1) f.3 in
      let vs : List V = set views pass (one_more v) in
      let seat : ℕ → ℕ = put h.seat r (length vs) in
      let F : ℕ → V → Type 0 = Fits place number is_whole in_order h.lasts (h.made + 1) h.reader seat h.pushed h.popped in
      let write : (j : ℕ) (u : V) → get_elem? views j ≡ some u → u.region ≢ 0 → (j ≡ seat u.region) × (u.pushed ≡ h.pushed u.region) × (u.lasts ≡ h.lasts) × (u.region ≤ h.made + 1) =
      λ j u e no. let o = (h.each j u e).writes no in let a : u.region ≤ h.made = o.3 in (o.0 ∙ sym (put_other h.seat r (length vs) u.region (λ same. omega arith)), o.1, o.2, omega arith) in
      let all : All F vs = all_set F views pass (one_more v) record { writes = λ no. write pass v seen no; reads = λ _. (f.0, f.1, f.2, r_is) }
      (λ j u apart e. record { writes = write j u e; reads = λ p. absurd (apart (((h.each j u e).reads p).0 ∙ sym f.0)) }) in
      record {
        lasts = h.lasts;
        made = h.made + 1;
        reader = h.reader;
        seat = seat;
        pushed = h.pushed;
        popped = h.popped;
        flows = h.flows;
        runs = h.runs;
        ordered = h.ordered;
        unmade = λ k lt. h.unmade k (omega arith);
        zeroth = h.zeroth;
        each = λ j u e. ⊎_elim (λ was. all j u was)
            (λ (t : (j ≡ length vs) × (next_region v ≡ u)). subst (F j) t.1
            record { writes = λ _. (t.0 ∙ sym (put_same h.seat r (length vs)), sym (h.unmade r (omega arith)), f.2, omega arith); reads = λ p. absurd (off p) })
            (at_snoc_end vs (next_region v) u j e);
      }

  pub compares : (pass : ℕ) (v : V) (other : ℕ) (w : V) → v.pops ≡ true → w.region ≢ 0 → Merges K pass v other w (compared v w) nobody
  compares pass v other w may some_region items views h seen apart there =
      let both : V = compared v w in
      let mid : List V = set views pass both in
      let f = (h.each pass v seen).reads may in
      let was : get_elem? views other ≡ some w = ⊎_elim (λ (x : (other ≡ pass) × (both ≡ w)). absurd (apart x.0)) (λ (x : (other ≢ pass) × (get_elem? views other ≡ some w)). x.1) (at_set views pass other both w there) in
      let g = (h.each other w was).writes some_region in
      let seat : ℕ → ℕ = put h.seat w.region pass in
      let F : ℕ → V → Type 0 = Fits place number is_whole in_order h.lasts h.made h.reader seat h.pushed h.popped in
      let G : ℕ → V → Type 0 = λ j u. j ≢ other → F j u in
      let now : All G mid = all_set G views pass both (λ _. record { writes = λ _. (sym (put_same h.seat w.region pass), g.1, f.2, g.3); reads = λ _. f })
      (λ j u ne e not. record {
        writes = λ no. let o = (h.each j u e).writes no in (o.0 ∙ sym (put_other h.seat w.region pass u.region (λ same. not (o.0 ∙ (ap h.seat same ∙ sym g.0)))), o.1, o.2, o.3);
        reads = (h.each j u e).reads;
      }) in
      record {
        lasts = h.lasts;
        made = h.made;
        reader = h.reader;
        seat = seat;
        pushed = h.pushed;
        popped = h.popped;
        flows = h.flows;
        runs = h.runs;
        ordered = h.ordered;
        unmade = h.unmade;
        zeroth = h.zeroth;
        each = all_set F mid other nobody record { writes = λ no. absurd (no refl); reads = λ p. absurd (off p) } (λ j u ne e. now j u e ne);
      }

  pub adds_up : (pass : ℕ) (v : V) → v.pops ≡ true → v.region ≢ 0 → Learns K pass v (Totals place v)
  adds_up pass v may some_region items views h seen =
      let mine = h.each pass v seen in
      (mine.writes some_region).1 ∙ (sym (h.flows v.region) ∙ ap (λ l. of place v.region l ++ of place v.region items) (sym (mine.reads may).1))
