-- The number of store files that came off.
use Rattle.std.proofs.Common.{◌≡◌, inl, inr, ℕ, ◌+◌, ◌<◌, ◌≤◌, ◌^◌, Bool, cond, ◌==◌, List, [], ◌∷◌, ◌++◌, length, get_or, refl, sym, ap, ◌∙◌, subst, arith, append-nil}
use Rattle.std.specs.Coded.{le_prop}
use Rattle.std.specs.List.{AllByRecursion}
use Rattle.std.proofs.Math.Logic.{∥∥₁_elim, ∥∥₁_map, ∥∥₁_map₂}
use Rattle.std.proofs.lemmas.Bool.{cases_eq, eq-eqb, ne_eqb}
use Rattle.std.proofs.lemmas.List.{length-map}
use Rattle.std.proofs.lemmas.List.Elements.{filter-append}
use Rattle.cell_model.specs.Cell.{Cell}
use Rattle.log_model.specs.Entry.{Entry}
use Rattle.log_model.specs.Recovered.{IsFor}
use Rattle.seq_accounting.specs.Accounts.{flushed_at, oldest_at}
use Rattle.seq_accounting.specs.Noted.{Note, HasNoted}
use Rattle.seq_accounting.specs.Live.{AreCounted, AreRisingTo, Takes}
use Rattle.seq_accounting.proofs.LiveLaws.{note_is_counted, flush_is_counted, flushes_are_few}
use Rattle.recovery_laws.proofs.Lists.{flush_cases}
use Rattle.log_trucks.specs.Held.{Haul, Carries}
use Rattle.log_ledger.specs.Numbers.{Numbers, IsServed, AreInOrder, IsLeft, notes_of, IsStoreFew, AreStoresFew, FewStoresAreFew}
use Rattle.log_ledger.specs.Counted.{note_of}
use Rattle.log_ledger.proofs.Sets.{same_at, set_here, set_there, within}
use Rattle.log_ledger.proofs.Filters.{to_filter}
use Rattle.log_ledger.proofs.Families.{noted_as, noted_there}
use Rattle.log_ledger.proofs.Steps.{StagedBy, FlushedBy, flushed_same, flushed_here, flushed_there}

-- the same numbers have the same count
one_same : (limit : ℕ) (a b : Numbers) (notes : List Note) (r : ℕ) → ((f : List ℕ) → flushed_at b.accounts r f ≡ flushed_at a.accounts r f) → get_or b.drawn r 0 ≡ get_or a.drawn r 0
    → get_or b.next_store r 0 ≡ get_or a.next_store r 0 → IsStoreFew limit a notes r → IsStoreFew limit b notes r
one_same limit a b notes r flushed drawn next is = record {
  flushes = is.flushes;
  counted = subst (λ (g : List ℕ → ℕ). AreCounted is.flushes g (notes_of r notes)) (λ i f. sym (flushed f) i) is.counted;
  small = is.small;
  rising = subst (AreRisingTo 0 (notes_of r notes)) (sym drawn) is.rising;
  next_store = omega (arith, is.next_store, next);
}

pub few_same : (limit : ℕ) (a b : Numbers) → ((notes : List Note) → HasNoted a.accounts notes → HasNoted b.accounts notes) → ((r : ℕ) (f : List ℕ) → flushed_at b.accounts r f ≡ flushed_at a.accounts r f) → b.drawn ≡ a.drawn
    → b.next_store ≡ a.next_store → AreStoresFew limit a → AreStoresFew limit b
few_same limit a b history flushed drawn next few = ∥∥₁_map few (λ h. record {
  notes = h.notes;
  noted = history h.notes h.noted;
  each = λ r. one_same limit a b h.notes r (flushed r) (same_at a.drawn b.drawn r 0 drawn) (same_at a.next_store b.next_store r 0 next) (h.each r);
})

notes_hit : (r : ℕ) (notes : List Note) (x : Note) → x.region ≡ r → notes_of r (notes ++ x ∷ []) ≡ notes_of r notes ++ x ∷ []
notes_hit r notes x here = filter-append (λ (y : Note). y.region == r) notes (x ∷ []) ∙ ap (λ (b : Bool). notes_of r notes ++ cond b (x ∷ []) []) (eq-eqb x.region r here)

notes_miss : (r : ℕ) (notes : List Note) (x : Note) → (x.region ≡ r → ⊥) → notes_of r (notes ++ x ∷ []) ≡ notes_of r notes
notes_miss r notes x other = filter-append (λ (y : Note). y.region == r) notes (x ∷ []) ∙ ap (λ (b : Bool). notes_of r notes ++ cond b (x ∷ []) []) (ne_eqb x.region r other) ∙ append-nil (notes_of r notes)

rising_more : (first : ℕ) (xs : List Note) (last : ℕ) (x : Note) → AreRisingTo first xs last → last < x.number → AreRisingTo first (xs ++ x ∷ []) x.number
rising_more first [] last x is above = (omega (arith, is, above), omega arith)
rising_more first (y ∷ ys) last x is above = (is.0, rising_more y.number ys last x is.1 above)

small_more : (P : Note → Type 0) (xs : List Note) (x : Note) → AllByRecursion P xs → P x → AllByRecursion P (xs ++ x ∷ [])
small_more P [] x all one = (one, tt)
small_more P (y ∷ ys) x all one = (all.0, small_more P ys x all.1 one)

pub few_staged : (limit : ℕ) (old new : Numbers) (t : Haul) → AreInOrder old → StagedBy old new t → IsServed old t.region → get_or old.drawn t.region 0 < t.number
    → ∥ ((e : Entry) × Carries t e) ∥₁ → AreStoresFew limit old → AreStoresFew limit new
few_staged limit old new t order s ours above entry few = ∥∥₁_map₂ entry few (λ c h. record {
  notes = h.notes ++ note_of c.0 ∷ [];
  noted = s.history h.notes (note_of c.0) (noted_as t c.0 c.1) h.noted;
  each = λ r. elim (cases_eq t.region r) as (λ _. IsStoreFew limit new (h.notes ++ note_of c.0 ∷ []) r) [ inl here ↦ hit r here c.0 c.1 h.notes (h.each r) | inr other ↦ miss r other c.0 c.1 h.notes (h.each r) ];
})
  where
    place : t.region < length old.drawn
    place = omega (arith, within old.next_store t.region ours, order.wide.next_store, order.wide.drawn)

    hit : (r : ℕ) → t.region ≡ r → (e : Entry) → Carries t e → (notes : List Note) → IsStoreFew limit old notes r → IsStoreFew limit new (notes ++ note_of e ∷ []) r
    hit r here e c notes is =
        let list = notes_hit r notes (note_of e) (c.region ∙ here) in
        let drawn : get_or new.drawn r 0 ≡ e.number = set_here old.drawn new.drawn t.region t.number r 0 s.drawn place (sym here) ∙ sym c.number in
        let higher : get_or old.drawn r 0 < e.number = omega (arith, above, c.number, ap (λ (q : ℕ). get_or old.drawn q 0) here) in
        record {
          flushes = is.flushes;
          counted = subst (AreCounted is.flushes (flushed_at new.accounts r)) (sym list)
              (subst (λ (g : List ℕ → ℕ). AreCounted is.flushes g (notes_of r notes ++ note_of e ∷ [])) (λ i f. sym (flushed_same old.accounts new.accounts s.noted.flushed r f) i)
              (note_is_counted is.flushes (flushed_at old.accounts r) (notes_of r notes) (note_of e) is.counted));
          small = subst (AllByRecursion (λ (x : Note). length x.families ≤ 1024)) (sym list)
              (small_more (λ (x : Note). length x.families ≤ 1024) (notes_of r notes) (note_of e) is.small (omega (arith, c.entry.batch.count, length-map e.batch.cells (λ (d : Cell). d.family))));
          rising = subst (AreRisingTo 0 (notes_of r (notes ++ note_of e ∷ []))) (sym drawn)
              (subst (λ (l : List Note). AreRisingTo 0 l e.number) (sym list) (rising_more 0 (notes_of r notes) (get_or old.drawn r 0) (note_of e) is.rising higher));
          next_store = omega (arith, is.next_store, same_at old.next_store new.next_store r 0 s.next_store);
        }

    miss : (r : ℕ) → (t.region ≡ r → ⊥) → (e : Entry) → Carries t e → (notes : List Note) → IsStoreFew limit old notes r → IsStoreFew limit new (notes ++ note_of e ∷ []) r
    miss r other e c notes is =
        let list = notes_miss r notes (note_of e) (λ same. other (sym c.region ∙ same)) in
        let now = one_same limit old new notes r (flushed_same old.accounts new.accounts s.noted.flushed r) (set_there old.drawn new.drawn t.region t.number r 0 s.drawn (λ same. other (sym same)))
        (same_at old.next_store new.next_store r 0 s.next_store) is in
        record {
          flushes = now.flushes;
          counted = subst (AreCounted now.flushes (flushed_at new.accounts r)) (sym list) now.counted;
          small = subst (AllByRecursion (λ (x : Note). length x.families ≤ 1024)) (sym list) now.small;
          rising = subst (λ (l : List Note). AreRisingTo 0 l (get_or new.drawn r 0)) (sym list) now.rising;
          next_store = now.next_store;
        }

pub few_flushed : (limit : ℕ) (old new : Numbers) (r : ℕ) (family : List ℕ) → AreInOrder old → FlushedBy old new r family → IsServed old r → IsLeft old r family
    → get_or old.drawn r 0 ≤ get_or old.synced r 0 → AreStoresFew limit old → AreStoresFew limit new
few_flushed limit old new r family order s ours left committed few = ∥∥₁_map₂ left few (λ l h. record {
  notes = h.notes;
  noted = s.history h.notes h.noted;
  each = λ q. elim (cases_eq r q) as (λ _. IsStoreFew limit new h.notes q) [
    | inl here ↦ subst (IsStoreFew limit new h.notes) here (hit l.0 l.1 l.2 h.notes h.noted (h.each r))
    | inr other ↦ one_same limit old new h.notes q (λ f. flushed_there old.accounts new.accounts r family (get_or old.drawn r 0) s.flushed q f (λ same for. other same)) (same_at old.drawn new.drawn q 0 s.drawn)
        (set_there old.next_store new.next_store r (get_or old.next_store r 0 + 1) q 0 s.next_store (λ same. other (sym same))) (h.each q)
  ];
})
  where
    n : ℕ
    n = get_or old.drawn r 0

    raised : (f : List ℕ) → flushed_at old.accounts r f ≤ flushed_at new.accounts r f
    raised f = elim (flush_cases r family r f) as (λ _. flushed_at old.accounts r f ≤ flushed_at new.accounts r f) [
      | inl is ↦ omega (arith, flushed_here old.accounts new.accounts r family (get_or old.drawn r 0) s.flushed r f refl is.1, (order.regions r).durable f, (order.regions r).synced)
      | inr other ↦ omega (arith, flushed_there old.accounts new.accounts r family (get_or old.drawn r 0) s.flushed r f other)
    ]

    hit : (f : List ℕ) → IsFor family f → 0 < oldest_at old.accounts r f → (notes : List Note) → HasNoted old.accounts notes → IsStoreFew limit old notes r → IsStoreFew limit new notes r
    hit f for some notes noted is =
        let least = (noted.oldest r f).some some in
        let there = noted_there least.note r f least.of in
        let took : Takes (flushed_at old.accounts r) (flushed_at new.accounts r) (notes_of r notes) = record {
          raises = raised;
          note = least.note;
          family = f;
          there = to_filter (λ (x : Note). x.region == r) notes least.note least.member (eq-eqb least.note.region r there.0);
          has = there.1;
          before = omega (arith, least.above, least.number);
          after = omega (arith, flushed_here old.accounts new.accounts r family (get_or old.drawn r 0) s.flushed r f refl for, noted.highest least.note least.member, (order.regions r).noted, ap (λ (q : ℕ). get_or old.accounts.noted q 0) there.0);
        } in
        record {
          flushes = is.flushes + 1;
          counted = flush_is_counted is.flushes (flushed_at old.accounts r) (flushed_at new.accounts r) (notes_of r notes) took is.counted;
          small = is.small;
          rising = subst (AreRisingTo 0 (notes_of r notes)) (sym (same_at old.drawn new.drawn r 0 s.drawn)) is.rising;
          next_store = omega (arith, is.next_store, set_here old.next_store new.next_store r (get_or old.next_store r 0 + 1) r 0 s.next_store (within old.next_store r ours) refl);
        }

pub few_are_few : FewStoresAreFew
few_are_few limit b r few low = ∥∥₁_elim few le_prop (λ h.
    let is = h.each r in
    let bound : is.flushes < 2 ^ 58 = flushes_are_few is.flushes (flushed_at b.accounts r) (notes_of r h.notes) 0 (get_or b.drawn r 0) is.counted is.small is.rising low in
    omega (arith, is.next_store, bound))

-- what is left to flush has a sequence id
pub some_drawn : (b : Numbers) (r : ℕ) (family : List ℕ) → AreInOrder b → IsLeft b r family → 1 ≤ get_or b.drawn r 0
some_drawn b r family order left = ∥∥₁_elim left le_prop (λ l. ∥∥₁_elim order.few le_prop (λ h.
    let least = (h.noted.oldest r l.0).some l.2 in
    let there = noted_there least.note r l.0 least.of in
    omega (arith, least.above, least.number, h.noted.highest least.note least.member, (order.regions r).noted, ap (λ (q : ℕ). get_or b.accounts.noted q 0) there.0)))
