-- Regions that were taken apart, with the words of the log that was closed.
use Rattle.std.proofs.Common.{◌≡◌, inl, inr, ℕ, zero, suc, ◌+◌, ◌-◌, ◌<◌, ◌≤◌, Bool, true, List, [], ◌∷◌, ◌++◌, length, map, Option, Some, None, slice_get, slice_index, set, Contains, refl, sym, ap, ◌∙◌, subst, arith}
use Rattle.std.specs.List.{range_with_len}
use Rattle.std.proofs.lemmas.Bool.{cases_lt}
use Rattle.std.proofs.Math.Logic.{∥∥₁_map, ∥∥₁_map₂}
use Rattle.log_model.specs.Entry.{Entry}
use Rattle.atomic_table.specs.Seated.{TableId}
use Rattle.append_ring.specs.declared.pass.RingKey.{RingKey}
use Rattle.append_ring.specs.Parts.{AreOut, EachThere}
use Rattle.append_ring.specs.Rules.{base_of as last_before}
use Rattle.cell_model.specs.Order.{Content}
use Rattle.log_model.specs.Files.{Files}
use Rattle.log_model.specs.Recovered.{IsRecovered, IsContent, RecoversAlike}
use Rattle.disk_images.specs.Crash.{DiskView}
use Rattle.region_model.specs.Journal.{Base}
use Rattle.region_model.specs.Lines.{Line, edit_in, edits_in}
use Rattle.std.proofs.lemmas.List.{length-map}
use Rattle.pass_calls.specs.log_service.log_halves.declared.item.Item.{Item}
use Rattle.pass_calls.specs.log_service.Closed.{Pushed, CommitsRegion, CommitsSince, synced_in, stored_in, closed_in}
use Rattle.server_model.specs.Pass.{Pass, Naming}
use Rattle.server_model.specs.Closing.{Region, IsClosedRegion, Survives, Leaves}
use Rattle.pass_calls.specs.region_lock.Parts.{entries_in}
use Rattle.region_calls.specs.Bases.{IsBaseOf}
use Rattle.region_calls.specs.Backs.{AreAll}
use Rattle.region_calls.specs.Closes.{HasMet, IsTaken, worded, HasSurvived}
use Rattle.region_calls.specs.Wordings.{region_of, IsWorded}
use Rattle.region_calls.specs.declared.closed.ClosedRegion.{ClosedRegion}
use Rattle.region_calls.specs.declared.apart.Taken.{Taken}
use Rattle.region_calls.proofs.BackLaws.{contains_get, get_low}
use Rattle.region_calls.proofs.Seated.{get_push}
use Rattle.region_calls.proofs.ClosedLaws.{closed_region, survives_of, survived_of}

-- ---- places

pub out_get : {A : Type 0} → (n : ℕ) (places : List (Option A)) (j : ℕ) → AreOut n places → j < n → slice_get places j ≡ Some None
out_get zero places j a low = absurd (omega (arith, low))
out_get (suc n) [] j a low = absurd a
out_get (suc n) (None ∷ places) zero a low = refl
out_get (suc n) (None ∷ places) (suc j) a low = out_get n places j a (omega (arith, low))
out_get (suc n) (Some x ∷ places) j a low = absurd a

some_same : {A : Type 0} → (x y : A) → Some x ≡ Some y → x ≡ y
some_same x y e = cc e

none_some : {A : Type 0} → (x : A) → None ≡ Some x → ⊥
none_some x e = cc e

first_is : {A : Type 0} → (o : Option A) (x : Option A) → Some o ≡ Some x → o ≡ x
first_is o x e = some_same o x e

module _ {A : Type 0} (is_so : A → Type 0) where
  -- all places are there, where each place is
  pub all_there : (places : List (Option A)) → ((j : ℕ) → j < length places → (p : A) × (slice_get places j ≡ Some (Some p)) × is_so p) → EachThere is_so places
  all_there [] f = tt
  all_there (None ∷ places) f = let x = f 0 (omega arith) in absurd (none_some x.0 (first_is None (Some x.0) x.1))
  all_there (Some p ∷ places) f =
      let x = f 0 (omega arith) in
      (subst is_so (some_same x.0 p (sym (first_is (Some p) (Some x.0) x.1))) x.2, all_there places (λ j low. f (suc j) (omega (arith, low))))

pub index_set_same : (xs : List ℕ) (i x : ℕ) → i < length xs → slice_index (set xs i x) i ≡ x
index_set_same [] i x low = absurd (omega (arith, low))
index_set_same (y ∷ xs) zero x low = refl
index_set_same (y ∷ xs) (suc i) x low = index_set_same xs i x (omega (arith, low))

pub index_set_other : (xs : List ℕ) (i j x : ℕ) → (j ≡ i → ⊥) → slice_index (set xs i x) j ≡ slice_index xs j
index_set_other [] i j x other = refl
index_set_other (y ∷ xs) zero zero x other = absurd (other refl)
index_set_other (y ∷ xs) zero (suc j) x other = refl
index_set_other (y ∷ xs) (suc i) zero x other = refl
index_set_other (y ∷ xs) (suc i) (suc j) x other = index_set_other xs i j x (λ e. other (ap suc e))

module _ (bases : ℕ → Base) (handlers : ℕ) (ring : TableId) (passes : List Pass) where
  -- another place does not matter
  pub taken_kept : (old new : List (Option (RingKey Item))) (k : ℕ) (base : Base) (xs : List Line) → slice_get new k ≡ slice_get old k → IsTaken bases handlers ring passes old k base xs → IsTaken bases handlers ring passes new k base xs
  taken_kept old new k base xs same t = record { met = t.met; pass = t.pass; there = same ∙ t.there; of_ring = t.of_ring; of_region = t.of_region; pushed = t.pushed }

  -- one more was taken apart
  pub taken_more : (was : List Pass) (old new : List (Option (RingKey Item))) (ts after : List Taken) (one : Taken) (place n : ℕ) → after ≡ ts ++ one ∷ [] → was ≡ passes → length ts ≡ n → place ≡ n → ((j : ℕ) → (j ≡ place → ⊥) → slice_get new j ≡ slice_get old j)
      → ((k : ℕ) (t : Taken) → slice_get ts k ≡ Some t → IsTaken bases handlers ring passes old k t.base t.lines.items) → IsTaken bases handlers ring was new place one.base one.lines.items
      → (k : ℕ) (t : Taken) → slice_get after k ≡ Some t → IsTaken bases handlers ring passes new k t.base t.lines.items
  taken_more was old new ts after one place n pushed known count at_place others before now k t at = elim (get_push ts one k t (subst (λ (l : List Taken). slice_get l k ≡ Some t) pushed at)) as (λ _. IsTaken bases handlers ring passes new k t.base t.lines.items) [
    | inl old_one ↦
        let low = get_low ts k t old_one in
        taken_kept old new k t.base t.lines.items (others k (λ e. omega (arith, e, low, count, at_place))) (before k t old_one)
    | inr (here, same) ↦
        let place_is : place ≡ k = omega (arith, here, count, at_place) in
        let mine = subst (λ (l : List Pass). IsTaken bases handlers ring l new place one.base one.lines.items) known now in
        subst (λ (x : Taken). IsTaken bases handlers ring passes new k x.base x.lines.items) same (subst (λ (i : ℕ). IsTaken bases handlers ring passes new i one.base one.lines.items) place_is mine)
  ]

  -- one more was taken apart, and its base's last number noted
  pub taken_noted : (was : List Pass) (old new : List (Option (RingKey Item))) (one : Taken) (lasts noted : List ℕ) (place n m : ℕ) → noted ≡ set lasts place one.base.last → was ≡ passes → place ≡ n → m ≡ n + 1 → n < length lasts → ((j : ℕ) → (j ≡ place → ⊥) → slice_get new j ≡ slice_get old j)
      → ((k : ℕ) → k < n → (base : Base) × (xs : List Line) × IsTaken bases handlers ring passes old k base xs × (slice_index lasts k ≡ base.last)) → IsTaken bases handlers ring was new place one.base one.lines.items
      → (k : ℕ) → k < m → (base : Base) × (xs : List Line) × IsTaken bases handlers ring passes new k base xs × (slice_index noted k ≡ base.last)
  taken_noted was old new one lasts noted place n m write known at_place more room others before now k low = elim (cases_lt k n) as (λ _. (base : Base) × (xs : List Line) × IsTaken bases handlers ring passes new k base xs × (slice_index noted k ≡ base.last)) [
    | inl first ↦
        let t = before k first in
        let other : k ≡ place → ⊥ = (λ e. omega (arith, e, first, at_place)) in
        (t.0, t.1, taken_kept old new k t.0 t.1 (others k other) t.2, ap (λ (l : List ℕ). slice_index l k) write ∙ index_set_other lasts place k one.base.last other ∙ t.3)
    | inr behind ↦
        let place_is : place ≡ k = omega (arith, behind, low, more, at_place) in
        let mine = subst (λ (l : List Pass). IsTaken bases handlers ring l new place one.base one.lines.items) known now in
        let set_is = index_set_same lasts place one.base.last (omega (arith, at_place, room)) in
        (one.base, one.lines.items, subst (λ (i : ℕ). IsTaken bases handlers ring passes new i one.base one.lines.items) place_is mine, ap (λ (i : ℕ). slice_index noted i) (sym place_is) ∙ ap (λ (l : List ℕ). slice_index l place) write ∙ set_is)
  ]

  -- what was pushed of a region that was taken apart
  pub pushed_at : (found begun : Files) (places : List (Option (RingKey Item))) (k : ℕ) (base : Base) (xs : List Line) → IsTaken bases handlers ring passes places k base xs → RecoversAlike found begun (k + 1) → IsBaseOf found (k + 1) (bases (k + 1))
      → Pushed begun places (k + 1) base.content (entries_in (k + 1) xs)
  pushed_at found begun places k base xs t alike of =
      let content = subst (λ (b : Base). IsContent (IsRecovered found (k + 1)) b.content) (sym t.met.base_is) of.content in
      let back : k + 1 - 1 ≡ k = omega arith in
      record {
        above = omega arith;
        pass = t.pass;
        is = ap (λ i. slice_get places i) back ∙ t.there;
        region = t.of_region;
        content = λ v p. (λ e. (alike.content v p).0 ((content v p).0 e), λ q. (content v p).1 ((alike.content v p).1 q));
        entries = t.pushed;
      }

-- ---- words

pub worded_is : (n : ℕ) (words : List ℕ) (k : ℕ) (base : Base) (xs : List Line) (c : ClosedRegion) → IsWorded n words k base xs c → region_of c ≡ worded n words (k + 1) base xs
worded_is n words k base xs c w j = record { base = w.base_is j; edits = edits_in (w.region j) (w.lines j); synced = w.synced j; stored = w.stored j; closed = w.closed j }

-- what holds of the region as it was made holds of it as it is handed on
pub as_closed : (P : ℕ → Region → Type 0) (n : ℕ) (words : List ℕ) (k : ℕ) (base : Base) (xs : List Line) (c : ClosedRegion) → IsWorded n words k base xs c → P (k + 1) (worded n words (k + 1) base xs) → P c.region (region_of c)
as_closed P n words k base xs c w h = subst (λ (x : Region). P c.region x) (sym (worded_is n words k base xs c w)) (subst (λ r. P r (worded n words (k + 1) base xs)) (sym w.region) h)

pub closed_at : (name : Naming) (bases : ℕ → Base) (handlers n : ℕ) (passes : List Pass) (words : List ℕ) (k : ℕ) (base : Base) (xs : List Line) (c : ClosedRegion) → name.bases ≡ bases → HasMet bases handlers passes (k + 1) base xs → IsWorded n words k base xs c → AreAll handlers passes
    → ((p : Pass) → Contains passes p → ((p.known (k + 1)).synced ≤ synced_in words (k + 1)) × ((p.known (k + 1)).stored ≤ stored_in n words (k + 1)) × ((p.known (k + 1)).closed ≤ closed_in n words (k + 1))) → IsClosedRegion name c.region passes (region_of c)
closed_at name bases handlers n passes words k base xs c named met w all seen =
    as_closed (λ r x. IsClosedRegion name r passes x) n words k base xs c w
    (closed_region name handlers n (k + 1) passes words base xs (subst (λ (b : ℕ → Base). HasMet b handlers passes (k + 1) base xs) (sym named) met) w.within all seen)

pub numbers_are : (cs : List ClosedRegion) (s : ℕ) → ((k : ℕ) (c : ClosedRegion) → slice_get cs k ≡ Some c → c.region ≡ s + k) → map (λ (x : ClosedRegion). x.region) cs ≡ range_with_len s (length cs)
numbers_are [] s f = refl
numbers_are (c ∷ cs) s f =
    let here : c.region ≡ s = (let e = f 0 c refl in omega (arith, e)) in
    (λ j. here j ∷ numbers_are cs (s + 1) (λ k d at. let e = f (suc k) d at in omega (arith, e)) j)

-- ---- where a fault ended the log

pub survives_broken : (disk : DiskView) (broken : Bool) (r : ℕ) (x : Region) → Survives disk broken r x → Survives disk true r x
survives_broken disk broken r x s = record { images = λ J image. let m = s.images J image in (m.0, m.1, m.2, m.3, λ e. absurd (cc e)); stored = s.stored; closed = s.closed }

pub leaves_broken : (found : Files) (disk : DiskView) (broken : Bool) (regions : ℕ) → Leaves found disk broken regions → Leaves found disk true regions
leaves_broken found disk broken regions l = record { sound = l.sound; others = l.others; archived = λ e. absurd (cc e) }

-- ---- the regions as they are handed on

-- of which taken region it was made
pub record Made (bases : ℕ → Base) (handlers : ℕ) (ring : TableId) (passes : List Pass) (places : List (Option (RingKey Item))) (n : ℕ) (words : List ℕ) (x : ClosedRegion) : Type 0 where
  pub k : ℕ
  pub base : Base
  pub xs : List Line
  pub low : k < n
  pub worded : IsWorded n words k base xs x
  pub taken : IsTaken bases handlers ring passes places k base xs

module _ (bases : ℕ → Base) (handlers : ℕ) (ring : TableId) (passes : List Pass) (places : List (Option (RingKey Item))) (n : ℕ) (words : List ℕ) where
  pub made_at : (ts : List Taken) (cs : List ClosedRegion) (given : List ℕ) → length ts ≡ n → given ≡ words
      → ((k : ℕ) (t : Taken) → slice_get ts k ≡ Some t → IsTaken bases handlers ring passes places k t.base t.lines.items)
      → ((k : ℕ) (c : ClosedRegion) → slice_get cs k ≡ Some c → (t : Taken) × (slice_get ts k ≡ Some t) × IsWorded (length ts) given k t.base t.lines.items c)
      → (x : ClosedRegion) → Contains cs x → Made bases handlers ring passes places n words x
  made_at ts cs given count same taken each x has =
      let i = contains_get cs x has in
      let t = each i.0 x i.2 in
      record {
        k = i.0;
        base = t.0.base;
        xs = t.0.lines.items;
        low = (let low = get_low ts i.0 t.0 t.1 in omega (arith, low, count));
        worded = subst (λ (m : ℕ). IsWorded m words i.0 t.0.base t.0.lines.items x) count (subst (λ (l : List ℕ). IsWorded (length ts) l i.0 t.0.base t.0.lines.items x) same t.2);
        taken = taken i.0 t.0 t.1;
      }

  pub closed_made : (name : Naming) (x : ClosedRegion) → name.bases ≡ bases → Made bases handlers ring passes places n words x → AreAll handlers passes
      → ((r : ℕ) → 1 ≤ r → r ≤ n → (p : Pass) → Contains passes p → ((p.known r).synced ≤ synced_in words r) × ((p.known r).stored ≤ stored_in n words r) × ((p.known r).closed ≤ closed_in n words r))
      → IsClosedRegion name x.region passes (region_of x)
  closed_made name x named m all seen = closed_at name bases handlers n passes words m.k m.base m.xs x named m.taken.met m.worded all (seen (m.k + 1) (omega arith) (omega (arith, m.low)))

  module _ (found begun : Files) (lasts : List ℕ) (first : (r : ℕ) → 1 ≤ r → r ≤ n → last_before lasts r ≡ (bases r).last) (alike : (r : ℕ) → RecoversAlike found begun r) (of : (r : ℕ) → 1 ≤ r → r ≤ n → IsBaseOf found r (bases r)) where
    pub survives_made : (disk : DiskView) (broken : Bool) (x : ClosedRegion) → Made bases handlers ring passes places n words x
        → ((r : ℕ) (content : Content) (pushed : List Entry) → Pushed begun places r content pushed → ∥ CommitsRegion disk broken n words lasts r content pushed ∥₁) → ∥ Survives disk broken x.region (region_of x) ∥₁
    survives_made disk broken x m commits =
        let r = m.k + 1 in
        let pushed = pushed_at bases handlers ring passes found begun places m.k m.base m.xs m.taken (alike r) (of r (omega arith) (omega (arith, m.low))) in
        let same = first r (omega arith) (omega (arith, m.low)) ∙ ap (λ (b : Base). b.last) (sym m.taken.met.base_is) in
        ∥∥₁_map (commits r m.base.content (entries_in r m.xs) pushed) (λ c. as_closed (λ q y. Survives disk broken q y) n words m.k m.base m.xs x m.worded (survives_of disk broken n r (last_before lasts r) words m.base m.xs m.taken.met.journal same c))

    pub survived_made : (start : ℕ) (disk : DiskView) (x : ClosedRegion) → Made bases handlers ring passes places n words x
        → ((r : ℕ) (content : Content) (pushed : List Entry) → Pushed begun places r content pushed → ∥ CommitsSince start disk r (last_before lasts r) content pushed ∥₁) → ∥ HasSurvived start disk x.region (region_of x) ∥₁
    survived_made start disk x m since =
        let r = m.k + 1 in
        let pushed = pushed_at bases handlers ring passes found begun places m.k m.base m.xs m.taken (alike r) (of r (omega arith) (omega (arith, m.low))) in
        let same = first r (omega arith) (omega (arith, m.low)) ∙ ap (λ (b : Base). b.last) (sym m.taken.met.base_is) in
        ∥∥₁_map (since r m.base.content (entries_in r m.xs) pushed) (λ c. as_closed (λ q y. HasSurvived start disk q y) n words m.k m.base m.xs x m.worded (survived_of start disk n r (last_before lasts r) words m.base m.xs m.taken.met.journal same c))

    -- what is left of a region whose stored word is at or above its base's last number, once the log was closed as a broken one is, and what was at each moment
    pub left_made : (name : Naming) (disk : DiskView) (broken : Bool) (start k : ℕ) (base : Base) (xs : List Line) → name.bases ≡ bases → k < n → IsTaken bases handlers ring passes places k base xs → base.last ≤ stored_in n words (k + 1) → AreAll handlers passes
        → ((r : ℕ) → 1 ≤ r → r ≤ n → (p : Pass) → Contains passes p → ((p.known r).synced ≤ synced_in words r) × ((p.known r).stored ≤ stored_in n words r) × ((p.known r).closed ≤ closed_in n words r))
        → ((r : ℕ) (content : Content) (pushed : List Entry) → Pushed begun places r content pushed → ∥ CommitsRegion disk broken n words lasts r content pushed ∥₁)
        → ((r : ℕ) (content : Content) (pushed : List Entry) → Pushed begun places r content pushed → ∥ CommitsSince start disk r (last_before lasts r) content pushed ∥₁)
        → ∥ ((x : Region) × IsClosedRegion name (k + 1) passes x × Survives disk true (k + 1) x × HasSurvived start disk (k + 1) x) ∥₁
    left_made name disk broken start k base xs named low t least all seen commits since =
        let r = k + 1 in
        let pushed = pushed_at bases handlers ring passes found begun places k base xs t (alike r) (of r (omega arith) (omega (arith, low))) in
        let same = first r (omega arith) (omega (arith, low)) ∙ ap (λ (b : Base). b.last) (sym t.met.base_is) in
        let many : length (entries_in r xs) ≡ length xs = length-map xs (λ (x : Line). (edit_in r x).entry) in
        ∥∥₁_map₂ (commits r base.content (entries_in r xs) pushed) (since r base.content (entries_in r xs) pushed) (λ c past. (
          worded n words r base xs,
          closed_region name handlers n r passes words base xs (subst (λ (b : ℕ → Base). HasMet b handlers passes r base xs) (sym named) t.met) (record { synced_most = omega (arith, c.bound_synced, same, many); least = least; most = omega (arith, c.bound, same, many) }) all (seen r (omega arith) (omega (arith, low))),
          survives_broken disk broken r (worded n words r base xs) (survives_of disk broken n r (last_before lasts r) words base xs t.met.journal same c),
          survived_of start disk n r (last_before lasts r) words base xs t.met.journal same past,
        ))
