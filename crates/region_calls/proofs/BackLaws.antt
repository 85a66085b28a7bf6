-- Passes that are back, what they know, and their seats.
use Rattle.std.proofs.Common.{◌≡◌, inl, inr, ℕ, zero, suc, ◌+◌, ◌<◌, ◌≤◌, Bool, true, false, List, [], ◌∷◌, ◌++◌, length, map, set, Option, Some, slice_get, Contains, refl, sym, ap, ◌∙◌, subst, arith, length-append}
use Rattle.std.proofs.lemmas.List.{length-map}
use Rattle.log_berth.specs.Standing.{Standing, AreBack, Saw, AllSaw}
use Rattle.pass_calls.specs.log_service.declared.seats.LogSeat.{LogSeat}
use Rattle.pass_calls.specs.log_service.Numbers.{seen_synced, seen_stored, seen_closed}
use Rattle.pass_calls.specs.log_service.Closed.{synced_in, stored_in, closed_in}
use Rattle.pass_calls.specs.log_service.Places.{ServiceId}
use Rattle.region_model.specs.Lines.{Line, edits_in}
use Rattle.pass_calls.specs.region_lock.declared.pass.RegionPass.{RegionPass}
use Rattle.pass_calls.specs.region_lock.declared.naming.LockNaming.{Ghosts}
use Rattle.pass_calls.specs.region_lock.Parts.{AreCalledBelow}
use Rattle.pass_calls.specs.region_lock.Passes.{known_of}
use Rattle.pass_calls.proofs.region_lock_laws.Lists.{get_set, length_set}
use Rattle.region_versions.specs.Histories.{Beginning}
use Rattle.hand_register.specs.declared.known.Record.{Record}
use Rattle.server_model.specs.Pass.{Pass as ThePass}
use Rattle.region_calls.specs.declared.pass.Pass.{Pass}
use Rattle.region_calls.specs.declared.passes.Passes.{Passes}
use Rattle.region_calls.specs.Passes.{knows, known_at, known_in, pass_of, IsHandOf, AreHandsOf, IsPassOf}
use Rattle.region_calls.specs.Deals.{AllOf, passes_back}
use Rattle.region_calls.specs.Backs.{AreSeats, AllBack, device_seats, seats_of}
use Rattle.region_calls.proofs.ClosedLaws.{seen_in_words}

-- ---- lists

module _ {A : Type 0} where
  pub contains_get : (xs : List A) (x : A) → Contains xs x → (k : ℕ) × (k < length xs) × (slice_get xs k ≡ Some x)
  contains_get [] x (k, lt, is) = absurd (omega (arith, lt))
  contains_get (y ∷ xs) x (zero, lt, is) = (0, omega arith, ap Some is)
  contains_get (y ∷ xs) x (suc k, lt, is) = let r = contains_get xs x (k, omega (arith, lt), is) in (suc r.0, omega (arith, r.1), r.2)

  pub get_contains : (xs : List A) (k : ℕ) (x : A) → slice_get xs k ≡ Some x → Contains xs x
  get_contains [] k x e = absurd (cc e)
  get_contains (y ∷ xs) zero x e = (0, omega arith, cc e)
  get_contains (y ∷ xs) (suc k) x e = let r = get_contains xs k x e in (suc r.0, omega (arith, r.1), r.2)

  pub get_some : (xs : List A) (k : ℕ) → k < length xs → (x : A) × (slice_get xs k ≡ Some x)
  get_some [] k low = absurd (omega (arith, low))
  get_some (x ∷ xs) zero low = (x, refl)
  get_some (x ∷ xs) (suc k) low = get_some xs k (omega (arith, low))

  pub get_low : (xs : List A) (k : ℕ) (x : A) → slice_get xs k ≡ Some x → k < length xs
  get_low [] k x e = absurd (cc e)
  get_low (y ∷ xs) zero x e = omega arith
  get_low (y ∷ xs) (suc k) x e = let r = get_low xs k x e in omega (arith, r)

  pub same_at : {B : Type 0} → (g : Option A → B) (xs : List A) (i k : ℕ) (q p : A) → slice_get xs i ≡ Some p → g (Some q) ≡ g (Some p) → g (slice_get (set xs i q) k) ≡ g (slice_get xs k)
  same_at g [] i k q p e s = absurd (cc e)
  same_at g (x ∷ xs) zero zero q p e s = s ∙ ap g (sym e)
  same_at g (x ∷ xs) zero (suc k) q p e s = refl
  same_at g (x ∷ xs) (suc i) zero q p e s = refl
  same_at g (x ∷ xs) (suc i) (suc k) q p e s = same_at g xs i k q p e s

  pub get_set_same : (xs : List A) (i k : ℕ) (was x : A) → i ≡ k → slice_get xs k ≡ Some was → slice_get (set xs i x) k ≡ Some x
  get_set_same xs i k was x same at = subst (λ (j : ℕ). slice_get (set xs j x) k ≡ Some x) (sym same) (here xs k at)
    where
      here : (ys : List A) (j : ℕ) → slice_get ys j ≡ Some was → slice_get (set ys j x) j ≡ Some x
      here [] j e = absurd (cc e)
      here (y ∷ ys) zero e = refl
      here (y ∷ ys) (suc j) e = here ys j e

  pub get_set_other : (xs : List A) (i j : ℕ) (x : A) → (j ≡ i → ⊥) → slice_get (set xs i x) j ≡ slice_get xs j
  get_set_other [] i j x other = refl
  get_set_other (y ∷ xs) zero zero x other = absurd (other refl)
  get_set_other (y ∷ xs) zero (suc j) x other = refl
  get_set_other (y ∷ xs) (suc i) zero x other = refl
  get_set_other (y ∷ xs) (suc i) (suc j) x other = get_set_other xs i j x (λ e. other (ap suc e))

module _ {A B : Type 0} where
  pub map_set : (f : A → B) (xs : List A) (i : ℕ) (q p : A) → slice_get xs i ≡ Some p → f q ≡ f p → map f (set xs i q) ≡ map f xs
  map_set f [] i q p e s = absurd (cc e)
  map_set f (x ∷ xs) zero q p e s = let same : p ≡ x = cc e in ap (λ (y : B). y ∷ map f xs) (s ∙ ap f same)
  map_set f (x ∷ xs) (suc i) q p e s = ap (λ (l : List B). f x ∷ l) (map_set f xs i q p e s)

  pub map_at : (f : A → B) (xs : List A) (k : ℕ) (x : A) → slice_get xs k ≡ Some x → slice_get (map f xs) k ≡ Some (f x)
  map_at f [] k x e = absurd (cc e)
  map_at f (y ∷ xs) zero x e = let same : y ≡ x = cc e in ap (λ (z : A). Some (f z)) same
  map_at f (y ∷ xs) (suc k) x e = map_at f xs k x e

  pub map_get : (f : A → B) (xs : List A) (k : ℕ) (y : B) → slice_get (map f xs) k ≡ Some y → (x : A) × (slice_get xs k ≡ Some x) × (f x ≡ y)
  map_get f [] k y e = absurd (cc e)
  map_get f (x ∷ xs) zero y e = (x, refl, cc e)
  map_get f (x ∷ xs) (suc k) y e = map_get f xs k y e

  pub map_contains : (f : A → B) (xs : List A) (k : ℕ) (x : A) → slice_get xs k ≡ Some x → Contains (map f xs) (f x)
  map_contains f [] k x e = absurd (cc e)
  map_contains f (y ∷ xs) zero x e = (0, omega arith, ap f (cc e))
  map_contains f (y ∷ xs) (suc k) x e = let r = map_contains f xs k x e in (suc r.0, omega (arith, r.1), r.2)

-- ---- what a pass knows stays while its hands meet

module _ {N : Type 0} {g : Ghosts N} where
  pub known_kept : (n : ℕ) (p q : RegionPass N g) (seat : LogSeat) → q.viewer ≡ p.viewer → q.hand.record ≡ p.hand.record → q.told.record ≡ p.told.record → known_of n q seat ≡ known_of n p seat
  known_kept n p q seat v h t j = record {
    own = edits_in (v j).region (h j).list;
    shown = edits_in (v j).region (v j).lines;
    spent = (t j).list;
    synced = seen_synced seat.device.knows (v j).region;
    stored = seen_stored n seat.device.knows (v j).region;
    closed = seen_closed n seat.device.knows (v j).region;
  }

  -- what it knows of the region after a place
  pub known_here : (ps : List (RegionPass N g)) (seat : LogSeat) (k : ℕ) (p : RegionPass N g) → slice_get ps k ≡ Some p → known_in ps seat (k + 1) ≡ known_of (length ps) p seat
  known_here ps seat k p at =
      let one : k + 1 ≡ suc k = omega arith in
      ap (λ (r : ℕ). known_in ps seat r) one ∙ ap (λ (o : Option (RegionPass N g)). known_at (length ps) seat o) at

  known_set : (ps : List (RegionPass N g)) (seat : LogSeat) (i : ℕ) (p q : RegionPass N g) → slice_get ps i ≡ Some p → ((n : ℕ) → known_of n q seat ≡ known_of n p seat) → (r : ℕ) → known_in (set ps i q) seat r ≡ known_in ps seat r
  known_set ps seat i p q at same zero = refl
  known_set ps seat i p q at same (suc k) =
      (λ j. known_at (length_set ps i q j) seat (slice_get (set ps i q) k)) ∙ same_at (λ (o : Option (RegionPass N g)). known_at (length ps) seat o) ps i k q p at (same (length ps))

  pub knows_set : (h c : ℕ) (ps : List (RegionPass N g)) (seat : LogSeat) (i : ℕ) (p q : RegionPass N g) → slice_get ps i ≡ Some p → ((n : ℕ) → known_of n q seat ≡ known_of n p seat) → pass_of h c (set ps i q) seat ≡ pass_of h c ps seat
  knows_set h c ps seat i p q at same j = record { handler = h; calls = c; known = λ r. known_set ps seat i p q at same r j; broken = seat.device.knows.broken }

  pub hands_kept : (h c : ℕ) (ps : List (RegionPass N g)) (i : ℕ) (p q : RegionPass N g) → slice_get ps i ≡ Some p → q.viewer ≡ p.viewer → q.hand.record ≡ p.hand.record → q.hand.number ≡ p.hand.number
      → AreHandsOf h c ps → AreHandsOf h c (set ps i q)
  hands_kept h c ps i p q at v r n hands k x is = elim (get_set ps i k q x is) as (λ _. IsHandOf h c (k + 1) x) [
    | inl (here, same) ↦
        let was = hands i p at in
        subst (λ (y : RegionPass N g). IsHandOf h c (k + 1) y) same (subst (λ (m : ℕ). IsHandOf h c (m + 1) q) (sym here) (record {
          region = ap (λ (b : Beginning). b.region) v ∙ was.region;
          number = n ∙ was.number;
          mark = ap (λ (t : Record Line). t.mark) r ∙ was.mark;
          called = subst (λ (t : Record Line). AreCalledBelow (c + 1) t.list) (sym r) was.called;
        }))
    | inr (other, was) ↦ hands k x was
  ]

  pub all_set : (the : ServiceId) (ps : List (Pass N g)) (i : ℕ) (q : Pass N g) → AllOf the ps → IsPassOf the q → AllOf the (set ps i q)
  all_set the [] i q a b = tt
  all_set the (p ∷ ps) zero q a b = (b, a.1)
  all_set the (p ∷ ps) (suc i) q a b = (a.0, all_set the ps i q a.1 b)

  pub all_get : (the : ServiceId) (ps : List (Pass N g)) (i : ℕ) (p : Pass N g) → AllOf the ps → slice_get ps i ≡ Some p → IsPassOf the p
  all_get the [] i p a e = absurd (cc e)
  all_get the (x ∷ ps) zero p a e = let same : x ≡ p = cc e in subst (λ (y : Pass N g). IsPassOf the y) same a.0
  all_get the (x ∷ ps) (suc i) p a e = all_get the ps i p a.1 e

  -- the words are at or above what the pass had seen of a region
  pub pass_seen : (the : ServiceId) (p : Pass N g) (words : List ℕ) (broken : Bool) (r : ℕ) → IsPassOf the p → Saw p.seat.device words broken → 1 ≤ r → r ≤ the.regions
      → (((knows p).known r).synced ≤ synced_in words r) × (((knows p).known r).stored ≤ stored_in the.regions words r) × (((knows p).known r).closed ≤ closed_in the.regions words r)
  pass_seen the p words broken zero is saw low high = absurd (omega (arith, low))
  pass_seen the p words broken (suc k) is saw low high =
      let ps = p.regions.items in
      let q = get_some ps k (omega (arith, high, is.count)) in
      let same : q.0.viewer.region ≡ suc k = (let e = (is.hands k q.0 q.1).region in omega (arith, e)) in
      let seen = seen_in_words the.regions (suc k) p.seat words broken saw in
      subst (λ (o : Option (RegionPass N g)). ((known_at (length ps) p.seat o).synced ≤ synced_in words (suc k)) × ((known_at (length ps) p.seat o).stored ≤ stored_in the.regions words (suc k)) × ((known_at (length ps) p.seat o).closed ≤ closed_in the.regions words (suc k))) (sym q.1)
      (subst (λ (n : ℕ). (seen_synced p.seat.device.knows q.0.viewer.region ≤ synced_in words (suc k)) × (seen_stored n p.seat.device.knows q.0.viewer.region ≤ stored_in the.regions words (suc k)) × (seen_closed n p.seat.device.knows q.0.viewer.region ≤ closed_in the.regions words (suc k))) (sym is.count)
      (subst (λ (m : ℕ). (seen_synced p.seat.device.knows m ≤ synced_in words (suc k)) × (seen_stored the.regions p.seat.device.knows m ≤ stored_in the.regions words (suc k)) × (seen_closed the.regions p.seat.device.knows m ≤ closed_in the.regions words (suc k))) (sym same) seen))

-- ---- seats

pub back_more : (id : _) (ss : List Standing) (s : Standing) → AreBack id ss → s.berth ≡ id → s.knows.turn ≡ false → AreBack id (ss ++ s ∷ [])
back_more id [] s a b c = ((b, c), tt)
back_more id (x ∷ xs) s a b c = (a.0, back_more id xs s a.1 b c)

pub saw_split : (xs ys : List Standing) (words : List ℕ) (broken : Bool) → AllSaw (xs ++ ys) words broken → AllSaw xs words broken × AllSaw ys words broken
saw_split [] ys words broken a = (tt, a)
saw_split (x ∷ xs) ys words broken a = let r = saw_split xs ys words broken a.1 in ((a.0, r.0), r.1)

module _ {N : Type 0} {g : Ghosts N} where
  pub saw_each : (ps : List (Pass N g)) (words : List ℕ) (broken : Bool) → AllSaw (device_seats (seats_of ps)) words broken → (p : Pass N g) → Contains ps p → Saw p.seat.device words broken
  saw_each [] words broken a p (k, lt, is) = absurd (omega (arith, lt))
  saw_each (x ∷ ps) words broken a p (zero, lt, is) = subst (λ (y : Pass N g). Saw y.seat.device words broken) is a.0
  saw_each (x ∷ ps) words broken a p (suc k, lt, is) = saw_each ps words broken a.1 p (k, omega (arith, lt), is)

  pub passes_snoc : (ps : List (Pass N g)) (p : Pass N g) → device_seats (seats_of (ps ++ p ∷ [])) ≡ device_seats (seats_of ps) ++ p.seat.device ∷ []
  passes_snoc [] p = refl
  passes_snoc (x ∷ ps) p = ap (λ (l : List Standing). x.seat.device ∷ l) (passes_snoc ps p)

pub seats_snoc : (ss : List LogSeat) (s : LogSeat) → device_seats (ss ++ s ∷ []) ≡ device_seats ss ++ s.device ∷ []
seats_snoc [] s = refl
seats_snoc (x ∷ ss) s = ap (λ (l : List Standing). x.device ∷ l) (seats_snoc ss s)

-- ---- what all passes had seen

module _ {N : Type 0} {g : Ghosts N} (the : ServiceId) (ps : List (Pass N g)) (words : List ℕ) (broken : Bool) (of : AllOf the ps) (saw : AllSaw (device_seats (seats_of ps)) words broken) where
  pub all_seen : (r : ℕ) → 1 ≤ r → r ≤ the.regions → (p : ThePass) → Contains (map knows ps) p
      → ((p.known r).synced ≤ synced_in words r) × ((p.known r).stored ≤ stored_in the.regions words r) × ((p.known r).closed ≤ closed_in the.regions words r)
  all_seen r low high p has =
      let i = contains_get (map knows ps) p has in
      let q = map_get (knows {N = N} {g = g}) ps i.0 p i.2 in
      subst (λ (t : ThePass). ((t.known r).synced ≤ synced_in words r) × ((t.known r).stored ≤ stored_in the.regions words r) × ((t.known r).closed ≤ closed_in the.regions words r)) q.2
      (pass_seen the q.0 words broken r (all_get the ps i.0 q.0 of q.1) (saw_each ps words broken saw q.0 (get_contains ps i.0 q.0 q.1)) low high)

  pub all_broken : (p : ThePass) → Contains (map knows ps) p → p.broken ≡ true → broken ≡ true
  all_broken p has e =
      let i = contains_get (map knows ps) p has in
      let q = map_get (knows {N = N} {g = g}) ps i.0 p i.2 in
      ((saw_each ps words broken saw q.0 (get_contains ps i.0 q.0 q.1)).fault (ap (λ (t : ThePass). t.broken) q.2 ∙ e)).0

-- where all seats are given back, as many are back as there are
pub seats_given : {A : Type 0} (seat : A → LogSeat) (first mid last : List Standing) (ps : List A) (hs : List LogSeat) (n : ℕ) → mid ≡ first ++ device_seats (map seat ps) → last ≡ mid ++ device_seats hs → length hs ≡ 2 → length first + (length ps + 2) ≡ n → length last ≡ n
seats_given seat first mid last ps hs n one two helpers all =
    omega (
      arith,
      ap length one,
      ap length two,
      length-append first (device_seats (map seat ps)),
      length-append mid (device_seats hs),
      length-map (map seat ps) (λ (s : LogSeat). s.device),
      length-map ps seat,
      length-map hs (λ (s : LogSeat). s.device),
      helpers,
      all,
    )

module _ {N : Type 0} {g : Ghosts N} where
  -- where all are back, so many seats come back as there are
  pub seats_back : (place : ServiceId) (handlers : ℕ) (p : Passes N g) (hs : List LogSeat) (now : List (Pass N g)) → AllBack place handlers p hs → place.seats ≡ handlers + 2 → map knows now ≡ passes_back p
      → AreSeats place (length now + 2) p.seats × (length p.seats.devices.seats + (length now + 2) ≡ place.seats)
  seats_back place handlers p hs now b all same =
      let n = length-map now (λ (q : Pass N g). knows q) in
      let m = ap length same in
      let pairs : length p.seats.consumers.seats ≡ length p.seats.devices.seats = p.seats.pairs in (
        record {
          consumers = b.of.consumers;
          devices = b.of.devices.0;
          rooms = (omega (arith, n, m, b.back, b.out, b.of.devices.1, pairs, b.of.room.0), omega (arith, n, m, b.back, b.out, b.of.devices.1, b.of.room.1));
        },
        omega (arith, n, m, b.back, b.out, b.of.devices.1, all),
      )
