-- Seats that go out one by one and come back, and regions of which nothing is stored.
use Rattle.std.proofs.Common.{◌≡◌, inl, inr, ℕ, zero, suc, ◌+◌, ◌-◌, ◌<◌, ◌≤◌, List, [], ◌∷◌, ◌++◌, length, replicate, false, refl, sym, ap, subst, arith, length-append, Contains, slice_index, slice_index_or}
use Rattle.std.proofs.lemmas.Bool.{cases_eq}
use Rattle.std.proofs.lemmas.List.{length-replicate}
use Rattle.atomic_table.specs.Seated.{TableId}
use Rattle.log_berth.specs.Standing.{Standing, Bundle, AreBack, fresh}
use Rattle.log_ledger.specs.Bases.{AreRegions}
use Rattle.log_ledger.specs.declared.base.RegionBase.{RegionBase}
use Rattle.log_service.specs.declared.seats.LogSeat.{LogSeat}
use Rattle.log_service.specs.Bundles.{IsBehind, IsHandedOut}
use Rattle.log_service.specs.Places.{ServiceId, IsSeatOf}
use Rattle.service_trials.specs.Crew.{AreSeats}

-- ---- seats

back_fresh : (id : TableId) (words : List ℕ) (n : ℕ) → AreBack id (replicate n (fresh id words))
back_fresh id words zero = tt
back_fresh id words (suc n) = ((refl, refl), back_fresh id words n)

back_less : (id : TableId) (ss : List Standing) (s : Standing) → AreBack id (ss ++ s ∷ []) → AreBack id ss × ((s.berth ≡ id) × (s.knows.turn ≡ false))
back_less id [] s a = (tt, a.0)
back_less id (x ∷ xs) s a = let r = back_less id xs s a.1 in ((a.0, r.0), r.1)

back_more : (id : TableId) (ss : List Standing) (s : Standing) → AreBack id ss → s.berth ≡ id → s.knows.turn ≡ false → AreBack id (ss ++ s ∷ [])
back_more id [] s a b c = ((b, c), tt)
back_more id (x ∷ xs) s a b c = (a.0, back_more id xs s a.1 b c)

-- sixteen new seats
pub seats_new : (place : ServiceId) (movers committers : Bundle) (words numbers : List ℕ) → movers.seats ≡ replicate 16 (fresh place.consumer words) → 16 ≤ movers.room
    → committers.seats ≡ replicate 16 (fresh place.device numbers) → 16 ≤ committers.room → AreSeats place 0 movers committers
seats_new place movers committers words numbers a b c d = record {
  consumers = subst (λ (l : List Standing). AreBack place.consumer l) (sym a) (back_fresh place.consumer words 16);
  devices = subst (λ (l : List Standing). AreBack place.device l) (sym c) (back_fresh place.device numbers 16);
  counts = (omega (arith, ap length a, length-replicate 16 (fresh place.consumer words)), omega (arith, ap length c, length-replicate 16 (fresh place.device numbers)));
  rooms = (b, d);
}

-- one goes out
pub seat_out : (place : ServiceId) (n : ℕ) (movers now_movers committers now_committers : Bundle) (seat : LogSeat) → AreSeats place n movers committers
    → IsHandedOut movers now_movers committers now_committers seat → IsSeatOf place seat × AreSeats place (n + 1) now_movers now_committers
seat_out place n movers now_movers committers now_committers seat a h =
    let mover = back_less place.consumer now_movers.seats seat.consumer (subst (λ (l : List Standing). AreBack place.consumer l) h.0 a.consumers) in
    let committer = back_less place.device now_committers.seats seat.device (subst (λ (l : List Standing). AreBack place.device l) h.1 a.devices) in (
      record { consumer = mover.1.0; device = committer.1.0; no_move = mover.1.1; no_commit = committer.1.1 },
      record {
        consumers = mover.0;
        devices = committer.0;
        counts = (
          omega (arith, ap length h.0, length-append now_movers.seats (seat.consumer ∷ []), a.counts.0),
          omega (arith, ap length h.1, length-append now_committers.seats (seat.device ∷ []), a.counts.1),
        );
        rooms = (omega (arith, h.2, a.rooms.0), omega (arith, h.3, a.rooms.1));
      },
    )

-- one comes back
pub seat_back : (place : ServiceId) (n : ℕ) (movers now_movers committers now_committers : Bundle) (seat : LogSeat) → n < 16 → AreSeats place (16 - n) movers committers → IsSeatOf place seat
    → IsBehind movers now_movers committers now_committers seat → (now_movers.room ≡ movers.room) × (now_committers.room ≡ committers.room) → AreSeats place (16 - (n + 1)) now_movers now_committers
seat_back place n movers now_movers committers now_committers seat low a of h rooms = record {
  consumers = subst (λ (l : List Standing). AreBack place.consumer l) (sym h.0) (back_more place.consumer movers.seats seat.consumer a.consumers of.consumer of.no_move);
  devices = subst (λ (l : List Standing). AreBack place.device l) (sym h.1) (back_more place.device committers.seats seat.device a.devices of.device of.no_commit);
  counts = (
    omega (arith, ap length h.0, length-append movers.seats (seat.consumer ∷ []), a.counts.0, low),
    omega (arith, ap length h.1, length-append committers.seats (seat.device ∷ []), a.counts.1, low),
  );
  rooms = (omega (arith, rooms.0, a.rooms.0), omega (arith, rooms.1, a.rooms.1));
}

-- ---- regions

pub zeros : (n i : ℕ) → slice_index (replicate n 0) i ≡ 0
zeros zero i = refl
zeros (suc n) zero = refl
zeros (suc n) (suc i) = zeros n i

-- n regions after k, of which nothing is stored
abbrev pub regions_from : ℕ → ℕ → List RegionBase
regions_from k zero = []
regions_from k (suc n) = record { region = k + 1; flushed = 0; next_store = 1 } ∷ regions_from (k + 1) n

pub nothing_stored : (k n : ℕ) (m : RegionBase) → Contains (regions_from k n) m → (0 ≡ m.flushed) × (1 ≡ m.next_store)
nothing_stored k zero m (i, low, is) = let none : i < 0 = low in absurd (omega (arith, none))
nothing_stored k (suc n) m (zero, low, is) = (ap (λ (b : RegionBase). b.flushed) is, ap (λ (b : RegionBase). b.next_store) is)
nothing_stored k (suc n) m (suc i, low, is) = nothing_stored (k + 1) n m (i, omega (arith, low), is)

pub has_region : (k n r : ℕ) → k < r → r ≤ k + n → (m : RegionBase) × Contains (regions_from k n) m × (m.region ≡ r)
has_region k zero r low high = absurd (omega (arith, low, high))
has_region k (suc n) r low high =
    elim (cases_eq r (k + 1)) as (λ _. (m : RegionBase) × Contains (regions_from k (suc n)) m × (m.region ≡ r)) [
      | inl e ↦ (record { region = k + 1; flushed = 0; next_store = 1 }, (0, omega arith, refl), sym e)
      | inr other ↦
          let m = has_region (k + 1) n r (omega (arith, low, other)) (omega (arith, high)) in
          (m.0, (suc m.1.0, omega (arith, m.1.1), m.1.2), m.2)
    ]

length_from : (k n : ℕ) → length (regions_from k n) ≡ n
length_from k zero = refl
length_from k (suc n) = ap suc (length_from (k + 1) n)

region_at : (k n i : ℕ) (d : RegionBase) → i < n → (slice_index_or (regions_from k n) i d).region ≡ k + i + 1
region_at k zero i d low = absurd (omega (arith, low))
region_at k (suc n) zero d low = omega arith
region_at k (suc n) (suc i) d low = let r = region_at (k + 1) n i d (omega (arith, low)) in omega (arith, r)

bounds : (k n : ℕ) (m : RegionBase) → Contains (regions_from k n) m → (k < m.region) × (m.region ≤ k + n)
bounds k zero m (i, low, is) = let none : i < 0 = low in absurd (omega (arith, none))
bounds k (suc n) m (zero, low, is) = let r : k + 1 ≡ m.region = ap (λ (b : RegionBase). b.region) is in (omega (arith, r), omega (arith, r))
bounds k (suc n) m (suc i, low, is) = let b = bounds (k + 1) n m (i, omega (arith, low), is) in (omega (arith, b.0), omega (arith, b.1))

pub are_regions : (n : ℕ) → n ≤ 64 → AreRegions (regions_from 0 n)
are_regions n few = record {
  each = λ m has.
      let b = bounds 0 n m has in
      let z = nothing_stored 0 n m has in
      record {
        given = omega (arith, b.0);
        region = omega (arith, b.1, few);
        flushed = omega (arith, z.0);
        store_given = omega (arith, z.1);
        store = omega (arith, z.1);
      };
  apart = λ i j d lt low e.
      let all = length_from 0 n in
      let one = region_at 0 n i d (omega (arith, lt, low, all)) in
      let other = region_at 0 n j d (omega (arith, low, all)) in
      omega (arith, one, other, e, lt);
}
