-- The keys of a ring, in places for the regions: a key is there, or it is handed out.
use Rattle.std.specs.Prelude.{◌≡◌, ℕ, zero, suc, ◌+◌, ◌-◌, ◌^◌, ◌<◌, false, List, [], ◌∷◌, length, Option, Some, None}
use Rattle.atomic_table.specs.Seated.{TableId}
use Rattle.crossbeam_queue.specs.Passes.{view}
use Rattle.append_ring.specs.declared.pass.RingKey.{RingKey}
use Rattle.append_ring.specs.Rules.{knows, of, base_of, end_of}

module _ {A : Type 0} where
  -- the first one that is there
  abbrev pub first_there : List (Option A) → Option A
  first_there [] = None
  first_there (None ∷ places) = first_there places
  first_there (Some a ∷ places) = Some a

  -- the places once that one is handed out
  abbrev pub without_first : List (Option A) → List (Option A)
  without_first [] = []
  without_first (None ∷ places) = None ∷ without_first places
  without_first (Some a ∷ places) = None ∷ places

  -- the first n places are there, and what was in them is handed out
  abbrev pub AreOut : ℕ → List (Option A) → Type 0
  AreOut zero places = Unit {0}
  AreOut (suc n) [] = ⊥
  AreOut (suc n) (None ∷ places) = AreOut n places
  AreOut (suc n) (Some a ∷ places) = ⊥

  -- the first n are back, and each is so; the others are handed out
  abbrev pub ArePlacesBack : (A → Type 0) → ℕ → List (Option A) → Type 0
  ArePlacesBack is_so zero places = AreOut (length places) places
  ArePlacesBack is_so (suc n) [] = ⊥
  ArePlacesBack is_so (suc n) (None ∷ places) = ⊥
  ArePlacesBack is_so (suc n) (Some a ∷ places) = is_so a × ArePlacesBack is_so n places

  -- all are there, and each is so
  abbrev pub EachThere : (A → Type 0) → List (Option A) → Type 0
  EachThere is_so [] = Unit {0}
  EachThere is_so (None ∷ places) = ⊥
  EachThere is_so (Some a ∷ places) = is_so a × EachThere is_so places

module _ {T : Type 0} where
  -- the last drawn number that was pushed under the pass, or the one before its region's first
  abbrev pub last_pushed : (T → Option ℕ) → RingKey T → ℕ
  last_pushed number p = end_of number (base_of (view p.pass).lasts p.region) (view p.pass).pushed

  -- the pass of a region that nothing was pushed for
  abbrev pub IsNew : TableId → List ℕ → ℕ → RingKey T → Type 0
  IsNew id lasts r p = (p.pass.table_id ≡ id) × (p.region ≡ r) × (view p.pass ≡ knows r false 0 lasts [] [])

  -- the passes of the regions after k are there and new
  abbrev pub AreNew : TableId → List ℕ → ℕ → List (Option (RingKey T)) → Type 0
  AreNew id lasts k [] = Unit {0}
  AreNew id lasts k (None ∷ places) = ⊥
  AreNew id lasts k (Some p ∷ places) = IsNew id lasts (k + 1) p × AreNew id lasts (k + 1) places

  -- of the regions after k the first n passes are handed out, and the others are there and new
  abbrev pub AreNewAfter : TableId → List ℕ → ℕ → ℕ → List (Option (RingKey T)) → Type 0
  AreNewAfter id lasts k zero places = AreNew id lasts k places
  AreNewAfter id lasts k (suc n) [] = ⊥
  AreNewAfter id lasts k (suc n) (None ∷ places) = AreNewAfter id lasts (k + 1) n places
  AreNewAfter id lasts k (suc n) (Some p ∷ places) = ⊥

  -- each pass of the regions after k that is there stands in its region's place
  abbrev pub AreInPlace : ℕ → List (Option (RingKey T)) → Type 0
  AreInPlace k [] = Unit {0}
  AreInPlace k (None ∷ places) = AreInPlace (k + 1) places
  AreInPlace k (Some p ∷ places) = (p.region ≡ k + 1) × AreInPlace (k + 1) places

  module _ (place : T → ℕ) (popped : List T) where
    -- as many items were popped of the pass's region as were pushed under it
    abbrev pub IsCounted : RingKey T → Type 0
    IsCounted p = length (of place p.region popped) ≡ length (view p.pass).pushed

    -- the same, and they are fewer than the counts reach
    abbrev pub IsDrained : RingKey T → Type 0
    IsDrained p = IsCounted p × (length (view p.pass).pushed < 2 ^ 64 - 1)

    -- what was popped of the pass's region is what was pushed under it
    abbrev pub IsEqual : RingKey T → Type 0
    IsEqual p = of place p.region popped ≡ (view p.pass).pushed
