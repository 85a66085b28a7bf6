-- Up to which sequence ids each region is flushed by stores that count.
use Rattle.std.specs.Prelude.{◌≡◌, ◌≢◌, ◌<◌, ℕ, max, nat_eq, if◌then◌else◌, List, [], map, length, slice_index, slice_index_or, slice_set, Contains}
use Rattle.std.specs.Option.{unwrap_or}
use Rattle.std.specs.Map.{lookup}
use Rattle.std.specs.Ordering.{nat_cmp, is_eq}
use Rattle.std.specs.Cmp.Lexicographic.{slice_cmp, pointwise}
use Rattle.std.specs.declared.vec.Vec.{Vec}
use Rattle.std.specs.Global.{Global}
use Rattle.log_model.specs.Recovered.{IsGreatest, IsFor}
use Rattle.found_files.specs.declared.found.FoundStore.{FoundStore}
use Rattle.wal_split.specs.declared.flushed.RegionFlushed.{RegionFlushed}

-- one of these stores of the region is for this family, and goes up to this number
abbrev pub GoesTo : List FoundStore → ℕ → List ℕ → ℕ → Type 0
GoesTo stores r f n = (x : FoundStore) × Contains stores x × (x.name.region ≡ r) × IsFor x.text.family f × (x.text.to ≡ n)

-- one of these stores of the region goes up to this number, whatever its family is
abbrev pub Reaches : List FoundStore → ℕ → ℕ → Type 0
Reaches stores r n = (x : FoundStore) × Contains stores x × (x.name.region ≡ r) × (x.text.to ≡ n)

-- the number of a family among these, 0 where it has none
abbrev pub alone_in : List (Vec ℕ Global × ℕ) → List ℕ → ℕ
alone_in es f = unwrap_or (lookup (λ k. is_eq (slice_cmp nat_cmp f k.items)) es) 0

-- the same where one family's number was raised to this one
abbrev pub raised_in : List ℕ → ℕ → List (Vec ℕ Global × ℕ) → List ℕ → ℕ
raised_in family to es f = if pointwise nat_eq family f then max (alone_in es f) to else alone_in es f

-- what is flushed of a family of the region
abbrev pub flushed_of : RegionFlushed → List ℕ → ℕ
flushed_of x f = max x.whole (alone_in x.alone.entries f)

-- one store more counts, of this family, or of all where it is empty, up to this number
pub record Raises (family : List ℕ) (to : ℕ) (old new : RegionFlushed) : Type 0 where
  pub whole : family ≡ [] → new.whole ≡ max old.whole to
  pub still : family ≢ [] → new.whole ≡ old.whole
  pub own : (f : List ℕ) → IsFor family f → flushed_of new f ≡ max (flushed_of old f) to
  pub others : (f : List ℕ) → ¬ IsFor family f → flushed_of new f ≡ flushed_of old f
  pub last : new.last ≡ max old.last to

-- in its region alone
abbrev pub RaisesAt : FoundStore → List RegionFlushed → List RegionFlushed → Type 0
RaisesAt s old new = (x : RegionFlushed) × (new ≡ slice_set old s.name.region x) × ((d : RegionFlushed) → Raises s.text.family s.text.to (slice_index_or old s.name.region d) x)

-- what is flushed of the whole region, of each family of it, and the last number of any of its stores
pub record IsFlushedBy (stores : List FoundStore) (r : ℕ) (x : RegionFlushed) : Type 0 where
  pub whole : IsGreatest (GoesTo stores r []) x.whole
  pub each : (f : List ℕ) → IsGreatest (GoesTo stores r f) (flushed_of x f)
  pub last : IsGreatest (Reaches stores r) x.last

pub record AreFlushed (stores : List FoundStore) (flushed : List RegionFlushed) : Type 0 where
  pub long : length flushed ≡ 65
  pub each : (r : ℕ) (d : RegionFlushed) → r < 65 → IsFlushedBy stores r (slice_index_or flushed r d)

-- what is flushed of a family of a region
abbrev pub flushed_at : List RegionFlushed → ℕ → List ℕ → ℕ
flushed_at flushed r f = slice_index (map (λ (x : RegionFlushed). flushed_of x f) flushed) r
