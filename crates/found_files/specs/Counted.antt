-- How many entries each region has.
use Rattle.std.specs.Prelude.{◌≡◌, ◌<◌, ◌==◌, ℕ, List, length, slice_index}
use Rattle.std.specs.List.{count_by}
use Rattle.found_files.specs.declared.found.FoundEntry.{FoundEntry}

-- how many of these entries are of a region
abbrev pub count_of : ℕ → List FoundEntry → ℕ
count_of r xs = count_by (λ (x : FoundEntry). x.entry.region == r) xs

-- how many each region from 0 to 64 has
pub record AreCounts (xs : List FoundEntry) (counts : List ℕ) : Type 0 where
  pub long : length counts ≡ 65
  pub each : (r : ℕ) → r < 65 → slice_index counts r ≡ count_of r xs
