-- Trucks in a row: what each keeps, and whether their numbers follow one another.
use Rattle.std.specs.Prelude.{◌≡◌, ℕ, ◌+◌, ◌≤◌, ◌==◌, if◌then◌else◌, List, [], ◌∷◌, length}
use Rattle.log_model.specs.Entry.{Entry}
use Rattle.log_trucks.specs.Held.{Held, Haul, Carries}
use Rattle.append_ring.specs.Rules.{base_of}

-- a truck alone
abbrev pub alone : Held → Haul
alone t = record { region = t.region; number = t.number; bytes = t.bytes; families = t.families; behind = [] }

-- the bytes spell an entry of the truck's region and number, with the families of its cells
abbrev pub IsSpelled : Held → Type 0
IsSpelled t = ∥ ((e : Entry) × Carries (alone t) e) ∥₁

abbrev pub AreSpelled : List Held → Type 0
AreSpelled [] = Unit {0}
AreSpelled (t ∷ ts) = IsSpelled t × AreSpelled ts

-- what these take of a stage: each has its bytes and a gate
abbrev pub size_of : List Held → ℕ
size_of [] = 0
size_of (t ∷ ts) = (length t.bytes + 1) + size_of ts

-- the last number of each region, after one more truck
abbrev pub onward : (ℕ → ℕ) → Held → ℕ → ℕ
onward last t r = if t.region == r then t.number else last r

-- the last number of each region, after these trucks
abbrev pub come_to : (ℕ → ℕ) → List Held → ℕ → ℕ
come_to last [] = last
come_to last (t ∷ ts) = come_to (onward last t) ts

-- each truck is of one of n regions, and its number is one above the last one of its region
abbrev pub FollowOn : ℕ → (ℕ → ℕ) → List Held → Type 0
FollowOn n last [] = Unit {0}
FollowOn n last (t ∷ ts) = (((1 ≤ t.region) × (t.region ≤ n)) × (t.number ≡ last t.region + 1)) × FollowOn n (onward last t) ts

-- the same from the numbers of a start
abbrev pub FollowFrom : List ℕ → List Held → Type 0
FollowFrom lasts ts = FollowOn (length lasts) (base_of lasts) ts

-- the bytes that these take of a stage, which they don't pass, and how many they are
pub record IsMeasured (bytes entries : ℕ) (ts : List Held) : Type 0 where
  pub entries_are : entries ≡ length ts
  pub bytes_are : bytes ≡ size_of ts
  pub room : bytes ≤ 4194304
  pub fewer : entries ≤ bytes

-- the trucks of one region
abbrev pub of_held : ℕ → List Held → List Held
of_held r [] = []
of_held r (t ∷ ts) = if t.region == r then (t ∷ of_held r ts) else (of_held r ts)
