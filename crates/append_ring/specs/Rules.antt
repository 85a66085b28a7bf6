-- The rule of the ring: of each region, what was pushed is what was popped and then what the ring holds of it.
use Rattle.std.specs.Prelude.{◌≡◌, ◌≢◌, ℕ, ◌+◌, ◌-◌, ◌<◌, ◌≤◌, ◌==◌, Bool, true, false, cond, List, [], ◌∷◌, ◌++◌, length, slice_index, Option, Some, None}
use mathlib.Core.Option.{some}
use lib.ListN.{get_elem?}
use Rattle.atomic_table.specs.Seated.{TableId}
use Rattle.append_ring.specs.declared.knows.Knows.{Knows}

-- which ring it is, and how many items it holds at most
pub record RingPlace : Type 0 where
  pub id : TableId
  pub capacity : ℕ

-- the number before the first drawn one of a region
abbrev pub base_of : List ℕ → ℕ → ℕ
base_of lasts r = slice_index lasts (r - 1)

module _ {T : Type 0} where
  abbrev pub knows : ℕ → Bool → ℕ → List ℕ → List T → List T → Knows T
  knows r b m ls xs ys = record { region = r; pops = b; made = m; lasts = ls; pushed = xs; popped = ys }

  -- the view of the first pass
  abbrev pub new_pass : Knows T
  new_pass = knows 0 true 0 [] [] []

  -- the view of a pass that may do nothing
  abbrev pub nobody : Knows T
  nobody = knows 0 false 0 [] [] []

  abbrev pub based : Knows T → List ℕ → Knows T
  based v ls = knows v.region v.pops v.made ls v.pushed v.popped

  abbrev pub one_more : Knows T → Knows T
  one_more v = knows v.region v.pops (v.made + 1) v.lasts v.pushed v.popped

  abbrev pub next_region : Knows T → Knows T
  next_region v = knows (v.made + 1) false 0 v.lasts [] []

  abbrev pub compared : Knows T → Knows T → Knows T
  compared v w = knows w.region v.pops v.made v.lasts w.pushed v.popped

  -- the item is the last one pushed, and the pass knows nothing else that is new
  abbrev pub HasPushed : Knows T → T → Knows T → Type 0
  HasPushed v x w = w ≡ knows v.region v.pops v.made v.lasts (v.pushed ++ x ∷ []) v.popped

  module _ (place : T → ℕ) where
    -- the items of one region
    abbrev pub of : ℕ → List T → List T
    of r [] = []
    of r (x ∷ xs) = cond (place x == r) (x ∷ of r xs) (of r xs)

    -- what was pushed of the region is what was popped of it and then what the ring holds of it
    abbrev pub Totals : Knows T → List T → Type 0
    Totals v items = v.pushed ≡ of v.region v.popped ++ of v.region items

  module _ (number : T → Option ℕ) where
    abbrev pub next_or : ℕ → Option ℕ → ℕ
    next_or k None = k
    next_or k (Some d) = d

    -- the last drawn number of these items, or k where there is none
    abbrev pub end_of : ℕ → List T → ℕ
    end_of k [] = k
    end_of k (x ∷ xs) = end_of (next_or k (number x)) xs

    abbrev pub FollowsAt : ℕ → Option ℕ → Type 0
    FollowsAt k None = Unit {0}
    FollowsAt k (Some d) = d ≡ k + 1

    -- the item's drawn number, if it has one, is one above k
    abbrev pub Follows : ℕ → T → Type 0
    Follows k x = FollowsAt k (number x)

  module _ (place : T → ℕ) (number : T → Option ℕ) (is_whole : T → Type 0) (in_order : List ℕ → List T → Type 0) where
    -- a whole item of one of n regions
    abbrev pub IsGood : ℕ → T → Type 0
    IsGood n x = is_whole x × (0 < place x) × (place x ≤ n)

    -- good items, whose drawn numbers follow one another from k
    abbrev pub Runs : ℕ → ℕ → List T → Type 0
    Runs n k [] = Unit {0}
    Runs n k (x ∷ xs) = IsGood n x × Follows number k x × Runs n (next_or number k (number x)) xs

    -- a region's pass knows what was pushed of it, and the consumer's pass what was popped
    pub record Fits (lasts : List ℕ) (made reader : ℕ) (seat : ℕ → ℕ) (pushed : ℕ → List T) (popped : List T) (pass : ℕ) (v : Knows T) : Type 0 where
      pub writes : v.region ≢ 0 → (pass ≡ seat v.region) × (v.pushed ≡ pushed v.region) × (v.lasts ≡ lasts) × (v.region ≤ made)
      pub reads : v.pops ≡ true → (pass ≡ reader) × (v.popped ≡ popped) × (v.lasts ≡ lasts) × (v.made ≡ made)

    -- the rule: seat says which pass a region has, and reader which one is the consumer's
    pub record Kept (items : List T) (views : List (Knows T)) : Type 0 where
      pub lasts : List ℕ
      pub made : ℕ
      pub reader : ℕ
      pub seat : ℕ → ℕ
      pub pushed : ℕ → List T
      pub popped : List T
      pub flows : (r : ℕ) → of place r popped ++ of place r items ≡ pushed r
      pub runs : (r : ℕ) → Runs (length lasts) (base_of lasts r) (pushed r)
      pub ordered : (r : ℕ) → in_order lasts (pushed r)
      pub unmade : (r : ℕ) → made < r → pushed r ≡ []
      pub zeroth : pushed 0 ≡ []
      pub each : (pass : ℕ) (v : Knows T) → get_elem? views pass ≡ some v → Fits lasts made reader seat pushed popped pass v

    -- the rule allows the ring to hold these items where a pass knows v
    abbrev pub Possible : Knows T → List T → Type 0
    Possible v items = (views : List (Knows T)) × (pass : ℕ) × Kept items views × (get_elem? views pass ≡ some v)

    -- the item is good, its number is one above the last drawn one popped of its region, it was the oldest in the ring, and it is now the last one popped
    pub record HasPopped (v : Knows T) (x : T) (w : Knows T) : Type 0 where
      pub good : IsGood (length v.lasts) x
      pub follows : Follows number (end_of number (base_of v.lasts (place x)) (of place (place x) v.popped)) x
      pub ordered : in_order v.lasts (of place (place x) (v.popped ++ x ∷ []))
      pub oldest : (items : List T) × Possible v (x ∷ items)
      pub now : w ≡ knows v.region v.pops v.made v.lasts v.pushed (v.popped ++ x ∷ [])
