-- Regions under a name.
use Rattle.std.specs.Prelude.{◌≡◌, ℕ, ◌+◌, List, [], ◌∷◌, replicate}
use Rattle.atomic_table.specs.Seated.{TableId}
use Rattle.logbook.specs.Pages.{Book}
use Rattle.append_ring.specs.Rules.{base_of as last_before}
use Rattle.hand_register.specs.Rule.{empty}
use Rattle.hand_register.specs.Views.{DeskView}
use Rattle.region_model.specs.Journal.{Base}
use Rattle.region_model.specs.Lines.{Line}
use Rattle.region_state.specs.States.{State}
use Rattle.region_versions.specs.Histories.{Beginning, beginning}
use Rattle.region_calls.specs.declared.seeds.RegionSeeds.{RegionSeeds}
use Rattle.region_calls.specs.Seeds.{base_of, desk_of, spent_of, book_of}

-- the tables, the book and the base are those that are named for the region, and so is its last sequence id
pub record IsNamedSeed (desk spent : ℕ → TableId) (book : ℕ → Book) (base : ℕ → Base) (lasts : List ℕ) (s : RegionSeeds) : Type 0 where
  pub desk_is : desk_of s ≡ desk s.state.region
  pub spent_is : spent_of s ≡ spent s.state.region
  pub book_is : book_of s ≡ book s.state.region
  pub base_is : base_of s ≡ base s.state.region
  pub last_is : last_before lasts s.state.region ≡ (base_of s).last

abbrev pub AreNamedSeeds : (ℕ → TableId) → (ℕ → TableId) → (ℕ → Book) → (ℕ → Base) → List ℕ → List RegionSeeds → Type 0
AreNamedSeeds desk spent book base lasts [] = Unit {0}
AreNamedSeeds desk spent book base lasts (s ∷ ss) = IsNamedSeed desk spent book base lasts s × AreNamedSeeds desk spent book base lasts ss

-- a region with no line, whose history is empty and is shown
pub record IsUnlocked (desk_is spent_is : TableId) (base : Base) (lasts : List ℕ) (handlers : ℕ) (state : State) (desk : DeskView Line) (spent : DeskView ℕ) (history shown : Beginning) : Type 0 where
  pub no_lines : state.lines ≡ []
  pub base_is : state.base ≡ base
  pub last : last_before lasts state.region ≡ state.base.last
  pub own : (desk.id ≡ desk_is) × (desk.records ≡ replicate handlers empty)
  pub told : (spent.id ≡ spent_is) × (spent.records ≡ replicate handlers empty)
  pub past : history ≡ beginning state.region []
  pub seen : shown ≡ history

-- these regions, from this one on
abbrev pub AreFrom : ℕ → List ℕ → Type 0
AreFrom r [] = Unit {0}
AreFrom r (x ∷ xs) = (x ≡ r) × AreFrom (r + 1) xs
