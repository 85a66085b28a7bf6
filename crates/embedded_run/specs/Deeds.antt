-- What handlers did on their server, each by its own words.
use Rattle.std.specs.Prelude.{◌≡◌, ℕ, ◌+◌, List, [], ◌∷◌, length, map}
use Rattle.server_model.specs.Pass.{Pass, Naming, IsFresh, IsLater}

-- a handler before and after its work, and what its pass knew then
pub record Deed (H : Type 0) : Type 0 where
  pub before : H
  pub first : Pass
  pub last : Pass
  pub after : H

-- what all passes know at the end
abbrev pub lasts_in : {H : Type 0} → List (Deed H) → List Pass
lasts_in deeds = map (λ d. d.last) deeds

module _ {H : Type 0} (says : H → Naming → ℕ → Pass → Pass → H → Type 0) where
  -- The handler of this number worked with a fresh pass, and its pass lost nothing. `says` is what the handler says of itself.
  pub record IsDone (name : Naming) (time n : ℕ) (d : Deed H) : Type 0 where
    pub fresh : IsFresh n d.first
    pub later : IsLater d.first d.last
    pub said : says d.before name time d.first d.last d.after

  -- the handlers from this number on
  abbrev pub AreDone : Naming → (time n : ℕ) → List (Deed H) → Type 0
  AreDone name time n [] = Unit {0}
  AreDone name time n (d ∷ ds) = IsDone name time n d × AreDone name time (n + 1) ds

  -- These handlers worked on a server of so many regions, and came back as those.
  pub record HaveDone (time regions : ℕ) (befores afters : List H) (name : Naming) (deeds : List (Deed H)) : Type 0 where
    pub regions_are : name.regions ≡ regions
    pub handlers_are : name.handlers ≡ length befores
    pub before : map (λ d. d.before) deeds ≡ befores
    pub after : map (λ d. d.after) deeds ≡ afters
    pub each : AreDone name time 1 deeds
