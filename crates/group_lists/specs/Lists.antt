-- A value for each group.
use Rattle.std.specs.Prelude.{ℕ, zero, suc, Option, Some, None}
use Rattle.std.specs.Option.{option_map}
use Rattle.group_lists.specs.declared.lists.GroupList.{GroupList}

abbrev pub counted : {A : Type 0} → Option A → Option A → Option A → ℕ
counted None y z = 1
counted (Some x) None z = 2
counted (Some x) (Some y) None = 3
counted (Some x) (Some y) (Some z) = 4

module _ {A : Type 0} where
  -- how many groups there are
  abbrev pub count_of : GroupList A → ℕ
  count_of xs = counted xs.second xs.third xs.fourth

  -- that of a group
  abbrev pub at_group : GroupList A → ℕ → Option A
  at_group xs zero = None
  at_group xs (suc zero) = Some xs.first
  at_group xs (suc (suc zero)) = xs.second
  at_group xs (suc (suc (suc zero))) = xs.third
  at_group xs (suc (suc (suc (suc zero)))) = xs.fourth
  at_group xs (suc (suc (suc (suc (suc n))))) = None

module _ {A B : Type 0} where
  -- one of each is made so
  abbrev pub mapped : (A → B) → GroupList A → GroupList B
  mapped f xs = record { first = f xs.first; second = option_map f xs.second; third = option_map f xs.third; fourth = option_map f xs.fourth }

  -- neither is there, or both are and P holds of them
  abbrev pub AtBoth : (A → B → Type 0) → Option A → Option B → Type 0
  AtBoth P None None = Unit {0}
  AtBoth P None (Some y) = ⊥
  AtBoth P (Some x) None = ⊥
  AtBoth P (Some x) (Some y) = P x y

  -- both are there, and P holds of them
  abbrev pub OfBoth : (A → B → Type 0) → Option A → Option B → Type 0
  OfBoth P None y = ⊥
  OfBoth P (Some x) None = ⊥
  OfBoth P (Some x) (Some y) = P x y

  -- of each group both are there, or neither is, and P holds of them
  pub record AtEach (P : A → B → Type 0) (xs : GroupList A) (ys : GroupList B) : Type 0 where
    pub first : P xs.first ys.first
    pub second : AtBoth P xs.second ys.second
    pub third : AtBoth P xs.third ys.third
    pub fourth : AtBoth P xs.fourth ys.fourth
