-- Values of groups by their number.
use Rattle.std.proofs.Common.{◌≡◌, ◌≢◌, ℕ, zero, suc, ◌≤◌, Option, Some, None, refl, sym, ap, subst, arith}
use Rattle.groups_model.specs.Groups.{IsGroup}
use Rattle.groups_run.specs.group_servers.group_lists.declared.lists.GroupList.{GroupList}
use Rattle.groups_run.specs.group_servers.group_lists.Lists.{counted, count_of, at_group, AtBoth, OfBoth, AtEach}
use Rattle.groups_run.proofs.group_servers_laws.group_lists_laws.Each.{each_of, count_within, count_second, count_third, count_fourth}
use Rattle.groups_run.specs.Found.{or_that, value_of}
use Rattle.groups_command.specs.Disks.{InARow, AreInARow}

module _ {A : Type 0} where
  pub value_at : (xs : GroupList A) (k : ℕ) (x : A) → at_group xs k ≡ Some x → value_of xs k ≡ x
  value_at xs k x is = ap (or_that xs.first) is

  second_there : (x y z : Option A) (a : A) → InARow x y z → x ≡ Some a → 2 ≤ counted x y z
  second_there None y z a row is = absurd cc
  second_there (Some x) None z a row is = omega arith
  second_there (Some x) (Some y) None a row is = omega arith
  second_there (Some x) (Some y) (Some z) a row is = omega arith

  third_there : (x y z : Option A) (a : A) → InARow x y z → y ≡ Some a → 3 ≤ counted x y z
  third_there x None z a row is = absurd cc
  third_there None (Some y) z a row is = absurd row
  third_there (Some x) (Some y) None a row is = omega arith
  third_there (Some x) (Some y) (Some z) a row is = omega arith

  fourth_there : (x y z : Option A) (a : A) → InARow x y z → z ≡ Some a → 4 ≤ counted x y z
  fourth_there x y None a row is = absurd cc
  fourth_there None None (Some z) a row is = absurd row
  fourth_there None (Some y) (Some z) a row is = absurd row
  fourth_there (Some x) None (Some z) a row is = absurd row
  fourth_there (Some x) (Some y) (Some z) a row is = omega arith

  -- the number of a value that is there is a group's
  pub group_at : (xs : GroupList A) → AreInARow xs → (k : ℕ) (x : A) → at_group xs k ≡ Some x → IsGroup (count_of xs) k
  group_at xs row = each_of (λ k x. IsGroup (count_of xs) k) xs
      (omega arith, (count_within xs).0)
      (λ x is. (omega arith, second_there xs.second xs.third xs.fourth x row is))
      (λ x is. (omega arith, third_there xs.second xs.third xs.fourth x row is))
      (λ x is. (omega arith, fourth_there xs.second xs.third xs.fourth x row is))

module _ {A B : Type 0} (P : A → B → Type 0) where
  pub pair : (a : A) (b : B) (x : Option A) (y : Option B) → P a b → AtBoth P x y → P (or_that a x) (or_that b y)
  pair a b None None first both = first
  pair a b None (Some y) first both = absurd both
  pair a b (Some x) None first both = absurd both
  pair a b (Some x) (Some y) first both = both

  -- what holds of each group's two values holds of those of a number
  pub pair_at : (xs : GroupList A) (ys : GroupList B) → AtEach P xs ys → (k : ℕ) → P (value_of xs k) (value_of ys k)
  pair_at xs ys each zero = each.first
  pair_at xs ys each (suc zero) = each.first
  pair_at xs ys each (suc (suc zero)) = pair xs.first ys.first xs.second ys.second each.first each.second
  pair_at xs ys each (suc (suc (suc zero))) = pair xs.first ys.first xs.third ys.third each.first each.third
  pair_at xs ys each (suc (suc (suc (suc zero)))) = pair xs.first ys.first xs.fourth ys.fourth each.first each.fourth
  pair_at xs ys each (suc (suc (suc (suc (suc n))))) = each.first

  both_there : (x : Option A) (y : Option B) → OfBoth P x y → (a : A) × (b : B) × (x ≡ Some a) × (y ≡ Some b) × P a b
  both_there None y both = absurd both
  both_there (Some a) None both = absurd both
  both_there (Some a) (Some b) both = (a, b, refl, refl, both)

  -- where both are there and P holds of them
  pub pair_there : (xs : GroupList A) (ys : GroupList B) (k : ℕ) → OfBoth P (at_group xs k) (at_group ys k)
      → ((x : A) × (at_group xs k ≡ Some x)) × P (value_of xs k) (value_of ys k)
  pair_there xs ys k both =
      let at = both_there (at_group xs k) (at_group ys k) both in
      let first : P (value_of xs k) at.1 = subst (λ x. P x at.1) (sym (value_at xs k at.0 at.2)) at.4 in
      ((at.0, at.2), subst (λ y. P (value_of xs k) y) (sym (value_at ys k at.1 at.3)) first)

-- a value that is there
pub there_of : {A : Type 0} (a : A) (o : Option A) → o ≢ None → o ≡ Some (or_that a o)
there_of a None is = absurd (is refl)
there_of a (Some x) is = refl

-- the value of a group is there
pub there_at : {A : Type 0} (xs : GroupList A) (k : ℕ) → IsGroup (count_of xs) k → at_group xs k ≡ Some (value_of xs k)
there_at {A} xs k is = there_of xs.first (at_group xs k) (go k is)
  where
    go : (k : ℕ) → IsGroup (count_of xs) k → at_group xs k ≢ None
    go zero is = absurd (omega (arith, is.0))
    go (suc zero) is = λ e. absurd cc
    go (suc (suc zero)) is = count_second xs.second xs.third xs.fourth is.1
    go (suc (suc (suc zero))) is = count_third xs.second xs.third xs.fourth is.1
    go (suc (suc (suc (suc zero)))) is = count_fourth xs.second xs.third xs.fourth is.1
    go (suc (suc (suc (suc (suc n))))) is = absurd (omega (arith, is.1, (count_within xs).1))
