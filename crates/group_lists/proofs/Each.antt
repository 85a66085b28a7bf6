-- What holds of each group.
use Rattle.std.proofs.Common.{◌≡◌, ◌≢◌, ℕ, zero, suc, ◌≤◌, Option, Some, None, refl, sym, subst, arith}
use Rattle.group_lists.specs.declared.lists.GroupList.{GroupList}
use Rattle.group_lists.specs.Lists.{counted, count_of, at_group, AtBoth, OfBoth, AtEach}

pub some_is : {A : Type 0} (x y : A) → Some x ≡ Some y → x ≡ y
some_is x y e = cc e

module _ {A : Type 0} where
  -- what holds of each value by its number holds of that of a number
  pub each_of : (P : ℕ → A → Type 0) (xs : GroupList A) → P 1 xs.first → ((x : A) → xs.second ≡ Some x → P 2 x) → ((x : A) → xs.third ≡ Some x → P 3 x)
      → ((x : A) → xs.fourth ≡ Some x → P 4 x) → (k : ℕ) (x : A) → at_group xs k ≡ Some x → P k x
  each_of P xs a b c d zero x is = absurd (cc is)
  each_of P xs a b c d (suc zero) x is = subst (P 1) (some_is xs.first x is) a
  each_of P xs a b c d (suc (suc zero)) x is = b x is
  each_of P xs a b c d (suc (suc (suc zero))) x is = c x is
  each_of P xs a b c d (suc (suc (suc (suc zero)))) x is = d x is
  each_of P xs a b c d (suc (suc (suc (suc (suc n))))) x is = absurd (cc is)

  pub some_count : (x y z : Option A) → (1 ≤ counted x y z) × (counted x y z ≤ 4)
  some_count None y z = (omega arith, omega arith)
  some_count (Some x) None z = (omega arith, omega arith)
  some_count (Some x) (Some y) None = (omega arith, omega arith)
  some_count (Some x) (Some y) (Some z) = (omega arith, omega arith)

  pub count_within : (xs : GroupList A) → (1 ≤ count_of xs) × (count_of xs ≤ 4)
  count_within xs = some_count xs.second xs.third xs.fourth

  pub count_second : (x y z : Option A) → 2 ≤ counted x y z → x ≢ None
  count_second None y z low = absurd (omega (arith, low))
  count_second (Some x) y z low = λ e. absurd (cc e)

  pub count_third : (x y z : Option A) → 3 ≤ counted x y z → y ≢ None
  count_third None y z low = absurd (omega (arith, low))
  count_third (Some x) None z low = absurd (omega (arith, low))
  count_third (Some x) (Some y) z low = λ e. absurd (cc e)

  pub count_fourth : (x y z : Option A) → 4 ≤ counted x y z → z ≢ None
  count_fourth None y z low = absurd (omega (arith, low))
  count_fourth (Some x) None z low = absurd (omega (arith, low))
  count_fourth (Some x) (Some y) None low = absurd (omega (arith, low))
  count_fourth (Some x) (Some y) (Some z) low = λ e. absurd (cc e)

module _ {A B : Type 0} where
  pub counts_same : (P : A → B → Type 0) (x y z : Option A) (u v w : Option B) → AtBoth P x u → AtBoth P y v → AtBoth P z w → counted u v w ≡ counted x y z
  counts_same P None y z None v w a b c = refl
  counts_same P None y z (Some u) v w a b c = absurd a
  counts_same P (Some x) y z None v w a b c = absurd a
  counts_same P (Some x) None z (Some u) None w a b c = refl
  counts_same P (Some x) None z (Some u) (Some v) w a b c = absurd b
  counts_same P (Some x) (Some y) z (Some u) None w a b c = absurd b
  counts_same P (Some x) (Some y) None (Some u) (Some v) None a b c = refl
  counts_same P (Some x) (Some y) None (Some u) (Some v) (Some w) a b c = absurd c
  counts_same P (Some x) (Some y) (Some z) (Some u) (Some v) None a b c = absurd c
  counts_same P (Some x) (Some y) (Some z) (Some u) (Some v) (Some w) a b c = refl

  pub same_count : (P : A → B → Type 0) (xs : GroupList A) (ys : GroupList B) → AtEach P xs ys → count_of ys ≡ count_of xs
  same_count P xs ys each = counts_same P xs.second xs.third xs.fourth ys.second ys.third ys.fourth each.second each.third each.fourth

  both_of : (P : A → B → Type 0) (x : Option A) (y : Option B) (b : B) → AtBoth P x y → y ≡ Some b → (a : A) × (x ≡ Some a) × P a b
  both_of P None None b both is = absurd (cc is)
  both_of P None (Some y) b both is = absurd both
  both_of P (Some x) None b both is = absurd both
  both_of P (Some x) (Some y) b both is = (x, refl, subst (P x) (some_is y b is) both)

  -- the other one of a group
  pub partner : (P : A → B → Type 0) (xs : GroupList A) (ys : GroupList B) → AtEach P xs ys → (k : ℕ) (y : B) → at_group ys k ≡ Some y
      → (x : A) × (at_group xs k ≡ Some x) × P x y
  partner P xs ys each = each_of (λ k y. (x : A) × (at_group xs k ≡ Some x) × P x y) ys (xs.first, refl, each.first)
      (λ y is. both_of P xs.second ys.second y each.second is) (λ y is. both_of P xs.third ys.third y each.third is) (λ y is. both_of P xs.fourth ys.fourth y each.fourth is)

  other_of : (P : A → B → Type 0) (x : Option A) (y : Option B) (a : A) → AtBoth P x y → x ≡ Some a → (b : B) × (y ≡ Some b) × P a b
  other_of P None None a both is = absurd (cc is)
  other_of P None (Some y) a both is = absurd both
  other_of P (Some x) None a both is = absurd both
  other_of P (Some x) (Some y) a both is = (y, refl, subst (λ z. P z y) (some_is x a is) both)

  pub follower : (P : A → B → Type 0) (xs : GroupList A) (ys : GroupList B) → AtEach P xs ys → (k : ℕ) (x : A) → at_group xs k ≡ Some x
      → (y : B) × (at_group ys k ≡ Some y) × P x y
  follower P xs ys each = each_of (λ k x. (y : B) × (at_group ys k ≡ Some y) × P x y) xs (ys.first, refl, each.first)
      (λ x is. other_of P xs.second ys.second x each.second is) (λ x is. other_of P xs.third ys.third x each.third is) (λ x is. other_of P xs.fourth ys.fourth x each.fourth is)

  pub both_weaker : (P Q : A → B → Type 0) → ((x : A) (y : B) → P x y → Q x y) → (x : Option A) (y : Option B) → AtBoth P x y → AtBoth Q x y
  both_weaker P Q then None None both = both
  both_weaker P Q then None (Some y) both = absurd both
  both_weaker P Q then (Some x) None both = absurd both
  both_weaker P Q then (Some x) (Some y) both = then x y both

  pub each_weaker : (P Q : A → B → Type 0) → ((x : A) (y : B) → P x y → Q x y) → (xs : GroupList A) (ys : GroupList B) → AtEach P xs ys → AtEach Q xs ys
  each_weaker P Q then xs ys each = record {
    first = then xs.first ys.first each.first;
    second = both_weaker P Q then xs.second ys.second each.second;
    third = both_weaker P Q then xs.third ys.third each.third;
    fourth = both_weaker P Q then xs.fourth ys.fourth each.fourth;
  }

-- from a value to one that was made of it, and on
module _ {A B C : Type 0} where
  pub both_joined : (P : A → B → Type 0) (Q : A → C → Type 0) (R : B → C → Type 0) → ((x : A) (y : B) (z : C) → P x y → Q x z → R y z)
      → (x : Option A) (y : Option B) (z : Option C) → AtBoth P x y → AtBoth Q x z → AtBoth R y z
  both_joined P Q R then None None None p q = tt
  both_joined P Q R then None None (Some z) p q = absurd q
  both_joined P Q R then None (Some y) z p q = absurd p
  both_joined P Q R then (Some x) None z p q = absurd p
  both_joined P Q R then (Some x) (Some y) None p q = absurd q
  both_joined P Q R then (Some x) (Some y) (Some z) p q = then x y z p q

  pub each_joined : (P : A → B → Type 0) (Q : A → C → Type 0) (R : B → C → Type 0) → ((x : A) (y : B) (z : C) → P x y → Q x z → R y z)
      → (xs : GroupList A) (ys : GroupList B) (zs : GroupList C) → AtEach P xs ys → AtEach Q xs zs → AtEach R ys zs
  each_joined P Q R then xs ys zs p q = record {
    first = then xs.first ys.first zs.first p.first q.first;
    second = both_joined P Q R then xs.second ys.second zs.second p.second q.second;
    third = both_joined P Q R then xs.third ys.third zs.third p.third q.third;
    fourth = both_joined P Q R then xs.fourth ys.fourth zs.fourth p.fourth q.fourth;
  }

  pub of_both_joined : (P : A → B → Type 0) (Q : A → C → Type 0) (R : B → C → Type 0) → ((x : A) (y : B) (z : C) → P x y → Q x z → R y z)
      → (x : Option A) (y : Option B) (z : Option C) → AtBoth P x y → OfBoth Q x z → OfBoth R y z
  of_both_joined P Q R then None y z p q = absurd q
  of_both_joined P Q R then (Some x) None z p q = absurd p
  of_both_joined P Q R then (Some x) (Some y) None p q = absurd q
  of_both_joined P Q R then (Some x) (Some y) (Some z) p q = then x y z p q

  -- of the one of this number
  pub of_both_at : (P : A → B → Type 0) (Q : A → C → Type 0) (R : B → C → Type 0) → ((x : A) (y : B) (z : C) → P x y → Q x z → R y z)
      → (xs : GroupList A) (ys : GroupList B) (zs : GroupList C) → AtEach P xs ys → (k : ℕ) → OfBoth Q (at_group xs k) (at_group zs k)
      → OfBoth R (at_group ys k) (at_group zs k)
  of_both_at P Q R then xs ys zs p zero q = absurd q
  of_both_at P Q R then xs ys zs p (suc zero) q = then xs.first ys.first zs.first p.first q
  of_both_at P Q R then xs ys zs p (suc (suc zero)) q = of_both_joined P Q R then xs.second ys.second zs.second p.second q
  of_both_at P Q R then xs ys zs p (suc (suc (suc zero))) q = of_both_joined P Q R then xs.third ys.third zs.third p.third q
  of_both_at P Q R then xs ys zs p (suc (suc (suc (suc zero)))) q = of_both_joined P Q R then xs.fourth ys.fourth zs.fourth p.fourth q
  of_both_at P Q R then xs ys zs p (suc (suc (suc (suc (suc n))))) q = absurd q

pub both_same : {A : Type 0} (P : A → A → Type 0) → ((x : A) → P x x) → (x : Option A) → AtBoth P x x
both_same P same None = tt
both_same P same (Some x) = same x

-- both are there
pub of_both : {A B : Type 0} (P : A → B → Type 0) (x : Option A) (y : Option B) (a : A) (b : B) → x ≡ Some a → y ≡ Some b → P a b → OfBoth P x y
of_both P None y a b is at holds = absurd (cc is)
of_both P (Some x) None a b is at holds = absurd (cc at)
of_both P (Some x) (Some y) a b is at holds = subst (λ z. P z y) (sym (some_is x a is)) (subst (P a) (sym (some_is y b at)) holds)
