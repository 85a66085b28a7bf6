-- The first of the groups' stores that has something of another group's region.
use Rattle.std.proofs.Common.{◌≡◌, ℕ, zero, suc, ◌<◌, ◌≤◌, Option, Some, None, IfSome, IfNone, refl, subst, arith}
use Rattle.group_lists.specs.declared.lists.GroupList.{GroupList}
use Rattle.group_servers.specs.declared.recovering.FoundStore.{FoundStore}
use Rattle.group_servers.specs.Checking.{AreClear, AllAreClear, IsFirstIn, IsWrongIn}
use Rattle.group_lists.specs.Lists.{at_group}
use Rattle.group_lists.proofs.Each.{each_of, some_is}

pub if_some_weaker : {A : Type 0} (P Q : A → Type 0) (r : Option A) → ((x : A) → P x → Q x) → IfSome r P → IfSome r Q
if_some_weaker P Q None then is = tt
if_some_weaker P Q (Some x) then is = then x is

pub if_none_weaker : {A : Type 0} (P Q : Type 0) (r : Option A) → (P → Q) → IfNone r P → IfNone r Q
if_none_weaker P Q None then is = then is
if_none_weaker P Q (Some x) then is = tt

module _ {D : Type 0} (groups : ℕ) (stores : GroupList (FoundStore D)) where
  -- a store that is there is clear
  abbrev pub IsClearAt : ℕ → Option (FoundStore D) → Type 0
  IsClearAt k o = (s : FoundStore D) → o ≡ Some s → AreClear groups k s.recovered 64

  abbrev pub IsWrongAt : ℕ → Option (FoundStore D) → ℕ → Type 0
  IsWrongAt k o region = (s : FoundStore D) × (o ≡ Some s) × IsWrongIn groups k s.recovered region

  lower_by : (disk : ℕ) → disk ≤ 4 → (1 < disk → AreClear groups 1 stores.first.recovered 64) → (2 < disk → IsClearAt 2 stores.second) → (3 < disk → IsClearAt 3 stores.third)
      → (k : ℕ) (s : FoundStore D) → k < disk → at_group stores k ≡ Some s → AreClear groups k s.recovered 64
  lower_by disk most a b c zero s low at = absurd (cc at)
  lower_by disk most a b c (suc zero) s low at = subst (λ (t : FoundStore D). AreClear groups 1 t.recovered 64) (some_is stores.first s at) (a (omega (arith, low)))
  lower_by disk most a b c (suc (suc zero)) s low at = b (omega (arith, low)) s at
  lower_by disk most a b c (suc (suc (suc zero))) s low at = c (omega (arith, low)) s at
  lower_by disk most a b c (suc (suc (suc (suc n)))) s low at = absurd (omega (arith, low, most))

  pub first_1 : (region : ℕ) → IsWrongIn groups 1 stores.first.recovered region → IsFirstIn groups stores 1 region
  first_1 region wrong = record {
    wrong = (stores.first, refl, wrong);
    lower = lower_by 1 (omega arith) (λ l. absurd (omega (arith, l))) (λ l. absurd (omega (arith, l))) (λ l. absurd (omega (arith, l)));
  }

  pub first_2 : (region : ℕ) → AreClear groups 1 stores.first.recovered 64 → IsWrongAt 2 stores.second region → IsFirstIn groups stores 2 region
  first_2 region a wrong = record {
    wrong = wrong;
    lower = lower_by 2 (omega arith) (λ _. a) (λ l. absurd (omega (arith, l))) (λ l. absurd (omega (arith, l)));
  }

  pub first_3 : (region : ℕ) → AreClear groups 1 stores.first.recovered 64 → IsClearAt 2 stores.second → IsWrongAt 3 stores.third region → IsFirstIn groups stores 3 region
  first_3 region a b wrong = record {
    wrong = wrong;
    lower = lower_by 3 (omega arith) (λ _. a) (λ _. b) (λ l. absurd (omega (arith, l)));
  }

  pub first_4 : (region : ℕ) → AreClear groups 1 stores.first.recovered 64 → IsClearAt 2 stores.second → IsClearAt 3 stores.third → IsWrongAt 4 stores.fourth region
      → IsFirstIn groups stores 4 region
  first_4 region a b c wrong = record {
    wrong = wrong;
    lower = lower_by 4 (omega arith) (λ _. a) (λ _. b) (λ _. c);
  }

  pub all_clear : AreClear groups 1 stores.first.recovered 64 → IsClearAt 2 stores.second → IsClearAt 3 stores.third → IsClearAt 4 stores.fourth → AllAreClear groups stores
  all_clear = each_of (λ k s. AreClear groups k s.recovered 64) stores
