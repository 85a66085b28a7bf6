-- Regions are looked at, one after the other.
use Rattle.std.proofs.Common.{◌≡◌, ◌≢◌, ◌⊎◌, ℕ, zero, suc, ◌+◌, ◌-◌, ◌<◌, ◌≤◌, Bool, true, false, IsTrue, List, [], ◌∷◌, length, get_or, Some, inl, inr, refl, sym, ap, subst, arith, slice_get}
use Rattle.groups_model.specs.Groups.{group_of}
use Rattle.region_replay.specs.Ready.{Found}
use Rattle.group_servers.specs.Checking.{AreClear, IsWrongIn}

below_or_at : (i n : ℕ) → i ≤ n → (i < n) ⊎ (i ≡ n)
below_or_at zero zero low = inr (omega arith)
below_or_at zero (suc n) low = inl (omega arith)
below_or_at (suc i) zero low = absurd (omega (arith, low))
below_or_at (suc i) (suc n) low = elim (below_or_at i n (omega (arith, low))) [ inl h ↦ inl (omega (arith, h)) | inr h ↦ inr (omega (arith, h)) ]

pub clear_none : (groups group : ℕ) (xs : List Found) → AreClear groups group xs 0
clear_none groups group xs i x low is other = absurd (omega (arith, low))

pub clear_more : (groups group n : ℕ) (xs : List Found) (x : Found) → AreClear groups group xs n → slice_get xs n ≡ Some x
    → (group_of groups (n + 1) ≢ group → x.base.last ≡ 0) → AreClear groups group xs (n + 1)
clear_more groups group n xs x clear at here i y low is other =
    let split : (i < n) ⊎ (i ≡ n) = below_or_at i n (omega (arith, low)) in
    elim split [
      | inl before ↦ clear i y before is other
      | inr same ↦
          let next = subst (λ (k : ℕ). slice_get xs k ≡ Some y) same is in
          let one : x ≡ y = cc (at, next) in
          subst (λ (z : Found). z.base.last ≡ 0) one (here (subst (λ (k : ℕ). group_of groups (k + 1) ≢ group) same other))
    ]

pub wrong_here : (groups group n region : ℕ) (xs : List Found) (x : Found) → region ≡ n + 1 → n < 64 → AreClear groups group xs n → slice_get xs n ≡ Some x
    → group_of groups region ≢ group → 0 < x.base.last → IsWrongIn groups group xs region
wrong_here groups group n region xs x is low clear at other some =
    let before : n ≡ region - 1 = omega (arith, is) in
    record {
      there = (omega (arith, is), omega (arith, is, low));
      other = other;
      last = (x, subst (λ (k : ℕ). slice_get xs k ≡ Some x) before at, some);
      lower = subst (λ (k : ℕ). AreClear groups group xs k) before clear;
    }

-- the one that was looked at
pub looked_at : (xs : List Found) (i : ℕ) (x : Found) → i < length xs → x ≡ get_or xs i x → slice_get xs i ≡ Some x
looked_at [] i x low is = absurd (omega (arith, low))
looked_at (y ∷ ys) zero x low is = ap (λ (z : Found). Some z) (sym is)
looked_at (y ∷ ys) (suc i) x low is = looked_at ys i x (omega (arith, low)) is

pub no_cells : (b : Bool) (n : ℕ) → b ≡ false → (0 < n → IsTrue b) → n ≡ 0
no_cells b zero is then = refl
no_cells b (suc n) is then = (let so : b ≡ true = then (omega arith) in absurd (cc (is, so)))
