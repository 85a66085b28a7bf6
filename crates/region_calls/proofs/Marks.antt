-- Which mark is which region's.
use Rattle.std.proofs.Common.{◌≡◌, ℕ, zero, suc, ◌+◌, ◌<◌, ◌≤◌, List, [], ◌∷◌, length, map, take, get_or, slice_get, Some, Contains, AllPairs, refl, sym, ap, ◌∙◌, subst, arith}
use Rattle.log_model.specs.Files.{Files}
use Rattle.region_replay.specs.Ready.{Found, IsOf}
use Rattle.region_replay.specs.Opened.{AreOf}
use Rattle.log_ledger.specs.declared.base.RegionBase.{RegionBase}
use Rattle.log_ledger.specs.Bases.{IsBase, AreOther, AreRegions}
use Rattle.region_calls.specs.Bases.{AreBasesOf}
use Rattle.region_calls.specs.Seeds.{bases_found, mark, marks_from, flushed_of}
use Rattle.region_calls.proofs.Sown.{AreWithin}

same_of : (x y : Found) → Some x ≡ Some y → x ≡ y
same_of x y e = cc e

pub record IsMark (r : ℕ) (ys : List Found) (m : RegionBase) : Type 0 where
  pub k : ℕ
  pub x : Found
  pub at : slice_get ys k ≡ Some x
  pub is : m ≡ mark (r + k) x

pub mark_in : (r : ℕ) (ys : List Found) (m : RegionBase) → Contains (marks_from r ys) m → IsMark r ys m
mark_in r [] m (k, low, is) = absurd (omega (arith, low))
mark_in r (x ∷ xs) m (zero, low, is) = record { k = 0; x = x; at = refl; is = sym is ∙ ap (λ n. mark n x) (omega arith) }
mark_in r (x ∷ xs) m (suc k, low, is) =
    let q = mark_in (r + 1) xs m (k, omega (arith, low), is) in
    record { k = suc q.k; x = q.x; at = q.at; is = q.is ∙ ap (λ n. mark n q.x) (omega arith) }

pub mark_at : (r : ℕ) (ys : List Found) (k : ℕ) (x : Found) → slice_get ys k ≡ Some x → Contains (marks_from r ys) (mark (r + k) x)
mark_at r [] k x e = absurd (cc e)
mark_at r (y ∷ ys) zero x e = (0, omega arith, ap (λ n. mark n y) (omega arith) ∙ ap (mark (r + 0)) (same_of y x e))
mark_at r (y ∷ ys) (suc k) x e =
    let q = mark_at (r + 1) ys k x e in
    let same : r + 1 + k ≡ r + suc k = omega arith in
    (suc q.0, omega (arith, q.1), subst (λ n. get_or (marks_from (r + 1) ys) q.0 (mark n x) ≡ mark n x) same q.2)

pub marks_length : (r : ℕ) (ys : List Found) → length (marks_from r ys) ≡ length ys
marks_length r [] = refl
marks_length r (y ∷ ys) = ap suc (marks_length (r + 1) ys)

region_at : (r : ℕ) (ys : List Found) (k : ℕ) (d : RegionBase) → k < length (marks_from r ys) → (get_or (marks_from r ys) k d).region ≡ r + k
region_at r [] k d low = absurd (omega (arith, low))
region_at r (y ∷ ys) zero d low = omega arith
region_at r (y ∷ ys) (suc k) d low = let q = region_at (r + 1) ys k d (omega (arith, low)) in omega (arith, q)

apart : (r : ℕ) (ys : List Found) → AllPairs AreOther (marks_from r ys)
apart r ys i j d before within same =
    let a = region_at r ys i d (omega (arith, before, within)) in
    let b = region_at r ys j d within in
    omega (arith, a, b, same, before)

each_within : (ms : List RegionBase) → AreWithin ms → (m : RegionBase) → Contains ms m → IsBase m
each_within [] a m (k, low, is) = absurd (omega (arith, low))
each_within (x ∷ xs) a m (zero, low, is) = subst IsBase is a.0
each_within (x ∷ xs) a m (suc k, low, is) = each_within xs a.1 m (k, omega (arith, low), is)

pub are_regions : (ms : List RegionBase) (ys : List Found) → ms ≡ marks_from 1 ys → AreWithin ms → AreRegions ms
are_regions ms ys e a = record { each = each_within ms a; apart = subst (λ l. AllPairs AreOther l) (sym e) (apart 1 ys) }

pub of_at : (F S : Files) (r : ℕ) (xs : List Found) → AreOf F S r xs → (k : ℕ) (x : Found) → slice_get xs k ≡ Some x → IsOf F S (r + k) x
of_at F S r [] a k x e = absurd (cc e)
of_at F S r (y ∷ ys) a zero x e =
    let same : r ≡ r + 0 = omega arith in
    let is : y ≡ x = same_of y x e in
    subst (λ n. IsOf F S n x) same (subst (IsOf F S r) is a.0)
of_at F S r (y ∷ ys) a (suc k) x e =
    let same : r + 1 + k ≡ r + suc k = omega arith in
    subst (λ n. IsOf F S n x) same (of_at F S (r + 1) ys a.1 k x e)

pub get_take : (n : ℕ) (xs : List Found) (k : ℕ) (x : Found) → slice_get (take n xs) k ≡ Some x → slice_get xs k ≡ Some x
get_take zero xs k x e = absurd (cc e)
get_take (suc n) [] k x e = absurd (cc e)
get_take (suc n) (y ∷ ys) zero x e = e
get_take (suc n) (y ∷ ys) (suc k) x e = get_take n ys k x e

pub bases_of : (F S : Files) (n r : ℕ) (xs : List Found) → AreOf F S r xs → AreBasesOf F r (bases_found (take n xs))
bases_of F S zero r xs a = tt
bases_of F S (suc n) r [] a = tt
bases_of F S (suc n) r (y ∷ ys) a = (record { last = a.0.last; content = a.0.content }, bases_of F S n (r + 1) ys a.1)

-- the sequence id up to which a region is flushed, 0 of any other number
abbrev pub flushed_in : List Found → ℕ → ℕ
flushed_in xs zero = 0
flushed_in xs (suc k) = get_or (map (λ (x : Found). x.flushed) xs) k 0

pub flushed_at : (xs : List Found) (k : ℕ) (x : Found) → slice_get xs k ≡ Some x → flushed_in xs (suc k) ≡ x.flushed
flushed_at [] k x e = absurd (cc e)
flushed_at (y ∷ ys) zero x e = ap (λ (f : Found). f.flushed) (same_of y x e)
flushed_at (y ∷ ys) (suc k) x e = flushed_at ys k x e

pub flushed_none : (xs : List Found) (k : ℕ) → length xs ≤ k → flushed_in xs (suc k) ≡ 0
flushed_none [] k low = refl
flushed_none (y ∷ ys) zero low = absurd (omega (arith, low))
flushed_none (y ∷ ys) (suc k) low = flushed_none ys k (omega (arith, low))

pub some_at : (xs : List Found) (k : ℕ) → k < length xs → (x : Found) × (slice_get xs k ≡ Some x)
some_at [] k low = absurd (omega (arith, low))
some_at (y ∷ ys) zero low = (y, refl)
some_at (y ∷ ys) (suc k) low = some_at ys k (omega (arith, low))

pub last_at : (r : ℕ) (ys : List Found) (k : ℕ) (x : Found) → slice_get ys k ≡ Some x → get_or (flushed_of (marks_from r ys)) k 0 ≡ x.flushed
last_at r [] k x e = absurd (cc e)
last_at r (y ∷ ys) zero x e = ap (λ (f : Found). f.flushed) (same_of y x e)
last_at r (y ∷ ys) (suc k) x e = last_at (r + 1) ys k x e
