-- Calls counted region by region, and all at once.
use Rattle.std.proofs.Common.{◌≡◌, ℕ, zero, suc, ◌+◌, ◌<◌, ◌≤◌, ◌==◌, Bool, true, false, cond, List, [], ◌∷◌, ◌++◌, length, filter, Contains, count_by, refl, sym, ap, ◌∙◌, arith, inl, inr}
use Rattle.std.specs.List.{flat_map}
use Rattle.std.proofs.lemmas.Bool.{cases_eq, eq-eqb, ne_eqb}
use Rattle.std.proofs.lemmas.List.Sums.{sum_by-cons, sum_by-append}
use Rattle.cell_model.specs.Batch.{Batch}
use Rattle.region_model.specs.Calls.{Call, Put, Scan, Flush, Roll}
use Rattle.script_model.specs.Calls.{Asked, asked_of, asked_from, IsAmong}
use Rattle.server_model.proofs.JournalLaws.{contains_cons}
use Rattle.made_script.specs.Counts.{is_put}
use Rattle.load_model.specs.Loaded.{sum_over}

-- ---- sums over regions

pub sum_plus : (f g : ℕ → ℕ) (a n : ℕ) → sum_over (λ r. f r + g r) a n ≡ sum_over f a n + sum_over g a n
sum_plus f g a zero = refl
sum_plus f g a (suc n) = omega (arith, sum_plus f g (a + 1) n)

pub sum_same : (f g : ℕ → ℕ) (a n : ℕ) → ((r : ℕ) → a ≤ r → r < a + n → f r ≡ g r) → sum_over f a n ≡ sum_over g a n
sum_same f g a zero same = refl
sum_same f g a (suc n) same =
    omega (arith, same a (omega arith) (omega arith), sum_same f g (a + 1) n (λ r low high. same r (omega (arith, low)) (omega (arith, high))))

sum_zeros : (a n : ℕ) → sum_over (λ r. 0) a n ≡ 0
sum_zeros a zero = refl
sum_zeros a (suc n) = omega (arith, sum_zeros (a + 1) n)

pub sum_none : (f : ℕ → ℕ) (a n : ℕ) → ((r : ℕ) → a ≤ r → r < a + n → f r ≡ 0) → sum_over f a n ≡ 0
sum_none f a n none = sum_same f (λ r. 0) a n none ∙ sum_zeros a n

pub sum_split : (f : ℕ → ℕ) (a m n : ℕ) → sum_over f a (m + n) ≡ sum_over f a m + sum_over f (a + m) n
sum_split f a zero n =
    let all : 0 + n ≡ n = omega arith in
    let first : a + 0 ≡ a = omega arith in
    let left : sum_over f a (0 + n) ≡ sum_over f a n = ap (sum_over f a) all in
    let right : sum_over f (a + 0) n ≡ sum_over f a n = ap (λ b. sum_over f b n) first in
    omega (arith, left, right)
sum_split f a (suc m) n =
    let all : suc m + n ≡ suc (m + n) = omega arith in
    let first : a + 1 + m ≡ a + suc m = omega arith in
    let left : sum_over f a (suc m + n) ≡ f a + sum_over f (a + 1) (m + n) = ap (sum_over f a) all in
    let right : sum_over f (a + 1 + m) n ≡ sum_over f (a + suc m) n = ap (λ b. sum_over f b n) first in
    let more : sum_over f (a + 1) (m + n) ≡ sum_over f (a + 1) m + sum_over f (a + 1 + m) n = sum_split f (a + 1) m n in
    omega (arith, left, right, more)

-- one region alone counts one
sum_one : (q a n : ℕ) → a ≤ q → q < a + n → sum_over (λ r. cond (q == r) 1 0) a n ≡ 1
sum_one q a zero low high = absurd (omega (arith, low, high))
sum_one q a (suc n) low high = elim (cases_eq q a) [
  | inl same ↦
      let here : ◌≡◌ {A = ℕ} (cond (q == a) 1 0) 1 = ap (λ b. cond b 1 0) (eq-eqb q a same) in
      let rest : sum_over (λ r. cond (q == r) 1 0) (a + 1) n ≡ 0 =
      sum_none (λ r. cond (q == r) 1 0) (a + 1) n (λ r above below. ap (λ b. cond b 1 0) (ne_eqb q r (λ is. omega (arith, same, is, above)))) in
      omega (arith, here, rest)
  | inr other ↦
      let here : ◌≡◌ {A = ℕ} (cond (q == a) 1 0) 0 = ap (λ b. cond b 1 0) (ne_eqb q a other) in
      let rest : sum_over (λ r. cond (q == r) 1 0) (a + 1) n ≡ 1 = sum_one q (a + 1) n (omega (arith, low, other)) (omega (arith, high)) in
      omega (arith, here, rest)
]

-- ---- tallies

-- how many of these calls pass
abbrev pub tally : (Call → Bool) → List Asked → ℕ
tally p [] = 0
tally p (a ∷ xs) = cond (p a.call) 1 0 + tally p xs

tally_append : (p : Call → Bool) (xs bs : List Asked) → tally p (xs ++ bs) ≡ tally p xs + tally p bs
tally_append p [] bs = omega arith
tally_append p (a ∷ xs) bs = omega (arith, tally_append p xs bs)

tally_of : (p : Call → Bool) (h n : ℕ) (calls : List Call) → tally p (asked_of h n calls) ≡ count_by p calls
tally_of p h n [] = refl
tally_of p h n (c ∷ cs) = omega (arith, tally_of p h (n + 1) cs, sum_by-cons (λ x. cond (p x) 1 0) c cs)

-- the calls that a script asks are those of its handlers
pub tally_from : (p : Call → Bool) (h : ℕ) (lists : List (List Call)) → tally p (asked_from h lists) ≡ count_by p (flat_map (λ calls. calls) lists)
tally_from p h [] = refl
tally_from p h (cs ∷ css) =
    tally_append p (asked_of h 1 cs) (asked_from (h + 1) css)
    ∙ (λ i. tally_of p h 1 cs i + tally_from p (h + 1) css i)
    ∙ sym (sum_by-append (λ x. cond (p x) 1 0) cs (flat_map (λ calls. calls) css))

pub tally_filter : (p : Call → Bool) (xs : List Asked) → length (filter (λ (a : Asked). p a.call) xs) ≡ tally p xs
tally_filter p [] = refl
tally_filter p (a ∷ xs) = elim (p a.call) as (λ b. length (cond b (a ∷ filter (λ (z : Asked). p z.call) xs) (filter (λ (z : Asked). p z.call) xs)) ≡ cond b 1 0 + tally p xs) [
  | true ↦ omega (arith, tally_filter p xs)
  | false ↦ omega (arith, tally_filter p xs)
]

pub tally_length : (p : Call → Bool) (xs : List Asked) → tally p xs ≤ length xs
tally_length p [] = omega arith
tally_length p (a ∷ xs) = elim (p a.call) as (λ b. cond b 1 0 + tally p xs ≤ suc (length xs)) [
  | true ↦ omega (arith, tally_length p xs)
  | false ↦ omega (arith, tally_length p xs)
]

-- ---- puts

-- the call is a put into the region
abbrev pub puts_on : ℕ → Call → Bool
puts_on r (Put region sync batch) = region == r
puts_on r (Scan view region from to) = false
puts_on r (Flush region family) = false
puts_on r Roll = false

one_call : (n : ℕ) (c : Call) → IsAmong n c → sum_over (λ r. cond (puts_on r c) 1 0) 1 n ≡ cond (is_put c) 1 0
one_call n (Put region sync batch) among = sum_one region 1 n among.0 (omega (arith, among.1))
one_call n (Scan view region from to) among = sum_zeros 1 n
one_call n (Flush region family) among = sum_zeros 1 n
one_call n Roll among = sum_zeros 1 n

-- Each put is into one of the regions.
pub by_region : (n : ℕ) (xs : List Asked) → ((a : Asked) → Contains xs a → IsAmong n a.call) → sum_over (λ r. tally (puts_on r) xs) 1 n ≡ tally is_put xs
by_region n [] among = sum_zeros 1 n
by_region n (a ∷ xs) among =
    let rest : sum_over (λ r. tally (puts_on r) xs) 1 n ≡ tally is_put xs = by_region n xs (λ b is. among b (contains_cons a xs b is)) in
    let here : sum_over (λ r. cond (puts_on r a.call) 1 0) 1 n ≡ cond (is_put a.call) 1 0 = one_call n a.call (among a (0, omega arith, refl)) in
    sum_plus (λ r. cond (puts_on r a.call) 1 0) (λ r. tally (puts_on r) xs) 1 n ∙ (λ i. here i + rest i)

-- no put is into a region above them
pub none_above : (n r : ℕ) (xs : List Asked) → n < r → ((a : Asked) → Contains xs a → IsAmong n a.call) → tally (puts_on r) xs ≡ 0
none_above n r [] above among = refl
none_above n r (a ∷ xs) above among =
    omega (arith, not_here a.call (among a (0, omega arith, refl)), none_above n r xs above (λ b is. among b (contains_cons a xs b is)))
  where
    not_here : (c : Call) → IsAmong n c → ◌≡◌ {A = ℕ} (cond (puts_on r c) 1 0) 0
    not_here (Put region sync batch) within = ap (λ b. cond b 1 0) (ne_eqb region r (λ is. omega (arith, is, within.1, above)))
    not_here (Scan view region from to) within = refl
    not_here (Flush region family) within = refl
    not_here Roll within = refl

-- ---- calls that pass

pub puts_there : (r : ℕ) (c : Call) → puts_on r c ≡ true → (sync : Bool) × (batch : Batch) × (c ≡ Put r sync batch)
puts_there r (Put region sync batch) is = elim (cases_eq region r) [
  | inl same ↦ (sync, batch, ap (λ q. Put q sync batch) same)
  | inr other ↦ let no : true ≡ false = sym is ∙ ne_eqb region r other in absurd cc
]
puts_there r (Scan view region from to) is = absurd cc
puts_there r (Flush region family) is = absurd cc
puts_there r Roll is = absurd cc

pub put_passes : (r : ℕ) (sync : Bool) (batch : Batch) (c : Call) → c ≡ Put r sync batch → puts_on r c ≡ true
put_passes r sync batch c is = ap (puts_on r) is ∙ eq-eqb r r refl
