-- How many entries trucks have, and how high sequence ids are.
use Rattle.std.proofs.Common.{◌≡◌, inl, inr, ℕ, zero, suc, ◌+◌, ◌-◌, ◌*◌, ◌^◌, ◌<◌, ◌≤◌, List, [], ◌∷◌, length, Contains, refl, ap, subst, arith}
use Rattle.std.proofs.lemmas.Bool.{cases_eq}
use Rattle.std.proofs.lemmas.Bool.Decides.{nat_tests}
use Rattle.log_model.specs.Entry.{Entry}
use Rattle.log_model.specs.LogText.{IsEntryOf, in_version}
use Rattle.log_model.specs.Files.{Files, key_of as file_key, IsLogged}
use Rattle.log_model.specs.Recovered.{IsLast}
use Rattle.log_model.proofs.TextLaws.{HasVersion, with_version}
use Rattle.recovery_laws.specs.Kept.{Kept, IsOrderly, lasts}
use Rattle.recovery_laws.proofs.Lists.{none_in, first_or_later, entries_in}
use Rattle.recovery_laws.proofs.Rising.{last_is}
use Rattle.log_trucks.specs.Held.{Held, AreHeld}
use Rattle.log_halves.specs.Trucks.{FollowOn, onward}

entry_low : (J : Files) (e : Entry) → IsLogged J e → e.number < 2 ^ 48
entry_low J e h = go (with_version (file_key h.name) h.file.bytes h.entries h.file.ended h.file.text)
  where
    go : HasVersion (file_key h.name) h.file.bytes h.entries h.file.ended → e.number < 2 ^ 48
    go (version, known, inl short) = absurd (none_in e (subst (λ (l : List Entry). Contains l e) short.1 h.member))
    go (version, known, inr long) = (entries_in (IsEntryOf (in_version version (file_key h.name))) h.entries e long.1.each h.member).entry.number

-- the last sequence id of files
pub last_low : (J : Files) (r n : ℕ) → IsLast J r n → n < 2 ^ 48
last_low J r n last = elim last.reached as (λ _. n < 2 ^ 48) [
  | inl seen ↦ elim seen as (λ _. n < 2 ^ 48) [
    | inl flushes ↦ subst (λ (m : ℕ). m < 2 ^ 48) flushes.3 flushes.2.file.text.store.limit
    | inr logged ↦ subst (λ (m : ℕ). m < 2 ^ 48) logged.3 (entry_low J logged.0 logged.1)
  ]
  | inr none ↦ omega (arith, none)
]

-- an entry of trucks
pub held_low : (ts : List Held) (es : List Entry) (e : Entry) → AreHeld ts es → Contains es e → e.number < 2 ^ 48
held_low [] [] e h is = absurd (none_in e is)
held_low [] (x ∷ xs) e h is = absurd h
held_low (t ∷ ts) [] e h is = absurd h
held_low (t ∷ ts) (x ∷ xs) e h is = elim (first_or_later x xs e is) as (λ _. e.number < 2 ^ 48) [
  | inl here ↦ subst (λ (d : Entry). d.number < 2 ^ 48) here h.0.entry.number
  | inr later ↦ held_low ts xs e h.1 later
]

-- the last sequence id of a region
pub lasts_low : (k : Kept) (ts : List Held) (r : ℕ) → IsOrderly k → AreHeld ts k.durable → lasts k.first k.durable r < 2 ^ 48
lasts_low k ts r orderly held = elim (last_is r (k.first r) k.durable) as (λ _. lasts k.first k.durable r < 2 ^ 48) [
  | inl e ↦ (let low = held_low ts k.durable e.0 held e.1 in omega (arith, e.3, low))
  | inr same ↦ omega (arith, same, last_low k.base r (k.first r) (orderly.begun r))
]

-- an entry of trucks in a row
pub held_entry : (n : ℕ) (last : ℕ → ℕ) (ts : List Held) (es : List Entry) (e : Entry) → FollowOn n last ts → AreHeld ts es → Contains es e → (e.region ≤ n) × (e.number < 2 ^ 48)
held_entry n last [] [] e f h is = absurd (none_in e is)
held_entry n last [] (x ∷ xs) e f h is = absurd h
held_entry n last (t ∷ ts) [] e f h is = absurd h
held_entry n last (t ∷ ts) (x ∷ xs) e f h is = elim (first_or_later x xs e is) as (λ _. (e.region ≤ n) × (e.number < 2 ^ 48)) [
  | inl here ↦ subst (λ (d : Entry). (d.region ≤ n) × (d.number < 2 ^ 48)) here ((let region = h.0.region in omega (arith, region, f.0.0.1)), h.0.entry.number)
  | inr later ↦ held_entry n (onward last t) ts xs e f.1 h.1 later
]

onward_here : (last : ℕ → ℕ) (t : Held) (r : ℕ) → t.region ≡ r → onward last t r ≡ t.number
onward_here last t r is = grind (arith, nat_tests)

onward_other : (last : ℕ → ℕ) (t : Held) (r : ℕ) → (t.region ≡ r → ⊥) → onward last t r ≡ last r
onward_other last t r other = grind (arith, nat_tests)

-- how many sequence ids regions 1 to n have left behind their last ones
abbrev pub left_of : ℕ → (ℕ → ℕ) → ℕ
left_of zero last = 0
left_of (suc n) last = (2 ^ 48 - last (suc n)) + left_of n last

pub left_most : (n : ℕ) (last : ℕ → ℕ) → left_of n last ≤ n * 2 ^ 48
left_most zero last = omega arith
left_most (suc n) last = let rest = left_most n last in omega (arith, rest)

left_far : (n : ℕ) (last : ℕ → ℕ) (t : Held) → n < t.region → left_of n (onward last t) ≡ left_of n last
left_far zero last t far = refl
left_far (suc n) last t far =
    let here = onward_other last t (suc n) (λ is. absurd (omega (arith, is, far))) in
    let rest = left_far n last t (omega (arith, far)) in
    λ i. (2 ^ 48 - here i) + rest i

left_less : (n : ℕ) (last : ℕ → ℕ) (t : Held) → 1 ≤ t.region → t.region ≤ n → t.number ≡ last t.region + 1 → t.number < 2 ^ 48 → left_of n (onward last t) + 1 ≡ left_of n last
left_less zero last t low high next small = absurd (omega (arith, low, high))
left_less (suc n) last t low high next small = elim (cases_eq t.region (suc n)) as (λ _. left_of (suc n) (onward last t) + 1 ≡ left_of (suc n) last) [
  | inl is ↦
      let here = onward_here last t (suc n) is in
      let was : last t.region ≡ last (suc n) = ap last is in
      let rest = left_far n last t (omega (arith, is)) in
      omega (arith, here, was, next, small, rest)
  | inr other ↦
      let here = onward_other last t (suc n) other in
      let rest = left_less n last t low (omega (arith, high, other)) next small in
      omega (arith, here, rest)
]

-- trucks in a row are no more than these
pub held_few : (n : ℕ) (last : ℕ → ℕ) (ts : List Held) (es : List Entry) → FollowOn n last ts → AreHeld ts es → length es ≤ left_of n last
held_few n last [] [] f h = omega arith
held_few n last [] (e ∷ es) f h = absurd h
held_few n last (t ∷ ts) [] f h = absurd h
held_few n last (t ∷ ts) (e ∷ es) f h =
    let number = h.0.number in
    let one = left_less n last t f.0.0.0 f.0.0.1 f.0.1 (omega (arith, number, h.0.entry.number)) in
    let rest = held_few n (onward last t) ts es f.1 h.1 in
    omega (arith, one, rest)
