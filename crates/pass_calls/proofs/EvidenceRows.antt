-- Where what is counted of a put tells that it didn't ask the log, or didn't look.
use Rattle.std.proofs.Common.{◌≡◌, inl, inr, ℕ, zero, suc, ◌-◌, ◌^◌, ◌≤◌, true, false, true≢false, None, Ok, Err, refl, sym, ap, arith}
use Rattle.region_lock.specs.log_service.declared.tally.Asked.{Asked}
use Rattle.region_lock.specs.log_service.declared.tally.Watch.{Watch}
use Rattle.region_lock.specs.log_service.Tallies.{risen, asked_for, found_full, watched, HasAsked}
use Rattle.region_lock.specs.declared.answers.PutRefusal.TheVariants as put
use Rattle.region_lock.specs.Puts.{AsksLog, HasLooked}

-- three requests were pushed, the last of region 1 up to 7; and the ring was found full twice, with five looks, the last of which found the word clear
abbrev asked : Asked
asked = record { requests = 3; region = 1; number = 7 }

abbrev watch : Watch
watch = record { full = 2; looks = 5; broken = false }

unasked_at : (n : ℕ) → n ≡ 3 → n ≡ 4 → ⊥
unasked_at n three four = omega (arith, three, four)

-- a synced put that drew 8 and pushed no request, where no fault was seen
not_asked : AsksLog true 1 (Ok 8) asked asked false → ⊥
not_asked a = elim (a.asks 8 refl refl) as (λ _. ⊥) [
  | inl is ↦ unasked_at 3 refl (ap (λ (t : Asked). t.requests) is)
  | inr left ↦ true≢false (sym left.1)
]

-- one that asked for less than its number
asked_too_low : AsksLog true 1 (Ok 8) asked (asked_for 1 7 asked) false → ⊥
asked_too_low a = elim (a.asks 8 refl refl) as (λ _. ⊥) [
  | inl is ↦ (let low : 7 ≡ 8 = ap (λ (t : Asked). t.number) is in omega (arith, low))
  | inr left ↦ true≢false (sym left.1)
]

-- one that asked for another region
asked_elsewhere : AsksLog true 1 (Ok 8) asked (asked_for 2 8 asked) false → ⊥
asked_elsewhere a = elim (a.asks 8 refl refl) as (λ _. ⊥) [
  | inl is ↦ (let other : 2 ≡ 1 = ap (λ (t : Asked). t.region) is in omega (arith, other))
  | inr left ↦ true≢false (sym left.1)
]

least : (k n : ℕ) → n ≤ 2 ^ 64 - 1 → n ≤ risen k n
least zero n small = omega arith
least (suc k) n small = let low = least k n small in omega (arith, low, small)

-- a put that looked at the start alone, though the ring was full once
look_left_out_at : (k : ℕ) → 3 ≡ risen k 2 → 6 ≡ risen (suc k) 5 → ⊥
look_left_out_at zero full looks = omega (arith, full)
look_left_out_at (suc zero) full looks = omega (arith, looks)
look_left_out_at (suc (suc k)) full looks = let low = least k 2 (omega arith) in omega (arith, full, low)

look_left_out : HasLooked (Ok 8) watch (watched false (found_full watch)) → ⊥
look_left_out h = look_left_out_at h.count h.each.full h.each.looked

-- one that never looked
never_looked_at : (k : ℕ) → 5 ≡ risen (suc k) 5 → ⊥
never_looked_at k looks = let low = least k 5 (omega arith) in omega (arith, low, looks)

never_looked : HasLooked (Ok 8) watch watch → ⊥
never_looked h = never_looked_at h.count h.each.looked

-- a fault told where the look found the word clear, and a number drawn where it found the word set
told_unseen : HasLooked (Err (put.WriteFault None)) watch (watched false watch) → ⊥
told_unseen h = true≢false (sym (h.set refl))

drawn_after_fault : HasLooked (Ok 8) watch (watched true watch) → ⊥
drawn_after_fault h = true≢false (h.clear (λ e. cc e))
