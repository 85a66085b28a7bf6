-- Each flush that comes off takes a family of an entry from those that are not flushed, so there are no more flushes than families.
use Rattle.std.proofs.Common.{◌≡◌, ◌⊎◌, inl, inr, ℕ, ◌+◌, ◌*◌, ◌^◌, ◌<◌, ◌≤◌, Bool, true, false, leb, if◌then◌else◌, List, [], ◌∷◌, ◌++◌, length, refl, sym, ap, subst, ◌∙◌, arith, Contains, append_assoc}
use Rattle.std.specs.List.{AllByRecursion}
use Rattle.std.proofs.lemmas.Bool.Decides.{nat_tests}
use Rattle.std.proofs.lemmas.List.Elements.{Contains-append_cases, Contains-push_cases}
use Rattle.seq_accounting.specs.Noted.{Note}
use Rattle.seq_accounting.specs.Live.{live_of, live, families_of, AreCounted, AreRisingTo, NoteIsCounted, FlushIsCounted, FlushesAreFew}

abbrev one : ℕ → ℕ → ℕ
one n m = if leb n m then 0 else 1

one_less : (n a b : ℕ) → a ≤ b → one n b ≤ one n a
one_less n a b le = grind (arith, nat_tests)

one_goes : (n a b : ℕ) → a < n → n ≤ b → one n b + 1 ≤ one n a
one_goes n a b lt le = grind (arith, nat_tests)

one_most : (n m : ℕ) → one n m ≤ 1
one_most n m = grind (arith, nat_tests)

live_of_less : (old new : List ℕ → ℕ) → ((f : List ℕ) → old f ≤ new f) → (n : ℕ) (fs : List (List ℕ)) → live_of new n fs ≤ live_of old n fs
live_of_less old new le n [] = omega arith
live_of_less old new le n (f ∷ fs) = omega (arith, one_less n (old f) (new f) (le f), live_of_less old new le n fs)

pub live_less : (old new : List ℕ → ℕ) → ((f : List ℕ) → old f ≤ new f) → (xs : List Note) → live new xs ≤ live old xs
live_less old new le [] = omega arith
live_less old new le (x ∷ xs) = omega (arith, live_of_less old new le x.number x.families, live_less old new le xs)

live_of_most : (flushed : List ℕ → ℕ) (n : ℕ) (fs : List (List ℕ)) → live_of flushed n fs ≤ length fs
live_of_most flushed n [] = omega arith
live_of_most flushed n (f ∷ fs) = omega (arith, one_most n (flushed f), live_of_most flushed n fs)

-- one entry more has no more than its families
pub live_more : (flushed : List ℕ → ℕ) (xs : List Note) (x : Note) → live flushed (xs ++ x ∷ []) ≤ live flushed xs + length x.families
live_more flushed [] x = omega (arith, live_of_most flushed x.number x.families)
live_more flushed (y ∷ xs) x = omega (arith, live_more flushed xs x)

-- ---- what is in a list is first or after

pub first_or_behind : {X : Type 0} (x y : X) (xs : List X) → Contains (x ∷ xs) y → (x ≡ y) ⊎ Contains xs y
first_or_behind {X} x y xs h = elim (Contains-append_cases (x ∷ []) xs y h) as (λ _. (x ≡ y) ⊎ Contains xs y) [
  | inl first ↦ elim (Contains-push_cases [] x y first) as (λ _. (x ≡ y) ⊎ Contains xs y) [ inl none ↦ absurd (nothing y none) | inr is ↦ inl is ]
  | inr behind ↦ inr behind
]
  where
    nothing : (z : X) → Contains [] z → ⊥
    nothing z n = omega (arith, n.1)

live_of_drops : (old new : List ℕ → ℕ) → ((f : List ℕ) → old f ≤ new f) → (n : ℕ) (fs : List (List ℕ)) (f : List ℕ) → Contains fs f → old f < n → n ≤ new f → live_of new n fs + 1 ≤ live_of old n fs
live_of_drops old new le n [] f there lt ge = absurd (omega (arith, there.1))
live_of_drops old new le n (g ∷ fs) f there lt ge = elim (first_or_behind g f fs there) as (λ _. live_of new n (g ∷ fs) + 1 ≤ live_of old n (g ∷ fs)) [
  | inl is ↦ omega (arith, one_goes n (old g) (new g) (subst (λ (h : List ℕ). old h < n) (sym is) lt) (subst (λ (h : List ℕ). n ≤ new h) (sym is) ge), live_of_less old new le n fs)
  | inr behind ↦ omega (arith, one_less n (old g) (new g) (le g), live_of_drops old new le n fs f behind lt ge)
]

-- where an entry has a family that is flushed now and wasn't, one is gone
pub live_drops : (old new : List ℕ → ℕ) → ((f : List ℕ) → old f ≤ new f) → (xs : List Note) (x : Note) (f : List ℕ) → Contains xs x → Contains x.families f → old f < x.number → x.number ≤ new f → live new xs + 1 ≤ live old xs
live_drops old new le [] x f there has lt ge = absurd (omega (arith, there.1))
live_drops old new le (y ∷ xs) x f there has lt ge = elim (first_or_behind y x xs there) as (λ _. live new (y ∷ xs) + 1 ≤ live old (y ∷ xs)) [
  | inl is ↦ omega (arith, subst (λ (z : Note). live_of new z.number z.families + 1 ≤ live_of old z.number z.families) (sym is) (live_of_drops old new le x.number x.families f has lt ge), live_less old new le xs)
  | inr behind ↦ omega (arith, live_of_less old new le y.number y.families, live_drops old new le xs x f behind has lt ge)
]

-- ---- so flushes that came off are no more than families of noted entries

families_more : (xs : List Note) (x : Note) → families_of (xs ++ x ∷ []) ≡ families_of xs + length x.families
families_more [] x = omega arith
families_more (y ∷ xs) x = omega (arith, families_more xs x)

pub counted_note : (flushes : ℕ) (flushed : List ℕ → ℕ) (xs : List Note) (x : Note) → AreCounted flushes flushed xs → AreCounted flushes flushed (xs ++ x ∷ [])
counted_note flushes flushed xs x h = omega (arith, h, live_more flushed xs x, families_more xs x)

pub counted_flush : (flushes : ℕ) (old new : List ℕ → ℕ) (xs : List Note) (x : Note) (f : List ℕ) → ((g : List ℕ) → old g ≤ new g) → Contains xs x → Contains x.families f → old f < x.number → x.number ≤ new f
    → AreCounted flushes old xs → AreCounted (flushes + 1) new xs
counted_flush flushes old new xs x f le there has lt ge h = omega (arith, h, live_drops old new le xs x f there has lt ge)

-- an entry has at most 1,024 families
pub families_bound : (xs : List Note) → AllByRecursion (λ (x : Note). length x.families ≤ 1024) xs → families_of xs ≤ 1024 * length xs
families_bound [] h = omega arith
families_bound (x ∷ xs) h = omega (arith, h.0, families_bound xs h.1)

pub few_rise : (first : ℕ) (xs : List Note) (last : ℕ) → AreRisingTo first xs last → first + length xs ≤ last
few_rise first [] last h = omega (arith, h)
few_rise first (x ∷ xs) last h = omega (arith, h.0, few_rise x.number xs last h.1)

-- so a region has fewer than 2^58 new stores
pub few_flushes : (flushes : ℕ) (flushed : List ℕ → ℕ) (xs : List Note) (first last : ℕ) → AreCounted flushes flushed xs → AllByRecursion (λ (x : Note). length x.families ≤ 1024) xs → AreRisingTo first xs last → last < 2 ^ 48 → flushes < 2 ^ 58
few_flushes flushes flushed xs first last h each rise lt = omega (arith, h, families_bound xs each, few_rise first xs last rise, lt)

pub note_is_counted : NoteIsCounted
note_is_counted flushes flushed xs x h = counted_note flushes flushed xs x h

pub flush_is_counted : FlushIsCounted
flush_is_counted flushes old new xs t h = counted_flush flushes old new xs t.note t.family t.raises t.there t.has t.before t.after h

pub flushes_are_few : FlushesAreFew
flushes_are_few flushes flushed xs first last h each rise lt = few_flushes flushes flushed xs first last h each rise lt
