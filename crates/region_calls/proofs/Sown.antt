-- What is made of the regions that were found, one by one.
use Rattle.std.proofs.Common.{◌≡◌, ℕ, zero, suc, ◌+◌, ◌≤◌, List, [], ◌∷◌, ◌++◌, length, map, take, refl, sym, ap, ◌∙◌, subst, arith}
use Rattle.std.proofs.lemmas.List.{map-append, length-map}
use Rattle.region_model.specs.Journal.{Base}
use Rattle.region_replay.specs.Ready.{Found}
use Rattle.log_ledger.specs.declared.base.RegionBase.{RegionBase}
use Rattle.log_ledger.specs.Bases.{IsBase}
use Rattle.region_calls.specs.declared.seeds.RegionSeeds.{RegionSeeds}
use Rattle.region_calls.specs.Seeds.{IsSeed, AreSeeds, base_of, bases_found, lasts_of, mark, marks_from, flushed_of}

pub marks_push : (r : ℕ) (xs : List Found) (x : Found) (n : ℕ) → n ≡ r + length xs → marks_from r (xs ++ x ∷ []) ≡ marks_from r xs ++ mark n x ∷ []
marks_push r [] x n e = ap (λ k. mark k x ∷ []) (omega (arith, e))
marks_push r (y ∷ ys) x n e = ap (λ l. mark r y ∷ l) (marks_push (r + 1) ys x n (omega (arith, e)))

-- each mark is within the limits
abbrev pub AreWithin : List RegionBase → Type 0
AreWithin [] = Unit {0}
AreWithin (m ∷ ms) = IsBase m × AreWithin ms

pub within_push : (ms : List RegionBase) (m : RegionBase) → AreWithin ms → IsBase m → AreWithin (ms ++ m ∷ [])
within_push [] m a b = (b, tt)
within_push (x ∷ xs) m a b = (a.0, within_push xs m a.1 b)

pub seeds_push : (h r : ℕ) (ss : List RegionSeeds) (s : RegionSeeds) (n : ℕ) → AreSeeds h r ss → n ≡ r + length ss → IsSeed h n s → AreSeeds h r (ss ++ s ∷ [])
seeds_push h r [] s n a e b = (subst (λ k. IsSeed h k s) (omega (arith, e)) b, tt)
seeds_push h r (x ∷ xs) s n a e b = (a.0, seeds_push h (r + 1) xs s n a.1 (omega (arith, e)) b)

pub bases_push : (ss : List RegionSeeds) (s : RegionSeeds) (ys : List Found) (x : Found) → map base_of ss ≡ bases_found ys → s.state.base ≡ x.base → map base_of (ss ++ s ∷ []) ≡ bases_found (ys ++ x ∷ [])
bases_push ss s ys x e b =
    map-append base_of ss (s ∷ []) ∙ ap (λ (l : List Base). l ++ s.state.base ∷ []) e ∙ ap (λ (y : Base). bases_found ys ++ y ∷ []) b ∙ sym (map-append (λ (f : Found). f.base) ys (x ∷ []))

pub lasts_push : (zs : List Found) (z : Found) → lasts_of (bases_found (zs ++ z ∷ [])) ≡ lasts_of (bases_found zs) ++ z.base.last ∷ []
lasts_push [] z = refl
lasts_push (w ∷ ws) z = ap (λ (l : List ℕ). w.base.last ∷ l) (lasts_push ws z)

pub flushed_push : (ms : List RegionBase) (m : RegionBase) (ys : List Found) (x : Found) → flushed_of ms ≡ lasts_of (bases_found ys) → m.flushed ≡ x.base.last → flushed_of (ms ++ m ∷ []) ≡ lasts_of (bases_found (ys ++ x ∷ []))
flushed_push ms m ys x e f =
    map-append (λ (n : RegionBase). n.flushed) ms (m ∷ []) ∙ ap (λ (l : List ℕ). l ++ m.flushed ∷ []) e ∙ ap (λ (n : ℕ). lasts_of (bases_found ys) ++ n ∷ []) f ∙ sym (lasts_push ys x)

pub take_none : {A : Type 0} → (n : ℕ) → take {A = A} n [] ≡ []
take_none zero = refl
take_none (suc n) = refl

pub take_over : {A : Type 0} → (n : ℕ) (xs : List A) → length xs ≤ n → take n xs ≡ xs
take_over n [] e = take_none n
take_over zero (x ∷ xs) e = absurd (omega (arith, e))
take_over (suc n) (x ∷ xs) e = ap (λ l. x ∷ l) (take_over n xs (omega (arith, e)))

pub lasts_count : (xs : List Found) → length (lasts_of (bases_found xs)) ≡ length xs
lasts_count xs = length-map (bases_found xs) (λ (b : Base). b.last) ∙ length-map xs (λ (x : Found). x.base)
