-- Lists of numbers read by index, and the views of a table after one is set.
use Rattle.std.proofs.Common.{◌≡◌, ◌≢◌, ◌⊎◌, ℕ, zero, suc, ◌+◌, ◌<◌, ◌≤◌, true, max, min, List, [], ◌∷◌, ◌++◌, length, get_or, take, set, refl, sym, ap, ◌∙◌, subst, ⊎_elim, inl, inr, arith, le_refl}
use mathlib.Core.Option.{some, some-injective, some-ne-none}
use mathlib.Core.Logic.{dite}
use native.Mathlib.Decide.{ℕ_discrete}
use lib.ListN.{get_elem?}
use Rattle.atomic_table.proofs.Lists.{at_set}
use Rattle.log_berth.specs.declared.known.Known.{Known}
use Rattle.log_berth.specs.Words.{noted, greater, lesser, starts, NoMore, parts_of, HasHolder}
use Rattle.atomic_table.proofs.Lists.{set_else}

pub noted_same : (xs : List ℕ) (i x : ℕ) → get_or (noted xs i x) i 0 ≡ x
noted_same [] zero x = refl
noted_same [] (suc i) x = noted_same [] i x
noted_same (y ∷ ys) zero x = refl
noted_same (y ∷ ys) (suc i) x = noted_same ys i x

pub noted_other : (xs : List ℕ) (i j x : ℕ) → j ≢ i → get_or (noted xs i x) j 0 ≡ get_or xs j 0
noted_other [] zero zero x n = absurd (n refl)
noted_other [] zero (suc j) x n = refl
noted_other [] (suc i) zero x n = refl
noted_other [] (suc i) (suc j) x n = noted_other [] i j x (λ e. n (ap suc e))
noted_other (y ∷ ys) zero zero x n = absurd (n refl)
noted_other (y ∷ ys) zero (suc j) x n = refl
noted_other (y ∷ ys) (suc i) zero x n = refl
noted_other (y ∷ ys) (suc i) (suc j) x n = noted_other ys i j x (λ e. n (ap suc e))

-- what holds of x at i and of the old number elsewhere holds after `noted`
pub noted_each : (P : ℕ → ℕ → Type 0) (xs : List ℕ) (i x : ℕ) → P i x → ((j : ℕ) → P j (get_or xs j 0)) → (j : ℕ) → P j (get_or (noted xs i x) j 0)
noted_each P xs i x here old j =
    dite (ℕ_discrete j i)
    (λ e. subst (λ (k : ℕ). P k (get_or (noted xs i x) k 0)) (sym e) (subst (P i) (sym (noted_same xs i x)) here))
    (λ ne. subst (P j) (sym (noted_other xs i j x ne)) (old j))

pub greater_at : (xs ys : List ℕ) (i : ℕ) → get_or (greater xs ys) i 0 ≡ max (get_or xs i 0) (get_or ys i 0)
greater_at [] ys i = let z : max 0 (get_or ys i 0) ≡ get_or ys i 0 = omega arith in sym z
greater_at (x ∷ xs) [] zero = omega arith
greater_at (x ∷ xs) [] (suc i) = omega arith
greater_at (x ∷ xs) (y ∷ ys) zero = refl
greater_at (x ∷ xs) (y ∷ ys) (suc i) = greater_at xs ys i

pub lesser_at : (xs ys : List ℕ) (i : ℕ) → get_or (lesser xs ys) i 0 ≡ min (get_or xs i 0) (get_or ys i 0)
lesser_at [] ys i = omega arith
lesser_at (x ∷ xs) [] i = omega arith
lesser_at (x ∷ xs) (y ∷ ys) zero = refl
lesser_at (x ∷ xs) (y ∷ ys) (suc i) = lesser_at xs ys i

-- the numbers that the first n regions start with
pub starts_at : (n : ℕ) (xs : List ℕ) (i : ℕ) → i < n → get_or (starts n xs) i 0 ≡ get_or xs i 0
starts_at zero xs i low = absurd (omega arith)
starts_at (suc n) [] zero low = refl
starts_at (suc n) [] (suc i) low = starts_at n [] i (omega arith)
starts_at (suc n) (x ∷ xs) zero low = refl
starts_at (suc n) (x ∷ xs) (suc i) low = starts_at n xs i (omega arith)

pub starts_below : (n : ℕ) (xs : List ℕ) → NoMore (starts n xs) xs
starts_below zero xs i = omega arith
starts_below (suc n) [] zero = omega arith
starts_below (suc n) [] (suc i) = starts_below n [] i
starts_below (suc n) (x ∷ xs) zero = le_refl x
starts_below (suc n) (x ∷ xs) (suc i) = starts_below n xs i

starts_suc : (n : ℕ) (xs : List ℕ) → starts (suc n) xs ≡ starts n xs ++ get_or xs n 0 ∷ []
starts_suc zero [] = refl
starts_suc zero (x ∷ xs) = refl
starts_suc (suc n) [] = ap (λ l. 0 ∷ l) (starts_suc n [])
starts_suc (suc n) (x ∷ xs) = ap (λ l. x ∷ l) (starts_suc n xs)

take_set : (ws : List ℕ) (n y : ℕ) → n < length ws → take (suc n) (set ws n y) ≡ take n ws ++ y ∷ []
take_set [] n y low = absurd (omega arith)
take_set (x ∷ xs) zero y low = refl
take_set (x ∷ xs) (suc n) y low = ap (λ l. x ∷ l) (take_set xs n y (omega arith))

-- one region more
pub starts_next : (ws xs : List ℕ) (n y : ℕ) → n < length ws → take n ws ≡ starts n xs → y ≡ get_or xs n 0 → take (n + 1) (set ws n y) ≡ starts (n + 1) xs
starts_next ws xs n y low same is =
    let s : n + 1 ≡ suc n = omega arith in
    subst (λ (k : ℕ). take k (set ws n y) ≡ starts k xs) (sym s) (take_set ws n y low ∙ (ap (λ l. l ++ y ∷ []) same ∙ (ap (λ (z : ℕ). starts n xs ++ z ∷ []) is ∙ sym (starts_suc n xs))))

-- a number other than the one that is set
pub set_elsewhere : (n : ℕ) (ws : List ℕ) (i j y : ℕ) → j ≢ i → get_or (take n (set ws i y)) j 0 ≡ get_or (take n ws) j 0
set_elsewhere zero ws i j y ne = refl
set_elsewhere (suc n) [] i j y ne = refl
set_elsewhere (suc n) (x ∷ xs) zero zero y ne = absurd (ne refl)
set_elsewhere (suc n) (x ∷ xs) zero (suc j) y ne = refl
set_elsewhere (suc n) (x ∷ xs) (suc i) zero y ne = refl
set_elsewhere (suc n) (x ∷ xs) (suc i) (suc j) y ne = set_elsewhere n xs i j y (λ e. ne (ap suc e))

pub set_at : {A : Type 0} (l : List A) (i : ℕ) (a b : A) → get_elem? l i ≡ some a → get_elem? (set l i b) i ≡ some b
set_at [] i a b e = absurd (some-ne-none a (sym e))
set_at (x ∷ xs) zero a b e = refl
set_at (x ∷ xs) (suc i) a b e = set_at xs i a b e

pub at_front : {A : Type 0} (l m : List A) (i : ℕ) (a : A) → get_elem? l i ≡ some a → get_elem? (l ++ m) i ≡ some a
at_front [] m i a e = absurd (some-ne-none a (sym e))
at_front (x ∷ xs) m zero a e = e
at_front (x ∷ xs) m (suc i) a e = at_front xs m i a e

pub at_end : {A : Type 0} (l : List A) (a : A) → get_elem? (l ++ a ∷ []) (length l) ≡ some a
at_end [] a = refl
at_end (x ∷ xs) a = at_end xs a

pub at_snoc_end : {A : Type 0} (l : List A) (a b : A) (j : ℕ) → get_elem? (l ++ a ∷ []) j ≡ some b → (get_elem? l j ≡ some b) ⊎ ((j ≡ length l) × (a ≡ b))
at_snoc_end [] a b zero e = inr (refl, some-injective a b e)
at_snoc_end [] a b (suc j) e = absurd (some-ne-none b (sym e))
at_snoc_end (x ∷ xs) a b zero e = inl e
at_snoc_end (x ∷ xs) a b (suc j) e = ⊎_elim inl (λ (t : (j ≡ length xs) × (a ≡ b)). inr (ap suc t.0, t.1)) (at_snoc_end xs a b j e)

-- the parts after a change of one view
pub parts_set : (views : List Known) (id : ℕ) (v w : Known) → get_elem? views id ≡ some v → parts_of (set views id w) + v.parts ≡ parts_of views + w.parts
parts_set [] id v w e = absurd (some-ne-none v (sym e))
parts_set (x ∷ xs) zero v w e = let same : x.parts ≡ v.parts = ap (λ (y : Known). y.parts) (some-injective x v e) in omega arith
parts_set (x ∷ xs) (suc id) v w e = omega (arith, parts_set xs id v w e)

pub parts_snoc : (views : List Known) (w : Known) → parts_of (views ++ w ∷ []) ≡ parts_of views + w.parts
parts_snoc [] w = omega arith
parts_snoc (x ∷ xs) w = omega (arith, parts_snoc xs w)

-- one view has no more than all
pub parts_at : (views : List Known) (id : ℕ) (v : Known) → get_elem? views id ≡ some v → v.parts ≤ parts_of views
parts_at [] id v e = absurd (some-ne-none v (sym e))
parts_at (x ∷ xs) zero v e = let same : x.parts ≡ v.parts = ap (λ (y : Known). y.parts) (some-injective x v e) in omega arith
parts_at (x ∷ xs) (suc id) v e = omega (arith, parts_at xs id v e)

-- two views have no more than all
pub parts_two : (views : List Known) (i j : ℕ) (v u : Known) → get_elem? views i ≡ some v → get_elem? views j ≡ some u → i ≢ j → v.parts + u.parts ≤ parts_of views
parts_two [] i j v u e f ne = absurd (some-ne-none v (sym e))
parts_two (x ∷ xs) zero zero v u e f ne = absurd (ne refl)
parts_two (x ∷ xs) zero (suc j) v u e f ne = let same : x.parts ≡ v.parts = ap (λ (y : Known). y.parts) (some-injective x v e) in omega (arith, parts_at xs j u f)
parts_two (x ∷ xs) (suc i) zero v u e f ne = let same : x.parts ≡ u.parts = ap (λ (y : Known). y.parts) (some-injective x u f) in omega (arith, parts_at xs i v e)
parts_two (x ∷ xs) (suc i) (suc j) v u e f ne = omega (arith, parts_two xs i j v u e f (λ same. ne (ap suc same)))

module _ (views : List Known) (id : ℕ) (w : Known) where
  -- what holds of the new view and of the others holds of all
  pub each_set : (F : Known → Type 0) → F w → ((j : ℕ) (u : Known) → j ≢ id → get_elem? views j ≡ some u → F u) → (j : ℕ) (u : Known) → get_elem? (set views id w) j ≡ some u → F u
  each_set F mine others j u e =
      ⊎_elim (λ (x : (j ≡ id) × (w ≡ u)). subst F x.1 mine) (λ (x : (j ≢ id) × (get_elem? views j ≡ some u)). others j u x.0 x.1) (at_set views id j w u e)

  -- who has the turn had it before
  pub had : (v : Known) → get_elem? views id ≡ some v → (w.turn ≡ true → v.turn ≡ true) → (j : ℕ) (u : Known) → get_elem? (set views id w) j ≡ some u → u.turn ≡ true
      → (o : Known) × (get_elem? views j ≡ some o) × (o.turn ≡ true)
  had v at less j u e t =
      ⊎_elim
      (λ (x : (j ≡ id) × (w ≡ u)). (v, subst (λ (k : ℕ). get_elem? views k ≡ some v) (sym x.0) at, less (subst (λ (y : Known). y.turn ≡ true) (sym x.1) t)))
      (λ (x : (j ≢ id) × (get_elem? views j ≡ some u)). (u, x.1, t))
      (at_set views id j w u e)

  -- a holder stays where the new view has the turn as the old one did
  pub holder_set : (v : Known) → get_elem? views id ≡ some v → (v.turn ≡ true → w.turn ≡ true) → HasHolder views → HasHolder (set views id w)
  holder_set v at keeps h =
      dite (ℕ_discrete h.0 id)
      (λ e.
      let same : v ≡ h.1 = some-injective v h.1 (sym at ∙ (ap (λ (k : ℕ). get_elem? views k) (sym e) ∙ h.2)) in
      (id, w, set_at views id v w at, keeps (ap (λ (y : Known). y.turn) same ∙ h.3)))
      (λ ne. (h.0, h.1, set_else views id h.0 w ne ∙ h.2, h.3))

-- one number is raised, and is still at most what is durable
pub raised_below : (xs ns ms : List ℕ) (i y : ℕ) → NoMore xs ns → NoMore ns ms → y ≤ get_or ms i 0 → NoMore (noted xs i y) ms
raised_below xs ns ms i y p q here =
    noted_each (λ j z. z ≤ get_or ms j 0) xs i y here (λ j. let a : get_or xs j 0 ≤ get_or ns j 0 = p j in let b : get_or ns j 0 ≤ get_or ms j 0 = q j in omega arith)
