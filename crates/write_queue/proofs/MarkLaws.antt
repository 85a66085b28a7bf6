-- Marks of numbers: which are completed, and the point that they make.
use Rattle.std.proofs.Common.{◌≡◌, ℕ, zero, suc, ◌+◌, ◌-◌, ◌<◌, ◌≤◌, ◌⊎◌, inl, inr, ⊎_elim, List, [], ◌∷◌, ◌++◌, length, set, replicate, slice_get, Bool, true, false, Some, Contains, get_or, refl, sym, ap, ◌∙◌, subst, arith}
use Rattle.std.proofs.lemmas.Option.{slice_get_within}
use Rattle.region_model.specs.Journal.{IsPoint}
use Rattle.write_queue.specs.Numbers.{completed_behind, completed, IsOut, IsOpen, numbers_of}

module _ {A : Type 0} where
  pub contains_head : (x : A) (xs : List A) → Contains (x ∷ xs) x
  contains_head x xs = (0, omega arith, refl)

  pub contains_tail : (y x : A) (xs : List A) → Contains xs x → Contains (y ∷ xs) x
  contains_tail y x xs c = let lt = c.1 in (suc c.0, omega arith, c.2)

  pub contains_cases : (y x : A) (xs : List A) → Contains (y ∷ xs) x → (y ≡ x) ⊎ Contains xs x
  contains_cases y x xs c = at c.0 c.1 c.2
    where
      at : (k : ℕ) → k < length (y ∷ xs) → get_or (y ∷ xs) k x ≡ x → (y ≡ x) ⊎ Contains xs x
      at zero lt e = inl e
      at (suc k) lt e = inr (k, omega arith, e)

-- a number with a mark is completed
pub is_completed : (last : ℕ) (ds : List Bool) (i n : ℕ) → slice_get ds i ≡ Some true → n ≡ last + i + 1 → Contains (completed_behind last ds) n
is_completed last [] i n e is = absurd (cc e)
is_completed last (true ∷ ds) zero n e is =
    let here : last + 1 ≡ n = omega arith in subst (Contains ((last + 1) ∷ completed_behind (last + 1) ds)) here (contains_head (last + 1) (completed_behind (last + 1) ds))
is_completed last (false ∷ ds) zero n e is = absurd (cc e)
is_completed last (true ∷ ds) (suc i) n e is = contains_tail (last + 1) n (completed_behind (last + 1) ds) (is_completed (last + 1) ds i n e (omega arith))
is_completed last (false ∷ ds) (suc i) n e is = is_completed (last + 1) ds i n e (omega arith)

-- a completed number has a mark
pub was_completed : (last : ℕ) (ds : List Bool) (n : ℕ) → Contains (completed_behind last ds) n → (i : ℕ) × (n ≡ last + i + 1) × (slice_get ds i ≡ Some true)
was_completed last [] n c = let lt = c.1 in absurd (omega arith)
was_completed last (true ∷ ds) n c =
    ⊎_elim (λ (e : last + 1 ≡ n). (0, omega arith, refl)) (λ (t : Contains (completed_behind (last + 1) ds) n). later true (was_completed (last + 1) ds n t)) (contains_cases (last + 1) n (completed_behind (last + 1) ds) c)
  where
    later : (d : Bool) → (i : ℕ) × (n ≡ last + 1 + i + 1) × (slice_get ds i ≡ Some true) → (i : ℕ) × (n ≡ last + i + 1) × (slice_get (d ∷ ds) i ≡ Some true)
    later d r = let e = r.1 in (suc r.0, omega arith, r.2)
was_completed last (false ∷ ds) n c = let r = was_completed (last + 1) ds n c in let e = r.1 in (suc r.0, omega arith, r.2)

front_done : (k : ℕ) (ms : List Bool) (i : ℕ) → i < k → slice_get (replicate k true ++ ms) i ≡ Some true
front_done zero ms i lt = absurd (omega arith)
front_done (suc k) ms zero lt = refl
front_done (suc k) ms (suc i) lt = front_done k ms i (omega arith)

behind_front : (k : ℕ) (ms : List Bool) (i j : ℕ) → i ≡ k + j → slice_get (replicate k true ++ ms) i ≡ slice_get ms j
behind_front zero ms i j e = ap (slice_get ms) (omega arith)
behind_front (suc k) ms zero j e = absurd (omega arith)
behind_front (suc k) ms (suc i) j e = behind_front k ms i j (omega arith)

-- the read point is the point of the completed numbers
pub settled_point : (last read : ℕ) (ms : List Bool) → last ≤ read → IsOpen ms → IsPoint last (completed (numbers_of last read ms)) read
settled_point last read ms le blocked = record {
  least = le;
  upto = λ n lo hi. is_completed last (replicate (read - last) true ++ ms) (n - last - 1) n (front_done (read - last) ms (n - last - 1) (omega arith)) (omega arith);
  greatest = λ c. let r = was_completed last (replicate (read - last) true ++ ms) (read + 1) c in
      let e : read + 1 ≡ last + r.0 + 1 = r.1 in
      blocked (sym (behind_front (read - last) ms r.0 0 (omega arith)) ∙ r.2);
}

-- what is out stands after the completed front
pub out_behind : (k : ℕ) (ms : List Bool) (i : ℕ) → slice_get (replicate k true ++ ms) i ≡ Some false → (k ≤ i) × (i - k < length ms)
out_behind zero ms i e = let lt = slice_get_within ms i false e in (omega arith, omega arith)
out_behind (suc k) ms zero e = absurd (cc e)
out_behind (suc k) ms (suc i) e = let r = out_behind k ms i e in let a = r.0 in let b = r.1 in (omega arith, omega arith)

pub out_place : (last read n : ℕ) (ms : List Bool) → last ≤ read → IsOut (numbers_of last read ms) n → (read < n) × (n - read - 1 < length ms)
out_place last read n ms le out =
    let r = out_behind (read - last) ms (n - last - 1) out.1 in
    let a = r.0 in let b = r.1 in let lt : last < n = out.0 in
    (omega arith, omega arith)

replicate_two : (n m : ℕ) (ds : List Bool) → replicate n true ++ (replicate m true ++ ds) ≡ replicate (n + m) true ++ ds
replicate_two zero m ds = ap (λ (k : ℕ). replicate k true ++ ds) (omega arith)
replicate_two (suc n) m ds =
    let e : suc (n + m) ≡ suc n + m = omega arith in
    ap (λ (l : List Bool). true ∷ l) (replicate_two n m ds) ∙ ap (λ (k : ℕ). replicate k true ++ ds) e

set_behind : (n : ℕ) (ds : List Bool) (k : ℕ) → set (replicate n true ++ ds) (n + k) true ≡ replicate n true ++ set ds k true
set_behind zero ds k = ap (λ (i : ℕ). set ds i true) (omega arith)
set_behind (suc n) ds k =
    let e : suc n + k ≡ suc (n + k) = omega arith in
    ap (λ (i : ℕ). set (true ∷ (replicate n true ++ ds)) i true) e ∙ ap (λ (l : List Bool). true ∷ l) (set_behind n ds k)

-- a number is completed, and the completed front is taken
pub settled_after : (last read n t : ℕ) (ms ms' : List Bool) → last ≤ read → read < n → replicate t true ++ ms' ≡ set ms (n - read - 1) true
    → numbers_of last (read + t) ms' ≡ record { last = last; done = set (replicate (read - last) true ++ ms) (n - last - 1) true }
settled_after last read n t ms ms' le lt is =
    let place : n - last - 1 ≡ (read - last) + (n - read - 1) = omega arith in
    let more : (read - last) + t ≡ read + t - last = omega arith in
    ap (λ (d : List Bool). record { last = last; done = d }) (sym (
    ap (λ (k : ℕ). set (replicate (read - last) true ++ ms) k true) place
    ∙ set_behind (read - last) ms (n - read - 1)
    ∙ ap (λ (l : List Bool). replicate (read - last) true ++ l) (sym is)
    ∙ replicate_two (read - last) t ms'
    ∙ ap (λ (k : ℕ). replicate k true ++ ms') more))

length_set : (ms : List Bool) (k : ℕ) (d : Bool) → length (set ms k d) ≡ length ms
length_set [] k d = refl
length_set (m ∷ ms) zero d = refl
length_set (m ∷ ms) (suc k) d = ap suc (length_set ms k d)

-- where no number is out, no mark is left
pub none_left : (k : ℕ) (ms : List Bool) → IsOpen ms → (Contains (replicate k true ++ ms) false → ⊥) → ms ≡ []
none_left k [] blocked idle = refl
none_left k (true ∷ ms) blocked idle = absurd (blocked refl)
none_left zero (false ∷ ms) blocked idle = absurd (idle (contains_head false ms))
none_left (suc k) (false ∷ ms) blocked idle = none_left k (false ∷ ms) blocked (λ c. idle (contains_tail true false (replicate k true ++ false ∷ ms) c))

pub nothing_behind : (n : ℕ) (ms : List Bool) → ms ≡ [] → numbers_of n n ms ≡ record { last = n; done = [] }
nothing_behind n ms none =
    let zero_more : n - n ≡ 0 = omega arith in
    ap (λ (l : List Bool). numbers_of n n l) none ∙ ap (λ (k : ℕ). record { last = n; done = replicate k true ++ [] }) zero_more
