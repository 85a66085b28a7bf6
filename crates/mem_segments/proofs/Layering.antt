-- Neighbours merged are joined as before, and what is kept still halves.
use Rattle.std.specs.Prelude.{◌≡◌, ℕ, zero, suc, ◌-◌, ◌*◌, ◌<◌, ◌≤◌, List, [], ◌∷◌, ◌++◌, length, map, take, Option, Some, None}
use Rattle.std.proofs.Common.{refl, sym, ap, subst, ◌∙◌, arith, append_assoc, get_or, inl, inr}
use Rattle.std.proofs.lemmas.Bool.{cases_lt}
use Rattle.std.specs.FinMap.{get, len, empty, empty_of_len, len-empty, get-empty}
use Rattle.cell_model.specs.Halves.{IsHalving}
use Rattle.cell_model.specs.Order.{Content, Payload, version_cmp}
use Rattle.cell_model.specs.Join.{or_else, joined}
use Rattle.cell_model.proofs.JoinLaws.{joined-append, joined-one, same_content, get-joined_two}
use Rattle.mem_segments.specs.Layers.{lengths_of}

pub joined_last : (ms : List Content) (m n : Content) → joined (ms ++ joined (m ∷ n ∷ []) ∷ []) ≡ joined (ms ++ m ∷ n ∷ [])
joined_last ms m n =
    joined-append ms (joined (m ∷ n ∷ []) ∷ []) ∙ (λ i. joined (joined ms ∷ joined-one (joined (m ∷ n ∷ [])) i ∷ []))
    ∙ sym (joined-append ms (m ∷ n ∷ []))

module _ {A : Type 0} (f : A → Content) where
  pub map_append : (xs ys : List A) → map f (xs ++ ys) ≡ map f xs ++ map f ys
  map_append [] ys = refl
  map_append (x ∷ xs) ys = λ i. f x ∷ map_append xs ys i

  pub step : (before front : List A) (part newest new : A) (whole : Content)
      → f new ≡ joined (f part ∷ f newest ∷ []) → before ≡ front ++ part ∷ []
      → joined (map f before ++ f newest ∷ []) ≡ whole → joined (map f front ++ f new ∷ []) ≡ whole
  step before front part newest new whole is b h =
      (λ i. joined (map f front ++ is i ∷ []))
      ∙ joined_last (map f front) (f part) (f newest)
      ∙ ap joined (sym (append_assoc (map f front) (f part ∷ []) (f newest ∷ [])))
      ∙ (λ i. joined ((sym (map_append front (part ∷ [])) ∙ ap (map f) (sym b)) i ++ f newest ∷ []))
      ∙ h

  pub end : (all shared kept : List A) (newest : A) (whole : Content) → all ≡ shared ++ newest ∷ [] → map f shared ≡ map f kept
      → joined (map f kept ++ f newest ∷ []) ≡ whole → joined (map f all) ≡ whole
  end all shared kept newest whole a s h =
      (λ i. joined ((ap (map f) a ∙ map_append shared (newest ∷ [])) i)) ∙ (λ i. joined (s i ++ f newest ∷ [])) ∙ h

take_next : {A : Type 0} (xs : List A) (j : ℕ) (x : A) → j < length xs → x ≡ get_or xs j x → take (suc j) xs ≡ take j xs ++ x ∷ []
take_next [] j x p is = absurd (omega arith)
take_next (y ∷ ys) zero x p is = λ i. sym is i ∷ []
take_next (y ∷ ys) (suc j) x p is = λ i. y ∷ take_next ys j x (omega arith) is i

pub take_last : {A : Type 0} (xs : List A) (k : ℕ) (x : A) → 0 < k → k ≤ length xs → x ≡ get_or xs (k - 1) x → take k xs ≡ take (k - 1) xs ++ x ∷ []
take_last xs k x p q is =
    let e : k ≡ suc (k - 1) = omega arith in
    ap (λ n. take n xs) e ∙ take_next xs (k - 1) x (omega arith) is

-- ---- what is merged is not nothing

first_none : {A : Type 0} (x y : Option A) → or_else x y ≡ None → x ≡ None
first_none None y e = refl
first_none (Some x) y e = e

nothing_joined : (m n : Content) → len (joined (m ∷ n ∷ [])) ≡ 0 → len n ≡ 0
nothing_joined m n e =
    let all : joined (m ∷ n ∷ []) ≡ empty = empty_of_len (joined (m ∷ n ∷ [])) e in
    let none : n ≡ empty = same_content n empty (λ q.
    first_none (get n q) (get m q) (sym (get-joined_two m n q) ∙ ap (λ (c : Content). get c q) all ∙ get-empty version_cmp q) ∙ sym (get-empty version_cmp q)) in
    ap (λ (c : Content). len c) none ∙ len-empty version_cmp Payload

pub given_joined : (m n k : Content) → k ≡ joined (m ∷ n ∷ []) → 1 ≤ len n → 1 ≤ len k
given_joined m n k e h =
    elim (cases_lt 0 (len k)) [ inl lt ↦ omega arith | inr le ↦ let z : len n ≡ 0 = nothing_joined m n (ap (λ (c : Content). len c) (sym e) ∙ omega arith) in absurd (omega arith) ]

-- ---- lengths that halve

head_given : (m : ℕ) (ns : List ℕ) → IsHalving (m ∷ ns) → 1 ≤ m
head_given m [] h = h
head_given m (n ∷ ns) h = omega (arith, h.0, head_given n ns h.1)

halving_front : (k : ℕ) (ns : List ℕ) → IsHalving ns → IsHalving (take k ns)
halving_front zero ns h = tt
halving_front (suc k) [] h = tt
halving_front (suc zero) (n ∷ []) h = h
halving_front (suc (suc k)) (n ∷ []) h = h
halving_front (suc zero) (n ∷ m ∷ ns) h = omega (arith, h.0, head_given m ns h.1)
halving_front (suc (suc k)) (n ∷ m ∷ ns) h = (h.0, halving_front (suc k) (m ∷ ns) h.1)

halving_more : (ns : List ℕ) (n m : ℕ) → IsHalving (ns ++ n ∷ []) → 2 * m ≤ n → 1 ≤ m → IsHalving (ns ++ n ∷ m ∷ [])
halving_more [] n m h le given = (le, given)
halving_more (a ∷ []) n m h le given = (h.0, halving_more [] n m h.1 le given)
halving_more (a ∷ b ∷ ns) n m h le given = (h.0, halving_more (b ∷ ns) n m h.1 le given)

lengths-append : (ms ns : List Content) → lengths_of (ms ++ ns) ≡ lengths_of ms ++ lengths_of ns
lengths-append [] ns = refl
lengths-append (m ∷ ms) ns = λ i. len m ∷ lengths-append ms ns i

module _ {A : Type 0} (f : A → Content) where
  lengths-take : (k : ℕ) (xs : List A) → lengths_of (map f (take k xs)) ≡ take k (lengths_of (map f xs))
  lengths-take zero xs = refl
  lengths-take (suc k) [] = refl
  lengths-take (suc k) (x ∷ xs) = λ i. len (f x) ∷ lengths-take k xs i

  -- nothing is left before the newest, or what is left is twice as long
  pub still_halves_alone : (parts all shared : List A) (newest : A) → all ≡ shared ++ newest ∷ [] → map f shared ≡ map f (take 0 parts) → 1 ≤ len (f newest) → IsHalving (lengths_of (map f all))
  still_halves_alone parts all shared newest e s given =
      subst (λ (ms : List Content). IsHalving (lengths_of ms)) (sym (ap (map f) e ∙ map_append f shared (newest ∷ []) ∙ ap (λ (ms : List Content). ms ++ f newest ∷ []) s)) given

  pub still_halves : (k : ℕ) (parts all shared front : List A) (part newest : A) → IsHalving (lengths_of (map f parts)) → all ≡ shared ++ newest ∷ [] → map f shared ≡ map f (take k parts) → take k parts ≡ front ++ part ∷ []
      → 2 * len (f newest) ≤ len (f part) → 1 ≤ len (f newest) → IsHalving (lengths_of (map f all))
  still_halves k parts all shared front part newest h e s t le given =
      let kept : map f (take k parts) ≡ map f front ++ f part ∷ [] = ap (map f) t ∙ map_append f front (part ∷ []) in
      let rising : IsHalving (lengths_of (map f front) ++ len (f part) ∷ []) =
      subst IsHalving (sym (lengths-take k parts) ∙ ap lengths_of kept ∙ lengths-append (map f front) (f part ∷ [])) (halving_front k (lengths_of (map f parts)) h) in
      let whole : lengths_of (map f all) ≡ lengths_of (map f front) ++ len (f part) ∷ len (f newest) ∷ [] =
      ap lengths_of (ap (map f) e ∙ map_append f shared (newest ∷ []) ∙ ap (λ (ms : List Content). ms ++ f newest ∷ []) (s ∙ kept) ∙ append_assoc (map f front) (f part ∷ []) (f newest ∷ []))
      ∙ lengths-append (map f front) (f part ∷ f newest ∷ []) in
      subst IsHalving (sym whole) (halving_more (lengths_of (map f front)) (len (f part)) (len (f newest)) rising le given)
