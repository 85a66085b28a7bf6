-- Parts of lines in a row are told apart from what follows them by the first word's length of each line.
use Rattle.std.proofs.Common.{◌≡◌, ◌≢◌, ℕ, List, [], ◌∷◌, ◌++◌, length, refl, sym, ap, ◌∙◌, subst, append_assoc}
use Rattle.std.specs.List.{flat_map, AllByRecursion}

abbrev pub Words : Type 0
Words = List (List ℕ)

abbrev pub tag : Words → ℕ
tag [] = 0
tag (w ∷ ws) = length w

-- the tag of the first line
abbrev pub top : List Words → ℕ
top [] = 0
top (l ∷ ls) = tag l

-- a kind of parts: the tag of their first lines, what tags may follow a part, and that a part with what follows it is split in one way
pub record AreParts {X : Type 0} (part : X → List Words) (P : X → Type 0) (k : ℕ) (Follows : ℕ → Type 0) : Type 0 where
  pub tagged : (x : X) (s : List Words) → top (part x ++ s) ≡ k
  pub again : Follows k
  pub one : (x y : X) (s t : List Words) → P x → P y → Follows (top s) → Follows (top t) → part x ++ s ≡ part y ++ t → (x ≡ y) × (s ≡ t)

module _ {X : Type 0} {part : X → List Words} {P : X → Type 0} {k : ℕ} {Follows : ℕ → Type 0} (parts : AreParts part P k Follows) where
  regrouped : (x : X) (xs : List X) (s : List Words) → flat_map part (x ∷ xs) ++ s ≡ part x ++ (flat_map part xs ++ s)
  regrouped x xs s = append_assoc (part x) (flat_map part xs) s

  tag_of : (x : X) (xs : List X) (s : List Words) → k ≡ top (flat_map part (x ∷ xs) ++ s)
  tag_of x xs s = sym (parts.tagged x (flat_map part xs ++ s)) ∙ ap top (sym (regrouped x xs s))

  pub follows : (xs : List X) (s : List Words) → Follows (top s) → Follows (top (flat_map part xs ++ s))
  follows [] s h = h
  follows (x ∷ xs) s h = subst Follows (tag_of x xs s) parts.again

  -- parts in a row with another line after them are split in one way
  pub runs_apart : (xs ys : List X) (s t : List Words) → AllByRecursion P xs → AllByRecursion P ys → top s ≢ k → top t ≢ k → Follows (top s) → Follows (top t)
      → flat_map part xs ++ s ≡ flat_map part ys ++ t → (xs ≡ ys) × (s ≡ t)
  runs_apart [] [] s t hx hy hs ht is it e = (refl, e)
  runs_apart [] (y ∷ ys) s t hx hy hs ht is it e = absurd (hs (ap top e ∙ sym (tag_of y ys t)))
  runs_apart (x ∷ xs) [] s t hx hy hs ht is it e = absurd (ht (ap top (sym e) ∙ sym (tag_of x xs s)))
  runs_apart (x ∷ xs) (y ∷ ys) s t hx hy hs ht is it e =
      let first = parts.one x y (flat_map part xs ++ s) (flat_map part ys ++ t) hx.0 hy.0 (follows xs s is) (follows ys t it) (sym (regrouped x xs s) ∙ e ∙ regrouped y ys t) in
      let more = runs_apart xs ys s t hx.1 hy.1 hs ht is it first.1 in
      let same : (x ∷ xs) ≡ (y ∷ ys) = cc (first.0, more.0) in
      (same, more.1)
