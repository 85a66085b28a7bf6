-- Numbers of families, in the order of the families' bytes.
use Rattle.std.proofs.Common.{◌<◌, ◌≤◌, ◌≡◌, ◌≢◌, inl, inr, ℕ, max, Bool, true, false, cond, List, [], ◌∷◌, nat_eq, Some, refl, sym, ap, ◌∙◌, subst, arith}
use Rattle.std.specs.declared.cmp.Ordering.{Ordering}
use Rattle.std.specs.declared.cmp.Ordering.TheVariants.{Less, Equal, Greater}
use Rattle.std.specs.declared.vec.Vec.{Vec}
use Rattle.std.specs.Global.{Global}
use Rattle.std.specs.Option.{unwrap_or}
use Rattle.std.specs.Map.{lookup}
use Rattle.std.specs.BTreeMap.{insert_entry}
use Rattle.std.specs.Ordering.{nat_cmp, is_eq, match_ordering}
use Rattle.std.specs.Cmp.Lexicographic.{slice_cmp, pointwise}
use Rattle.std.proofs.lemmas.Bool.{cases_Bool, false_from_ne_true}
use Rattle.std.proofs.lemmas.Slice.Eq.{bytes_eq-Decides}
use Rattle.std.proofs.lemmas.Map.Text.{is_eq-slice_cmp}
use Rattle.wal_split.specs.Flushed.{alone_in, raised_in}

abbrev Key : Type 0
Key = Vec ℕ Global

abbrev test : List ℕ → Key → Bool
test f k = is_eq (slice_cmp nat_cmp f k.items)

abbrev key_cmp : Key → Key → Ordering
key_cmp x y = slice_cmp nat_cmp x.items y.items

same_of : (xs ys : List ℕ) → is_eq (slice_cmp nat_cmp xs ys) ≡ true → xs ≡ ys
same_of xs ys is = (bytes_eq-Decides xs ys).0 (sym (is_eq-slice_cmp xs ys) ∙ is)

test_same : (f : List ℕ) (k : Key) → k.items ≡ f → test f k ≡ true
test_same f k is = is_eq-slice_cmp f k.items ∙ (bytes_eq-Decides f k.items).1 (sym is)

test_other : (f : List ℕ) (k : Key) → k.items ≢ f → test f k ≡ false
test_other f k other = false_from_ne_true (test f k) (λ is. other (sym (same_of f k.items is)))

module _ (k : Key) (v : ℕ) (f : List ℕ) where
  put_same : k.items ≡ f → (es : List (Key × ℕ)) → lookup (test f) (insert_entry key_cmp es k v) ≡ Some v
  put_same is [] = ap (λ b. cond b (Some v) (lookup (test f) [])) (test_same f k is)
  put_same is (e ∷ es) = go (put_same is es) (key_cmp k e.0) refl
    where
      go : lookup (test f) (insert_entry key_cmp es k v) ≡ Some v → (r : Ordering) → key_cmp k e.0 ≡ r → lookup (test f) (match_ordering r ((k, v) ∷ e ∷ es) ((e.0, v) ∷ es) (e ∷ insert_entry key_cmp es k v)) ≡ Some v
      go rest Less at = ap (λ b. cond b (Some v) (lookup (test f) (e ∷ es))) (test_same f k is)
      go rest Equal at = ap (λ b. cond b (Some v) (lookup (test f) es)) (test_same f e.0 (sym (same_of k.items e.0.items (ap is_eq at)) ∙ is))
      go rest Greater at =
          let no : test f e.0 ≡ false = ap (λ l. is_eq (slice_cmp nat_cmp l e.0.items)) (sym is) ∙ ap is_eq at in
          ap (λ b. cond b (Some e.1) (lookup (test f) (insert_entry key_cmp es k v))) no ∙ rest

  put_other : k.items ≢ f → (es : List (Key × ℕ)) → lookup (test f) (insert_entry key_cmp es k v) ≡ lookup (test f) es
  put_other other [] = ap (λ b. cond b (Some v) (lookup (test f) [])) (test_other f k other)
  put_other other (e ∷ es) = go (put_other other es) (key_cmp k e.0) refl
    where
      go : lookup (test f) (insert_entry key_cmp es k v) ≡ lookup (test f) es → (r : Ordering) → key_cmp k e.0 ≡ r → lookup (test f) (match_ordering r ((k, v) ∷ e ∷ es) ((e.0, v) ∷ es) (e ∷ insert_entry key_cmp es k v)) ≡ lookup (test f) (e ∷ es)
      go rest Less at = ap (λ b. cond b (Some v) (lookup (test f) (e ∷ es))) (test_other f k other)
      go rest Equal at =
          let no : test f e.0 ≡ false = test_other f e.0 (λ is. other (same_of k.items e.0.items (ap is_eq at) ∙ is)) in
          ap (λ b. cond b (Some v) (lookup (test f) es)) no ∙ sym (ap (λ b. cond b (Some e.1) (lookup (test f) es)) no)
      go rest Greater at = ap (λ l. cond (test f e.0) (Some e.1) l) rest

-- a family whose number is lower takes the other one
pub raised_put : (k : Key) (v : ℕ) (es : List (Key × ℕ)) → alone_in es k.items < v → (f : List ℕ) → alone_in (insert_entry key_cmp es k v) f ≡ raised_in k.items v es f
raised_put k v es lower f = elim (cases_Bool (pointwise nat_eq k.items f)) as (λ _. alone_in (insert_entry key_cmp es k v) f ≡ raised_in k.items v es f) [
  | inl same ↦
      let is : k.items ≡ f = (bytes_eq-Decides k.items f).0 same in
      let top : alone_in es f < v = subst (λ l. alone_in es l < v) is lower in
      ap (λ o. unwrap_or o 0) (put_same k v f is es) ∙ omega (arith, top) ∙ sym (ap (λ b. cond b (max (alone_in es f) v) (alone_in es f)) same)
  | inr other ↦
      let not : k.items ≢ f = λ is. absurd (cc (sym ((bytes_eq-Decides k.items f).1 is) ∙ other)) in
      ap (λ o. unwrap_or o 0) (put_other k v f not es) ∙ sym (ap (λ b. cond b (max (alone_in es f) v) (alone_in es f)) other)
]

-- a family whose number is as high keeps it
pub raised_not : (g : List ℕ) (v : ℕ) (es : List (Key × ℕ)) → v ≤ alone_in es g → (f : List ℕ) → alone_in es f ≡ raised_in g v es f
raised_not g v es high f = elim (cases_Bool (pointwise nat_eq g f)) as (λ _. alone_in es f ≡ raised_in g v es f) [
  | inl same ↦
      let is : g ≡ f = (bytes_eq-Decides g f).0 same in
      let top : v ≤ alone_in es f = subst (λ l. v ≤ alone_in es l) is high in
      omega (arith, top) ∙ sym (ap (λ b. cond b (max (alone_in es f) v) (alone_in es f)) same)
  | inr other ↦ sym (ap (λ b. cond b (max (alone_in es f) v) (alone_in es f)) other)
]
