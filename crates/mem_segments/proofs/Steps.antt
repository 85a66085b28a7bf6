-- A row more of a merge, and its end, where one of the two lists has run out.
use Rattle.std.specs.Prelude.{◌≡◌, ℕ, ◌<◌, List, [], ◌∷◌, ◌++◌, length, drop}
use Rattle.std.proofs.Common.{refl, sym, ap, subst, ◌∙◌, arith, append_assoc, get_or}
use Rattle.std.specs.declared.cmp.Ordering.{Ordering}
use Rattle.std.specs.declared.cmp.Ordering.TheVariants.{Less, Equal, Greater}
use Rattle.cell_model.specs.Order.{NumberedCell, Content, numbered_cmp}
use Rattle.cell_model.specs.Join.{joined}
use Rattle.cell_model.specs.Merge.{by_turn, merged, IsRising, content_of}
use Rattle.cell_model.proofs.MergeLaws.{rising-merged, content-merged}

append-nil : (xs : List NumberedCell) → xs ++ [] ≡ xs
append-nil [] = refl
append-nil (x ∷ xs) = λ i. x ∷ append-nil xs i

merged-nil : (xs : List NumberedCell) → merged xs [] ≡ xs
merged-nil [] = refl
merged-nil (x ∷ xs) = λ i. x ∷ merged-nil xs i

pub first_done : (xs ys : List NumberedCell) → length xs ≡ 0 → merged xs ys ≡ xs ++ ys
first_done [] ys e = refl
first_done (x ∷ xs) ys e = absurd (omega arith)

pub second_done : (xs ys : List NumberedCell) → length ys ≡ 0 → merged xs ys ≡ xs ++ ys
second_done xs [] e = merged-nil xs ∙ sym (append-nil xs)
second_done xs (y ∷ ys) e = absurd (omega arith)

pub finish : (rows xs ys m s t : List NumberedCell) → t ≡ s ++ ys → s ≡ rows ++ xs → merged xs ys ≡ xs ++ ys → rows ++ merged xs ys ≡ m → t ≡ m
finish rows xs ys m s t p q r i = p ∙ ap (λ l. l ++ ys) q ∙ append_assoc rows xs ys ∙ ap (λ l. rows ++ l) (sym r) ∙ i

-- ---- the row whose turn it is

by_turns : (o : Ordering) (rows xs ys : List NumberedCell) (x y : NumberedCell) → numbered_cmp x y ≡ o
    → (rows ++ by_turn o x y y ∷ []) ++ merged (drop (by_turn o 1 1 0) (x ∷ xs)) (drop (by_turn o 0 1 1) (y ∷ ys)) ≡ rows ++ merged (x ∷ xs) (y ∷ ys)
by_turns o rows xs ys x y e =
    append_assoc rows (by_turn o x y y ∷ []) _ ∙ ap (λ l. rows ++ l) (turns o ∙ ap (λ r. by_turn r (x ∷ merged xs (y ∷ ys)) (y ∷ merged xs ys) (y ∷ merged (x ∷ xs) ys)) (sym e))
  where
    turns : (o : Ordering) → by_turn o x y y ∷ merged (drop (by_turn o 1 1 0) (x ∷ xs)) (drop (by_turn o 0 1 1) (y ∷ ys)) ≡ by_turn o (x ∷ merged xs (y ∷ ys)) (y ∷ merged xs ys) (y ∷ merged (x ∷ xs) ys)
    turns Less = refl
    turns Equal = refl
    turns Greater = refl

pub one_turn : (rows more xs ys us vs m : List NumberedCell) (x y next : NumberedCell) (i j : ℕ) → 0 < length xs → 0 < length ys → x ≡ get_or xs 0 x → y ≡ get_or ys 0 y
    → next ≡ by_turn (numbered_cmp x y) x y y → i ≡ by_turn (numbered_cmp x y) 1 1 0 → j ≡ by_turn (numbered_cmp x y) 0 1 1
    → more ≡ rows ++ next ∷ [] → us ≡ drop i xs → vs ≡ drop j ys → rows ++ merged xs ys ≡ m → more ++ merged us vs ≡ m
one_turn rows more [] ys us vs m x y next i j hx hy ix iy n a b r p q inv = absurd (omega arith)
one_turn rows more (w ∷ xs) [] us vs m x y next i j hx hy ix iy n a b r p q inv = absurd (omega arith)
one_turn rows more (w ∷ xs) (v ∷ ys) us vs m x y next i j hx hy ix iy n a b r p q inv =
    let o : numbered_cmp x y ≡ numbered_cmp w v = λ k. numbered_cmp (ix k) (iy k) in
    let first : i ≡ by_turn (numbered_cmp w v) 1 1 0 = a ∙ ap (λ o. by_turn o 1 1 0) o in
    let second : j ≡ by_turn (numbered_cmp w v) 0 1 1 = b ∙ ap (λ o. by_turn o 0 1 1) o in
    let row : next ≡ by_turn (numbered_cmp w v) w v v = n ∙ (λ k. by_turn (o k) (ix k) (iy k) (iy k)) in
    (λ k. r k ++ merged (p k) (q k)) ∙ (λ k. (rows ++ row k ∷ []) ++ merged (drop (first k) (w ∷ xs)) (drop (second k) (v ∷ ys)))
    ∙ by_turns (numbered_cmp w v) rows xs ys w v refl ∙ inv

pub rises : (rows xs ys us vs : List NumberedCell) → rows ≡ merged xs ys → xs ≡ us → ys ≡ vs → IsRising us → IsRising vs → IsRising rows
rises rows xs ys us vs r p q g h = subst IsRising (sym (r ∙ (λ i. merged (p i) (q i)))) (rising-merged us vs g h)

pub holds_both : (rows xs ys us vs : List NumberedCell) (a b : Content) → rows ≡ merged xs ys → xs ≡ us → ys ≡ vs → IsRising us → IsRising vs → content_of us ≡ a → content_of vs ≡ b
    → content_of rows ≡ joined (a ∷ b ∷ [])
holds_both rows xs ys us vs a b r p q g h s t =
    ap content_of (r ∙ (λ i. merged (p i) (q i))) ∙ content-merged us vs g h ∙ (λ i. joined (s i ∷ t i ∷ []))
