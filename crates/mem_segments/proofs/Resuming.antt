-- A walk that is taken up again goes on where it was laid down.
use Rattle.std.specs.Prelude.{◌≡◌, ℕ, zero, suc, Bool, true, false, not, cond, ◌&&◌, T, IsTrue, ◌↔◌, ◌+◌, ◌≤◌, ◌++◌, List, length, [], ◌∷◌, map, filter, take, drop, Option, Some, None}
use Rattle.std.proofs.Common.{refl, sym, ap, subst, ◌∙◌, arith, get_or}
use Rattle.std.specs.declared.cmp.Ordering.{Ordering}
use Rattle.std.specs.declared.cmp.Ordering.TheVariants.{Less, Equal, Greater}
use Rattle.std.specs.Ordering.{is_le, ordering_reverse}
use Rattle.std.proofs.lemmas.Cmp.{alike_right, tied_itself}
use Rattle.std.proofs.lemmas.List.{length-drop, take_all, drop_all}
use Rattle.std.proofs.lemmas.List.Elements.{filter_agree}
use Rattle.std.specs.FinMap.Entries.{below_all}
use Rattle.std.specs.List.Sorted.{IsPartitionedBy}
use Rattle.cell_model.specs.Order.{version_cmp, Content, NumberedCell, version_of, numbered_cmp, cells_of}
use Rattle.cell_model.specs.Join.{joined}
use Rattle.cell_model.specs.Merge.{entry_of, IsRising}
use Rattle.cell_model.proofs.OrderLaws.{version_cmp_total}
use Rattle.region_model.specs.Journal.{is_in_range}
use Rattle.mem_segments.specs.Walk.{merged_all, is_given, to_come, last_given, IsPage}
use Rattle.mem_segments.proofs.Contents.{first, second, less, rising-cells_of}
use Rattle.mem_segments.proofs.Ranges.{in_range, rising-filter, walk-filter, filter-filter, map_map, below_at}

reversed : (x y : NumberedCell) (r : Ordering) → numbered_cmp x y ≡ r → numbered_cmp y x ≡ ordering_reverse r
reversed x y r e = version_cmp_total.antisymm (version_of y) (version_of x) ∙ ap ordering_reverse e

abbrev comes : Option NumberedCell → NumberedCell → Bool
comes last x = not (is_given last x)

-- in front of the first cell all is to come
pub all_come : (xs : List NumberedCell) → to_come None xs ≡ xs
all_come [] = refl
all_come (x ∷ xs) = ap (λ (ys : List NumberedCell). x ∷ ys) (all_come xs)

pub rising-to_come : (last : Option NumberedCell) (xs : List NumberedCell) → IsRising xs → IsRising (to_come last xs)
rising-to_come None xs g = rising-filter (λ v. true) xs g
rising-to_come (Some w) xs g = rising-filter (λ v. not (is_le (version_cmp v (version_of w)))) xs g

-- ---- several lists at once

range_comes : (last : Option NumberedCell) (from to : List ℕ) (ms : List Content) → merged_all (map (λ (m : Content). filter (λ x. is_in_range from to x && comes last x) (cells_of m)) ms) ≡ filter (λ x. is_in_range from to x && comes last x) (cells_of (joined ms))
range_comes None from to ms = walk-filter (λ v. in_range from to v && true) ms
range_comes (Some w) from to ms = walk-filter (λ v. in_range from to v && not (is_le (version_cmp v (version_of w)))) ms

module _ {A : Type 0} (content : A → Content) where
  each_part : (last : Option NumberedCell) (from to : List ℕ) (parts : List A) → map (λ (a : A). to_come last (filter (is_in_range from to) (cells_of (content a)))) parts
      ≡ map (λ (a : A). filter (λ x. is_in_range from to x && comes last x) (cells_of (content a))) parts
  each_part last from to [] = refl
  each_part last from to (a ∷ parts) = λ i. filter-filter (is_in_range from to) (comes last) (cells_of (content a)) i ∷ each_part last from to parts i

  pub walk_comes : (last : Option NumberedCell) (from to : List ℕ) (parts : List A) (rests : List (List NumberedCell))
      → rests ≡ map (λ (a : A). to_come last (filter (is_in_range from to) (cells_of (content a)))) parts
      → merged_all rests ≡ to_come last (filter (is_in_range from to) (cells_of (joined (map content parts))))
  walk_comes last from to parts rests e =
      ap merged_all (e ∙ each_part last from to parts ∙ sym (map_map content (λ (m : Content). filter (λ x. is_in_range from to x && comes last x) (cells_of m)) parts))
      ∙ range_comes last from to (map content parts) ∙ sym (filter-filter (is_in_range from to) (comes last) (cells_of (joined (map content parts))))

pub rising_range : (from to : List ℕ) (m : Content) → IsRising (filter (is_in_range from to) (cells_of m))
rising_range from to m = rising-filter (in_range from to) (cells_of m) (rising-cells_of m)

-- ---- what was given stands in front

le_equal : (x y w : NumberedCell) → numbered_cmp x y ≡ Less → is_le (numbered_cmp y w) ≡ true → is_le (numbered_cmp x w) ≡ true
le_equal x y w l h =
    elim (numbered_cmp y w) as (λ r. numbered_cmp y w ≡ r → is_le r ≡ true → is_le (numbered_cmp x w) ≡ true) [
      | Less ↦ λ e h. ap is_le (version_cmp_total.trans (version_of x) (version_of y) (version_of w) l e)
      | Equal ↦ λ e h. ap is_le (sym (alike_right version_cmp_total (version_of y) (version_of w) (version_of x) e) ∙ l)
      | Greater ↦ λ e h. absurd cc
    ] refl h

pub given_parted : (w : NumberedCell) (xs : List NumberedCell) → IsRising xs → IsPartitionedBy (is_given (Some w)) xs
given_parted w [] g i j d le lt b = absurd (omega arith)
given_parted w (x ∷ xs) g zero zero d le lt b = b
given_parted w (x ∷ xs) g zero (suc j) d le lt b = le_equal x (get_or xs j d) w (below_at (version_of x) xs j d (first _ _ g) (omega arith)) b
given_parted w (x ∷ xs) g (suc i) zero d le lt b = absurd (omega arith)
given_parted w (x ∷ xs) g (suc i) (suc j) d le lt b = given_parted w xs (second _ _ g) i j d (omega arith) (omega arith) b

-- ---- one given more

head_passes : (p : NumberedCell → Bool) (xs ys : List NumberedCell) (x : NumberedCell) → filter p xs ≡ x ∷ ys → p x ≡ true
head_passes p [] ys x e = absurd cc
head_passes p (w ∷ xs) ys x e =
    elim (p w) as (λ b. p w ≡ b → cond b (w ∷ filter p xs) (filter p xs) ≡ x ∷ ys → p x ≡ true) [
      | true ↦ λ b e. let same : w ≡ x = cc in subst (λ (z : NumberedCell). p z ≡ true) same b
      | false ↦ λ b e. head_passes p xs ys x e
    ] refl e

none_left : (x : NumberedCell) (xs : List NumberedCell) → T (below_all version_cmp (version_of x) (map entry_of xs)) → to_come (Some x) xs ≡ xs
none_left x [] h = refl
none_left x (y ∷ xs) h =
    ap (λ (r : Ordering). cond (not (is_le r)) (y ∷ to_come (Some x) xs) (to_come (Some x) xs)) (reversed x y Less (less _ (first _ _ h)))
    ∙ ap (λ (ys : List NumberedCell). y ∷ ys) (none_left x xs (second _ _ h))

past_head : (x : NumberedCell) (xs : List NumberedCell) → IsRising (x ∷ xs) → to_come (Some x) (x ∷ xs) ≡ xs
past_head x xs g =
    ap (λ (r : Ordering). cond (not (is_le r)) (x ∷ to_come (Some x) xs) (to_come (Some x) xs)) (tied_itself version_cmp_total (version_of x))
    ∙ none_left x xs (first _ _ g)

later_comes : (w x y : NumberedCell) → not (is_le (numbered_cmp x w)) ≡ true → not (is_le (numbered_cmp y w)) && not (is_le (numbered_cmp y x)) ≡ not (is_le (numbered_cmp y x))
later_comes w x y h =
    elim (numbered_cmp y w) as (λ r. numbered_cmp y w ≡ r → not (is_le r) && not (is_le (numbered_cmp y x)) ≡ not (is_le (numbered_cmp y x))) [
      | Greater ↦ λ e. refl
      | Less ↦ λ e. below Less e refl
      | Equal ↦ λ e. below Equal e refl
    ] refl
  where
    gr : (o : Ordering) → not (is_le o) ≡ true → o ≡ Greater
    gr Less e = absurd cc
    gr Equal e = absurd cc
    gr Greater e = refl

    below : (r : Ordering) → numbered_cmp y w ≡ r → is_le r ≡ true → false ≡ not (is_le (numbered_cmp y x))
    below Greater e l = absurd cc
    below Less e l = ap (λ (o : Ordering). not (is_le o)) (sym (version_cmp_total.trans (version_of y) (version_of w) (version_of x) e (reversed x w Greater (gr (numbered_cmp x w) h))))
    below Equal e l = ap (λ (o : Ordering). not (is_le o)) (sym (version_cmp_total.congr (version_of y) (version_of w) (version_of x) e ∙ reversed x w Greater (gr (numbered_cmp x w) h)))

comes_twice : (last : Option NumberedCell) (x y : NumberedCell) → comes last x ≡ true → comes last y && comes (Some x) y ≡ comes (Some x) y
comes_twice None x y h = refl
comes_twice (Some w) x y h = later_comes w x y h

next_comes : (last : Option NumberedCell) (all rest : List NumberedCell) (x : NumberedCell) → IsRising all → to_come last all ≡ x ∷ rest → to_come (Some x) all ≡ rest
next_comes last all rest x g e =
    let passes = head_passes (comes last) all rest x e in
    sym (filter_agree (λ y. comes last y && comes (Some x) y) (comes (Some x)) (λ y. comes_twice last x y passes) all)
    ∙ sym (filter-filter (comes last) (comes (Some x)) all) ∙ ap (to_come (Some x)) e
    ∙ past_head x rest (subst IsRising e (rising-to_come last all g))

-- ---- a page

pub page_rest : (n : ℕ) (last : Option NumberedCell) (all xs : List NumberedCell) → IsRising all → to_come last all ≡ xs → to_come (last_given last (take n xs)) all ≡ drop n xs
page_rest zero last all xs g e = e
page_rest (suc n) last all [] g e = e
page_rest (suc n) last all (x ∷ xs) g e = page_rest n (Some x) all xs g (next_comes last all xs x g e)

pub page_is : (n : ℕ) (last next : Option NumberedCell) (all xs cells after : List NumberedCell) (done : Bool) → IsRising all → xs ≡ to_come last all → cells ≡ take n xs → after ≡ drop n xs
    → next ≡ last_given last (take n xs) → IsTrue done ↔ (after ≡ []) → IsPage n cells done (to_come last all) (to_come next all)
page_is n last next all xs cells after done g e c a l d =
    let rest : to_come next all ≡ drop n xs = ap (λ (o : Option NumberedCell). to_come o all) l ∙ page_rest n last all xs g (sym e) in
    record {
      cells = c ∙ ap (take n) e;
      rest = rest ∙ ap (drop n) e;
      done = ((λ t. rest ∙ sym a ∙ d.0 t), (λ none. d.1 (a ∙ sym rest ∙ none)));
    }

-- ---- one taken more

taken_next : (i : ℕ) (all rest : List NumberedCell) (x : NumberedCell) → drop i all ≡ x ∷ rest → (take (suc i) all ≡ take i all ++ x ∷ []) × (rest ≡ drop (suc i) all)
taken_next zero [] rest x e = absurd cc
taken_next (suc i) [] rest x e = absurd cc
taken_next zero (y ∷ all) rest x e = let head : y ≡ x = cc in let tail : all ≡ rest = cc in ((λ i. head i ∷ []), sym tail)
taken_next (suc i) (y ∷ all) rest x e = let more = taken_next i all rest x e in (ap (λ (ys : List NumberedCell). y ∷ ys) more.0, more.1)

pub taken_more : (i : ℕ) (all rest : List NumberedCell) (x : NumberedCell) → drop i all ≡ x ∷ rest → (take (i + 1) all ≡ take i all ++ x ∷ []) × (rest ≡ drop (i + 1) all)
taken_more i all rest x e =
    let next : suc i ≡ i + 1 = omega arith in
    subst (λ (k : ℕ). (take k all ≡ take i all ++ x ∷ []) × (rest ≡ drop k all)) next (taken_next i all rest x e)

-- all are taken once none is left
pub none_more : (i n : ℕ) (all : List NumberedCell) → i ≤ n → drop i all ≡ [] → (take i all ≡ take n all) × (drop n all ≡ [])
none_more i n all le e =
    let few : length all ≤ i = omega (arith, length-drop i all, ap length e) in
    (take_all i all few ∙ sym (take_all n all (omega arith)), drop_all n all (omega arith))

pub last_more : (last : Option NumberedCell) (xs : List NumberedCell) (x : NumberedCell) → Some x ≡ last_given last (xs ++ x ∷ [])
last_more last [] x = refl
last_more last (y ∷ xs) x = last_more (Some y) xs x
