-- A walk over what several contents have in a range of rows.
use Rattle.std.specs.Prelude.{◌≡◌, ℕ, zero, suc, ◌<◌, ◌≤◌, Bool, true, false, not, cond, ◌&&◌, ◌||◌, ◌==◌, T, List, [], ◌∷◌, map, filter, length, take, drop, Option, Some, None}
use Rattle.std.proofs.Common.{refl, sym, ap, subst, ◌∙◌, arith, get_or}
use Rattle.std.specs.declared.cmp.Ordering.{Ordering}
use Rattle.std.specs.declared.cmp.Ordering.TheVariants.{Less, Equal, Greater}
use Rattle.std.specs.Ordering.{nat_cmp, is_lt, is_eq, eq_by_cmp, ordering_then}
use Rattle.std.specs.Cmp.Lexicographic.{slice_cmp, nat_list_cmp_total}
use Rattle.std.specs.FinMap.{find, get-from_sorted}
use Rattle.std.specs.FinMap.Entries.{below_all}
use Rattle.std.proofs.lemmas.List.Elements.{filter_agree}
use Rattle.std.specs.List.Sorted.{IsPartitionedBy}
use Rattle.cell_model.specs.Order.{VersionKey, version_cmp, Payload, payload_of, Content, NumberedCell, version_of, numbered_cmp, cell_of, cells_of}
use Rattle.cell_model.specs.Join.{or_else, joined}
use Rattle.cell_model.specs.Merge.{entry_of, IsRising, content_of, merged}
use Rattle.cell_model.proofs.OrderLaws.{version_cmp_exact, entries-empty}
use Rattle.cell_model.proofs.JoinLaws.{same_content, get-joined, get-joined_two}
use Rattle.cell_model.proofs.MergeLaws.{rising-merged, found-merged, content-merged, cells_of-content_of}
use Rattle.region_model.specs.Journal.{is_in_range}
use Rattle.mem_segments.specs.Walk.{merged_all, is_before}
use Rattle.mem_segments.proofs.Contents.{first, second, both, less, rising-cells_of, content_of-cells_of}

abbrev found : VersionKey → List NumberedCell → Option Payload
found q xs = find version_cmp q (map entry_of xs)

-- ---- lists in order are told by what is found in them

same_rows : (xs ys : List NumberedCell) → IsRising xs → IsRising ys → ((q : VersionKey) → found q xs ≡ found q ys) → xs ≡ ys
same_rows xs ys g h e =
    sym (cells_of-content_of xs g)
    ∙ ap cells_of (same_content (content_of xs) (content_of ys) (λ q. get-from_sorted version_cmp (map entry_of xs) q g ∙ e q ∙ sym (get-from_sorted version_cmp (map entry_of ys) q h)))
    ∙ cells_of-content_of ys h

-- ---- a test of versions

module _ (test : VersionKey → Bool) where
  abbrev passes : NumberedCell → Bool
  passes x = test (version_of x)

  kept_found : (p b r : Bool) (u : Payload) (y : Option Payload) → (T b → p ≡ r) → cond p (cond b (Some u) (cond r y None)) (cond r y None) ≡ cond r (cond b (Some u) y) None
  kept_found true true true u y h = refl
  kept_found true true false u y h = absurd (subst T (h tt) tt)
  kept_found false true true u y h = absurd (subst T (sym (h tt)) tt)
  kept_found false true false u y h = refl
  kept_found true false r u y h = refl
  kept_found false false r u y h = refl

  equal : (r : Ordering) → T (is_eq r) → r ≡ Equal
  equal Less p = absurd p
  equal Equal p = refl
  equal Greater p = absurd p

  spread : (q : VersionKey) (p : Bool) (x : NumberedCell) (xs : List NumberedCell) → found q (cond p (x ∷ xs) xs) ≡ cond p (cond (eq_by_cmp version_cmp q (version_of x)) (Some (payload_of x.1)) (found q xs)) (found q xs)
  spread q true x xs = refl
  spread q false x xs = refl

  found-filter : (q : VersionKey) (xs : List NumberedCell) → found q (filter passes xs) ≡ cond (test q) (found q xs) None
  found-filter q [] = elim (test q) as (λ b. ◌≡◌ {A = Option Payload} None (cond b None None)) [ true ↦ refl | false ↦ refl ]
  found-filter q (x ∷ xs) =
      let b = eq_by_cmp version_cmp q (version_of x) in
      spread q (passes x) x (filter passes xs)
      ∙ ap (λ (o : Option Payload). cond (passes x) (cond b (Some (payload_of x.1)) o) o) (found-filter q xs)
      ∙ kept_found (passes x) b (test q) (payload_of x.1) (found q xs) (λ t. ap test (sym (version_cmp_exact q (version_of x) (equal _ t))))

  below_kept : (p : Bool) (k : VersionKey) (x : NumberedCell) (xs : List NumberedCell) → T (is_lt (version_cmp k (version_of x))) → T (below_all version_cmp k (map entry_of xs))
      → T (below_all version_cmp k (map entry_of (cond p (x ∷ xs) xs)))
  below_kept true k x xs g h = both _ _ g h
  below_kept false k x xs g h = h

  below-filter : (k : VersionKey) (xs : List NumberedCell) → T (below_all version_cmp k (map entry_of xs)) → T (below_all version_cmp k (map entry_of (filter passes xs)))
  below-filter k [] h = tt
  below-filter k (x ∷ xs) h = below_kept (passes x) k x (filter passes xs) (first _ _ h) (below-filter k xs (second _ _ h))

  rising_kept : (p : Bool) (x : NumberedCell) (xs : List NumberedCell) → T (below_all version_cmp (version_of x) (map entry_of xs)) → IsRising xs → IsRising (cond p (x ∷ xs) xs)
  rising_kept true x xs g h = both _ _ g h
  rising_kept false x xs g h = h

  pub rising-filter : (xs : List NumberedCell) → IsRising xs → IsRising (filter passes xs)
  rising-filter [] g = tt
  rising-filter (x ∷ xs) g = rising_kept (passes x) x (filter passes xs) (below-filter (version_of x) xs (first _ _ g)) (rising-filter xs (second _ _ g))

  shared_out : (r : Bool) (x y : Option Payload) → cond r (or_else y x) None ≡ or_else (cond r y None) (cond r x None)
  shared_out true x y = refl
  shared_out false x y = refl

  filter-merged : (xs ys : List NumberedCell) → IsRising xs → IsRising ys → filter passes (merged xs ys) ≡ merged (filter passes xs) (filter passes ys)
  filter-merged xs ys g h =
      let kept_x = rising-filter xs g in
      let kept_y = rising-filter ys h in
      same_rows _ _ (rising-filter (merged xs ys) (rising-merged xs ys g h)) (rising-merged (filter passes xs) (filter passes ys) kept_x kept_y) (λ q.
      found-filter q (merged xs ys) ∙ ap (λ (o : Option Payload). cond (test q) o None) (found-merged q xs ys h) ∙ shared_out (test q) (found q xs) (found q ys)
      ∙ sym (found-merged q (filter passes xs) (filter passes ys) kept_y ∙ (λ i. or_else (found-filter q ys i) (found-filter q xs i))))

  -- ---- contents

  merged-cells : (m n : Content) → merged (cells_of m) (cells_of n) ≡ cells_of (joined (m ∷ n ∷ []))
  merged-cells m n =
      sym (cells_of-content_of (merged (cells_of m) (cells_of n)) (rising-merged (cells_of m) (cells_of n) (rising-cells_of m) (rising-cells_of n)))
      ∙ ap cells_of (content-merged (cells_of m) (cells_of n) (rising-cells_of m) (rising-cells_of n) ∙ (λ i. joined (content_of-cells_of m i ∷ content_of-cells_of n i ∷ [])))

  joined_rest : (m : Content) (ms : List Content) → joined (m ∷ joined ms ∷ []) ≡ joined (m ∷ ms)
  joined_rest m ms = same_content _ _ (λ q. get-joined_two m (joined ms) q ∙ sym (get-joined m ms q))

  pub walk-filter : (ms : List Content) → merged_all (map (λ (m : Content). filter passes (cells_of m)) ms) ≡ filter passes (cells_of (joined ms))
  walk-filter [] = sym (ap (λ (es : List (VersionKey × Payload)). filter passes (map cell_of es)) entries-empty)
  walk-filter (m ∷ ms) =
      ap (merged (filter passes (cells_of m))) (walk-filter ms)
      ∙ sym (filter-merged (cells_of m) (cells_of (joined ms)) (rising-cells_of m) (rising-cells_of (joined ms)))
      ∙ ap (filter passes) (merged-cells m (joined ms) ∙ ap cells_of (joined_rest m ms))

-- ---- a range of rows

abbrev pub in_range : List ℕ → List ℕ → VersionKey → Bool
in_range from to v = not (is_lt (slice_cmp nat_cmp v.key.row from)) && (length to == 0 || is_lt (slice_cmp nat_cmp v.key.row to))

module _ {A : Type 0} (content : A → Content) where
  pub map_map : (f : Content → List NumberedCell) (parts : List A) → map f (map content parts) ≡ map (λ (a : A). f (content a)) parts
  map_map f [] = refl
  map_map f (a ∷ parts) = λ i. f (content a) ∷ map_map f parts i

  pub walk_is : (from to : List ℕ) (parts : List A) (rests : List (List NumberedCell)) → rests ≡ map (λ (a : A). filter (is_in_range from to) (cells_of (content a))) parts
      → merged_all rests ≡ filter (is_in_range from to) (cells_of (joined (map content parts)))
  walk_is from to parts rests e =
      ap merged_all (e ∙ sym (map_map (λ (m : Content). filter (is_in_range from to) (cells_of m)) parts))
      ∙ walk-filter (in_range from to) (map content parts)

-- ---- the part of a list in order that lies below a row

not_less : (x y : NumberedCell) → slice_cmp nat_cmp x.1.row y.1.row ≡ Greater → numbered_cmp x y ≡ Less → ⊥
not_less x y e l =
    let rest : Ordering = ordering_then (slice_cmp nat_cmp x.1.family y.1.family) (ordering_then (slice_cmp nat_cmp x.1.qualifier y.1.qualifier) (ordering_then (nat_cmp y.1.ts x.1.ts) (nat_cmp y.1.kind x.1.kind))) in
    let greater : numbered_cmp x y ≡ Greater = ap (λ r. ordering_then (ordering_then r rest) (nat_cmp y.0 x.0)) e in
    cc

row_falls : (x y : NumberedCell) (bound : List ℕ) → numbered_cmp x y ≡ Less → is_before bound y ≡ true → is_before bound x ≡ true
row_falls x y bound l b =
    elim (slice_cmp nat_cmp x.1.row y.1.row) as (λ r. slice_cmp nat_cmp x.1.row y.1.row ≡ r → is_before bound x ≡ true) [
      | Less ↦ λ e. ap is_lt (nat_list_cmp_total.trans x.1.row y.1.row bound e (less _ (subst T (sym b) tt)))
      | Equal ↦ λ e. ap is_lt (nat_list_cmp_total.congr x.1.row y.1.row bound e) ∙ b
      | Greater ↦ λ e. absurd (not_less x y e l)
    ] refl

pub below_at : (k : VersionKey) (xs : List NumberedCell) (j : ℕ) (d : NumberedCell) → T (below_all version_cmp k (map entry_of xs)) → j < length xs → version_cmp k (version_of (get_or xs j d)) ≡ Less
below_at k [] j d h lt = absurd (omega arith)
below_at k (x ∷ xs) zero d h lt = less _ (first _ _ h)
below_at k (x ∷ xs) (suc j) d h lt = below_at k xs j d (second _ _ h) (omega arith)

pub parted : (bound : List ℕ) (xs : List NumberedCell) → IsRising xs → IsPartitionedBy (is_before bound) xs
parted bound [] g i j d le lt b = absurd (omega arith)
parted bound (x ∷ xs) g zero zero d le lt b = b
parted bound (x ∷ xs) g zero (suc j) d le lt b = row_falls x (get_or xs j d) bound (below_at (version_of x) xs j d (first _ _ g) (omega arith)) b
parted bound (x ∷ xs) g (suc i) zero d le lt b = absurd (omega arith)
parted bound (x ∷ xs) g (suc i) (suc j) d le lt b = parted bound xs (second _ _ g) i j d (omega arith) (omega arith) b

-- what passes the test stands in front
module _ {A : Type 0} (test : A → Bool) where
  pub front_passes : (xs : List A) (i : ℕ) → i ≤ length xs → ((k : ℕ) (d : A) → k < i → test (get_or xs k d) ≡ true) → ((k : ℕ) (d : A) → i ≤ k → k < length xs → test (get_or xs k d) ≡ false)
      → (take i xs ≡ filter test xs) × (drop i xs ≡ filter (λ x. not (test x)) xs)
  front_passes [] zero le low high = (refl, refl)
  front_passes [] (suc i) le low high = absurd (omega arith)
  front_passes (x ∷ xs) zero le low high =
      let no : test x ≡ false = high 0 x (omega arith) (omega arith) in
      let rest = front_passes xs 0 (omega arith) (λ k d lt. absurd (omega arith)) (λ k d g lt. high (suc k) d (omega arith) (omega arith)) in (
        rest.0 ∙ ap (λ (b : Bool). cond b (x ∷ filter test xs) (filter test xs)) (sym no),
        ap (λ (ys : List A). x ∷ ys) rest.1 ∙ ap (λ (b : Bool). cond (not b) (x ∷ filter (λ x. not (test x)) xs) (filter (λ x. not (test x)) xs)) (sym no),
      )
  front_passes (x ∷ xs) (suc i) le low high =
      let yes : test x ≡ true = low 0 x (omega arith) in
      let rest = front_passes xs i (omega arith) (λ k d lt. low (suc k) d (omega arith)) (λ k d g lt. high (suc k) d (omega arith) (omega arith)) in (
        ap (λ (ys : List A). x ∷ ys) rest.0 ∙ ap (λ (b : Bool). cond b (x ∷ filter test xs) (filter test xs)) (sym yes),
        rest.1 ∙ ap (λ (b : Bool). cond (not b) (x ∷ filter (λ x. not (test x)) xs) (filter (λ x. not (test x)) xs)) (sym yes),
      )

-- ---- both ends of the range

module _ {A : Type 0} (p q : A → Bool) where
  filter_part : (a b : Bool) (x : A) (xs : List A) → b ≡ q x → filter q (cond a (x ∷ xs) xs) ≡ cond (a && b) (x ∷ filter q xs) (filter q xs)
  filter_part true b x xs e = ap (λ (c : Bool). cond c (x ∷ filter q xs) (filter q xs)) (sym e)
  filter_part false b x xs e = refl

  pub filter-filter : (xs : List A) → filter q (filter p xs) ≡ filter (λ x. p x && q x) xs
  filter-filter [] = refl
  filter-filter (x ∷ xs) = filter_part (p x) (q x) x (filter p xs) refl ∙ ap (λ (ys : List A). cond (p x && q x) (x ∷ ys) ys) (filter-filter xs)

and_true : (b : Bool) → b ≡ b && true
and_true true = refl
and_true false = refl

pub upper_rises : (from : List ℕ) (xs ys : List NumberedCell) → IsRising xs → ys ≡ filter (λ x. not (is_before from x)) xs → IsRising ys
upper_rises from xs ys g e = subst IsRising (sym e) (rising-filter (λ v. not (is_lt (slice_cmp nat_cmp v.key.row from))) xs g)

pub to_the_end : (from to : List ℕ) (xs ys : List NumberedCell) → (length to == 0) ≡ true → ys ≡ filter (λ x. not (is_before from x)) xs → ys ≡ filter (is_in_range from to) xs
to_the_end from to xs ys none e =
    e ∙ filter_agree (λ x. not (is_before from x)) (is_in_range from to) (λ x. and_true (not (is_before from x)) ∙ ap (λ (b : Bool). not (is_before from x) && (b || is_before to x)) (sym none)) xs

pub to_a_bound : (from to : List ℕ) (xs ys zs : List NumberedCell) → (length to == 0) ≡ false → ys ≡ filter (λ x. not (is_before from x)) xs → zs ≡ filter (is_before to) ys → zs ≡ filter (is_in_range from to) xs
to_a_bound from to xs ys zs some e d =
    d ∙ ap (filter (is_before to)) e ∙ filter-filter (λ x. not (is_before from x)) (is_before to) xs
    ∙ filter_agree (λ x. not (is_before from x) && is_before to x) (is_in_range from to) (λ x. ap (λ (b : Bool). not (is_before from x) && (b || is_before to x)) (sym some)) xs
