-- The cells of one edit in order are the same whatever its number is.
use Rattle.std.specs.Prelude.{◌≡◌, ℕ, suc, List, [], ◌∷◌, ◌++◌, map, length, take}
use Rattle.std.proofs.lemmas.List.{take_at}
use Rattle.std.proofs.Common.{refl, sym, ap, subst, ◌∙◌}
use Rattle.std.specs.declared.cmp.Ordering.{Ordering}
use Rattle.std.specs.declared.cmp.Ordering.TheVariants.{Less, Equal, Greater}
use Rattle.std.specs.Ordering.{ordering_then}
use Rattle.std.specs.FinMap.{put, empty}
use Rattle.std.specs.FinMap.Entries.{by_order}
use Rattle.std.proofs.lemmas.Cmp.{tied_itself, nat_cmp_total}
use Rattle.cell_model.specs.Cell.{Cell}
use Rattle.cell_model.specs.Order.{Key, key_of, key_cmp, VersionKey, version_cmp, Payload, payload_of, NumberedCell, cell_of, cells_of, put_cells}
use Rattle.cell_model.specs.Merge.{IsRising, content_of, at_number, put_numbered}
use Rattle.cell_model.proofs.OrderLaws.{put_in, entries-empty, entries-put_cells}
use Rattle.cell_model.proofs.MergeLaws.{rising_at, cells_of-content_of, put_cells-numbered}
use Rattle.mem_segments.specs.Draft.{IsDraftOf}
use Rattle.mem_segments.proofs.Contents.{rising_content, rising-cells_of, content_of-cells_of}

-- ---- the cells of an edit by their keys alone

abbrev entry_at : ℕ → Key × Payload → VersionKey × Payload
entry_at n e = (record { key = e.0; number = n }, e.1)

abbrev cell_by : Key × Payload → Cell
cell_by e = record { row = e.0.row; family = e.0.family; qualifier = e.0.qualifier; ts = e.0.ts; kind = e.0.kind; value = e.1.value; tags = e.1.tags }

abbrev put_keys : List (Key × Payload) → List Cell → List (Key × Payload)
put_keys es [] = es
put_keys es (c ∷ cs) = put_keys (put key_cmp (key_of c) (payload_of c) es) cs

-- in order, each key once
abbrev drafted : List Cell → List Cell
drafted cs = map cell_by (put_keys [] cs)

then_equal : (o : Ordering) → ordering_then o Equal ≡ o
then_equal Less = refl
then_equal Equal = refl
then_equal Greater = refl

by_keys : (n : ℕ) (j k : Key) → version_cmp (record { key = j; number = n }) (record { key = k; number = n }) ≡ key_cmp j k
by_keys n j k = ap (ordering_then (key_cmp j k)) (tied_itself nat_cmp_total n) ∙ then_equal (key_cmp j k)

placed : (n : ℕ) (o : Ordering) (a b : List (Key × Payload)) (e : Key × Payload) (l : List (VersionKey × Payload)) (r : List (Key × Payload)) → l ≡ map (entry_at n) r
    → by_order o (map (entry_at n) a) (map (entry_at n) b) (entry_at n e ∷ l) ≡ map (entry_at n) (by_order o a b (e ∷ r))
placed n Less a b e l r h = refl
placed n Equal a b e l r h = refl
placed n Greater a b e l r h = λ i. entry_at n e ∷ h i

put_at : (n : ℕ) (k : Key) (v : Payload) (es : List (Key × Payload)) → put version_cmp (record { key = k; number = n }) v (map (entry_at n) es) ≡ map (entry_at n) (put key_cmp k v es)
put_at n k v [] = refl
put_at n k v (e ∷ es) =
    let f = entry_at n in
    let rest = put version_cmp (record { key = k; number = n }) v (map f es) in
    ap (λ o. by_order o (map f ((k, v) ∷ e ∷ es)) (map f ((e.0, v) ∷ es)) (f e ∷ rest)) (by_keys n k e.0)
    ∙ placed n (key_cmp k e.0) ((k, v) ∷ e ∷ es) ((e.0, v) ∷ es) e rest (put key_cmp k v es) (put_at n k v es)

put_in-at : (n : ℕ) (es : List (Key × Payload)) (cs : List Cell) → put_in (map (entry_at n) es) n cs ≡ map (entry_at n) (put_keys es cs)
put_in-at n es [] = refl
put_in-at n es (c ∷ cs) = ap (λ (l : List (VersionKey × Payload)). put_in l n cs) (put_at n (key_of c) (payload_of c) es) ∙ put_in-at n (put key_cmp (key_of c) (payload_of c) es) cs

cells-at : (n : ℕ) (es : List (Key × Payload)) → map cell_of (map (entry_at n) es) ≡ at_number n (map cell_by es)
cells-at n [] = refl
cells-at n (e ∷ es) = λ i. (n, cell_by e) ∷ cells-at n es i

pub cells_of-put_cells : (n : ℕ) (cs : List Cell) → cells_of (put_cells empty n cs) ≡ at_number n (drafted cs)
cells_of-put_cells n cs =
    ap (map cell_of) (entries-put_cells empty n cs ∙ ap (λ (es : List (VersionKey × Payload)). put_in es n cs) entries-empty ∙ put_in-at n [] cs)
    ∙ cells-at n (put_keys [] cs)

put_drafted : (n : ℕ) (cs : List Cell) → put_cells empty n (drafted cs) ≡ put_cells empty n cs
put_drafted n cs =
    put_cells-numbered empty n (drafted cs) ∙ ap (put_numbered empty) (sym (cells_of-put_cells n cs))
    ∙ sym (rising_content (cells_of (put_cells empty n cs)) (rising-cells_of (put_cells empty n cs))) ∙ content_of-cells_of (put_cells empty n cs)

-- ---- what is put in order at number 0

without_numbers : (n : ℕ) (cs : List Cell) → map (λ (x : NumberedCell). x.1) (at_number n cs) ≡ cs
without_numbers n [] = refl
without_numbers n (c ∷ cs) = λ i. c ∷ without_numbers n cs i

rows_are : (xs ys : List NumberedCell) (cs : List Cell) → IsRising xs → content_of xs ≡ put_numbered empty ys → ys ≡ at_number 0 cs → xs ≡ at_number 0 (drafted cs)
rows_are xs ys cs g e y =
    sym (cells_of-content_of xs g) ∙ ap cells_of (e ∙ ap (put_numbered empty) y ∙ sym (put_cells-numbered empty 0 cs)) ∙ cells_of-put_cells 0 cs

cells_are : (xs ys : List NumberedCell) (cs : List Cell) → IsRising xs → content_of xs ≡ put_numbered empty ys → ys ≡ at_number 0 cs → map (λ (x : NumberedCell). x.1) xs ≡ drafted cs
cells_are xs ys cs g e y = ap (map (λ (x : NumberedCell). x.1)) (rows_are xs ys cs g e y) ∙ without_numbers 0 (drafted cs)

pub at_zero : (xs ys : List NumberedCell) (cs : List Cell) → IsRising xs → content_of xs ≡ put_numbered empty ys → ys ≡ at_number 0 cs → xs ≡ at_number 0 (map (λ (x : NumberedCell). x.1) xs)
at_zero xs ys cs g e y = rows_are xs ys cs g e y ∙ ap (at_number 0) (sym (cells_are xs ys cs g e y))

pub is_draft : (xs ys : List NumberedCell) (cs : List Cell) → IsRising xs → content_of xs ≡ put_numbered empty ys → ys ≡ at_number 0 cs → IsDraftOf (map (λ (x : NumberedCell). x.1) xs) cs
is_draft xs ys cs g e y = λ n. ap (put_cells empty n) (cells_are xs ys cs g e y) ∙ put_drafted n cs

-- ---- what is numbered anew

anew : (n : ℕ) (xs : List NumberedCell) → map (λ (x : NumberedCell). (n, x.1)) xs ≡ at_number n (map (λ (x : NumberedCell). x.1) xs)
anew n [] = refl
anew n (x ∷ xs) = λ i. (n, x.1) ∷ anew n xs i

pub rises_anew : (n : ℕ) (ys ws xs : List NumberedCell) → ys ≡ map (λ (x : NumberedCell). (n, x.1)) ws → ws ≡ xs → IsRising xs → xs ≡ at_number 0 (map (λ (x : NumberedCell). x.1) xs) → IsRising ys
rises_anew n ys ws xs e w g z =
    subst IsRising (sym (e ∙ ap (map (λ (x : NumberedCell). (n, x.1))) w ∙ anew n xs)) (rising_at 0 n (map (λ (x : NumberedCell). x.1) xs) (subst IsRising z g))

pub content_anew : (n : ℕ) (ys ws xs : List NumberedCell) (d : List Cell) → ys ≡ map (λ (x : NumberedCell). (n, x.1)) ws → ws ≡ xs → IsRising xs → xs ≡ at_number 0 (map (λ (x : NumberedCell). x.1) xs)
    → map (λ (x : NumberedCell). x.1) xs ≡ d → content_of ys ≡ put_cells empty n d
content_anew n ys ws xs d e w g z v =
    rising_content ys (rises_anew n ys ws xs e w g z)
    ∙ ap (put_numbered empty) (e ∙ ap (map (λ (x : NumberedCell). (n, x.1))) w ∙ anew n xs ∙ ap (at_number n) v) ∙ sym (put_cells-numbered empty n d)

length_anew : (n : ℕ) (ws : List NumberedCell) → length {A = NumberedCell} (map (λ (x : NumberedCell). (n, x.1)) ws) ≡ length ws
length_anew n [] = refl
length_anew n (x ∷ ws) = ap suc (length_anew n ws)

pub kept : (n k : ℕ) (ys zs ws : List NumberedCell) → ys ≡ map (λ (x : NumberedCell). (n, x.1)) ws → length ws ≡ k → take k (ys ++ zs) ≡ ys
kept n k ys zs ws e l = take_at ys zs k (ap (λ (l : List NumberedCell). length l) e ∙ length_anew n ws ∙ l)
