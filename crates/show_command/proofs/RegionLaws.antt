-- Entries by their regions, an entry at a time.
use Rattle.std.proofs.Common.{◌≡◌, ◌≢◌, ℕ, zero, suc, ◌+◌, ◌-◌, ◌<◌, ◌≤◌, ◌==◌, Bool, true, false, List, [], ◌∷◌, ◌++◌, length, get_or, map, refl, sym, ap, ◌∙◌, arith, append_assoc, append-nil}
use Rattle.std.proofs.Math.ListN.{set}
use Rattle.std.proofs.lemmas.Bool.{ne_eqb, eq-eqb}
use Rattle.std.specs.List.{flat_map, range_with_len}
use Rattle.std.specs.FinMap.{empty}
use Rattle.cell_model.specs.Order.{NumberedCell, Content, cells_of}
use Rattle.cell_model.specs.Merge.{at_number, put_numbered}
use Rattle.cell_model.proofs.MergeLaws.{put_cells-numbered, put_numbered-append}
use Rattle.log_model.specs.Entry.{Entry}
use Rattle.log_model.specs.Recovered.{entries_of, put_entries}
use Rattle.script_model.specs.Outputs.{cells_text, region_part, region_line, show_text, end_line}
use Rattle.script_model.specs.Report.{cell_line}
use Rattle.show_command.specs.Regions.{numbered_cells, by_region, parts_from}

abbrev in_region : List Entry → ℕ → List NumberedCell
in_region es r = numbered_cells (entries_of r es)

-- an entry more of this region
region_same : (r : ℕ) (e : Entry) (es : List Entry) → e.region ≡ r → in_region (es ++ e ∷ []) r ≡ in_region es r ++ at_number e.number e.batch.cells
region_same r e [] is = rw (eq-eqb e.region r is) (append-nil (at_number e.number e.batch.cells))
region_same r e (d ∷ es) is = by (d.region == r) refl (region_same r e es is)
  where
    by : (t : Bool) → (d.region == r) ≡ t → in_region (es ++ e ∷ []) r ≡ in_region es r ++ at_number e.number e.batch.cells → in_region ((d ∷ es) ++ e ∷ []) r ≡ in_region (d ∷ es) r ++ at_number e.number e.batch.cells
    by true t rest = rw (t, rest) (sym (append_assoc (at_number d.number d.batch.cells) (in_region es r) (at_number e.number e.batch.cells)))
    by false t rest = rw (t, rest) refl

-- or of another one
region_other : (r : ℕ) (e : Entry) (es : List Entry) → e.region ≢ r → in_region (es ++ e ∷ []) r ≡ in_region es r
region_other r e [] ne = rw (ne_eqb e.region r ne) refl
region_other r e (d ∷ es) ne = by (d.region == r) refl (region_other r e es ne)
  where
    by : (t : Bool) → (d.region == r) ≡ t → in_region (es ++ e ∷ []) r ≡ in_region es r → in_region ((d ∷ es) ++ e ∷ []) r ≡ in_region (d ∷ es) r
    by true t rest = rw (t, rest) refl
    by false t rest = rw (t, rest) refl

abbrev regions_from : List Entry → ℕ → ℕ → List (List NumberedCell)
regions_from es a n = map (in_region es) (range_with_len a n)

below : (n a : ℕ) (e : Entry) (es : List Entry) → e.region < a → regions_from (es ++ e ∷ []) a n ≡ regions_from es a n
below zero a e es lt = refl
below (suc n) a e es lt =
    let ne : e.region ≢ a = omega arith in
    (λ i. region_other a e es ne i ∷ below n (a + 1) e es (omega arith) i)

more : (n a k : ℕ) (e : Entry) (es : List Entry) → e.region ≡ a + k → k < n
    → regions_from (es ++ e ∷ []) a n ≡ set (regions_from es a n) k (get_or (regions_from es a n) k [] ++ at_number e.number e.batch.cells)
more zero a k e es is lt = absurd omega arith
more (suc n) a zero e es is lt =
    let here : e.region ≡ a = omega arith in
    (λ i. region_same a e es here i ∷ below n (a + 1) e es (omega arith) i)
more (suc n) a (suc k) e es is lt =
    let ne : e.region ≢ a = omega arith in
    (λ i. region_other a e es ne i ∷ more n (a + 1) k e es (omega arith) (omega arith) i)

pub entry_added : (e : Entry) (es : List Entry) (lists new : List (List NumberedCell)) → 1 ≤ e.region → e.region ≤ 64 → lists ≡ by_region es
    → new ≡ set lists (e.region - 1) (get_or lists (e.region - 1) [] ++ at_number e.number e.batch.cells) → new ≡ by_region (es ++ e ∷ [])
entry_added e es lists new given within is step =
    step ∙ ap (λ (l : List (List NumberedCell)). set l (e.region - 1) (get_or l (e.region - 1) [] ++ at_number e.number e.batch.cells)) is
    ∙ sym (more 64 1 (e.region - 1) e es (omega arith) (omega arith))

-- the content of entries is that of their cells
pub content_numbered : (m : Content) (es : List Entry) → put_entries m es ≡ put_numbered m (numbered_cells es)
content_numbered m [] = refl
content_numbered m (e ∷ es) =
    ap (λ (c : Content). put_entries c es) (put_cells-numbered m e.number e.batch.cells)
    ∙ content_numbered (put_numbered m (at_number e.number e.batch.cells)) es
    ∙ sym (put_numbered-append m (at_number e.number e.batch.cells) (numbered_cells es))

-- ---- what is printed

parts_of : (es : List Entry) (n a : ℕ) → parts_from a (regions_from es a n) ≡ flat_map (region_part es) (range_with_len a n)
parts_of es zero a = refl
parts_of es (suc n) a =
    (λ i. cells_text a (cells_of (sym (content_numbered empty (entries_of a es)) i)) ++ parts_of es n (a + 1) i)

pub text_shown : (es : List Entry) (lists : List (List NumberedCell)) (o o1 o2 : List ℕ) → o ≡ [] → lists ≡ by_region es → o1 ≡ o ++ parts_from 1 lists → o2 ≡ o1 ++ end_line 0 → o2 ≡ show_text es
unfolding show_text
text_shown es lists o o1 o2 none is e1 e2 =
    e2 ∙ ap (λ (t : List ℕ). t ++ end_line 0) (e1 ∙ ap (λ (t : List ℕ). t ++ parts_from 1 lists) none ∙ ap (parts_from 1) is ∙ parts_of es 64 1)

part_more : (a n : ℕ) (xss : List (List NumberedCell)) (xs : List NumberedCell) → n ≡ a + length xss → parts_from a (xss ++ xs ∷ []) ≡ parts_from a xss ++ cells_text n (cells_of (put_numbered empty xs))
part_more a n [] xs is =
    let here : a ≡ n = omega (arith, is) in
    append-nil _ ∙ ap (λ (r : ℕ). cells_text r (cells_of (put_numbered empty xs))) here
part_more a n (ys ∷ xss) xs is =
    ap (λ (t : List ℕ). cells_text a (cells_of (put_numbered empty ys)) ++ t) (part_more (a + 1) n xss xs (omega (arith, is)))
    ∙ sym (append_assoc (cells_text a (cells_of (put_numbered empty ys))) (parts_from (a + 1) xss) (cells_text n (cells_of (put_numbered empty xs))))

pub text_more : (o o1 o2 : List ℕ) (xss : List (List NumberedCell)) (xs : List NumberedCell) (n : ℕ) → o1 ≡ o ++ parts_from 1 xss → n ≡ 1 + length xss
    → o2 ≡ o1 ++ cells_text n (cells_of (put_numbered empty xs)) → o2 ≡ o ++ parts_from 1 (xss ++ xs ∷ [])
text_more o o1 o2 xss xs n e1 is e2 =
    let part : List ℕ = cells_text n (cells_of (put_numbered empty xs)) in
    e2 ∙ ap (λ (t : List ℕ). t ++ part) e1 ∙ append_assoc o (parts_from 1 xss) part ∙ ap (λ (t : List ℕ). o ++ t) (sym (part_more 1 n xss xs is))

pub some_cells : (r : ℕ) (xs : List NumberedCell) → 1 ≤ length xs → cells_text r xs ≡ region_line r ++ flat_map cell_line xs
some_cells r [] some = absurd omega arith
some_cells r (x ∷ xs) some = refl
