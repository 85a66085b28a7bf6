-- What a reader sees at a point is the base with the done lines up to it.
use Rattle.std.proofs.Common.{◌≡◌, ℕ, zero, suc, ◌+◌, ◌-◌, ◌<◌, ◌≤◌, nat_le, Bool, true, false, cond, not, ◌&&◌, List, [], ◌∷◌, filter, take, refl, sym, ap, ◌∙◌, arith}
use Rattle.std.proofs.lemmas.List.{take-map}
use Rattle.std.proofs.lemmas.Bool.Decides.{nat_tests}
use Rattle.std.specs.Ordering.{nat_cmp, is_lt}
use Rattle.std.specs.Cmp.Lexicographic.{slice_cmp}
use Rattle.cell_model.specs.Order.{Content, cells_of, NumberedCell}
use Rattle.region_model.specs.Journal.{Edit, Follows, is_done, put_edits, cut_at, is_in_range, visible}
use Rattle.region_model.specs.Lines.{Line, edit_in, edits_in, done_in, put_lines}
use Rattle.region_model.proofs.LineLaws.{put_edits-lines}

at_most : (a b : ℕ) → a ≤ b → nat_le a b ≡ true
at_most a b le = grind (arith, nat_tests)

more_than : (a b : ℕ) → b < a → nat_le a b ≡ false
more_than a b lt = grind (arith, nat_tests)

none_upto : (last p : ℕ) (es : List Edit) → Follows last es → p ≤ last → cut_at p es ≡ []
none_upto last p [] f le = refl
none_upto last p (e ∷ es) f le =
    let n : e.entry.number ≡ last + 1 = f.0 in
    ap (λ (b : Bool). cond b (e ∷ cut_at p es) (cut_at p es)) (more_than e.entry.number p (omega arith)) ∙ none_upto (last + 1) p es f.1 (omega arith)

-- a cut by number is a beginning by count
pub cut_by_count : (last k p : ℕ) (es : List Edit) → Follows last es → p ≡ last + k → cut_at p es ≡ take k es
cut_by_count last zero p es f is = none_upto last p es f (omega arith) ∙ sym (take_none es)
  where
    take_none : (es : List Edit) → take 0 es ≡ []
    take_none [] = refl
    take_none (e ∷ es) = refl
cut_by_count last (suc k) p [] f is = refl
cut_by_count last (suc k) p (e ∷ es) f is =
    let n : e.entry.number ≡ last + 1 = f.0 in
    ap (λ (b : Bool). cond b (e ∷ cut_at p es) (cut_at p es)) (at_most e.entry.number p (omega arith)) ∙ ap (λ (l : List Edit). e ∷ l) (cut_by_count (last + 1) k p es f.1 (omega arith))

cond_map : (r : ℕ) (b : Bool) (x : Line) (xs : List Line) → cond b (edit_in r x ∷ edits_in r xs) (edits_in r xs) ≡ edits_in r (cond b (x ∷ xs) xs)
cond_map r true x xs = refl
cond_map r false x xs = refl

pub done_edits : (r : ℕ) (xs : List Line) → filter (λ (e : Edit). is_done e.outcome) (edits_in r xs) ≡ edits_in r (done_in xs)
done_edits r [] = refl
done_edits r (x ∷ xs) = ap (λ (es : List Edit). cond (is_done x.outcome) (edit_in r x ∷ es) es) (done_edits r xs) ∙ cond_map r (is_done x.outcome) x (done_in xs)

pub visible_lines : (r : ℕ) (m : Content) (last p : ℕ) (xs : List Line) (from to : List ℕ) → Follows last (edits_in r xs) → last ≤ p
    → visible m (edits_in r xs) p from to ≡ filter (is_in_range from to) (cells_of (put_lines m (done_in (take (p - last) xs))))
visible_lines r m last p xs from to f le =
    ap (λ (es : List Edit). filter (is_in_range from to) (cells_of (put_edits m (filter (λ (e : Edit). is_done e.outcome) es)))) (cut_by_count last (p - last) p (edits_in r xs) f (omega arith) ∙ take-map (edit_in r) (p - last) xs)
    ∙ ap (λ (es : List Edit). filter (is_in_range from to) (cells_of (put_edits m es))) (done_edits r (take (p - last) xs))
    ∙ ap (λ (c : Content). filter (is_in_range from to) (cells_of c)) (put_edits-lines r m (done_in (take (p - last) xs)))

-- ---- all rows

each_row : (x : NumberedCell) → is_in_range [] [] x ≡ true
each_row x = row_any x.1.row
  where
    row_any : (row : List ℕ) → not (is_lt (slice_cmp nat_cmp row [])) && true ≡ true
    row_any [] = refl
    row_any (b ∷ bs) = refl

all_rows : (xs : List NumberedCell) → filter (is_in_range [] []) xs ≡ xs
all_rows [] = refl
all_rows (x ∷ xs) = ap (λ (b : Bool). cond b (x ∷ filter (is_in_range [] []) xs) (filter (is_in_range [] []) xs)) (each_row x) ∙ ap (λ (l : List NumberedCell). x ∷ l) (all_rows xs)

-- over all rows
pub visible_all : (r : ℕ) (m : Content) (last p : ℕ) (xs : List Line) → Follows last (edits_in r xs) → last ≤ p
    → visible m (edits_in r xs) p [] [] ≡ cells_of (put_lines m (done_in (take (p - last) xs)))
visible_all r m last p xs f le = visible_lines r m last p xs [] [] f le ∙ all_rows (cells_of (put_lines m (done_in (take (p - last) xs))))
