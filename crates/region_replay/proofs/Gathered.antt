-- The cells of entries, one more after those so far.
use Rattle.std.proofs.Common.{◌≡◌, ℕ, List, [], ◌∷◌, ◌++◌, sym, ap, ◌∙◌}
use Rattle.std.proofs.lemmas.List.{append_assoc, append-nil, map-append}
use Rattle.std.proofs.lemmas.List.Elements.{filter-append}
use Rattle.std.proofs.lemmas.Grind.{flat_map-append}
use Rattle.cell_model.specs.Cell.{Cell}
use Rattle.cell_model.specs.Order.{NumberedCell}
use Rattle.cell_model.specs.Merge.{at_number}
use Rattle.log_model.specs.Entry.{Entry}
use Rattle.found_files.specs.declared.found.FoundStore.{FoundStore}
use Rattle.region_replay.specs.Bases.{cells_above, entries_cells}
use Rattle.region_replay.specs.Dealt.{cells_of}

-- one more after a list that grew from a first one
pub pushed_more : {A : Type 0} (first before now done : List A) (x : A) → before ≡ first ++ done → now ≡ before ++ x ∷ [] → now ≡ first ++ (done ++ x ∷ [])
pushed_more first before now done x was step = step ∙ ap (λ l. l ++ x ∷ []) was ∙ append_assoc first done (x ∷ [])

pub above_more : (flushed : List ℕ → ℕ) (n : ℕ) (first before now : List NumberedCell) (done : List Cell) (c : Cell)
    → before ≡ first ++ at_number n (cells_above flushed n done) → now ≡ before ++ at_number n (cells_above flushed n (c ∷ []))
    → now ≡ first ++ at_number n (cells_above flushed n (done ++ c ∷ []))
above_more flushed n first before now done c was step =
    let front = at_number n (cells_above flushed n done) in
    let last = at_number n (cells_above flushed n (c ∷ [])) in
    let both = ap (at_number n) (filter-append _ done (c ∷ [])) ∙ map-append _ (cells_above flushed n done) (cells_above flushed n (c ∷ [])) in
    step ∙ ap (λ (l : List NumberedCell). l ++ last) was ∙ append_assoc first front last ∙ ap (λ (l : List NumberedCell). first ++ l) (sym both)

pub entries_more : (flushed : List ℕ → ℕ) (before now : List NumberedCell) (done : List Entry) (e : Entry)
    → before ≡ entries_cells flushed done → now ≡ before ++ at_number e.number (cells_above flushed e.number e.batch.cells)
    → now ≡ entries_cells flushed (done ++ e ∷ [])
entries_more flushed before now done e was step =
    let own = at_number e.number (cells_above flushed e.number e.batch.cells) in
    let both = flat_map-append (λ (x : Entry). at_number x.number (cells_above flushed x.number x.batch.cells)) done (e ∷ []) in
    step ∙ ap (λ (l : List NumberedCell). l ++ own) was ∙ ap (λ (l : List NumberedCell). entries_cells flushed done ++ l) (sym (append-nil own)) ∙ sym both

pub stores_more : (before now : List NumberedCell) (done : List FoundStore) (y : FoundStore) → before ≡ cells_of done → now ≡ before ++ y.text.cells → now ≡ cells_of (done ++ y ∷ [])
stores_more before now done y was step =
    let both = flat_map-append (λ (z : FoundStore). z.text.cells) done (y ∷ []) in
    step ∙ ap (λ (l : List NumberedCell). l ++ y.text.cells) was ∙ ap (λ (l : List NumberedCell). cells_of done ++ l) (sym (append-nil y.text.cells)) ∙ sym both
