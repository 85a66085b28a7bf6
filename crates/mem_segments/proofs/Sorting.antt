-- The base and the step of a sort by halves, as the code has them.
use Rattle.std.specs.Prelude.{◌≡◌, ℕ, ◌<◌, ◌≤◌, List, [], ◌++◌, length, take, slice_range}
use Rattle.std.proofs.Common.{sym, ap, subst, ◌∙◌, arith}
use Rattle.std.proofs.lemmas.Slice.{between_to_end}
use Rattle.std.specs.FinMap.{empty}
use Rattle.cell_model.specs.Order.{NumberedCell}
use Rattle.cell_model.specs.Merge.{IsRising, content_of, merged, put_numbered}
use Rattle.cell_model.proofs.MergeLaws.{rising_short, content_of_short, rising-merged, content_of_halves}

pub short_rises : (out few rows : List NumberedCell) → out ≡ few ++ rows → few ≡ [] → length rows < 2 → IsRising out
short_rises out few rows e f lt = subst IsRising (sym (e ∙ ap (λ (xs : List NumberedCell). xs ++ rows) f)) (rising_short rows lt)

pub short_content : (out few rows : List NumberedCell) → out ≡ few ++ rows → few ≡ [] → length rows < 2 → content_of out ≡ put_numbered empty rows
short_content out few rows e f lt = ap content_of (e ∙ ap (λ (xs : List NumberedCell). xs ++ rows) f) ∙ content_of_short rows lt

pub halves_rise : (out first second xs ys : List NumberedCell) → out ≡ merged first second → first ≡ xs → second ≡ ys → IsRising xs → IsRising ys → IsRising out
halves_rise out first second xs ys e p q g h = subst IsRising (sym (e ∙ (λ i. merged (p i) (q i)))) (rising-merged xs ys g h)

pub halves_content : (half : ℕ) (rows out first second xs ys : List NumberedCell) → half ≤ length rows → out ≡ merged first second → first ≡ xs → second ≡ ys → IsRising xs → IsRising ys
    → content_of xs ≡ put_numbered empty (take half rows) → content_of ys ≡ put_numbered empty (slice_range rows half (length rows)) → content_of out ≡ put_numbered empty rows
halves_content half rows out first second xs ys le e p q g h a b =
    ap content_of (e ∙ (λ i. merged (p i) (q i)))
    ∙ content_of_halves half rows xs ys g h a (b ∙ ap (put_numbered empty) (between_to_end rows half (length rows) (omega arith)))
