-- What a region is opened with, of two contents.
use Rattle.std.proofs.Common.{◌≡◌, List, [], ◌∷◌, ◌++◌, sym, ap, ◌∙◌}
use Rattle.std.specs.FinMap.{empty, len, empty_of_len}
use Rattle.cell_model.specs.Order.{Content, NumberedCell}
use Rattle.cell_model.specs.Join.{joined}
use Rattle.cell_model.specs.Merge.{put_numbered}
use Rattle.cell_model.proofs.JoinLaws.{joined-one, joined-append}
use Rattle.cell_model.proofs.MergeLaws.{put_numbered-halves}

-- nothing in front changes nothing
pub joined_behind_none : (m n : Content) → len m ≡ 0 → joined (m ∷ n ∷ []) ≡ n
joined_behind_none m n none =
    ap (λ (x : Content). joined (x ∷ n ∷ [])) (empty_of_len m none)
    ∙ ap (λ (x : Content). joined (empty ∷ x ∷ [])) (sym (joined-one n))
    ∙ sym (joined-append [] (n ∷ []))
    ∙ joined-one n

-- two lists of cells put in order apart, and joined
pub joined_cells : (xs ys : List NumberedCell) (c m n : Content) → c ≡ joined (m ∷ n ∷ []) → m ≡ put_numbered empty xs → n ≡ put_numbered empty ys → c ≡ put_numbered empty (xs ++ ys)
joined_cells xs ys c m n both first second =
    both ∙ ap (λ (x : Content). joined (x ∷ n ∷ [])) first ∙ ap (λ (x : Content). joined (put_numbered empty xs ∷ x ∷ [])) second ∙ sym (put_numbered-halves xs ys)
