-- One step of the pass: what is kept after the cell at a place, and what a reader is given of it.
use Rattle.std.proofs.Common.{◌≡◌, ℕ, suc, ◌+◌, ◌<◌, ◌⊎◌, Bool, cond, List, [], ◌∷◌, ◌++◌, length, filter, get_or, take, drop, refl, sym, ap, ◌∙◌, subst, arith}
use Rattle.std.specs.declared.cmp.Ordering.TheVariants.{Less}
use Rattle.std.proofs.lemmas.List.{length-take-le}
use Rattle.cell_model.specs.Order.{NumberedCell, numbered_cmp}
use Rattle.cell_model.specs.Merge.{IsRising}
use Rattle.mask_model.specs.Masked.{is_shown, first_versions}
use Rattle.mask_model.specs.Passing.{covered}
use Rattle.row_reader.specs.Marks.{Marked, marks, IsMarkedAt, IsMarkedUpTo}
use Rattle.row_reader.specs.Column.{Met, gives, passed, IsMet, IsReadyAt, IsPassedUpTo}
use Rattle.row_reader.proofs.Splits.{at_seam, next_front, parted}
use Rattle.row_reader.proofs.Columns.{past, given_more}

module _ (v : ℕ) (cells : List NumberedCell) (place : ℕ) (w : NumberedCell) (marked : Marked) (m : Met) (c : Bool) (rises : IsRising cells) (within : place < length cells)
    (w_is : w ≡ get_or cells place w) (covers : c ≡ marks marked w.1.ts) (of : IsMarkedAt cells place marked) (ready : IsReadyAt v cells place m) where
  -- what one step needs, where the list is parted at the place
  record IsStep (before after : List NumberedCell) : Type 0 where
    rising : IsRising (before ++ w ∷ after)
    met : IsMet v (before ++ w ∷ after) before w (λ p. (w ≡ p) ⊎ (numbered_cmp w p ≡ Less)) m
    covered_is : c ≡ covered (before ++ w ∷ after) w

  step : (before after : List NumberedCell) → cells ≡ before ++ w ∷ after → length before ≡ place → IsStep before after
  step before after split here = record {
    rising = subst IsRising split rises;
    met = subst (λ l. IsMet v l before w (λ p. (w ≡ p) ⊎ (numbered_cmp w p ≡ Less)) m) split (ready before after w split here);
    covered_is = covers ∙ of before after w w split here refl refl ∙ ap (λ l. covered l w) split;
  }

  pub marked_next : IsMarkedUpTo cells (place + 1) marked
  marked_next k next = let same : place ≡ k = omega (arith, next) in subst (λ n. IsMarkedAt cells n marked) same of

  pub passed_next : IsPassedUpTo v cells (place + 1) (passed m c w.1)
  passed_next before after x split next =
      let here : length before ≡ place = omega (arith, next) in
      let same : w ≡ x = at_seam cells before after x w place split here w_is in
      subst (λ z. IsMet v cells (before ++ z ∷ []) z (λ p. numbered_cmp z p ≡ Less) (passed m c w.1)) same
      (at_w before after (split ∙ ap (λ z. before ++ z ∷ after) (sym same)) here)
    where
      at_w : (before after : List NumberedCell) → cells ≡ before ++ w ∷ after → length before ≡ place → IsMet v cells (before ++ w ∷ []) w (λ p. numbered_cmp w p ≡ Less) (passed m c w.1)
      at_w before after split here =
          let s = step before after split here in
          subst (λ l. IsMet v l (before ++ w ∷ []) w (λ p. numbered_cmp w p ≡ Less) (passed m c w.1)) (sym split) (past v before after w m c s.rising s.met s.covered_is)

  pub seen_next : first_versions v [] (filter (is_shown cells) (take (place + 1) cells)) ≡ first_versions v [] (filter (is_shown cells) (take place cells)) ++ cond (gives m c w.1) (w ∷ []) []
  seen_next =
      let split = parted cells place w within w_is in
      let before = take place cells in
      let s = step before (drop (suc place) cells) split (length-take-le place cells (omega (arith, within))) in
      ap (λ l. first_versions v [] (filter (is_shown cells) l)) (sym (next_front cells place w within w_is))
      ∙ subst (λ l. first_versions v [] (filter (is_shown l) (before ++ w ∷ [])) ≡ first_versions v [] (filter (is_shown l) before) ++ cond (gives m c w.1) (w ∷ []) []) (sym split)
      (given_more v before (drop (suc place) cells) w m c s.rising s.met s.covered_is)
