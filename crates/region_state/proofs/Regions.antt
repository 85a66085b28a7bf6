-- What is seen of a version is the same whichever region its lines are read as of.
use Rattle.std.proofs.Common.{◌≡◌, ℕ, Bool, true, false, nat_le, List, [], ◌∷◌, filter, refl, ap}
use Rattle.cell_model.specs.Order.{Content, put_cells, cells_of}
use Rattle.region_model.specs.Journal.{Edit, is_done, put_edits, cut_at, is_in_range}
use Rattle.region_model.specs.Lines.{Line, edits_in}
use Rattle.region_state.specs.Versions.{Shown, seen_in}

abbrev done_up_to : ℕ → List Edit → List Edit
done_up_to p edits = filter (λ e. is_done e.outcome) (cut_at p edits)

same_content : (r q p : ℕ) (m : Content) (xs : List Line) → put_edits m (done_up_to p (edits_in r xs)) ≡ put_edits m (done_up_to p (edits_in q xs))
same_content r q p m [] = refl
same_content r q p m (x ∷ xs) = go (nat_le x.number p) refl (is_done x.outcome) refl (λ n. same_content r q p n xs)
  where
    go : (b : Bool) → nat_le x.number p ≡ b → (d : Bool) → is_done x.outcome ≡ d
        → ((n : Content) → put_edits n (done_up_to p (edits_in r xs)) ≡ put_edits n (done_up_to p (edits_in q xs)))
        → put_edits m (done_up_to p (edits_in r (x ∷ xs))) ≡ put_edits m (done_up_to p (edits_in q (x ∷ xs)))
    go true within true done rest = rw (within, done) (rest (put_cells m x.number x.batch.cells))
    go true within false done rest = rw (within, done) (rest m)
    go false within d done rest = rw within (rest m)

pub same_seen : (r q : ℕ) (s : Shown) (from to : List ℕ) → seen_in r s from to ≡ seen_in q s from to
same_seen r q s from to = ap (λ (m : Content). filter (is_in_range from to) (cells_of m)) (same_content r q s.point s.base.content s.cut)
