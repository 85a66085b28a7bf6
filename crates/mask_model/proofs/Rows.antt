-- What deletes mask, worked out.
use Rattle.std.proofs.Common.{◌≡◌, ℕ, List, [], ◌∷◌, ◌++◌, refl}
use Rattle.std.specs.Prelude.{codes}
use Rattle.cell_model.specs.Cell.{Cell}
use Rattle.cell_model.specs.Order.{NumberedCell}
use Rattle.mask_model.specs.Masked.{masked, shown}

abbrev cell_in : (row family qualifier : List ℕ) (ts kind : ℕ) → List ℕ → Cell
cell_in row family qualifier ts kind value = record { row = row; family = family; qualifier = qualifier; ts = ts; kind = kind; value = value; tags = [] }

abbrev cell : (qualifier : List ℕ) (ts kind : ℕ) → List ℕ → Cell
cell qualifier ts kind value = cell_in (codes "r") (codes "f") qualifier ts kind value

-- ---- each type of delete at 5, with a number below those of all puts, and puts at 6, 5 and 4 in the column q, at 5 in the column s of the family, in
-- another family, and in another row

abbrev put_6 : NumberedCell
put_6 = (13, cell (codes "q") 6 4 (codes "b"))

abbrev put_5 : NumberedCell
put_5 = (12, cell (codes "q") 5 4 (codes "a"))

abbrev put_4 : NumberedCell
put_4 = (14, cell (codes "q") 4 4 (codes "c"))

abbrev put_s : NumberedCell
put_s = (15, cell (codes "s") 5 4 [])

abbrev elsewhere : List NumberedCell
elsewhere = (16, cell_in (codes "r") (codes "g") (codes "q") 5 4 []) ∷ (17, cell_in (codes "z") (codes "f") (codes "q") 5 4 []) ∷ []

family_masks_all_up_to_it : masked 10 ((1, cell [] 5 14 []) ∷ put_6 ∷ put_5 ∷ put_4 ∷ put_s ∷ elsewhere) ≡ put_6 ∷ elsewhere
unfolding masked
family_masks_all_up_to_it = refl

family_version_masks_its_timestamp : masked 10 ((1, cell [] 5 10 []) ∷ put_6 ∷ put_5 ∷ put_4 ∷ put_s ∷ elsewhere) ≡ put_6 ∷ put_4 ∷ elsewhere
unfolding masked
family_version_masks_its_timestamp = refl

column_masks_its_column_up_to_it : masked 10 (put_6 ∷ (1, cell (codes "q") 5 12 []) ∷ put_5 ∷ put_4 ∷ put_s ∷ elsewhere) ≡ put_6 ∷ put_s ∷ elsewhere
unfolding masked
column_masks_its_column_up_to_it = refl

delete_masks_its_column_at_its_timestamp : masked 10 (put_6 ∷ (1, cell (codes "q") 5 8 []) ∷ put_5 ∷ put_4 ∷ put_s ∷ elsewhere) ≡ put_6 ∷ put_4 ∷ put_s ∷ elsewhere
unfolding masked
delete_masks_its_column_at_its_timestamp = refl

-- with a number above all of them they mask the same
number_counts_for_nothing : masked 10 ((99, cell [] 5 14 []) ∷ put_6 ∷ put_5 ∷ put_4 ∷ put_s ∷ elsewhere) ≡ put_6 ∷ elsewhere
unfolding masked
number_counts_for_nothing = refl

-- ---- what a compaction takes away: a put at 4 that is masked, and is seen where the delete is gone

abbrev deleted : List NumberedCell
deleted = put_6 ∷ (2, cell (codes "q") 5 12 []) ∷ (1, cell (codes "q") 5 4 (codes "a")) ∷ []

still_masked : masked 10 (deleted ++ put_4 ∷ []) ≡ put_6 ∷ []
unfolding masked
still_masked = refl

seen_again : masked 10 (shown deleted ++ put_4 ∷ []) ≡ put_6 ∷ put_4 ∷ []
unfolding masked
seen_again = refl

-- ---- a delete family of another qualifier masks, and a delete family version masks its timestamp alone

by_any_qualifier :
    masked 10 ((1, cell (codes "a") 3 4 []) ∷ (2, cell (codes "q") 9 10 []) ∷ (3, cell (codes "q") 9 4 []) ∷ (4, cell (codes "q") 8 4 []) ∷ (5, cell (codes "z") 3 14 []) ∷ [])
    ≡ (4, cell (codes "q") 8 4 []) ∷ []
unfolding masked
by_any_qualifier = refl

-- ---- versions

-- of two puts of one timestamp the higher number counts, and one version of each column is read
higher_counts : masked 1 ((7, cell (codes "q") 9 4 (codes "x")) ∷ (6, cell (codes "q") 9 4 (codes "y")) ∷ (5, cell (codes "q") 8 4 []) ∷ (1, cell (codes "s") 8 4 []) ∷ [])
    ≡ (7, cell (codes "q") 9 4 (codes "x")) ∷ (1, cell (codes "s") 8 4 []) ∷ []
unfolding masked
higher_counts = refl

-- the hidden put is no version: with two the one below it is read too
hidden_is_no_version : masked 2 ((7, cell (codes "q") 9 4 (codes "x")) ∷ (6, cell (codes "q") 9 4 (codes "y")) ∷ (5, cell (codes "q") 8 4 []) ∷ (4, cell (codes "q") 7 4 []) ∷ [])
    ≡ (7, cell (codes "q") 9 4 (codes "x")) ∷ (5, cell (codes "q") 8 4 []) ∷ []
unfolding masked
hidden_is_no_version = refl

none_asked_for : masked 0 (put_6 ∷ put_5 ∷ []) ≡ []
unfolding masked
none_asked_for = refl
