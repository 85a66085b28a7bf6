-- Worked examples of gets: a delete column masks the version at its timestamp, also one that is put after it.
use Rattle.std.proofs.Common.{◌≡◌, ℕ, true, codes, List, [], ◌∷◌, ◌++◌, filter, length, refl, sym, ap, ◌∙◌, arith, Contains}
use Rattle.std.specs.FinMap.{empty}
use Rattle.cell_model.specs.Batch.{batch_of}
use Rattle.cell_model.specs.Cell.{Cell}
use Rattle.cell_model.specs.Order.{NumberedCell}
use Rattle.mask_model.specs.Masked.{masked}
use Rattle.region_model.specs.Journal.{Base, Edit, Done, visible, is_in_range}
use Rattle.region_model.specs.Calls.{Raw, Newest, viewed, Scanned, Reply, get_call, is_get}
use Rattle.region_model.specs.Lawful.{IsLawful}
use Rattle.region_model.proofs.Rows.{from_empty}

abbrev base : Base
base = record { content = empty; last = 0 }

abbrev cell : (row : List ℕ) (ts kind : ℕ) (value : List ℕ) → Cell
cell row ts kind value = record { row = row; family = codes "f"; qualifier = codes "q"; ts = ts; kind = kind; value = value; tags = [] }

abbrev edit : ℕ → List Cell → Edit
edit n cells = record { entry = record { region = 1; number = n; time = 1000; batch = batch_of cells }; caller = record { handler = 1; call = n }; outcome = Done }

abbrev edits : List Edit
edits =
    edit 1 (cell (codes "r") 5 4 (codes "a") ∷ cell (114 ∷ 0 ∷ []) 5 4 (codes "c") ∷ [])
    ∷ edit 2 (cell (codes "r") 5 12 [] ∷ []) ∷ edit 3 (cell (codes "r") 6 4 (codes "b") ∷ []) ∷ edit 4 (cell (codes "r") 4 4 (codes "d") ∷ []) ∷ []

-- all cells of the row, and none of the row that begins with it
abbrev cells_of_row : List NumberedCell
cells_of_row =
    (3, cell (codes "r") 6 4 (codes "b")) ∷ (2, cell (codes "r") 5 12 []) ∷ (1, cell (codes "r") 5 4 (codes "a")) ∷ (4, cell (codes "r") 4 4 (codes "d")) ∷ []

row_seen : visible empty edits 4 (codes "r") (codes "r" ++ 0 ∷ []) ≡ cells_of_row
row_seen = ap (filter (is_in_range (codes "r") (codes "r" ++ 0 ∷ []))) (from_empty edits)

left : masked 10 cells_of_row ≡ (3, cell (codes "r") 6 4 (codes "b")) ∷ []
unfolding masked
left = refl

pub get_sees : viewed (Newest 10) (visible empty edits 4 (codes "r") (codes "r" ++ 0 ∷ [])) ≡ (3, cell (codes "r") 6 4 (codes "b")) ∷ []
get_sees = ap (masked 10) row_seen ∙ left

pub raw_scan_sees : viewed Raw (visible empty edits 4 (codes "r") (codes "r" ++ 0 ∷ [])) ≡ cells_of_row
raw_scan_sees = row_seen

pub gets_told_apart : is_get (get_call 1 (codes "r") 10) ≡ true
gets_told_apart = refl

-- a get that shows what a delete masks
abbrev shows_all : Reply
shows_all = record { handler = 2; number = 1; call = get_call 1 (codes "r") 10; answer = Scanned 4 cells_of_row }

pub masked_version_shown : IsLawful 1 base edits (shows_all ∷ []) → ⊥
masked_version_shown law =
    let told : cells_of_row ≡ viewed (Newest 10) (visible empty edits 4 (codes "r") (codes "r" ++ 0 ∷ [])) =
    (law.scans shows_all (Newest 10) (codes "r") (codes "r" ++ 0 ∷ []) 4 cells_of_row (0, omega arith, refl) refl refl).2 in
    let long : 4 ≡ 1 = ap length (told ∙ get_sees) in
    omega (arith, long)
