-- Deletes mask puts, whatever their sequence ids; a later put of one column and timestamp hides the earlier ones; and of each column the first so
-- many are read.
use Rattle.std.specs.Prelude.{◌≡◌, ℕ, ◌≤◌, Bool, IsTrue, not, ◌&&◌, ◌||◌, ◌==◌, nat_le, nat_lt, if◌then◌else◌, List, [], ◌∷◌, ◌++◌, length, filter}
use Rattle.std.specs.List.{list_any}
use Rattle.std.specs.Ordering.{nat_cmp, is_eq}
use Rattle.std.specs.Cmp.Lexicographic.{slice_cmp}
use Rattle.cell_model.specs.Cell.{Cell}
use Rattle.cell_model.specs.Order.{NumberedCell}

abbrev pub same : List ℕ → List ℕ → Bool
same a b = is_eq (slice_cmp nat_cmp a b)

abbrev pub in_family : Cell → Cell → Bool
in_family a b = same a.row b.row && same a.family b.family

-- a column is a row, a family and a qualifier
abbrev pub in_column : Cell → Cell → Bool
in_column a b = in_family a b && same a.qualifier b.qualifier

-- A delete family masks the puts of its family up to its timestamp, a delete family version those of its timestamp, a delete column those of its
-- column up to its timestamp, and a delete the one of its timestamp.
abbrev pub by_delete_family : Cell → Cell → Bool
by_delete_family d p = d.kind == 14 && (in_family d p && nat_le p.ts d.ts)

abbrev pub by_delete_family_version : Cell → Cell → Bool
by_delete_family_version d p = d.kind == 10 && (in_family d p && d.ts == p.ts)

abbrev pub by_delete_column : Cell → Cell → Bool
by_delete_column d p = d.kind == 12 && (in_column d p && nat_le p.ts d.ts)

abbrev pub by_delete : Cell → Cell → Bool
by_delete d p = d.kind == 8 && (in_column d p && d.ts == p.ts)

-- the delete d masks the put p
abbrev pub masks : Cell → Cell → Bool
masks d p = by_delete_family d p || (by_delete_family_version d p || (by_delete_column d p || by_delete d p))

-- the put q hides the put p
abbrev pub hides : NumberedCell → NumberedCell → Bool
hides q p = q.1.kind == 4 && (in_column q.1 p.1 && (q.1.ts == p.1.ts && nat_lt p.0 q.0))

-- a put that none of these cells masks or hides
abbrev pub is_shown : List NumberedCell → NumberedCell → Bool
is_shown cells p = p.1.kind == 4 && (not (list_any (λ d. masks d.1 p.1) cells) && not (list_any (λ q. hides q p) cells))

-- without a limit
abbrev pub shown : List NumberedCell → List NumberedCell
shown cells = filter (is_shown cells) cells

-- how many of these are of the cell's column
abbrev pub count_in_column : NumberedCell → List NumberedCell → ℕ
count_in_column x cells = length (filter (λ y. in_column y.1 x.1) cells)

-- of each column the first so many, of which some stand before these
abbrev pub first_versions : ℕ → List NumberedCell → List NumberedCell → List NumberedCell
first_versions v before [] = []
first_versions v before (x ∷ xs) = if nat_lt (count_in_column x before) v then x ∷ first_versions v (before ++ x ∷ []) xs else first_versions v (before ++ x ∷ []) xs

-- what a reader sees of the cells who asks for so many of each column
unfoldable pub masked : ℕ → List NumberedCell → List NumberedCell
masked v cells = first_versions v [] (shown cells)

-- ---- what a compaction may take away

-- a test of cells that looks at their rows alone
abbrev pub IsOfRows : (NumberedCell → Bool) → Type 0
IsOfRows in_rows = (x y : NumberedCell) → IsTrue (same x.1.row y.1.row) → in_rows x ≡ in_rows y

-- Where only what is shown of the cells is kept, a reader of any rows sees what it saw.
abbrev pub ReadersSeeTheSame : Type 0
ReadersSeeTheSame = (in_rows : NumberedCell → Bool) (versions : ℕ) (cells : List NumberedCell) → IsOfRows in_rows → masked versions (filter in_rows (shown cells)) ≡ masked versions (filter in_rows cells)

-- As many versions as there are cells are all that is shown.
abbrev pub HasNoLimit : Type 0
HasNoLimit = (versions : ℕ) (cells : List NumberedCell) → length cells ≤ versions → masked versions cells ≡ shown cells
