-- What of kept entries isn't flushed.
use Rattle.std.specs.Prelude.{ℕ, Bool, not, leb, ◌&&◌, List, filter}
use Rattle.std.specs.List.{list_any}
use Rattle.cell_model.specs.Cell.{Cell}
use Rattle.log_model.specs.Entry.{Entry}
use Rattle.seq_accounting.specs.Accounts.{Accounts, is_for, flushed_at}

-- a cell of an entry of this number isn't flushed
abbrev pub is_unflushed : Accounts → ℕ → ℕ → Cell → Bool
is_unflushed a r n c = not (leb n (flushed_at a r c.family))

-- the entry has a cell that isn't flushed
abbrev pub has_unflushed : Accounts → ℕ → Entry → Bool
has_unflushed a r e = list_any (is_unflushed a r e.number) e.batch.cells

-- its cells of this family, or of all where it is empty, that aren't flushed
abbrev pub unflushed_cells : Accounts → ℕ → List ℕ → Entry → List Cell
unflushed_cells a r family e = filter (λ c. is_for family c.family && is_unflushed a r e.number c) e.batch.cells
