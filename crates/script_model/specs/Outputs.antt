-- What the other commands print, and the lines that refuse.
use Rattle.std.specs.Prelude.{ℕ, ◌==◌, if◌then◌else◌, List, [], ◌∷◌, ◌++◌, length, Option, Some, None, codes}
use Rattle.std.specs.List.{flat_map, range_with_len}
use Rattle.std.specs.Fmt.{decimal}
use Rattle.std.specs.FinMap.{empty}
use Rattle.cell_model.specs.Order.{Content, cells_of, NumberedCell}
use Rattle.log_model.specs.declared.name.Name.{Name}
use Rattle.log_model.specs.declared.name.NameKind.{NameKind}
use Rattle.log_model.specs.declared.name.NameKind.TheVariants as kinds
use Rattle.log_model.specs.Entry.{Entry}
use Rattle.log_model.specs.Recovered.{put_entries, entries_of}
use Rattle.script_model.specs.Report.{line, cell_line}
use Rattle.script_model.specs.Text.{printed}
use Rattle.script_model.specs.Fields.{Why, why_name}
pub use Rattle.script_model.specs.Report.{end_line, replies_text}

-- ---- show

-- the content of a region's entries, in the order of the list
abbrev pub content_in : List Entry → ℕ → Content
content_in es r = put_entries empty (entries_of r es)

unfoldable pub region_line : ℕ → List ℕ
region_line r = line (codes "region" ∷ decimal r ∷ [])

-- a region that has cells, with its cells in order
abbrev pub cells_text : ℕ → List NumberedCell → List ℕ
cells_text r [] = []
cells_text r (x ∷ xs) = region_line r ++ flat_map cell_line (x ∷ xs)

abbrev pub region_part : List Entry → ℕ → List ℕ
region_part es r = cells_text r (cells_of (content_in es r))

-- regions 1 to 64
unfoldable pub show_text : List Entry → List ℕ
show_text es = flat_map (region_part es) (range_with_len 1 64) ++ end_line 0

-- ---- names

unfoldable pub name_text : Name → List ℕ
name_text name = go name.kind
  where
    go : NameKind → List ℕ
    go kinds.Log = codes "log-" ++ decimal name.number
    go kinds.Old = codes "old-" ++ decimal name.number
    go kinds.Store = codes "store-" ++ (decimal name.region ++ (45 ∷ decimal name.number))
    go kinds.Edits = codes "edits-" ++ (decimal name.region ++ (45 ∷ decimal name.number))

-- ---- dump

-- the name of the table, where there is one
abbrev pub table_line : List ℕ → List ℕ
table_line [] = []
table_line (b ∷ bs) = line (codes "table" ∷ printed (b ∷ bs) ∷ [])

-- an entry, the name of its table, and its cells as stored
unfoldable pub entry_text : Entry → List ℕ
entry_text e = line (codes "entry" ∷ decimal e.region ∷ decimal e.number ∷ decimal e.time ∷ decimal (length e.batch.cells) ∷ [])
    ++ (table_line e.batch.table ++ flat_map (λ c. cell_line (e.number, c)) e.batch.cells)

-- where an end frame was read, its count
abbrev pub ended_line : Option ℕ → List ℕ
ended_line None = []
ended_line (Some count) = line (codes "ended" ∷ decimal count ∷ [])

-- the entries of the file `log N` or `old N`
abbrev pub dump_text : List ℕ → ℕ → List Entry → Option ℕ → List ℕ
dump_text kind number es ended = line (kind ∷ decimal number ∷ []) ++ (flat_map entry_text es ++ (ended_line ended ++ end_line 0))

-- ---- recover

-- a region's last number and how many cells it recovers to
pub record RecoveredLine : Type 0 where
  pub region : ℕ
  pub last : ℕ
  pub count : ℕ

unfoldable pub recovered_line : RecoveredLine → List ℕ
recovered_line x = if x.last == 0 then [] else line (codes "recovered" ∷ decimal x.region ∷ decimal x.last ∷ decimal x.count ∷ [])

abbrev pub recover_text : List RecoveredLine → List ℕ
recover_text xs = flat_map recovered_line xs ++ end_line 0

-- ---- refusals

abbrev pub refused : List (List ℕ) → List ℕ
refused words = line (codes "refused" ∷ words)

unfoldable pub refused_memory : List ℕ
refused_memory = refused (codes "memory" ∷ [])

unfoldable pub refused_usage : List ℕ
refused_usage = refused (codes "usage" ∷ [])

unfoldable pub refused_source : List ℕ
refused_source = refused (codes "source" ∷ [])

unfoldable pub refused_disk : List ℕ
refused_disk = refused (codes "disk" ∷ [])

-- the first wrong line and its cause
unfoldable pub refused_script : ℕ → Why → List ℕ
refused_script number why = refused (codes "script" ∷ decimal number ∷ why_name why ∷ [])

-- a damaged file and the offset of the damage
unfoldable pub refused_damaged : Name → ℕ → List ℕ
refused_damaged name at = refused (codes "damaged" ∷ name_text name ∷ decimal at ∷ [])

-- two files that tell one edit of a region otherwise
unfoldable pub refused_disagree : Name → Name → ℕ → ℕ → List ℕ
refused_disagree first second region number = refused (codes "disagree" ∷ name_text first ∷ name_text second ∷ decimal region ∷ decimal number ∷ [])

-- a file that stands where an empty store is asked for
unfoldable pub refused_store : Name → List ℕ
refused_store name = refused (codes "store" ∷ name_text name ∷ [])
