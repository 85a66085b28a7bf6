-- What a load prints.
use Rattle.std.specs.Prelude.{ℕ, List, [], ◌∷◌, ◌++◌, codes}
use Rattle.std.specs.Fmt.{decimal}
use Rattle.script_model.specs.Report.{line, end_line}
use Rattle.made_script.specs.declared.counts.CallCounts.{CallCounts}

-- how many calls of each kind there were, and how many bytes the values of all puts have
unfoldable pub counts_text : CallCounts → List ℕ
counts_text c =
    line (codes "load" ∷ codes "puts" ∷ decimal c.puts ∷ codes "scans" ∷ decimal c.scans ∷ codes "flushes" ∷ decimal c.flushes ∷ codes "rolls" ∷ decimal c.rolls ∷ [])
    ++ line (codes "value" ∷ codes "bytes" ∷ decimal c.value_bytes ∷ [])

-- how many cells the store was recovered to
unfoldable pub cells_line : ℕ → List ℕ
cells_line n = line (codes "recovered" ∷ decimal n ∷ [])

-- of a load that was recovered
abbrev pub load_text : CallCounts → (cells : ℕ) → List ℕ
load_text c cells = counts_text c ++ (cells_line cells ++ end_line 0)

-- of a load that wasn't
abbrev pub ended_text : CallCounts → (status : ℕ) → List ℕ
ended_text c status = counts_text c ++ end_line status
