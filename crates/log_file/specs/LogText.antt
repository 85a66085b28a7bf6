-- The text of a log file in parts, as it is written: up to a gate, and after it.
use Rattle.std.specs.Prelude.{ℕ, List, [], ◌∷◌, ◌++◌, length}
use Rattle.std.specs.List.{flat_map}
use Rattle.log_model.specs.declared.format.TheConstants.{OPEN_GATE}
use Rattle.log_model.specs.Entry.{Entry, entry_frame, end_frame}
use Rattle.log_model.specs.LogText.{header, opened}

-- the header and these entries, up to the next gate
unfoldable pub front : ℕ → List Entry → List ℕ
front number entries = header 2 number ++ flat_map (λ e. opened (entry_frame e)) entries

-- what is written after a closed gate to add these entries: the first one's frame, the others after open gates, and a
-- closed gate
unfoldable pub behind_gate : List Entry → List ℕ
behind_gate [] = []
behind_gate (e ∷ es) = entry_frame e ++ flat_map (λ d. opened (entry_frame d)) es ++ 0 ∷ []

-- what is written after a closed gate to end a file of so many entries: an end frame, and a closed gate
unfoldable pub behind_end : ℕ → List ℕ
behind_end count = end_frame count ++ 0 ∷ []

-- a text with these entries whose next gate stands closed
abbrev pub at_rest : ℕ → List Entry → List ℕ
at_rest number entries = front number entries ++ 0 ∷ []

-- the same with an end frame
abbrev pub ended_text : ℕ → List Entry → List ℕ
ended_text number entries = front number entries ++ OPEN_GATE ∷ behind_end (length entries)
