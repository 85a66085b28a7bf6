-- What a region's state is: its base, its journal as lines, and numbers.
use Rattle.std.specs.Prelude.{◌≡◌, ℕ, ◌<◌, ◌≤◌, ◌^◌, List, map, take, Bool, refl}
use Rattle.std.specs.List.{AllPass}
use Rattle.std.specs.Coded.{Coded, code_by, coded×, coded_ℕ, coded_list}
use Rattle.std.specs.FinMap.{get}
use Rattle.std.specs.Prelude.{Some}
use Rattle.cell_model.specs.Order.{Content, VersionKey, Payload}
use Rattle.region_model.specs.Journal.{Base, IsJournal, IsPoint}
use Rattle.region_model.specs.Lines.{Line, edits_in, is_completed_line, completed_in, last_in}
use Rattle.write_queue.specs.Numbers.{Numbers}
use Rattle.mem_segments.specs.Codes.{coded_base}
use Rattle.region_state.specs.Codes.{coded_line}
use Rattle.region_state.specs.Layers.{AreLayers, taken}

pub record State : Type 0 where
  pub region : ℕ
  pub base : Base
  pub lines : List Line
  -- the greatest point that was shown
  pub shown : ℕ
  -- for how many more edits there is room
  pub room : ℕ

abbrev pub coded_state : Coded State
coded_state =
    code_by (ℕ × (Base × (List Line × (ℕ × ℕ)))) (coded× coded_ℕ (coded× coded_base (coded× (coded_list coded_line) (coded× coded_ℕ coded_ℕ))))
    (λ s. (s.region, (s.base, (s.lines, (s.shown, s.room))))) (λ p. record { region = p.0; base = p.1.0; lines = p.1.1.0; shown = p.1.1.1.0; room = p.1.1.1.1 }) (λ _. refl)

-- each version that the content holds is numbered at most last
abbrev pub IsUpTo : Content → ℕ → Type 0
IsUpTo content last = (v : VersionKey) (p : Payload) → get content v ≡ Some p → v.number ≤ last

-- the last number that was drawn
abbrev pub write_point : State → ℕ
write_point s = last_in s.base s.lines

-- p is the read point
abbrev pub IsReadPoint : State → ℕ → Type 0
IsReadPoint s p = IsPoint s.base.last (completed_in s.lines) p

-- of each line, whether it is completed
abbrev pub marks : List Line → List Bool
marks lines = map is_completed_line lines

-- what holds of a region's state at each moment
pub record IsRegion (region : ℕ) (base : Base) (lines : List Line) (queue : Numbers) (merged : Content) (waiting : List Content) : Type 0 where
  pub journal : IsJournal region base (edits_in region lines)
  pub limit : last_in base lines < 2 ^ 48
  pub numbers : queue ≡ record { last = base.last; done = marks lines }
  pub layers : AreLayers base.content lines merged waiting
  -- what is taken in is completed
  pub completed : AllPass is_completed_line (take (taken lines waiting) lines)
