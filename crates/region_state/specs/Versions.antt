-- What a version is: its base, its cut and its point.
use Rattle.std.specs.Prelude.{◌≡◌, ℕ, ◌+◌, ◌-◌, List, length, take, refl}
use Rattle.std.specs.List.{AllPass}
use Rattle.std.specs.Coded.{Coded, code_by, coded×, coded_ℕ, coded_list}
use Rattle.cell_model.specs.Order.{Content, NumberedCell}
use Rattle.cell_model.specs.Join.{joined}
use Rattle.region_model.specs.Journal.{Base, Follows, visible}
use Rattle.region_model.specs.Lines.{Line, edits_in, is_completed_line, done_in, put_lines}
use Rattle.mem_segments.specs.Codes.{coded_base}
use Rattle.region_state.specs.Codes.{coded_line}

-- what readers see: a base, and the journal's lines up to the point
pub record Shown : Type 0 where
  pub base : Base
  pub cut : List Line
  pub point : ℕ

abbrev pub coded_shown : Coded Shown
coded_shown = code_by (Base × (List Line × ℕ)) (coded× coded_base (coded× (coded_list coded_line) coded_ℕ)) (λ s. (s.base, (s.cut, s.point))) (λ p. record { base = p.0; cut = p.1.0; point = p.1.1 }) (λ _. refl)

-- its cells: those of its base and of the done lines of its cut
abbrev pub shown_content : Shown → Content
shown_content s = put_lines s.base.content (done_in s.cut)

-- what a reader sees of it in a range of rows, whichever region it is
abbrev pub seen_in : ℕ → Shown → List ℕ → List ℕ → List NumberedCell
seen_in region s from to = visible s.base.content (edits_in region s.cut) s.point from to

-- of a journal's lines those up to the point
abbrev pub shown_at : Base → ℕ → List Line → Shown
shown_at base point lines = record { base = base; cut = take (point - base.last) lines; point = point }

-- the parts hold its cells, and its lines are numbered up to the point, each completed
pub record IsShown (parts : List Content) (s : Shown) : Type 0 where
  pub cells : joined parts ≡ shown_content s
  pub numbers : (region : ℕ) → Follows s.base.last (edits_in region s.cut)
  pub completed : AllPass is_completed_line s.cut
  pub point : s.point ≡ s.base.last + length s.cut
