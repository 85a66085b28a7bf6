-- What a pass knows of a region meets in its journal.
use Rattle.std.specs.Prelude.{◌≡◌, ℕ, ◌≤◌, List, Contains}
use Rattle.cell_model.specs.Lists.{IsPrefix}
use Rattle.region_model.specs.Journal.{Base, Edit, last_of}
use Rattle.region_model.specs.Lines.{Line, last_in}
use Rattle.server_model.specs.Pass.{Known, handled}

-- the handler's edits are those of the journal, what was shown begins it, and no number told as spent is above its last one
pub record IsMet (base : Base) (edits : List Edit) (handler : ℕ) (k : Known) : Type 0 where
  pub own : k.own ≡ handled handler edits
  pub shown : IsPrefix k.shown edits
  pub spent : (n : ℕ) → Contains k.spent n → n ≤ last_of base.last edits

-- each of the handler's own lines that is numbered up to the last one shown is shown
abbrev pub ArePlaced : Base → List Line → List Line → Type 0
ArePlaced base own shown = (x : Line) → Contains own x → x.number ≤ last_in base shown → Contains shown x

-- the pass has seen this number shown, and each of its own lines up to there
pub record HasSeen (base : Base) (n : ℕ) (own shown : List Line) : Type 0 where
  pub seen : n ≤ last_in base shown
  pub placed : ArePlaced base own shown
