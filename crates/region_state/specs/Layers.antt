-- The segments that a region keeps: what is merged, and what waits for its line to end.
use Rattle.std.specs.Prelude.{◌≡◌, ℕ, ◌-◌, Bool, if◌then◌else◌, List, [], ◌∷◌, length, map, take, drop, Option, Some, None, refl}
use Rattle.std.specs.Coded.{Coded, code_by, coded×, coded_ℕ, coded_list}
use Rattle.std.specs.FinMap.{empty}
use Rattle.cell_model.specs.Order.{Content, put_cells}
use Rattle.cell_model.specs.Codes.{coded_content}
use Rattle.cell_model.specs.Join.{joined}
use Rattle.region_model.specs.Lines.{Line, done_in, put_lines}

pub record Layered : Type 0 where
  pub merged : Content
  pub waiting : List Content
  pub room : ℕ

abbrev pub coded_layered : Coded Layered
coded_layered = code_by (Content × (List Content × ℕ)) (coded× coded_content (coded× (coded_list coded_content) coded_ℕ)) (λ l. (l.merged, (l.waiting, l.room))) (λ p. record { merged = p.0; waiting = p.1.0; room = p.1.1 }) (λ _. refl)

-- all that wait: the first may be shared already
abbrev pub all_of : {A : Type 0} → (A → Content) → Option A → List Content → List Content
all_of value (Some first) rest = value first ∷ rest
all_of value None rest = rest

-- the first one that waits is gone; it is merged where its line is done
pub record TakesIn (done : Bool) (old new : Layered) : Type 0 where
  pub first : Content
  pub waiting : old.waiting ≡ first ∷ new.waiting
  pub merged : new.merged ≡ (if done then joined (old.merged ∷ first ∷ []) else old.merged)

-- the cells of a line alone
abbrev pub cells_alone : Line → Content
cells_alone x = put_cells empty x.number x.batch.cells

-- how many lines are taken in
abbrev pub taken : List Line → List Content → ℕ
taken lines waiting = length lines - length waiting

-- the base and the done ones of the lines taken in are merged, and the others wait
pub record AreLayers (base : Content) (lines : List Line) (merged : Content) (waiting : List Content) : Type 0 where
  pub waits : waiting ≡ map cells_alone (drop (taken lines waiting) lines)
  pub holds : merged ≡ put_lines base (done_in (take (taken lines waiting) lines))
