use Rattle.std.proofs.Common.{ℕ, ◌≤◌, List, length}
use Rattle.cell_model.specs.Order.{Content}
use Rattle.region_model.specs.Lines.{Line}
use Rattle.region_state.specs.Layers.{Layered, AreLayers, taken}
use Rattle.region_state.proofs.state.catch_up.Given as goal

pub record Caught (lines : List Line) (count : ℕ) (old now : Layered) : Type 0 where
  pub before : taken lines now.waiting ≤ count
  pub within : length now.waiting ≤ length lines
  pub layers : (base : Content) → AreLayers base lines old.merged old.waiting → AreLayers base lines now.merged now.waiting
  pub room : old.room ≤ now.room

abbrev pub invariant-taking : goal.invariant-taking
invariant-taking l = Caught l.lines l.count l.initial.layers l.layers

abbrev pub decreases-taking : goal.decreases-taking
decreases-taking l = length l.layers.waiting
