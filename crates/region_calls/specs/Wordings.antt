-- A closed region as it is made.
use Rattle.std.specs.Prelude.{◌≡◌, ℕ, ◌+◌, List}
use Rattle.region_model.specs.Journal.{Base}
use Rattle.region_model.specs.Lines.{Line, edits_in}
use Rattle.pass_calls.specs.log_service.Closed.{synced_in, stored_in, closed_in}
use Rattle.server_model.specs.Closing.{Region}
use Rattle.region_calls.specs.Closes.{AreWordsIn}
use Rattle.region_calls.specs.declared.closed.ClosedRegion.{ClosedRegion}

-- the region as the law sees it
abbrev pub region_of : ClosedRegion → Region
region_of c = record { base = c.base; edits = edits_in c.region c.lines.items; synced = c.synced; stored = c.stored; closed = c.closed }

-- it is the region after this place, with this base and journal, and with the words of a log of n regions
pub record IsWorded (n : ℕ) (words : List ℕ) (place : ℕ) (base : Base) (xs : List Line) (c : ClosedRegion) : Type 0 where
  pub region : c.region ≡ place + 1
  pub base_is : c.base ≡ base
  pub lines : c.lines.items ≡ xs
  pub synced : c.synced ≡ synced_in words (place + 1)
  pub stored : c.stored ≡ stored_in n words (place + 1)
  pub closed : c.closed ≡ closed_in n words (place + 1)
  pub within : AreWordsIn (synced_in words (place + 1)) (stored_in n words (place + 1)) base xs
