-- The law of a server's calls.
use Rattle.std.specs.Prelude.{ℕ, List, AllPairs}
use Rattle.region_model.specs.Lawful.{IsLawful, InOrder}
use Rattle.server_model.specs.Pass.{Naming}
use Rattle.server_model.specs.Closing.{Region, IsClosedRegion, Handled, AllRun, passes_of, replies_of, IsListed}

-- Where all that passes know meets in a region's journal, and the replies stand by handler and call, they are lawful for it.
abbrev pub RepliesAreLawful : Type 0
RepliesAreLawful = (name : Naming) (time r : ℕ) (hs : List Handled) (x : Region) → AllRun name time hs → IsClosedRegion name r (passes_of hs) x
    → AllPairs InOrder (replies_of hs) → IsListed name r (replies_of hs) → IsLawful r x.base x.edits (replies_of hs)
