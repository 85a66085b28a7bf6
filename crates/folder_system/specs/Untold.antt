-- A system that tells nothing.
use Rattle.std.specs.Prelude.{false, IsTrue, []}
use Rattle.std.proofs.Common.{true≢false, sym}
use Rattle.std.specs.FinMap as map
use Rattle.folder_system.specs.System.{SystemView, IsTrueSystem}

-- nothing is claimed of it
abbrev pub no_system : SystemView
no_system = record { folder = map.empty; parts = map.empty; bytes = λ i. []; doubtful = λ i. ⊥; now = λ D B. ⊥; clock = 0; image = λ t D B. ⊥ }

pub untold : IsTrue false → IsTrueSystem no_system
untold told = absurd (true≢false (sym told))
