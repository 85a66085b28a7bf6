-- A disk that tells nothing.
use Rattle.std.specs.Prelude.{false, IsTrue}
use Rattle.std.proofs.Common.{true≢false, sym}
use Rattle.std.specs.FinMap as map
use Rattle.disk_images.specs.Crash.{DiskView}
use Rattle.disk_images.specs.Calls.{IsTrueDisk}

-- nothing is claimed of it
abbrev pub no_view : DiskView
no_view = record { files = map.empty; gone = λ m. ⊥; formerly = λ n m. ⊥; clock = 0; image = λ t J. ⊥ }

pub untold : IsTrue false → IsTrueDisk no_view
untold told = absurd (true≢false (sym told))
