-- What a crash leaves of the edits that a handler knows to be durable.
use Rattle.std.specs.Prelude.{ℕ, ◌≤◌, List, Contains}
use Rattle.cell_model.specs.Order.{VersionKey, Payload}
use Rattle.log_model.specs.Files.{Files}
use Rattle.log_model.specs.Recovered.{IsRecovered, Puts}
use Rattle.disk_images.specs.Crash.{DiskView, IsImageNow}
use Rattle.region_model.specs.Journal.{Edit}
use Rattle.server_model.specs.Pass.{Pass}

-- Each edit of a pass's own, up to the number that it knows to be synced, is in each image of the disk: what it put is recovered.
abbrev pub KeepsReceipts : DiskView → (regions : ℕ) → List Pass → Type 0
KeepsReceipts left regions passes = (p : Pass) (r : ℕ) (e : Edit) → Contains passes p → 1 ≤ r → r ≤ regions → Contains (p.known r).own e
    → e.entry.number ≤ (p.known r).synced → (J : Files) (v : VersionKey) (x : Payload) → IsImageNow left J → Puts e.entry v x → ∥ IsRecovered J r v x ∥₁
