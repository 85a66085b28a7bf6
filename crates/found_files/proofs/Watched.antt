-- Reading one file changes none.
use Rattle.std.proofs.Common.{◌≡◌, ℕ, ◌+◌, List, length, ap, ◌∙◌}
use Rattle.std.proofs.Math.Logic.{∥∥₁_map}
use Rattle.log_model.specs.declared.name.Name.{Name}
use Rattle.log_model.specs.Files.{Files, content, Reads}
use Rattle.disk_images.specs.Crash.{DiskView}
use Rattle.disk_images.specs.Settled.{Watches}
use Rattle.disk_images.proofs.Reading.{reads_some}
use Rattle.disk_images.proofs.Watching.{watches_none, watches_joined}
use Rattle.file_base.specs.Looking.{OnlyLooks}
use Rattle.found_files.specs.Watching.{OnlyWatches}

watches_of : (n : ℕ) (v w : DiskView) → OnlyLooks n v w → Watches n v w
watches_of n v w looks = record { files = looks.files; gone = looks.gone; formerly = looks.formerly; moments = looks.moments }

pub watched_none : (v : DiskView) → OnlyWatches v v
watched_none v = (0, watches_none v)

pub watched : (v w : DiskView) (name : Name) → ∥ ((c : List ℕ) × Reads v.files name c) ∥₁ → ((c : List ℕ) → Reads v.files name c → OnlyLooks (length c + 1) v w) → OnlyWatches v w
watched v w name there looks =
    let r = reads_some v.files name there in
    (length r.0 + 1, watches_of (length r.0 + 1) v w (looks r.0 r.1))

pub watched_on : (u v w : DiskView) → OnlyWatches u v → OnlyWatches v w → OnlyWatches u w
watched_on u v w first second = (first.0 + second.0, watches_joined first.0 second.0 u v w first.1 second.1)

-- a file that was there is
pub there_now : (u v : DiskView) (name : Name) → v.files ≡ u.files → ∥ ((c : List ℕ) × Reads u.files name c) ∥₁ → ∥ ((c : List ℕ) × Reads v.files name c) ∥₁
there_now u v name same there = ∥∥₁_map there (λ r. (r.0, ap (λ (f : Files). content f name) same ∙ r.1))

pub reads_now : (u v : DiskView) (name : Name) (c : List ℕ) → v.files ≡ u.files → Reads u.files name c → Reads v.files name c
reads_now u v name c same reads = ap (λ (f : Files). content f name) same ∙ reads
