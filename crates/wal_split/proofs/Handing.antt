-- What the files as they were read, and the plan made of them, give the steps that change files.
use Rattle.std.proofs.Common.{◌≡◌, ◌∙◌, ℕ, List, sym, subst}
use Rattle.std.specs.FinMap.{keys}
use Rattle.log_model.specs.declared.name.Name.{Name}
use Rattle.log_model.specs.Files.{Files}
use Rattle.disk_images.specs.Crash.{DiskView}
use Rattle.disk_images.specs.Calls.{IsTrueDisk}
use Rattle.disk_images.specs.Settled.{IsSettled}
use Rattle.found_files.specs.declared.found.FoundEntry.{FoundEntry}
use Rattle.found_files.specs.declared.found.FoundStore.{FoundStore}
use Rattle.found_files.specs.Found.{AreRead}
use Rattle.found_files.specs.Counting.{AreCounting}
use Rattle.wal_split.specs.declared.job.EditsJob.{EditsJob}
use Rattle.wal_split.specs.declared.planning.Plan.{Plan}
use Rattle.wal_split.specs.Jobs.{AllLogged}
use Rattle.wal_split.specs.Covered.{LogsCovered}
use Rattle.wal_split.specs.Planned.{IsPlan}
use Rattle.wal_split.proofs.Plans.{all_logged, logs_covered}

-- the names are those of the files, and the stores those that count
pub of_files : (told : Type 0) (files : Files) (names slice : List Name) (xs : List FoundEntry) (every ss tt : List FoundStore) (p : Plan) → names ≡ keys files → slice ≡ names → tt ≡ ss
    → AreRead told files names names xs every → IsPlan slice xs tt p → AreRead told files (keys files) (keys files) xs every × IsPlan (keys files) xs ss p
of_files told files names slice xs every ss tt p all same stores read plan = (
  subst (λ (l : List Name). AreRead told files l l xs every) all read,
  subst (λ (l : List Name). IsPlan l xs ss p) (same ∙ all) (subst (λ (l : List FoundStore). IsPlan slice xs l p) stores plan),
)

-- these jobs and logs are those of the plan
pub handed : (told : Type 0) → told → (v : DiskView) → IsTrueDisk v → IsSettled v → (xs : List FoundEntry) (every ss : List FoundStore) (p : Plan) → AreRead told v.files (keys v.files) (keys v.files) xs every → AreCounting every ss
    → IsPlan (keys v.files) xs ss p → (js : List EditsJob) (ls : List ℕ) → js ≡ p.jobs.items → ls ≡ p.logs.items → AllLogged v.files js × LogsCovered v.files js ls
handed told is_told v true_disk settled xs every ss p read counts plan js ls jobs logs = (
  subst (λ (l : List EditsJob). AllLogged v.files l) (sym jobs) (all_logged told is_told v true_disk settled xs every ss p read counts plan),
  subst (λ (l : List EditsJob). LogsCovered v.files l ls) (sym jobs) (subst (λ (l : List ℕ). LogsCovered v.files p.jobs.items l) (sym logs) (logs_covered told is_told v true_disk settled xs every ss p read counts plan)),
)
