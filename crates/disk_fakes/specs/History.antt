-- A disk as the history of its calls: each call makes one moment, and what a crash may leave then follows from the moment before.
use Rattle.std.specs.Prelude.{◌≡◌, ◌≢◌, ◌⊎◌, ℕ, ◌+◌, ◌≤◌, List, [], ◌∷◌, length, Option, Some, None, true, is_some, refl}
use Rattle.std.proofs.Common.{arith}
use Rattle.std.specs.FinMap as map
use Rattle.log_model.specs.declared.name.Name.{Name}
use Rattle.log_model.specs.Files.{Files, content, IsAbsent, Same, IsName}
use Rattle.disk_images.specs.Crash.{DiskView, IsImageNow, overwritten}
use Rattle.disk_images.specs.Calls.{CreatedIn, WrittenIn, MovedIn, RemovedIn}
use Rattle.disk_fakes.specs.declared.op.Op.{Op}
use Rattle.disk_fakes.specs.declared.op.Op.TheVariants.{Create, Write, Sync, Rename, Remove, Settle}

-- the moment after v
abbrev pub next : DiskView → Files → (Name → Type 0) → (Name → Name → Type 0) → (Files → Type 0) → DiskView
next v files gone formerly now =
    record { files = files; gone = gone; formerly = formerly; clock = v.clock + 1; image = λ t J. ((t ≤ v.clock) × v.image t J) ⊎ ((t ≡ v.clock + 1) × now J) }

abbrev pub written : DiskView → Name → ℕ → List ℕ → Option (List ℕ) → DiskView
written v name at bytes None = next v v.files v.gone v.formerly (IsImageNow v)
written v name at bytes (Some c) = next v (map.insert v.files name (overwritten c at bytes)) v.gone v.formerly (λ J. (I : Files) × IsImageNow v I × WrittenIn name (v.formerly name) at (length bytes) I J)

abbrev pub renamed : DiskView → Name → Name → Option (List ℕ) → DiskView
renamed v from to None = next v v.files v.gone v.formerly (IsImageNow v)
renamed v from to (Some c) =
    next v (map.insert (map.remove v.files from) to c) (λ m. v.gone m ⊎ (m ≡ from)) (λ n m. ((n ≢ from) × v.formerly n m) ⊎ ((n ≡ to) × ((m ≡ from) ⊎ v.formerly from m)))
    (λ J. (I : Files) × IsImageNow v I × (Same I J ⊎ MovedIn from to (v.formerly from) I J))

abbrev pub step : DiskView → Op → DiskView
step v (Create name) = next v (map.insert v.files name []) v.gone v.formerly (λ J. (I : Files) × IsImageNow v I × CreatedIn name I J)
step v (Write name at bytes) = written v name at bytes.items (content v.files name)
step v (Sync name) = next v v.files v.gone (λ n m. (n ≢ name) × v.formerly n m) (λ J. IsImageNow v J × (content J name ≡ content v.files name) × ((m : Name) → v.formerly name m → IsAbsent J m))
step v (Rename from to) = renamed v from to (content v.files from)
step v (Remove name) = next v (map.remove v.files name) (λ m. v.gone m ⊎ (m ≡ name)) (λ n m. (n ≢ name) × v.formerly n m) (λ J. (I : Files) × IsImageNow v I × (Same I J ⊎ RemovedIn name (v.formerly name) I J))
step v Settle = next v v.files (λ m. ⊥) (λ n m. ⊥) (λ J. IsImageNow v J × ((m : Name) → is_some (content J m) ≡ is_some (content v.files m)))

abbrev pub after : DiskView → List Op → DiskView
after v [] = v
after v (op ∷ ops) = after (step v op) ops

-- a quiet disk with these files
abbrev pub quiet : Files → DiskView
quiet files = record { files = files; gone = λ m. ⊥; formerly = λ n m. ⊥; clock = 0; image = λ t J. Same files J }

abbrev pub IsThere : Files → Name → Type 0
IsThere files name = is_some (content files name) ≡ true

-- the file is there, and has at least so many bytes
abbrev pub Reaches : ℕ → Option (List ℕ) → Type 0
Reaches at None = ⊥
Reaches at (Some c) = at ≤ length c

-- the call met its conditions
abbrev pub Meets : DiskView → Op → Type 0
Meets v (Create name) = IsAbsent v.files name × (¬ v.gone name) × IsName name
Meets v (Write name at bytes) = Reaches at (content v.files name)
Meets v (Sync name) = IsThere v.files name
Meets v (Rename from to) = IsThere v.files from × IsAbsent v.files to × (¬ v.gone to) × IsName to
Meets v (Remove name) = IsThere v.files name
Meets v Settle = Unit {0}

abbrev pub MeetAll : DiskView → List Op → Type 0
MeetAll v [] = Unit {0}
MeetAll v (op ∷ ops) = Meets v op × MeetAll (step v op) ops

-- log and old files have region 0
abbrev pub AreNamed : Files → Type 0
AreNamed files = (m : Name) → IsThere files m → IsName m

pub step-clock : (v : DiskView) (op : Op) → (step v op).clock ≡ v.clock + 1
step-clock v (Create name) = refl
step-clock v (Write name at bytes) = elim (content v.files name) as (λ o. (written v name at bytes.items o).clock ≡ v.clock + 1) [ None ↦ refl | Some c ↦ refl ]
step-clock v (Sync name) = refl
step-clock v (Rename from to) = elim (content v.files from) as (λ o. (renamed v from to o).clock ≡ v.clock + 1) [ None ↦ refl | Some c ↦ refl ]
step-clock v (Remove name) = refl
step-clock v Settle = refl

-- each call makes one moment
pub after-clock : (v : DiskView) (ops : List Op) → (after v ops).clock ≡ v.clock + length ops
after-clock v [] = omega arith
after-clock v (op ∷ ops) = omega (arith, after-clock (step v op) ops, step-clock v op)
