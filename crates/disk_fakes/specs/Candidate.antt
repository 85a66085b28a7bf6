-- Files that a crash may leave now, and that the later calls need not leave after: how a crash is played.
use Rattle.std.specs.Prelude.{◌≡◌, ◌⊎◌, ◌≤◌, ◌<◌, ℕ, List, [], ◌∷◌, ◌++◌, length, is_some}
use Rattle.log_model.specs.declared.name.Name.{Name}
use Rattle.log_model.specs.Files.{Files, content, IsAbsent, Reads, SameBut}
use Rattle.disk_images.specs.Crash.{DiskView, IsImageNow, overwritten}
use Rattle.disk_fakes.specs.declared.op.Op.{Op}
use Rattle.disk_fakes.specs.declared.op.Op.TheVariants.{Create, Write, Sync, Rename, Remove, Settle}
use Rattle.disk_fakes.specs.History.{after, quiet, IsThere, AreNamed, MeetAll}

-- the call makes the file durable, or takes its name away
abbrev pub Needs : Op → Name → Type 0
Needs (Create name) n = ⊥
Needs (Write name at bytes) n = ⊥
Needs (Sync name) n = name ≡ n
Needs (Rename from to) n = from ≡ n
Needs (Remove name) n = name ≡ n
Needs Settle n = ⊥

-- one of the calls does
abbrev pub IsPinned : List Op → Name → Type 0
IsPinned [] n = ⊥
IsPinned (op ∷ ops) n = Needs op n ⊎ IsPinned ops n

abbrev pub IsSettle : Op → Type 0
IsSettle (Create name) = ⊥
IsSettle (Write name at bytes) = ⊥
IsSettle (Sync name) = ⊥
IsSettle (Rename from to) = ⊥
IsSettle (Remove name) = ⊥
IsSettle Settle = Unit {0}

-- one of the calls is a settle
abbrev pub IsSettled : List Op → Type 0
IsSettled [] = ⊥
IsSettled (op ∷ ops) = IsSettle op ⊎ IsSettled ops

-- an image now, which has each file that a later call needs as reads give it, and each name if there is a settle to come
pub record IsCandidate (v : DiskView) (rest : List Op) (J : Files) : Type 0 where
  pub now : IsImageNow v J
  pub pinned : (n : Name) → IsThere v.files n → IsPinned rest n → (content J n ≡ content v.files n) × ((m : Name) → v.formerly n m → IsAbsent J m)
  pub settled : IsSettled rest → (m : Name) → is_some (content J m) ≡ is_some (content v.files m)
  pub named : AreNamed J

-- after any history at which the call meets its conditions, it takes a candidate to a candidate
abbrev pub Carries : Op → List Op → Files → Files → Type 0
Carries op rest I J =
    (first : Files) (done : List Op) → AreNamed first → MeetAll (quiet first) (done ++ op ∷ [])
    → IsCandidate (after (quiet first) done) (op ∷ rest) I → IsCandidate (after (quiet first) (done ++ op ∷ [])) rest J

-- the bytes stand in the file, if it is there and reaches so far
pub record WritesWithin (name : Name) (at : ℕ) (bytes : List ℕ) (old new : Files) : Type 0 where
  pub others : SameBut name old new
  pub absent : IsAbsent old name → IsAbsent new name
  pub short : (c : List ℕ) → Reads old name c → length c < at → Reads new name c
  pub written : (c : List ℕ) → Reads old name c → at ≤ length c → Reads new name (overwritten c at bytes)
