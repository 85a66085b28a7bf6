-- Files that a crash now may leave: how a crash is played.
use Rattle.std.specs.Prelude.{◌≡◌, ℕ, List, [], ◌∷◌, ◌++◌, length, set}
use Rattle.std.specs.FinMap.{insert}
use Rattle.log_model.specs.declared.name.Name.{Name}
use Rattle.folder_system.specs.System.{Folder}
use Rattle.system_fakes.specs.declared.op.Op.{Op}
use Rattle.system_fakes.specs.Held.{Held, bytes_of}
use Rattle.system_fakes.specs.History.{State, step, after, quiet, MeetAll}
use Rattle.system_fakes.specs.Conditions.{HasNoPart, IsCertain}
use Rattle.system_fakes.specs.Fair.{IsStart}

-- a crash now may leave these names and bytes
pub record IsPlayed (s : State) (h : Held) : Type 0 where
  pub folder : s.folders h.folder
  pub bytes : (i : ℕ) → s.texts i (bytes_of h i)
  pub as_many : length h.files ≡ length s.held.files
  pub no_part : HasNoPart h
  pub certain : IsCertain h

-- Whatever came before, the call takes what a crash may leave to what it may leave afterwards. `truth` is what was held before it.
abbrev pub Plays : Op → Held → Held → Held → Type 0
Plays op truth I J =
    (first : Held) (done : List Op) → IsStart first → MeetAll (quiet first) (done ++ op ∷ []) → (after (quiet first) done).held ≡ truth
    → IsPlayed (after (quiet first) done) I → IsPlayed (after (quiet first) (done ++ op ∷ [])) J

-- an inode more, without a name
abbrev pub skipped : Held → Held
skipped h = record { folder = h.folder; parts = h.parts; files = h.files ++ [] ∷ []; doubtful = h.doubtful }

-- an inode with other bytes
abbrev pub replaced : Held → ℕ → List ℕ → Held
replaced h i bytes = record { folder = h.folder; parts = h.parts; files = set h.files i bytes; doubtful = h.doubtful }

-- a name that leads to this inode
abbrev pub pointed : Held → Name → ℕ → Held
pointed h name i = record { folder = insert h.folder name i; parts = h.parts; files = h.files; doubtful = h.doubtful }

-- the files under these names
abbrev pub named_as : Held → Folder → Held
named_as h D = record { folder = D; parts = h.parts; files = h.files; doubtful = h.doubtful }
