-- A system as the history of its calls. What a crash may leave is the names on the one hand and the bytes of each inode on the
-- other, which reach the disk independently; each call takes both as far as the clause of the call lets them go.
use Rattle.std.specs.Prelude.{◌≡◌, ◌≢◌, ◌⊎◌, ℕ, ◌+◌, ◌≤◌, ◌<◌, List, [], ◌∷◌, length, Contains, Some, None, true, is_some, refl}
use Rattle.std.specs.FinMap.{get, insert, remove}
use Rattle.log_model.specs.declared.name.Name.{Name}
use Rattle.log_model.specs.Files.{IsName}
use Rattle.disk_images.specs.Crash.{Torn}
use Rattle.folder_system.specs.System.{Folder, Bytes, SystemView}
use Rattle.folder_system.specs.Calls.{Without}
use Rattle.system_fakes.specs.declared.op.Op.{Op}
use Rattle.system_fakes.specs.declared.op.Op.TheVariants.{Create, Begin, Write, Tear, Doubt, Sync, Move, Unlink, Place, SyncFolder, Tick}
use Rattle.system_fakes.specs.Held.{Held, held_after, bytes_of, created, begun, written, doubted, moved, unlinked, placed}

pub record State : Type 1 where
  pub held : Held
  -- a crash now may leave these names
  pub folders : Folder → Type 0
  -- a crash now may leave these bytes of the inode
  pub texts : ℕ → List ℕ → Type 0
  pub clock : ℕ
  pub image : ℕ → Folder → Bytes → Type 0

pub record IsNow (folders : Folder → Type 0) (texts : ℕ → List ℕ → Type 0) (D : Folder) (B : Bytes) : Type 0 where
  pub names : folders D
  pub bytes : (i : ℕ) → texts i (B i)

-- the same moment after a call
abbrev pub within : State → Held → (Folder → Type 0) → (ℕ → List ℕ → Type 0) → State
within s held folders texts =
    record { held = held; folders = folders; texts = texts; clock = s.clock; image = λ t D B. s.image t D B ⊎ ((t ≡ s.clock) × IsNow folders texts D B) }

-- the moment after it
abbrev pub ticked : State → State
ticked s =
    record { held = s.held; folders = s.folders; texts = s.texts; clock = s.clock + 1; image = λ t D B. ((t ≤ s.clock) × s.image t D B) ⊎ ((t ≡ s.clock + 1) × IsNow s.folders s.texts D B) }

abbrev pub or_with : (Folder → Type 0) → Name → ℕ → Folder → Type 0
or_with folders name i D = (E : Folder) × folders E × ((D ≡ E) ⊎ (D ≡ insert E name i))

abbrev pub or_moved : (Folder → Type 0) → ℕ → Name → Folder → Type 0
or_moved folders i to D = (E : Folder) × folders E × ((D ≡ E) ⊎ ((n : Name) × (get E n ≡ Some i) × (D ≡ insert (remove E n) to i)))

abbrev pub or_without : (Folder → Type 0) → ℕ → Folder → Type 0
or_without folders i D = (E : Folder) × folders E × ((D ≡ E) ⊎ Without i E D)

-- any bytes in the range, in this inode
abbrev pub torn_in : (ℕ → List ℕ → Type 0) → ℕ → ℕ → ℕ → ℕ → List ℕ → Type 0
torn_in texts i at n j c = (d : List ℕ) × texts j d × (((j ≢ i) × (c ≡ d)) ⊎ ((j ≡ i) × Torn at n d c))

abbrev pub pinned_in : (ℕ → List ℕ → Type 0) → ℕ → List ℕ → ℕ → List ℕ → Type 0
pinned_in texts i bytes j c = texts j c × (j ≡ i → c ≡ bytes)

abbrev pub step : State → Op → State
step s (Create name) = within s (created s.held name) (or_with s.folders name (length s.held.files)) s.texts
step s (Begin name) = within s (begun s.held name) s.folders s.texts
step s (Write i at bytes) = within s (written s.held i at bytes.items) s.folders (torn_in s.texts i at (length bytes.items))
step s (Tear i at bytes) = within s (doubted (written s.held i at bytes.items) i) s.folders (torn_in s.texts i at (length bytes.items))
step s (Doubt i) = within s (doubted s.held i) s.folders s.texts
step s (Sync i) = within s s.held s.folders (pinned_in s.texts i (bytes_of s.held i))
step s (Move i from to) = within s (moved s.held i from to) (or_moved s.folders i to) s.texts
step s (Unlink i name) = within s (unlinked s.held name) (or_without s.folders i) s.texts
step s (Place i name) = within s (placed s.held i name) (or_with s.folders name i) s.texts
step s SyncFolder = within s s.held (λ D. D ≡ s.held.folder) s.texts
step s Tick = ticked s

pub step-held : (s : State) (op : Op) → (step s op).held ≡ held_after s.held op
step-held s (Create name) = refl
step-held s (Begin name) = refl
step-held s (Write i at bytes) = refl
step-held s (Tear i at bytes) = refl
step-held s (Doubt i) = refl
step-held s (Sync i) = refl
step-held s (Move i from to) = refl
step-held s (Unlink i name) = refl
step-held s (Place i name) = refl
step-held s SyncFolder = refl
step-held s Tick = refl

abbrev pub after : State → List Op → State
after s [] = s
after s (op ∷ ops) = after (step s op) ops

-- a system that holds this, which a crash leaves as it is
abbrev pub quiet : Held → State
quiet h = record {
  held = h;
  folders = λ D. D ≡ h.folder;
  texts = λ i c. c ≡ bytes_of h i;
  clock = 0;
  image = λ t D B. IsNow (λ E. E ≡ h.folder) (λ i c. c ≡ bytes_of h i) D B;
}

-- the call met its conditions
abbrev pub Meets : Held → Op → Type 0
Meets h (Create name) = IsName name
Meets h (Begin name) = Unit {0}
Meets h (Write i at bytes) = (i < length h.files) × (at ≤ length (bytes_of h i))
Meets h (Tear i at bytes) = (i < length h.files) × (at ≤ length (bytes_of h i))
Meets h (Doubt i) = i < length h.files
Meets h (Sync i) = Unit {0}
Meets h (Move i from to) = (get h.folder from ≡ Some i) × (get h.folder to ≡ None) × IsName to
Meets h (Unlink i name) = get h.folder name ≡ Some i
Meets h (Place i name) = (get h.parts name ≡ Some i) × (is_some (get h.folder name) ≡ true)
Meets h SyncFolder = Unit {0}
Meets h Tick = Unit {0}

abbrev pub MeetAll : State → List Op → Type 0
MeetAll s [] = Unit {0}
MeetAll s (op ∷ ops) = Meets s.held op × MeetAll (step s op) ops

abbrev pub view_of_state : State → SystemView
view_of_state s = record {
  folder = s.held.folder;
  parts = s.held.parts;
  bytes = bytes_of s.held;
  doubtful = Contains s.held.doubtful;
  now = IsNow s.folders s.texts;
  clock = s.clock;
  image = s.image;
}
