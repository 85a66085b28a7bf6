-- What a system holds, and how each call changes it.
use Rattle.std.specs.Prelude.{◌≡◌, ℕ, List, [], ◌∷◌, ◌++◌, length, get_or, set, map, Vec, refl}
use Rattle.std.specs.Coded.{Coded, Coded-set, code_by, coded×, coded_ℕ, coded_list}
use Rattle.std.specs.FinMap.{empty, insert, remove, from_entries}
use Rattle.std.specs.declared.alloc.Global.{Global}
use Rattle.log_model.specs.declared.name.Name.{Name}
use Rattle.disk_images.specs.Crash.{overwritten}
use Rattle.system_fakes.specs.declared.op.Op.{Op}
use Rattle.system_fakes.specs.declared.op.Op.TheVariants.{Create, Begin, Write, Tear, Doubt, Sync, Move, Unlink, Place, SyncFolder, Tick}
use Rattle.folder_system.specs.System.{Folder, Bytes}
use Rattle.system_fakes.specs.Order.{coded_folder}

pub record Held : Type 0 where
  -- the names, and the inodes that they lead to
  pub folder : Folder
  -- the copies that wait for their place
  pub parts : Folder
  -- the bytes of each inode that was ever given
  pub files : List (List ℕ)
  -- the inodes of which a write or an fsync has failed
  pub doubtful : List ℕ

abbrev pub bytes_of : Held → Bytes
bytes_of h i = get_or h.files i []

-- the inode that the next file gets
abbrev pub next_inode : Held → ℕ
next_inode h = length h.files

abbrev pub nothing : Held
nothing = record { folder = empty; parts = empty; files = []; doubtful = [] }

abbrev pub created : Held → Name → Held
created h name = record { folder = insert h.folder name (next_inode h); parts = h.parts; files = h.files ++ [] ∷ []; doubtful = h.doubtful }

abbrev pub begun : Held → Name → Held
begun h name = record { folder = h.folder; parts = insert h.parts name (next_inode h); files = h.files ++ [] ∷ []; doubtful = h.doubtful }

abbrev pub written : Held → ℕ → ℕ → List ℕ → Held
written h i at bytes = record { folder = h.folder; parts = h.parts; files = set h.files i (overwritten (bytes_of h i) at bytes); doubtful = h.doubtful }

abbrev pub doubted : Held → ℕ → Held
doubted h i = record { folder = h.folder; parts = h.parts; files = h.files; doubtful = h.doubtful ++ i ∷ [] }

abbrev pub moved : Held → ℕ → Name → Name → Held
moved h i from to = record { folder = insert (remove h.folder from) to i; parts = h.parts; files = h.files; doubtful = h.doubtful }

abbrev pub unlinked : Held → Name → Held
unlinked h name = record { folder = remove h.folder name; parts = h.parts; files = h.files; doubtful = h.doubtful }

abbrev pub placed : Held → ℕ → Name → Held
placed h i name = record { folder = insert h.folder name i; parts = remove h.parts name; files = h.files; doubtful = h.doubtful }

-- what is held after a call
abbrev pub held_after : Held → Op → Held
held_after h (Create name) = created h name
held_after h (Begin name) = begun h name
held_after h (Write i at bytes) = written h i at bytes.items
held_after h (Tear i at bytes) = doubted (written h i at bytes.items) i
held_after h (Doubt i) = doubted h i
held_after h (Sync i) = h
held_after h (Move i from to) = moved h i from to
held_after h (Unlink i name) = unlinked h name
held_after h (Place i name) = placed h i name
held_after h SyncFolder = h
held_after h Tick = h

abbrev fields : Type 0
fields = Folder × (Folder × (List (List ℕ) × List ℕ))

abbrev pub coded_held : Coded Held
coded_held =
    code_by fields (coded× coded_folder (coded× coded_folder (coded× (coded_list (coded_list coded_ℕ)) (coded_list coded_ℕ))))
    (λ h. (h.folder, (h.parts, (h.files, h.doubtful)))) (λ p. record { folder = p.0; parts = p.1.0; files = p.1.1.0; doubtful = p.1.1.1 }) (λ h. refl)

-- two are equal in one way
pub held_prop : (g h : Held) → IsProp (g ≡ h)
held_prop g h = Coded-set coded_held g h
