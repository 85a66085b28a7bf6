-- The files that are open between calls.
use Rattle.std.proofs.Common.{◌≡◌, ◌≢◌, ◌⊎◌, inl, inr, ℕ, List, Contains, Some, None, sym, ap, ◌∙◌}
use Rattle.std.specs.FinMap.{get, remove}
use Rattle.log_model.specs.declared.name.Name.{Name}
use Rattle.folder_system.specs.declared.open_files.OpenFile.{OpenFile}
use Rattle.folder_system.specs.System.{Folder, SystemView}
use Rattle.folder_system.specs.Calls as sys
use Rattle.folder_system.specs.View.{AreOpen}
use Rattle.folder_system.proofs.Folders.{insert_here, insert_other, remove_other, not_none}

module _ {H : Type 0} (inode : H → ℕ) where
  -- fewer files, and the same names
  pub open_still : (u v : SystemView) (fs gs : List (OpenFile H)) → v.folder ≡ u.folder → ((f : OpenFile H) → Contains gs f → Contains fs f) → AreOpen inode u fs → AreOpen inode v gs
  open_still u v fs gs folder fewer opened f has = ap (λ (D : Folder). get D f.name) folder ∙ opened f (fewer f has)

  -- one file more
  pub open_more : (u v : SystemView) (fs gs : List (OpenFile H)) (e : OpenFile H) (name : Name) → v.folder ≡ u.folder → e.name ≡ name → get u.folder name ≡ Some (inode e.file)
      → ((f : OpenFile H) → Contains gs f → Contains fs f ⊎ (f ≡ e)) → AreOpen inode u fs → AreOpen inode v gs
  open_more u v fs gs e name folder named leads more opened f has = elim (more f has) as (λ _. get v.folder f.name ≡ Some (inode f.file)) [
    | inl before ↦ ap (λ (D : Folder). get D f.name) folder ∙ opened f before
    | inr same ↦
        ap (λ (D : Folder). get D f.name) folder ∙ ap (λ (x : OpenFile H). get u.folder x.name) same ∙ ap (λ (n : Name). get u.folder n) named ∙ leads
        ∙ ap (λ (x : OpenFile H). Some (inode x.file)) (sym same)
  ]

  -- a file was made
  pub open_made : (u v : SystemView) (fs gs : List (OpenFile H)) (e : OpenFile H) → sys.Made e.name (inode e.file) u v → get u.folder e.name ≡ None
      → ((f : OpenFile H) → Contains gs f → Contains fs f ⊎ (f ≡ e)) → AreOpen inode u fs → AreOpen inode v gs
  open_made u v fs gs e made absent more opened f has = elim (more f has) as (λ _. get v.folder f.name ≡ Some (inode f.file)) [
    | inl before ↦
        let other : f.name ≢ e.name = λ same. not_none (get u.folder f.name) (inode f.file) (ap (λ (n : Name). get u.folder n) same ∙ absent) (opened f before) in
        ap (λ (D : Folder). get D f.name) made.folder ∙ insert_other u.folder e.name f.name (inode e.file) other ∙ opened f before
    | inr same ↦
        ap (λ (x : OpenFile H). get v.folder x.name) same ∙ ap (λ (D : Folder). get D e.name) made.folder ∙ insert_here u.folder e.name (inode e.file)
        ∙ ap (λ (x : OpenFile H). Some (inode x.file)) (sym same)
  ]

  -- a file that isn't open has another name
  pub open_moved : (u v : SystemView) (fs gs : List (OpenFile H)) (i : ℕ) (from to : Name) → sys.Moved i from to u v → get u.folder to ≡ None
      → ((f : OpenFile H) → Contains gs f → f.name ≢ from) → ((f : OpenFile H) → Contains gs f → Contains fs f) → AreOpen inode u fs → AreOpen inode v gs
  open_moved u v fs gs i from to moved absent closed fewer opened f has =
      let led = opened f (fewer f has) in
      let not_to : f.name ≢ to = λ same. not_none (get u.folder f.name) (inode f.file) (ap (λ (n : Name). get u.folder n) same ∙ absent) led in
      ap (λ (D : Folder). get D f.name) moved.folder ∙ insert_other (remove u.folder from) to f.name i not_to ∙ remove_other u.folder from f.name (closed f has) ∙ led

  -- a file that isn't open is gone
  pub open_gone : (u v : SystemView) (fs gs : List (OpenFile H)) (i : ℕ) (name : Name) → sys.Unlinked i name u v
      → ((f : OpenFile H) → Contains gs f → f.name ≢ name) → ((f : OpenFile H) → Contains gs f → Contains fs f) → AreOpen inode u fs → AreOpen inode v gs
  open_gone u v fs gs i name gone closed fewer opened f has =
      ap (λ (D : Folder). get D f.name) gone.folder ∙ remove_other u.folder name f.name (closed f has) ∙ opened f (fewer f has)
