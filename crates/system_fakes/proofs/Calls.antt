-- What a call answers, from what it did.
use Rattle.std.proofs.Common.{◌≡◌, ◌⊎◌, inl, inr, ℕ, ◌≤◌, ◌<◌, List, [], ◌∷◌, ◌++◌, length, Some, None, Result, Ok, Err, Vec, refl, sym, ◌∙◌, ap, subst}
use Rattle.std.specs.Prelude.{OnOk, OnErr, IfOk}
use Rattle.std.specs.FinMap.{get}
use Rattle.log_model.specs.declared.name.Name.{Name}
use Rattle.folder_system.specs.System.{SystemView}
use Rattle.folder_system.specs.Calls.{Looks, Made, Creates, Writes, SyncsFile, Moved, Renames, Unlinked, Unlinks, SyncsFolder, PartMade, CreatesPart, Placed, PutsInPlace, Ticks}
use Rattle.system_fakes.specs.declared.op.Op.{Op}
use Rattle.system_fakes.specs.declared.op.Op.TheVariants.{Create, Begin, Write, Tear, Doubt, Sync, Move, Unlink, Place, SyncFolder, Tick}
use Rattle.system_fakes.specs.declared.history.History.{History}
use Rattle.system_fakes.specs.declared.fake_file.FakeFile.{FakeFile}
use Rattle.system_fakes.specs.Held.{Held, bytes_of}
use Rattle.system_fakes.specs.Table.{held_in}
use Rattle.system_fakes.specs.History.{State, step, after, quiet, view_of_state}
use Rattle.system_fakes.specs.Fair.{IsFair, fair_after, fair_quiet}
use Rattle.system_fakes.specs.Conditions.{start_of}
use Rattle.system_fakes.specs.Views.{state_of, history_view, inode_of, Did, Stays}
use Rattle.system_fakes.proofs.Steps.{did, stays, looks_not, makes, begins, writes, tears, syncs, doubts, moves, unlinks, places, syncs_folder, ticks, writes_not, syncs_not, folder_not, creates_any, creates_part_any, renames_any, unlinks_any, puts_any, creates_not, creates_part_not, renames_not, unlinks_not, puts_not}

pub fair_of : (h : History) → IsFair (state_of h)
fair_of h = fair_after (quiet (held_in h.first)) h.ops.items (fair_quiet (held_in h.first) (start_of (held_in h.first) h.named h.single h.given h.no_part h.certain)) h.met

did_now : (h new : History) (op : Op) (Q : State → Type 0) → Did op h new → Q (step (state_of h) op) → Q (state_of new)
did_now h new op Q done q = did Q (held_in h.first) (held_in new.first) h.ops.items new.ops.items op done.first done.ops q

stays_now : (h new : History) (Q : State → Type 0) → Stays h new → Q (state_of h) → Q (state_of new)
stays_now h new Q kept q = stays Q (held_in h.first) (held_in new.first) h.ops.items new.ops.items kept.first kept.ops q

-- what the table says, the history says
pub held_is : (h : History) (Q : Held → Type 0) → Q (held_in h.table) → Q (state_of h).held
held_is h Q q = subst Q h.tied q

module _ (h new : History) where
  pub created : {E : Type 0} (name : Name) (file : FakeFile) (r : Result FakeFile E) → file.inode ≡ length (held_in h.table).files → IfOk r (λ y. y ≡ file) → Did (Create name) h new → Creates inode_of name r (history_view h) (history_view new)
  created name file r given same done = did_now h new (Create name) (λ t. Creates inode_of name r (history_view h) (view_of_state t)) done
      (creates_any inode_of name file (history_view h) (view_of_state (step (state_of h) (Create name))) r
      (subst (λ (i : ℕ). Made name i (history_view h) (view_of_state (step (state_of h) (Create name)))) (sym (given ∙ ap (λ (x : Held). length x.files) h.tied)) (makes (state_of h) (fair_of h) name)) same)

  pub begun : {E : Type 0} (name : Name) (file : FakeFile) (r : Result FakeFile E) → file.inode ≡ length (held_in h.table).files → IfOk r (λ y. y ≡ file) → Did (Begin name) h new → CreatesPart inode_of name r (history_view h) (history_view new)
  begun name file r given same done = did_now h new (Begin name) (λ t. CreatesPart inode_of name r (history_view h) (view_of_state t)) done
      (creates_part_any inode_of name file (history_view h) (view_of_state (step (state_of h) (Begin name))) r
      (subst (λ (i : ℕ). PartMade name i (history_view h) (view_of_state (step (state_of h) (Begin name)))) (sym (given ∙ ap (λ (x : Held). length x.files) h.tied)) (begins (state_of h) (fair_of h) name)) same)

  pub wrote : {T E : Type 0} (x : T) (i at : ℕ) (b : Vec ℕ _) (bytes : List ℕ) → b.items ≡ bytes → i < length (held_in h.table).files → at ≤ length ((history_view h).bytes i) → Did (Write i at b) h new
      → Writes {T = T} {E = E} i at bytes (Ok x) (history_view h) (history_view new)
  wrote {T} {E} x i at b bytes same lt le done = did_now h new (Write i at b) (λ t. Writes {T = T} {E = E} i at bytes (Ok x) (history_view h) (view_of_state t)) done
      (writes (state_of h) (fair_of h) x i at b bytes same (held_is h (λ g. i < length g.files) lt) le)

  pub tore : {T E : Type 0} (e : E) (i at : ℕ) (b : Vec ℕ _) (bytes : List ℕ) → length b.items ≡ length bytes → i < length (held_in h.table).files → at ≤ length ((history_view h).bytes i) → Did (Tear i at b) h new
      → Writes {T = T} {E = E} i at bytes (Err e) (history_view h) (history_view new)
  tore {T} {E} e i at b bytes same lt le done = did_now h new (Tear i at b) (λ t. Writes {T = T} {E = E} i at bytes (Err e) (history_view h) (view_of_state t)) done
      (tears (state_of h) (fair_of h) e i at b bytes same (held_is h (λ g. i < length g.files) lt) le)

  pub synced : {T E : Type 0} (x : T) (i : ℕ) → Did (Sync i) h new → SyncsFile {T = T} {E = E} i (Ok x) (history_view h) (history_view new)
  synced {T} {E} x i done = did_now h new (Sync i) (λ t. SyncsFile {T = T} {E = E} i (Ok x) (history_view h) (view_of_state t)) done (syncs (state_of h) (fair_of h) x i)

  pub doubted : {T E : Type 0} (e : E) (i : ℕ) → Did (Doubt i) h new → SyncsFile {T = T} {E = E} i (Err e) (history_view h) (history_view new)
  doubted {T} {E} e i done = did_now h new (Doubt i) (λ t. SyncsFile {T = T} {E = E} i (Err e) (history_view h) (view_of_state t)) done (doubts (state_of h) (fair_of h) e i)

  pub renamed : {T E : Type 0} (i : ℕ) (from to : Name) (r : Result T E) → get (held_in h.table).folder from ≡ Some i → Did (Move i from to) h new → Renames from to r (history_view h) (history_view new)
  renamed i from to r was done = did_now h new (Move i from to) (λ t. Renames from to r (history_view h) (view_of_state t)) done
      (renames_any i from to (history_view h) _ r (moves (state_of h) (fair_of h) i from to (held_is h (λ g. get g.folder from ≡ Some i) was)))

  pub unlinked : {T E : Type 0} (i : ℕ) (name : Name) (r : Result T E) → get (held_in h.table).folder name ≡ Some i → Did (Unlink i name) h new → Unlinks name r (history_view h) (history_view new)
  unlinked i name r was done = did_now h new (Unlink i name) (λ t. Unlinks name r (history_view h) (view_of_state t)) done
      (unlinks_any i name (history_view h) _ r (unlinks (state_of h) (fair_of h) i name (held_is h (λ g. get g.folder name ≡ Some i) was)))

  pub placed : {T E : Type 0} (i : ℕ) (name : Name) (r : Result T E) → get (held_in h.table).parts name ≡ Some i → Did (Place i name) h new → PutsInPlace name r (history_view h) (history_view new)
  placed i name r was done = did_now h new (Place i name) (λ t. PutsInPlace name r (history_view h) (view_of_state t)) done
      (puts_any i name (history_view h) _ r (places (state_of h) (fair_of h) i name (held_is h (λ g. get g.parts name ≡ Some i) was)))

  pub folder_synced : {T E : Type 0} (x : T) → Did SyncFolder h new → SyncsFolder {T = T} {E = E} (Ok x) (history_view h) (history_view new)
  folder_synced {T} {E} x done = did_now h new SyncFolder (λ t. SyncsFolder {T = T} {E = E} (Ok x) (history_view h) (view_of_state t)) done (syncs_folder (state_of h) (fair_of h) x)

  pub ticked : Did Tick h new → Ticks (history_view h) (history_view new)
  ticked done = did_now h new Tick (λ t. Ticks (history_view h) (view_of_state t)) done (ticks (state_of h) (fair_of h))

  pub looks_stays : Stays h new → Looks (history_view h) (history_view new)
  looks_stays kept = stays_now h new (λ t. Looks (history_view h) (view_of_state t)) kept (looks_not (history_view h))

  module _ {T E : Type 0} (e : E) (kept : Stays h new) where
    pub create_stays : (inode : T → ℕ) (name : Name) → Creates {H = T} {E = E} inode name (Err e) (history_view h) (history_view new)
    create_stays inode name = stays_now h new (λ t. Creates {H = T} {E = E} inode name (Err e) (history_view h) (view_of_state t)) kept (creates_not e (history_view h) inode name)

    pub part_stays : (inode : T → ℕ) (name : Name) → CreatesPart {H = T} {E = E} inode name (Err e) (history_view h) (history_view new)
    part_stays inode name = stays_now h new (λ t. CreatesPart {H = T} {E = E} inode name (Err e) (history_view h) (view_of_state t)) kept (creates_part_not e (history_view h) inode name)

    pub write_stays : (i at : ℕ) (bytes : List ℕ) → Writes {T = T} {E = E} i at bytes (Err e) (history_view h) (history_view new)
    write_stays i at bytes = stays_now h new (λ t. Writes {T = T} {E = E} i at bytes (Err e) (history_view h) (view_of_state t)) kept (writes_not e i at bytes (history_view h))

    pub sync_stays : (i : ℕ) → SyncsFile {T = T} {E = E} i (Err e) (history_view h) (history_view new)
    sync_stays i = stays_now h new (λ t. SyncsFile {T = T} {E = E} i (Err e) (history_view h) (view_of_state t)) kept (syncs_not e i (history_view h))

    pub rename_stays : (from to : Name) → Renames {T = T} {E = E} from to (Err e) (history_view h) (history_view new)
    rename_stays from to = stays_now h new (λ t. Renames {T = T} {E = E} from to (Err e) (history_view h) (view_of_state t)) kept (renames_not e (history_view h) from to)

    pub unlink_stays : (name : Name) → Unlinks {T = T} {E = E} name (Err e) (history_view h) (history_view new)
    unlink_stays name = stays_now h new (λ t. Unlinks {T = T} {E = E} name (Err e) (history_view h) (view_of_state t)) kept (unlinks_not e (history_view h) name)

    pub place_stays : (name : Name) → PutsInPlace {T = T} {E = E} name (Err e) (history_view h) (history_view new)
    place_stays name = stays_now h new (λ t. PutsInPlace {T = T} {E = E} name (Err e) (history_view h) (view_of_state t)) kept (puts_not e (history_view h) name)

    pub folder_stays : SyncsFolder {T = T} {E = E} (Err e) (history_view h) (history_view new)
    folder_stays = stays_now h new (λ t. SyncsFolder {T = T} {E = E} (Err e) (history_view h) (view_of_state t)) kept (folder_not e (history_view h))
