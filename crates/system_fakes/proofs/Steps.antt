-- Each call of a history is a call of a system.
use Rattle.std.proofs.Common.{◌≡◌, ◌≢◌, ◌⊎◌, inl, inr, ℕ, ◌+◌, ◌≤◌, ◌<◌, List, [], ◌∷◌, ◌++◌, length, Option, Some, None, is_some, true, Result, Ok, Err, Vec, get_or, refl, sym, ◌∙◌, ap, subst, arith}
use Rattle.std.specs.Prelude.{OnOk, OnErr, Contains}
use Rattle.std.specs.FinMap.{get, insert, remove}
use Rattle.std.proofs.Math.Seq.{get_or-append_seam}
use Rattle.log_model.specs.declared.name.Name.{Name}
use Rattle.log_model.specs.Files.{IsName}
use Rattle.disk_images.specs.Crash.{overwritten, Torn}
use Rattle.folder_system.specs.System.{Folder, Bytes, SystemView}
use Rattle.folder_system.specs.Calls.{IsWithin, Observes, Looks, Made, Creates, Writes, SyncsFile, Moved, Renames, Unlinked, Unlinks, SyncsFolder, PartMade, CreatesPart, Placed, PutsInPlace, Ticks}
use Rattle.system_fakes.specs.declared.op.Op.{Op}
use Rattle.system_fakes.specs.declared.op.Op.TheVariants.{Create, Begin, Write, Tear, Doubt, Sync, Move, Unlink, Place, SyncFolder, Tick}
use Rattle.std.specs.Ordering.{eq_by_cmp}
use Rattle.std.specs.FinMap.{get-empty}
use Rattle.log_model.specs.Files.{name_cmp}
use Rattle.system_fakes.specs.Held.{Held, held_after, nothing, bytes_of, written}
use Rattle.system_fakes.specs.Conditions.{AreNamed, AreSingle, AreGiven, HasNoPart, IsCertain}
use Rattle.system_fakes.specs.History.{step-held, State, IsNow, within, step, after, quiet, MeetAll, Meets, torn_in, view_of_state}
use Rattle.system_fakes.specs.Fair.{IsFair, bytes_pushed, written_here, written_other, written_torn, one_doubt}

untorn : (at n : ℕ) (c : List ℕ) → Torn at n c c
untorn at n c = record { before = refl; after = refl; no_shorter = omega arith; no_longer = omega arith }

within_not : (v : SystemView) → IsWithin v v
within_not v = record { clock = refl; past = λ t D B le there. inl there; kept = λ t D B le there. there }

within_call : (s : State) (h : Held) (f : Folder → Type 0) (c : ℕ → List ℕ → Type 0) → IsWithin (view_of_state s) (view_of_state (within s h f c))
within_call s h f c = record { clock = refl; past = λ t D B le there. there; kept = λ t D B le there. inl there }

observes_not : (v : SystemView) → Observes v v
observes_not v = record { folder = refl; bytes = λ i certain. refl; now = λ D B now. now; within = within_not v }

pub looks_not : (v : SystemView) → Looks v v
looks_not v = record { observes = observes_not v; parts = refl; sure = λ j is. is }

pub writes_not : {T E : Type 0} (e : E) (i at : ℕ) (bytes : List ℕ) (v : SystemView) → Writes {T = T} {E = E} i at bytes (Err e) v v
writes_not e i at bytes v = record {
  folder = refl;
  parts = refl;
  written = tt;
  torn = untorn at (length bytes) (v.bytes i);
  others = λ j other certain. refl;
  certain = tt;
  sure = λ j other is. is;
  now = λ D B now. (B, now, (λ j other. refl), untorn at (length bytes) (B i));
  within = within_not v;
}

pub syncs_not : {T E : Type 0} (e : E) (i : ℕ) (v : SystemView) → SyncsFile {T = T} {E = E} i (Err e) v v
syncs_not e i v = record { observes = observes_not v; parts = refl; certain = tt; sure = λ j other is. is; pinned = tt }

-- an fsync of a doubtful file pins nothing
pub syncs_doubtful : {T E : Type 0} (x : T) (i : ℕ) (v : SystemView) → v.doubtful i → SyncsFile {T = T} {E = E} i (Ok x) v v
syncs_doubtful x i v is = record { observes = observes_not v; parts = refl; certain = λ j is. is; sure = λ j other is. is; pinned = λ certain. absurd (certain is) }

pub folder_not : {T E : Type 0} (e : E) (v : SystemView) → SyncsFolder {T = T} {E = E} (Err e) v v
folder_not e v = record { looks = looks_not v; pinned = tt }

module _ (s : State) (fair : IsFair s) where
  abbrev v : SystemView
  v = view_of_state s

  empty_now : bytes_of s.held (length s.held.files) ≡ []
  empty_now = fair.unmade (length s.held.files) (bytes_of s.held (length s.held.files)) (omega arith) (fair.bytes_now (length s.held.files))

  pub makes : (name : Name) → Made name (length s.held.files) v (view_of_state (step s (Create name)))
  makes name = record {
    folder = refl;
    parts = refl;
    empty = get_or-append_seam s.held.files [] [] [];
    fresh = λ D B m is leads. omega (arith, fair.images_given D B m (length s.held.files) is leads);
    bytes = λ j other certain. bytes_pushed s.held.files j;
    certain = λ is. omega (arith, fair.doubts_given (length s.held.files) is);
    sure = λ j other is. is;
    now = λ D B now. let from = now.names in (
      from.0,
      B,
      record { names = from.1; bytes = now.bytes },
      (λ j other. refl),
      elim from.2 as (λ _. (D ≡ from.0) ⊎ ((D ≡ insert from.0 name (length s.held.files)) × (B (length s.held.files) ≡ []))) [
        | inl same ↦ inl same
        | inr new ↦ inr (new, fair.unmade (length s.held.files) (B (length s.held.files)) (omega arith) (now.bytes (length s.held.files)))
      ],
    );
    within = within_call s _ _ _;
  }

  pub begins : (name : Name) → PartMade name (length s.held.files) v (view_of_state (step s (Begin name)))
  begins name = record {
    folder = refl;
    parts = refl;
    empty = get_or-append_seam s.held.files [] [] [];
    fresh = λ D B m is leads. omega (arith, fair.images_given D B m (length s.held.files) is leads);
    bytes = λ j other certain. bytes_pushed s.held.files j;
    certain = λ is. omega (arith, fair.doubts_given (length s.held.files) is);
    sure = λ j other is. is;
    now = λ D B now. (B, record { names = now.names; bytes = now.bytes }, (λ j other. refl));
    within = within_call s _ _ _;
  }

  same_elsewhere : (i at n : ℕ) (B : Bytes) (now : (j : ℕ) → torn_in s.texts i at n j (B j)) (j : ℕ) → j ≢ i → B j ≡ (now j).0
  same_elsewhere i at n B now j other = elim (now j).2 as (λ _. B j ≡ (now j).0) [ inl same ↦ same.1 | inr here ↦ absurd (other here.0) ]

  torn_here : (i at n : ℕ) (B : Bytes) (now : (j : ℕ) → torn_in s.texts i at n j (B j)) → Torn at n (now i).0 (B i)
  torn_here i at n B now = elim (now i).2 as (λ _. Torn at n (now i).0 (B i)) [ inl other ↦ absurd (other.0 refl) | inr here ↦ here.1 ]

  pub writes : {T E : Type 0} (x : T) (i at : ℕ) (b : Vec ℕ _) (bytes : List ℕ) → b.items ≡ bytes → i < length s.held.files → at ≤ length (bytes_of s.held i)
      → Writes {T = T} {E = E} i at bytes (Ok x) v (view_of_state (step s (Write i at b)))
  writes {T} {E} x i at b bytes same lt le =
      subst (λ (l : List ℕ). Writes {T = T} {E = E} i at l (Ok x) v (view_of_state (step s (Write i at b)))) same record {
        folder = refl;
        parts = refl;
        written = written_here s.held i at b.items lt;
        torn = written_torn s.held i at b.items lt le;
        others = λ j other certain. written_other s.held i at b.items j other;
        certain = λ j is. is;
        sure = λ j other is. is;
        now = λ D B now. ((λ j. (now.bytes j).0), record { names = now.names; bytes = λ j. (now.bytes j).1 }, same_elsewhere i at (length b.items) B now.bytes, torn_here i at (length b.items) B now.bytes);
        within = within_call s _ _ _;
      }

  one_doubt_here : (i j : ℕ) → j ≢ i → Contains (s.held.doubtful ++ i ∷ []) j → Contains s.held.doubtful j
  one_doubt_here i j other is = elim (one_doubt s.held.doubtful i j is) as (λ _. Contains s.held.doubtful j) [ inl was ↦ was | inr here ↦ absurd (other here) ]

  pub tears : {T E : Type 0} (e : E) (i at : ℕ) (b : Vec ℕ _) (bytes : List ℕ) → length b.items ≡ length bytes → i < length s.held.files → at ≤ length (bytes_of s.held i)
      → Writes {T = T} {E = E} i at bytes (Err e) v (view_of_state (step s (Tear i at b)))
  tears {T} {E} e i at b bytes same lt le = record {
    folder = refl;
    parts = refl;
    written = tt;
    torn = subst (λ (n : ℕ). Torn at n (bytes_of s.held i) (bytes_of (written s.held i at b.items) i)) same (written_torn s.held i at b.items lt le);
    others = λ j other certain. written_other s.held i at b.items j other;
    certain = tt;
    sure = one_doubt_here i;
    now = λ D B now. (
      (λ j. (now.bytes j).0),
      record { names = now.names; bytes = λ j. (now.bytes j).1 },
      same_elsewhere i at (length b.items) B now.bytes,
      subst (λ (n : ℕ). Torn at n (now.bytes i).0 (B i)) same (torn_here i at (length b.items) B now.bytes),
    );
    within = within_call s _ _ _;
  }

  pub syncs : {T E : Type 0} (x : T) (i : ℕ) → SyncsFile {T = T} {E = E} i (Ok x) v (view_of_state (step s (Sync i)))
  syncs x i = record {
    observes = record { folder = refl; bytes = λ j certain. refl; now = λ D B now. record { names = now.names; bytes = λ j. (now.bytes j).0 }; within = within_call s _ _ _ };
    parts = refl;
    certain = λ j is. is;
    sure = λ j other is. is;
    pinned = λ certain D B now. (now.bytes i).1 refl;
  }

  pub doubts : {T E : Type 0} (e : E) (i : ℕ) → SyncsFile {T = T} {E = E} i (Err e) v (view_of_state (step s (Doubt i)))
  doubts e i = record {
    observes = record { folder = refl; bytes = λ j certain. refl; now = λ D B now. record { names = now.names; bytes = now.bytes }; within = within_call s _ _ _ };
    parts = refl;
    certain = tt;
    sure = one_doubt_here i;
    pinned = tt;
  }

  pub moves : (i : ℕ) (from to : Name) → get s.held.folder from ≡ Some i → Moved i from to v (view_of_state (step s (Move i from to)))
  moves i from to was = record {
    was = was;
    folder = refl;
    parts = refl;
    bytes = λ j certain. refl;
    sure = λ j is. is;
    now = λ D B now. let step = now.names in (step.0, record { names = step.1; bytes = now.bytes }, step.2);
    within = within_call s _ _ _;
  }

  pub unlinks : (i : ℕ) (name : Name) → get s.held.folder name ≡ Some i → Unlinked i name v (view_of_state (step s (Unlink i name)))
  unlinks i name was = record {
    was = was;
    folder = refl;
    parts = refl;
    bytes = λ j certain. refl;
    sure = λ j is. is;
    now = λ D B now. let step = now.names in (step.0, record { names = step.1; bytes = now.bytes }, step.2);
    within = within_call s _ _ _;
  }

  pub places : (i : ℕ) (name : Name) → get s.held.parts name ≡ Some i → Placed name i v (view_of_state (step s (Place i name)))
  places i name was = record {
    was = was;
    folder = refl;
    parts = refl;
    bytes = λ j certain. refl;
    sure = λ j is. is;
    now = λ D B now. let step = now.names in (step.0, record { names = step.1; bytes = now.bytes }, step.2);
    within = within_call s _ _ _;
  }

  pub syncs_folder : {T E : Type 0} (x : T) → SyncsFolder {T = T} {E = E} (Ok x) v (view_of_state (step s SyncFolder))
  syncs_folder x = record {
    looks = record {
      observes = record { folder = refl; bytes = λ j certain. refl; now = λ D B now. record { names = subst s.folders (sym now.names) fair.folder_now; bytes = now.bytes }; within = within_call s _ _ _ };
      parts = refl;
      sure = λ j is. is;
    };
    pinned = λ D B now. now.names;
  }

  pub ticks : Ticks v (view_of_state (step s Tick))
  ticks = record {
    folder = refl;
    parts = refl;
    bytes = refl;
    doubtful = λ j is. is;
    now = λ D B now. now;
    clock = refl;
    begins = λ D B is. elim is as (λ _. IsNow s.folders s.texts D B) [ inl early ↦ absurd (omega (arith, early.0)) | inr now ↦ now.1 ];
    past = λ t D B le is. elim is as (λ _. s.image t D B) [ inl early ↦ early.1 | inr late ↦ absurd (omega (arith, le, late.0)) ];
    kept = λ t D B le is. inl (le, is);
  }

-- the state after one call more
pub after_push : (Q : State → Type 0) (s : State) (ops : List Op) (op : Op) → Q (step (after s ops) op) → Q (after s (ops ++ op ∷ []))
after_push Q s [] op q = q
after_push Q s (o ∷ ops) op q = after_push Q (step s o) ops op q

pub did : (Q : State → Type 0) (first first_now : Held) (ops ops_now : List Op) (op : Op) → first_now ≡ first → ops_now ≡ ops ++ op ∷ [] → Q (step (after (quiet first) ops) op) → Q (after (quiet first_now) ops_now)
did Q first first_now ops ops_now op same are q =
    subst (λ (l : List Op). Q (after (quiet first_now) l)) (sym are) (subst (λ (f : Held). Q (after (quiet f) (ops ++ op ∷ []))) (sym same) (after_push Q (quiet first) ops op q))

pub stays : (Q : State → Type 0) (first first_now : Held) (ops ops_now : List Op) → first_now ≡ first → ops_now ≡ ops → Q (after (quiet first) ops) → Q (after (quiet first_now) ops_now)
stays Q first first_now ops ops_now same are q =
    subst (λ (l : List Op). Q (after (quiet first_now) l)) (sym are) (subst (λ (f : Held). Q (after (quiet f) ops)) (sym same) q)

pub tied_more : (first old new : Held) (ops ops_now : List Op) (op : Op) → old ≡ (after (quiet first) ops).held → ops_now ≡ ops ++ op ∷ [] → new ≡ held_after old op → new ≡ (after (quiet first) ops_now).held
tied_more first old new ops ops_now op tied are is =
    did (λ s. new ≡ s.held) first first ops ops_now op refl are (is ∙ ap (λ (h : Held). held_after h op) tied ∙ sym (step-held (after (quiet first) ops) op))

met_push : (s : State) (ops : List Op) (op : Op) → MeetAll s ops → Meets (after s ops).held op → MeetAll s (ops ++ op ∷ [])
met_push s [] op met now = (now, tt)
met_push s (o ∷ ops) op met now = (met.0, met_push (step s o) ops op met.1 now)

-- the conditions, after one call more
pub met_more : (first old : Held) (ops ops_now : List Op) (op : Op) → old ≡ (after (quiet first) ops).held → MeetAll (quiet first) ops → ops_now ≡ ops ++ op ∷ [] → Meets old op → MeetAll (quiet first) ops_now
met_more first old ops ops_now op tied met are now =
    subst (λ (l : List Op). MeetAll (quiet first) l) (sym are) (met_push (quiet first) ops op met (subst (λ (h : Held). Meets h op) tied now))

none_leads : {P : Type 0} (m : Name) (i : ℕ) → get nothing.folder m ≡ Some i → P
none_leads m i leads = let none = get-empty {X = ℕ} name_cmp m in absurd (cc (leads, none))

pub nothing_named : AreNamed nothing
nothing_named m i leads = none_leads m i leads

pub nothing_single : AreSingle nothing
nothing_single m q i leads second = none_leads m i leads

pub nothing_given : AreGiven nothing
nothing_given m i leads = none_leads m i leads

pub nothing_parts : HasNoPart nothing
nothing_parts m = get-empty name_cmp m

pub nothing_certain : IsCertain nothing
nothing_certain = refl

-- whatever a call that was done answers
pub creates_any : {H E : Type 0} (inode : H → ℕ) (name : Name) (x : H) (old new : SystemView) (r : Result H E) → Made name (inode x) old new → Rattle.std.specs.Prelude.IfOk r (λ y. y ≡ x) → Creates inode name r old new
creates_any inode name x old new (Ok y) made same = record { made = subst (λ (z : _). Made name (inode z) old new) (sym same) made; failed = tt }
creates_any inode name x old new (Err e) made same = record { made = tt; failed = inr (inode x, made) }

pub creates_part_any : {H E : Type 0} (inode : H → ℕ) (name : Name) (x : H) (old new : SystemView) (r : Result H E) → PartMade name (inode x) old new → Rattle.std.specs.Prelude.IfOk r (λ y. y ≡ x) → CreatesPart inode name r old new
creates_part_any inode name x old new (Ok y) made same = record { made = subst (λ (z : _). PartMade name (inode z) old new) (sym same) made; failed = tt }
creates_part_any inode name x old new (Err e) made same = record { made = tt; failed = inr (inode x, made) }

pub renames_any : {T E : Type 0} (i : ℕ) (from to : Name) (old new : SystemView) (r : Result T E) → Moved i from to old new → Renames from to r old new
renames_any i from to old new (Ok x) moved = record { moved = (i, moved); failed = tt }
renames_any i from to old new (Err e) moved = record { moved = tt; failed = inr (i, moved) }

pub unlinks_any : {T E : Type 0} (i : ℕ) (name : Name) (old new : SystemView) (r : Result T E) → Unlinked i name old new → Unlinks name r old new
unlinks_any i name old new (Ok x) unlinked = record { unlinked = (i, unlinked); failed = tt }
unlinks_any i name old new (Err e) unlinked = record { unlinked = tt; failed = inr (i, unlinked) }

pub puts_any : {T E : Type 0} (i : ℕ) (name : Name) (old new : SystemView) (r : Result T E) → Placed name i old new → PutsInPlace name r old new
puts_any i name old new (Ok x) placed = record { placed = (i, placed); failed = tt }
puts_any i name old new (Err e) placed = record { placed = tt; failed = inr (i, placed) }

module _ {T E : Type 0} (e : E) (v : SystemView) where
  pub creates_not : (inode : T → ℕ) (name : Name) → Creates {H = T} {E = E} inode name (Err e) v v
  creates_not inode name = record { made = tt; failed = inl (looks_not v) }

  pub creates_part_not : (inode : T → ℕ) (name : Name) → CreatesPart {H = T} {E = E} inode name (Err e) v v
  creates_part_not inode name = record { made = tt; failed = inl (observes_not v, λ j is. is) }

  pub renames_not : (from to : Name) → Renames {T = T} {E = E} from to (Err e) v v
  renames_not from to = record { moved = tt; failed = inl (looks_not v) }

  pub unlinks_not : (name : Name) → Unlinks {T = T} {E = E} name (Err e) v v
  unlinks_not name = record { unlinked = tt; failed = inl (looks_not v) }

  pub puts_not : (name : Name) → PutsInPlace {T = T} {E = E} name (Err e) v v
  puts_not name = record { placed = tt; failed = inl (looks_not v) }
