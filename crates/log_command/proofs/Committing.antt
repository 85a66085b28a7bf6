-- Entries that go into log 1 one after the other.
use Rattle.std.proofs.Common.{◌≡◌, ℕ, zero, suc, ◌+◌, ◌*◌, ◌<◌, ◌≤◌, ◌⊎◌, Option, false, is_some, List, [], ◌∷◌, ◌++◌, length, map, take, get_or, Some, None, refl, sym, ap, subst, ◌∙◌, arith, inl, inr, add-one}
use Rattle.std.specs.List.{AllByRecursion}
use Rattle.std.proofs.lemmas.List.{length-map}
use Rattle.log_model.specs.declared.name.Name.{Name}
use Rattle.log_model.specs.Entry.{Entry, IsEntry, entry_frame}
use Rattle.log_model.specs.LogText.{IsEntryOf, in_version}
use Rattle.log_model.specs.Files.{Files, content, key_of}
use Rattle.entry_frame.proofs.SpellingLaws.{spelling_bounds}
use Rattle.disk_images.specs.Crash.{DiskView, IsImageNow, Throughout, OnlyAt}
use Rattle.disk_images.specs.Calls.{Looks}
use Rattle.disk_images.proofs.Moments.{at_end, joined, weaker, more_time}
use Rattle.recovery_laws.specs.Change.{HasText, HasEntries}
use Rattle.log_file.specs.Open.{OpenLog, IsOpen, IsStaged, HasEither}
use Rattle.log_file.specs.LogText.{at_rest}
use Rattle.log_file.proofs.Texts.{behind_none}
use Rattle.log_file.proofs.Committed.{rest_has}
use Rattle.command_base.specs.LogFiles.{log_name}
use Rattle.command_base.specs.Invocation.{AtEachMoment}
use Rattle.command_base.proofs.Endings.{each_on, looked}
use Rattle.log_command.specs.Logged.{LogHolds, IsAlone, HasFirst, HasNone}
use Rattle.log_command.specs.Writing.{WasOrFirst}

pub in_log : (name : Name) (e : Entry) → name ≡ log_name 1 → IsEntry e → IsEntryOf (in_version 2 (key_of name)) e
in_log name e is entry = record { entry = entry; region = λ some. absurd (some (ap (λ (n : Name). n.region) is)); form = λ first. absurd (omega (arith, first)) }

-- an entry at its place among others
pub nth : (es : List Entry) (i : ℕ) → i < length es → AllByRecursion IsEntry es
    → (e : Entry) × (take (suc i) es ≡ take i es ++ e ∷ []) × IsEntry e × ((d : List ℕ) → get_or (map entry_frame es) i d ≡ entry_frame e)
nth [] i lt each = absurd (omega (arith, lt))
nth (e ∷ es) zero lt each = (e, refl, each.0, λ d. refl)
nth (e ∷ es) (suc i) lt each =
    let more = nth es i (omega (arith, lt)) each.1 in
    (more.0, ap (λ (xs : List Entry). e ∷ xs) more.1, more.2, λ d. more.3 d)

-- what each image has of log 1 once a commit is over
pub either_log : (name : Name) (es batch : List Entry) (m : ℕ) (v w : DiskView) → name ≡ log_name 1 → Throughout (OnlyAt name (HasEither name es (es ++ batch)) v) m v w
    → (J : Files) → IsImageNow w J → LogHolds J es ⊎ LogHolds J (es ++ batch)
either_log name es batch m v w is over J now =
    let here : HasEither name es (es ++ batch) (content J name) = (at_end (OnlyAt name (HasEither name es (es ++ batch)) v) m v w over J now).here in
    subst (λ (n : Name). HasEither n es (es ++ batch) (content J n)) is here

-- it is log 1 in which an image differs
pub commit_named : (name : Name) (es more : List Entry) (v w : DiskView) → name ≡ log_name 1 → Throughout (OnlyAt name (HasEither name es more) v) 4 v w
    → Throughout (OnlyAt (log_name 1) (HasEither (log_name 1) es more) v) 4 v w
commit_named name es more v w is over = subst (λ (n : Name). Throughout (OnlyAt n (HasEither n es more) v) 4 v w) is over

pub open_has : (log : OpenLog) (v : DiskView) (es : List Entry) → log.name ≡ log_name 1 → IsOpen log v es → LogHolds v.files es × ((J : Files) → IsImageNow v J → LogHolds J es)
open_has log v es is open_log =
    let has : (J : Files) → content J log.name ≡ Some (at_rest log.name.number es) → LogHolds J es
    = λ J reads. subst (λ (n : Name). HasText n es None (content J n)) is (rest_has log.name es (content J log.name) open_log.each reads) in
    (has v.files open_log.file.reads, λ J now. has J (open_log.file.durable J now))

-- ---- no other file is there

alone_on : (Q : Option (List ℕ) → Type 0) (v : DiskView) (J : Files) → ((I : Files) → IsImageNow v I → IsAlone I) → OnlyAt (log_name 1) Q v J → IsAlone J
alone_on Q v J alone only m other = only.elsewhere m other ∙ alone only.base only.was m other

none_of : (found : Option (List ℕ)) → is_some found ≡ false → found ≡ None
none_of None e = refl
none_of (Some c) e = absurd cc

-- an empty disk was settled
pub settled_alone : (u v : DiskView) → ((m : Name) → content u.files m ≡ None) → v.files ≡ u.files
    → ((J : Files) (m : Name) → IsImageNow v J → is_some (content J m) ≡ is_some (content v.files m)) → (J : Files) → IsImageNow v J → IsAlone J
settled_alone u v empty same pinned J now m other =
    none_of (content J m) (pinned J m now ∙ ap (λ (f : Files). is_some (content f m)) same ∙ ap is_some (empty m))

begun_none : (v : DiskView) (J : Files) → ((I : Files) → IsImageNow v I → IsAlone I) → OnlyAt (log_name 1) (HasEntries (log_name 1) []) v J → HasNone J
begun_none v J alone only = (alone_on (HasEntries (log_name 1) []) v J alone only, only.here)

none_first : (es : List Entry) (J : Files) → HasNone J → HasFirst es J
none_first es J none = record { alone = none.0; count = 0; first = none.1 }

-- the settled disk, and the log that is begun
pub begun_none_now : (v w : DiskView) → ((I : Files) → IsImageNow v I → IsAlone I) → Throughout (OnlyAt (log_name 1) (HasEntries (log_name 1) []) v) 3 v w → (J : Files) → IsImageNow w J → HasNone J
begun_none_now v w alone over J now = begun_none v J alone (at_end (OnlyAt (log_name 1) (HasEntries (log_name 1) []) v) 3 v w over J now)

pub begun_alone : (v w : DiskView) → ((I : Files) → IsImageNow v I → IsAlone I) → Throughout (OnlyAt (log_name 1) (HasEntries (log_name 1) []) v) 3 v w → (J : Files) → IsImageNow w J → IsAlone J
begun_alone v w alone over J now = (begun_none_now v w alone over J now).0

pub begun_leaves : (es : List Entry) (u v w : DiskView) → Looks u v → ((I : Files) → IsImageNow v I → IsAlone I)
    → Throughout (OnlyAt (log_name 1) (HasEntries (log_name 1) []) v) 3 v w → AtEachMoment (WasOrFirst u es) u w
begun_leaves es u v w looks alone over =
    each_on (WasOrFirst u es) u v w (looked (WasOrFirst u es) u v looks (λ J now. inl now))
    ∣ (3, weaker (OnlyAt (log_name 1) (HasEntries (log_name 1) []) v) (WasOrFirst u es) 3 v w (λ J only. inr (none_first es J (begun_none v J alone only))) over) ∣₁

pub commits_leave : (es : List Entry) (n : ℕ) (u v w : DiskView) → AtEachMoment (WasOrFirst u es) u v → Throughout (HasFirst es) n v w → AtEachMoment (WasOrFirst u es) u w
commits_leave es n u v w first over = each_on (WasOrFirst u es) u v w first ∣ (n, weaker (HasFirst es) (WasOrFirst u es) n v w (λ J has. inr has) over) ∣₁

pub open_first : (log : OpenLog) (v : DiskView) (es : List Entry) → log.name ≡ log_name 1 → IsOpen log v [] → ((J : Files) → IsImageNow v J → IsAlone J) → (J : Files) → IsImageNow v J → HasFirst es J
open_first log v es is begun alone J now = record { alone = alone J now; count = 0; first = inl (None, (open_has log v [] is begun).1 J now) }

-- a commit of the entry at a place leaves the first entries, or one more
pub first_on : (es : List Entry) (e : Entry) (i : ℕ) (v : DiskView) → take (i + 1) es ≡ take i es ++ e ∷ [] → ((I : Files) → IsImageNow v I → IsAlone I)
    → (J : Files) → OnlyAt (log_name 1) (HasEither (log_name 1) (take i es) (take i es ++ e ∷ [])) v J → HasFirst es J
first_on es e i v is alone J only = either_one only.here where
  here : IsAlone J
  here = alone_on (HasEither (log_name 1) (take i es) (take i es ++ e ∷ [])) v J alone only

  either_one : HasEither (log_name 1) (take i es) (take i es ++ e ∷ []) (content J (log_name 1)) → HasFirst es J
  either_one (inl a) = record { alone = here; count = i; first = inl (None, a) }
  either_one (inr b) = record { alone = here; count = i + 1; first = inl (None, subst (λ (xs : List Entry). HasText (log_name 1) xs None (content J (log_name 1))) (sym is) b) }

-- the commits so far, and one more
pub committed_on : (es : List Entry) (e : Entry) (i : ℕ) (u v w : DiskView) → take (i + 1) es ≡ take i es ++ e ∷ [] → Throughout (HasFirst es) (4 * i) u v
    → Throughout (OnlyAt (log_name 1) (HasEither (log_name 1) (take i es) (take i es ++ e ∷ [])) v) 4 v w → Throughout (HasFirst es) (4 * (i + 1)) u w
committed_on es e i u v w is so_far over =
    more_time (HasFirst es) (4 * i + 4) (4 * (i + 1)) u w (omega arith)
    (joined (HasFirst es) (4 * i) 4 u v w so_far
    (weaker (OnlyAt (log_name 1) (HasEither (log_name 1) (take i es) (take i es ++ e ∷ [])) v) (HasFirst es) 4 v w
    (first_on es e i v is (λ I now. (at_end (HasFirst es) (4 * i) u v so_far I now).alone)) over))

-- an entry fits an empty stage
pub never_full : (log : OpenLog) (frame : List ℕ) (e : Entry) → IsStaged log [] → frame ≡ entry_frame e → IsEntry e → 4194304 < length log.bytes + length frame + 1 → ⊥
never_full log frame e staged is entry full =
    let none : length log.bytes ≡ 0 = ap length (staged.bytes ∙ behind_none) in
    let short : length frame ≤ 1048581 = subst (λ (b : List ℕ). length b ≤ 1048581) (sym is) (spelling_bounds (entry_frame e) ∣ (e, entry, refl) ∣₁).most in
    omega (arith, none, short, full)

-- the frame at a place is that of the entry there
pub frame_at : (frames : List (List ℕ)) (es : List Entry) (i : ℕ) (frame d : List ℕ) → frames ≡ map entry_frame es → i < length frames → AllByRecursion IsEntry es → frame ≡ get_or frames i d
    → (e : Entry) × (take (i + 1) es ≡ take i es ++ e ∷ []) × IsEntry e × (frame ≡ entry_frame e)
frame_at frames es i frame d is lt each here =
    let len : length frames ≡ length es = ap length is ∙ length-map es entry_frame in
    let n = nth es i (omega (arith, lt, len)) each in
    (n.0, ap (λ (k : ℕ). take k es) (add-one i) ∙ n.1, n.2, here ∙ ap (λ (xs : List (List ℕ)). get_or xs i d) is ∙ n.3 d)

-- an image has the first entries, or one more
pub step_to : {P : Files → Type 0} (es first : List Entry) (e : Entry) (i : ℕ) → take (i + 1) es ≡ first ++ e ∷ [] → ((J : Files) → P J → LogHolds J first ⊎ LogHolds J (first ++ e ∷ []))
    → (J : Files) → P J → LogHolds J first ⊎ LogHolds J (take (i + 1) es)
step_to es first e i is each J now = either_case J (each J now) where
  either_case : (J : Files) → LogHolds J first ⊎ LogHolds J (first ++ e ∷ []) → LogHolds J first ⊎ LogHolds J (take (i + 1) es)
  either_case J (inl a) = inl a
  either_case J (inr b) = inr (subst (λ (xs : List Entry). LogHolds J xs) (sym is) b)
