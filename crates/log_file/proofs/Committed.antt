-- What a commit leaves of a log file.
use Rattle.std.proofs.Common.{◌≡◌, inl, inr, ⊎_elim, ℕ, ◌+◌, ◌<◌, List, [], ◌∷◌, ◌++◌, length, Option, Some, None, refl, sym, ◌∙◌, ap, subst, arith, length-append}
use Rattle.std.proofs.lemmas.Bool.{cases_lt}
use Rattle.std.proofs.lemmas.List.{append-nil}
use Rattle.log_model.specs.declared.name.Name.{Name}
use Rattle.log_model.specs.Entry.{Entry}
use Rattle.log_model.specs.LogText.{IsLogText}
use Rattle.log_model.specs.Files.{Files, content, key_of}
use Rattle.disk_images.specs.Crash.{DiskView, IsImageNow, Throughout, OnlyAt}
use Rattle.disk_images.specs.Gate.{ClosedOrOpen}
use Rattle.disk_images.specs.OneFile.{IsShort, IsDurableFile}
use Rattle.disk_images.proofs.Moments.{more_time, at_once}
use Rattle.disk_images.proofs.Torn.{only_weaker, only_unchanged}
use Rattle.recovery_laws.specs.Change.{HasText, HasEntries}
use Rattle.log_file.specs.LogText.{front, behind_gate, behind_end, at_rest, ended_text}
use Rattle.log_file.specs.Open.{OpenLog, AreEntriesOf, HasEither, HasEnding, IsStaged, IsOpen}
use Rattle.log_file.specs.Calls.{IsSameFile}
use Rattle.log_file.proofs.Texts.{length-front-nil, text_closed, entries_at_rest, entries_ended, opened_batch, each_append}

reads_as : (name : Name) (es : List Entry) (ended : Option ℕ) (image : Option (List ℕ)) (bytes text : List ℕ) → image ≡ Some bytes → bytes ≡ text → IsLogText (key_of name) text es ended → HasText name es ended image
reads_as name es ended image bytes text there is shown = record { bytes = bytes; there = there; text = subst (λ (b : List ℕ). IsLogText (key_of name) b es ended) (sym is) shown }

-- a file at rest has its entries, and one with an end frame too
pub rest_has : (name : Name) (es : List Entry) (image : Option (List ℕ)) → AreEntriesOf name es → image ≡ Some (at_rest name.number es) → HasText name es None image
rest_has name es image each there = reads_as name es None image (at_rest name.number es) (at_rest name.number es) there refl (entries_at_rest name es each)

pub ended_has : (name : Name) (es : List Entry) (image : Option (List ℕ)) → AreEntriesOf name es → image ≡ Some (ended_text name.number es) → HasText name es (Some (length es)) image
ended_has name es image each there = reads_as name es (Some (length es)) image (ended_text name.number es) (ended_text name.number es) there refl (entries_ended name es each)

-- a closed gate hides what is behind it, an open one shows the batch
either : (name : Name) (es batch : List Entry) → AreEntriesOf name es → AreEntriesOf name batch → 0 < length batch → (image : Option (List ℕ)) → ClosedOrOpen (front name.number es) (behind_gate batch) image → HasEither name es (es ++ batch) image
either name es batch each more some image has =
    elim has.2 as (λ _. HasEither name es (es ++ batch) image) [
      | inl closed ↦ inl (reads_as name es None image has.0 (front name.number es ++ closed.gate ∷ closed.rest) has.1 closed.is (text_closed name es closed.gate closed.rest each closed.shut))
      | inr is_open ↦ inr (reads_as name (es ++ batch) None image has.0 (at_rest name.number (es ++ batch)) has.1 (is_open ∙ opened_batch name.number es batch some) (entries_at_rest name (es ++ batch) (each_append name es batch each more)))
    ]

pub committing : (name : Name) (es batch : List Entry) (bytes : List ℕ) (m : ℕ) (v w : DiskView) → AreEntriesOf name es → AreEntriesOf name batch → 0 < length batch → bytes ≡ behind_gate batch
    → Throughout (OnlyAt name (ClosedOrOpen (front name.number es) bytes) v) m v w → Throughout (OnlyAt name (HasEither name es (es ++ batch)) v) m v w
committing name es batch bytes m v w each more some are over =
    only_weaker name (ClosedOrOpen (front name.number es) (behind_gate batch)) (HasEither name es (es ++ batch)) m v w (either name es batch each more some)
    (subst (λ (b : List ℕ). Throughout (OnlyAt name (ClosedOrOpen (front name.number es) b) v) m v w) are over)

-- the same of an end frame
same_entries : (name : Name) (es : List Entry) → AreEntriesOf name es → (image : Option (List ℕ)) → ClosedOrOpen (front name.number es) (behind_end (length es)) image → HasEnding name es image
same_entries name es each image has =
    elim has.2 as (λ _. HasEnding name es image) [
      | inl closed ↦ inl (reads_as name es None image has.0 (front name.number es ++ closed.gate ∷ closed.rest) has.1 closed.is (text_closed name es closed.gate closed.rest each closed.shut))
      | inr is_open ↦ inr (reads_as name es (Some (length es)) image has.0 (ended_text name.number es) has.1 is_open (entries_ended name es each))
    ]

pub ending : (name : Name) (es : List Entry) (bytes : List ℕ) (m : ℕ) (v w : DiskView) → AreEntriesOf name es → bytes ≡ behind_end (length es)
    → Throughout (OnlyAt name (ClosedOrOpen (front name.number es) bytes) v) m v w → Throughout (OnlyAt name (HasEnding name es) v) m v w
ending name es bytes m v w each are over =
    only_weaker name (ClosedOrOpen (front name.number es) (behind_end (length es))) (HasEnding name es) m v w (same_entries name es each)
    (subst (λ (b : List ℕ). Throughout (OnlyAt name (ClosedOrOpen (front name.number es) b) v) m v w) are over)

-- nothing is written yet
none_yet : (name : Name) (image : Option (List ℕ)) → IsShort 17 image → HasEntries name [] image
none_yet name image is_short = ⊎_elim (λ none. inr (none, refl)) (λ some. inl (None, record { bytes = some.0; there = some.1; text = inr (inl (some.2, refl, refl)) })) is_short

length_new : (number : ℕ) (text : List ℕ) → text ≡ at_rest number [] → length text ≡ 17
length_new number text is = omega (arith, ap length is, length-append (front number []) (0 ∷ []), length-front-nil number)

pub beginning : (name : Name) (text : List ℕ) (m : ℕ) (v w : DiskView) → text ≡ at_rest name.number [] → Throughout (OnlyAt name (IsShort (length text)) v) m v w → Throughout (OnlyAt name (HasEntries name []) v) m v w
beginning name text m v w is over =
    only_weaker name (IsShort 17) (HasEntries name []) m v w (none_yet name) (subst (λ (n : ℕ). Throughout (OnlyAt name (IsShort n) v) m v w) (length_new name.number text is) over)

pub not_begun : (name : Name) (v : DiskView) → ((J : Files) → IsImageNow v J → content J name ≡ None) → Throughout (OnlyAt name (HasEntries name []) v) 3 v v
not_begun name v none =
    more_time (OnlyAt name (HasEntries name []) v) 0 3 v v (omega arith)
    (at_once (OnlyAt name (HasEntries name []) v) v (λ J now. only_unchanged name (HasEntries name []) v J (λ I there. inr (none I there, refl)) now))

-- the next gate
pub next_gate : (number : ℕ) (es batch : List Entry) (gate : ℕ) → 0 < length batch → gate ≡ length (front number es) → gate + length (behind_gate batch) ≡ length (front number (es ++ batch))
next_gate number es batch gate some is =
    omega (arith, is, ap length (opened_batch number es batch some), length-append (front number es) (165 ∷ behind_gate batch), length-append (front number (es ++ batch)) (0 ∷ []))

pub unwritten : (name : Name) (es batch : List Entry) (v : DiskView) → AreEntriesOf name es → IsDurableFile v name (at_rest name.number es) → Throughout (OnlyAt name (HasEither name es (es ++ batch)) v) 4 v v
unwritten name es batch v each file =
    more_time (OnlyAt name (HasEither name es (es ++ batch)) v) 0 4 v v (omega arith)
    (at_once (OnlyAt name (HasEither name es (es ++ batch)) v) v
    (λ J now. only_unchanged name (HasEither name es (es ++ batch)) v J (λ I there. inl (rest_has name es (content I name) each (file.durable I there))) now))

-- a batch without entries adds none
pub none_added : (log : OpenLog) (v : DiskView) (es batch : List Entry) → log.staged ≡ 0 → IsOpen log v es → IsStaged log batch → IsOpen log v (es ++ batch)
none_added log v es [] none is staged = subst (λ (l : List Entry). IsOpen log v l) (sym (append-nil es)) is
none_added log v es (b ∷ batch) none is staged = absurd (omega (arith, none, staged.count))

pub batch_shown : (name : Name) (es batch : List Entry) (bytes : List ℕ) (w : DiskView) → 0 < length batch → bytes ≡ behind_gate batch
    → IsDurableFile w name (front name.number es ++ 165 ∷ bytes) → IsDurableFile w name (at_rest name.number (es ++ batch))
batch_shown name es batch bytes w some are =
    subst (λ (text : List ℕ). IsDurableFile w name text) (ap (λ (b : List ℕ). front name.number es ++ 165 ∷ b) are ∙ opened_batch name.number es batch some)

-- staging changes nothing of the file
pub open_still : (log now : OpenLog) (v : DiskView) (es : List Entry) → IsSameFile log now → IsOpen log v es → IsOpen now v es
open_still log now v es same is = record {
  each = subst (λ (name : Name). AreEntriesOf name es) (sym same.name) is.each;
  file = subst (λ (name : Name). IsDurableFile v name (at_rest name.number es)) (sym same.name) is.file;
  gate = same.gate ∙ is.gate ∙ ap (λ (name : Name). length (front name.number es)) (sym same.name);
  count = same.entries ∙ is.count;
}

-- what is said of each moment of a commit, and of the end of a file
abbrev pub CommitMoments : OpenLog → DiskView → DiskView → Type 0
CommitMoments log v w = (entries batch : List Entry) → IsOpen log v entries → IsStaged log batch → Throughout (OnlyAt log.name (HasEither log.name entries (entries ++ batch)) v) 4 v w

abbrev pub EndMoments : OpenLog → DiskView → DiskView → Type 0
EndMoments log v w = (entries : List Entry) → IsOpen log v entries → Throughout (OnlyAt log.name (HasEnding log.name entries) v) 4 v w

-- what the gate protocol says of these bytes
abbrev pub GateMoments : OpenLog → List ℕ → DiskView → DiskView → Type 0
GateMoments log bytes v w = (before : List ℕ) → IsDurableFile v log.name (before ++ 0 ∷ []) → log.gate ≡ length before → Throughout (OnlyAt log.name (ClosedOrOpen before bytes) v) 4 v w

abbrev pub GateOpened : OpenLog → List ℕ → DiskView → DiskView → Type 0
GateOpened log bytes v w = (before : List ℕ) → IsDurableFile v log.name (before ++ 0 ∷ []) → log.gate ≡ length before → IsDurableFile w log.name (before ++ 165 ∷ bytes)

some_staged : (n : ℕ) (batch : List Entry) → (n ≡ 0 → ⊥) → n ≡ length batch → 0 < length batch
some_staged n batch some is = elim (cases_lt 0 n) as (λ _. 0 < length batch) [
  | inl more ↦ omega (arith, more, is)
  | inr none ↦ absurd (some (omega (arith, none)))
]

pub commit_moments : (log : OpenLog) (bytes : List ℕ) (v w : DiskView) → (log.staged ≡ 0 → ⊥) → bytes ≡ log.bytes → GateMoments log bytes v w → CommitMoments log v w
commit_moments log bytes v w some is over entries batch opened_log staged =
    committing log.name entries batch bytes 4 v w opened_log.each staged.each (some_staged log.staged batch some staged.count) (is ∙ staged.bytes) (over (front log.name.number entries) opened_log.file opened_log.gate)

pub end_moments : (log : OpenLog) (bytes : List ℕ) (v w : DiskView) → bytes ≡ behind_end log.entries → GateMoments log bytes v w → EndMoments log v w
end_moments log bytes v w is over entries opened_log =
    ending log.name entries bytes 4 v w opened_log.each (is ∙ ap behind_end opened_log.count) (over (front log.name.number entries) opened_log.file opened_log.gate)

-- the log is open with the batch
pub committed_log : (log now : OpenLog) (bytes : List ℕ) (v w : DiskView) (entries batch : List Entry) → (log.staged ≡ 0 → ⊥) → bytes ≡ log.bytes → GateOpened log bytes v w → IsOpen log v entries → IsStaged log batch
    → now.name ≡ log.name → now.gate ≡ log.gate + length bytes → now.entries ≡ log.entries + log.staged → IsOpen now w (entries ++ batch)
committed_log log now bytes v w entries batch some is shown opened_log staged name gate count =
    let more = some_staged log.staged batch some staged.count in
    let same : bytes ≡ behind_gate batch = is ∙ staged.bytes in
    let file : IsDurableFile w log.name (at_rest log.name.number (entries ++ batch)) = batch_shown log.name entries batch bytes w more same (shown (front log.name.number entries) opened_log.file opened_log.gate) in
    record {
      each = subst (λ (n : Name). AreEntriesOf n (entries ++ batch)) (sym name) (each_append log.name entries batch opened_log.each staged.each);
      file = subst (λ (n : Name). IsDurableFile w n (at_rest n.number (entries ++ batch))) (sym name) file;
      gate = gate ∙ ap (λ (l : List ℕ). log.gate + length l) same ∙ next_gate log.name.number entries batch log.gate more opened_log.gate ∙ ap (λ (n : Name). length (front n.number (entries ++ batch))) (sym name);
      count = omega (arith, count, opened_log.count, staged.count, length-append entries batch);
    }

-- the file has its end frame
pub finished_file : (log : OpenLog) (bytes : List ℕ) (v w : DiskView) (entries : List Entry) → bytes ≡ behind_end log.entries → GateOpened log bytes v w → IsOpen log v entries → IsDurableFile w log.name (ended_text log.name.number entries)
finished_file log bytes v w entries is shown opened_log =
    subst (λ (b : List ℕ). IsDurableFile w log.name (front log.name.number entries ++ 165 ∷ b)) (is ∙ ap behind_end opened_log.count) (shown (front log.name.number entries) opened_log.file opened_log.gate)

pub finished_text : (log : OpenLog) (bytes : List ℕ) (v w : DiskView) (entries : List Entry) → bytes ≡ behind_end log.entries → GateOpened log bytes v w → IsOpen log v entries → HasText log.name entries (Some log.entries) (content w.files log.name)
finished_text log bytes v w entries is shown opened_log =
    subst (λ (n : ℕ). HasText log.name entries (Some n) (content w.files log.name)) (sym opened_log.count)
    (ended_has log.name entries (content w.files log.name) opened_log.each (finished_file log bytes v w entries is shown opened_log).reads)
