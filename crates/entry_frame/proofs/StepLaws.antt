-- What stands at a gate stays, whatever comes after it.
use Rattle.std.proofs.Common.{◌≡◌, ◌≢◌, ℕ, ◌+◌, ◌<◌, ◌≤◌, ◌^◌, inl, inr, List, [], ◌∷◌, ◌++◌, length, take, drop, slice_index, Some, None, refl, sym, ap, subst, ◌∙◌, arith, length-append}
use Rattle.std.proofs.lemmas.List.{append_assoc, append-nil, take_at, drop_at, take-append-le, drop-append-le, drop-drop, take-append-drop, length-drop}
use Rattle.byteorder.specs.Endian.{big_bytes}
use Rattle.cell_model.specs.Cell.{number_at}
use Rattle.cell_model.specs.declared.form.Form.TheVariants.{Plain}
use Rattle.log_model.specs.Entry.{Entry, kind_of, entry_form, body, entry_frame, end_frame}
use Rattle.log_model.specs.LogText.{FileKey, TextKey, in_version, IsVersion, IsHeader, header, opened, IsClosed, Ends, Begins, IsLogText, IsDamaged}
use Rattle.log_model.specs.Frame.{IsStop, IsEntryAt, IsEndAt, IsNoFrame}
use Rattle.log_model.proofs.TextLaws.{is_text}
use Rattle.log_model.proofs.FrameLaws.{frame_fields, length-body, some_closed, entry_not_stop, end_not_stop, entry_not_end, same_entry, same_count, same_kind, no_stop_at}
use Rattle.entry_frame.specs.declared.frame.EntryRef.{EntryRef}
use Rattle.entry_frame.specs.declared.frame.Frame.TheVariants as frames
use Rattle.entry_frame.specs.declared.step.Step.{Step}
use Rattle.entry_frame.specs.declared.step.Step.TheVariants as steps
use Rattle.entry_frame.specs.Frame.{IsFrame}
use Rattle.entry_frame.specs.Feed.{HasNoNext, passed}
use Rattle.entry_frame.specs.Step.{IsDead, IsAtGate, IsNext, IsWhole}
use Rattle.entry_frame.proofs.ChainLaws.{known_header, closed_more, frames_of, Are, begins_more, begins_passed, next_begins, dead_no_next, damaged_at_gate, damaged_header, text_no_next, passed_begins}

-- a front that is shorter stands in front of the shorter bytes too
pub front_part : (bytes more x rest : List ℕ) → bytes ++ more ≡ x ++ rest → length x ≤ length bytes → (bytes ≡ x ++ drop (length x) bytes) × (rest ≡ drop (length x) bytes ++ more)
front_part bytes more x rest same le = (
  sym (take-append-drop (length x) bytes) ∙ ap (λ (y : List ℕ). y ++ drop (length x) bytes) (sym (take-append-le (length x) bytes more le) ∙ ap (take (length x)) same ∙ take_at x rest (length x) refl),
  sym (drop_at x rest (length x) refl) ∙ ap (drop (length x)) (sym same) ∙ drop-append-le (length x) bytes more le,
)

closed_part : (bytes more : List ℕ) → 0 < length bytes → IsClosed (bytes ++ more) → IsClosed bytes
closed_part [] more lt closed = absurd (omega arith)
closed_part (gate ∷ bytes) more lt closed = closed

pub length_kept : (bytes more : List ℕ) → length (bytes ++ more) ≡ length bytes + length more
length_kept bytes more = length-append bytes more

-- the frame of a length that can't be is none
pub too_long : (key : TextKey) (count : ℕ) (bytes : List ℕ) → slice_index bytes 0 ≡ 165 → 1 < length bytes → 1048576 < number_at 2 4 bytes → IsDead key count bytes
too_long key count bytes gate some long = record {
  no_stop = no_stop_at bytes 0 gate some;
  no_entry = λ e rest is more same.
      let h = frame_fields bytes 0 (kind_of (entry_form e)) (body e) rest same (omega (arith, length-body e, is.entry.batch.body)) in
      omega (arith, h.len, length-body e, is.entry.batch.body, long);
  no_end = λ rest closed same.
      let h = frame_fields bytes 0 2 (big_bytes 8 count) rest same (omega arith) in
      omega (arith, h.len, long);
}

-- nor is one that isn't whole
pub not_whole : (key : TextKey) (count : ℕ) (bytes : List ℕ) → slice_index bytes 0 ≡ 165 → 1 < length bytes → (7 ≤ length bytes → length bytes < 7 + number_at 2 4 bytes) → IsDead key count bytes
not_whole key count bytes gate some short = record {
  no_stop = no_stop_at bytes 0 gate some;
  no_entry = λ e rest is more same.
      let h = frame_fields bytes 0 (kind_of (entry_form e)) (body e) rest same (omega (arith, length-body e, is.entry.batch.body)) in
      let le : 7 ≤ length bytes = omega (arith, h.long, more) in
      omega (arith, h.len, h.long, more, short le);
  no_end = λ rest closed same.
      let h = frame_fields bytes 0 2 (big_bytes 8 count) rest same (omega arith) in
      let le : 7 ≤ length bytes = omega (arith, h.long, some_closed rest closed) in
      omega (arith, h.len, h.long, some_closed rest closed, short le);
}

-- a whole frame that is dead is dead whatever comes after it
pub dead_more : (key : TextKey) (count : ℕ) (bytes more : List ℕ) → slice_index (bytes ++ more) 0 ≡ 165 → 1 < length (bytes ++ more) → 7 + number_at 2 4 (bytes ++ more) ≤ length bytes → IsDead key count bytes → IsDead key count (bytes ++ more)
dead_more key count bytes more gate some whole dead = record {
  no_stop = no_stop_at (bytes ++ more) 0 gate some;
  no_entry = λ e rest is left same.
      let h = frame_fields (bytes ++ more) 0 (kind_of (entry_form e)) (body e) rest same (omega (arith, length-body e, is.entry.batch.body)) in
      let size : length (opened (entry_frame e)) ≡ 6 + length (body e) = omega arith in
      let part = front_part bytes more (opened (entry_frame e)) rest same (omega (arith, size, h.len, whole)) in
      dead.no_entry e (drop (length (opened (entry_frame e))) bytes) is (omega (arith, length-drop (length (opened (entry_frame e))) bytes, size, h.len, whole)) part.0;
  no_end = λ rest closed same.
      let h = frame_fields (bytes ++ more) 0 2 (big_bytes 8 count) rest same (omega arith) in
      let size : length (opened (end_frame count)) ≡ 14 = omega arith in
      let part = front_part bytes more (opened (end_frame count)) rest same (omega (arith, size, h.len, whole)) in
      let left : 0 < length (drop (length (opened (end_frame count))) bytes) = omega (arith, length-drop (length (opened (end_frame count))) bytes, size, h.len, whole) in
      dead.no_end (drop (length (opened (end_frame count))) bytes) (closed_part (drop (length (opened (end_frame count))) bytes) more left (subst IsClosed part.1 closed)) part.0;
}

-- ---- what a reader of one frame says

pub no_frame_dead : (key : TextKey) (count : ℕ) (bytes : List ℕ) → count < 2 ^ 64 → IsNoFrame bytes → IsDead key count bytes
no_frame_dead key count bytes fits none = record {
  no_stop = none.no_stop;
  no_entry = λ e rest is more same. none.no_entry e rest (record { entry = is.entry; more = more; is = same });
  no_end = λ rest closed same. none.no_end count rest (record { fits = fits; closed = closed; is = same });
}

pub other_region_dead : (key : TextKey) (count : ℕ) (bytes rest : List ℕ) (e : Entry) → count < 2 ^ 64 → IsEntryAt bytes e rest → key.region ≢ 0 → e.region ≢ key.region → IsDead key count bytes
other_region_dead key count bytes rest e fits here some other = record {
  no_stop = entry_not_stop bytes rest e here;
  no_entry = λ d behind is more same.
      let one : e ≡ d = (same_entry bytes rest behind e d here (record { entry = is.entry; more = more; is = same })).0 in
      other (ap (λ (x : Entry). x.region) one ∙ is.region some);
  no_end = λ behind closed same. entry_not_end bytes rest behind e count here (record { fits = fits; closed = closed; is = same });
}

pub other_form_dead : (key : TextKey) (count : ℕ) (bytes rest : List ℕ) (e : Entry) → count < 2 ^ 64 → IsEntryAt bytes e rest → key.version ≡ 1 → entry_form e ≢ Plain → IsDead key count bytes
other_form_dead key count bytes rest e fits here first other = record {
  no_stop = entry_not_stop bytes rest e here;
  no_entry = λ d behind is more same.
      let one : e ≡ d = (same_entry bytes rest behind e d here (record { entry = is.entry; more = more; is = same })).0 in
      other (ap entry_form one ∙ is.form first);
  no_end = λ behind closed same. entry_not_end bytes rest behind e count here (record { fits = fits; closed = closed; is = same });
}

pub other_count_dead : (key : TextKey) (count told : ℕ) (bytes rest : List ℕ) → count < 2 ^ 64 → IsEndAt bytes told rest → told ≢ count → IsDead key count bytes
other_count_dead key count told bytes rest fits here other = record {
  no_stop = end_not_stop bytes rest told here;
  no_entry = λ d behind is more same. entry_not_end bytes behind rest d told (record { entry = is.entry; more = more; is = same }) here;
  no_end = λ behind closed same. other (same_count bytes rest behind told count here (record { fits = fits; closed = closed; is = same })).0;
}

pub end_more : (count told : ℕ) (bytes rest : List ℕ) → IsEndAt bytes told rest → told ≡ count → (more : List ℕ) → Ends count (bytes ++ more) (Some told)
end_more count told bytes rest here same more = (
  same,
  (
    rest ++ more,
    ap (λ (x : List ℕ). x ++ more) (here.is ∙ ap (λ (k : ℕ). opened (end_frame k) ++ rest) same) ∙ append_assoc (opened (end_frame count)) rest more,
    closed_more rest more here.closed,
  ),
)

-- ---- numbers in front of bytes of which more come

pub number_more : (bytes more : List ℕ) → 6 ≤ length bytes → number_at 2 4 (bytes ++ more) ≡ number_at 2 4 bytes
unfolding number_at
number_more [] more le = absurd (omega arith)
number_more (a ∷ []) more le = absurd (omega arith)
number_more (a ∷ b ∷ []) more le = absurd (omega arith)
number_more (a ∷ b ∷ c ∷ []) more le = absurd (omega arith)
number_more (a ∷ b ∷ c ∷ d ∷ []) more le = absurd (omega arith)
number_more (a ∷ b ∷ c ∷ d ∷ e ∷ []) more le = absurd (omega arith)
number_more (a ∷ b ∷ c ∷ d ∷ e ∷ f ∷ bytes) more le = refl

pub byte_more : (bytes more : List ℕ) → 0 < length bytes → slice_index (bytes ++ more) 0 ≡ slice_index bytes 0
byte_more [] more lt = absurd (omega arith)
byte_more (b ∷ bytes) more lt = refl

-- ---- what is dead stays so

pub whole_dead : (key : TextKey) (count : ℕ) (bytes : List ℕ) → slice_index bytes 0 ≡ 165 → 7 + number_at 2 4 bytes ≤ length bytes → IsDead key count bytes → (more : List ℕ) → IsDead key count (bytes ++ more)
whole_dead key count bytes gate whole dead more =
    let number : number_at 2 4 (bytes ++ more) ≡ number_at 2 4 bytes = number_more bytes more (omega arith) in
    dead_more key count bytes more (byte_more bytes more (omega arith) ∙ gate) (omega (arith, length-append bytes more, whole)) (omega (arith, number, whole)) dead

pub too_long_more : (key : TextKey) (count : ℕ) (bytes : List ℕ) → slice_index bytes 0 ≡ 165 → 7 ≤ length bytes → 1048576 < number_at 2 4 bytes → (more : List ℕ) → IsDead key count (bytes ++ more)
too_long_more key count bytes gate some long more =
    let number : number_at 2 4 (bytes ++ more) ≡ number_at 2 4 bytes = number_more bytes more (omega arith) in
    too_long key count (bytes ++ more) (byte_more bytes more (omega arith) ∙ gate) (omega (arith, length-append bytes more, some)) (omega (arith, number, long))

-- ---- what a reader of one frame says of a gate

abbrev Gate : TextKey → ℕ → List ℕ → Type 0
Gate key count bytes = (more : List ℕ) → IsDead key count (bytes ++ more)

pub entry_gate : (key : TextKey) (count : ℕ) (bytes : List ℕ) (entry : EntryRef) (next : ℕ) → count < 2 ^ 64 → slice_index bytes 0 ≡ 165 → 7 + number_at 2 4 bytes ≤ length bytes
    → IsFrame bytes 0 (frames.Entry entry next) → key.region ≢ 0 → entry.region ≢ key.region → Gate key count bytes
entry_gate key count bytes entry next fits gate whole (lt, (e, ref, here)) some other =
    whole_dead key count bytes gate whole (other_region_dead key count bytes (drop next bytes) e fits here some (λ same. other (ref.region ∙ same)))

pub form_gate : (key : TextKey) (count : ℕ) (bytes : List ℕ) (entry : EntryRef) (next : ℕ) → count < 2 ^ 64 → slice_index bytes 0 ≡ 165 → 7 + number_at 2 4 bytes ≤ length bytes
    → IsFrame bytes 0 (frames.Entry entry next) → key.version ≡ 1 → entry.kind ≢ 1 → Gate key count bytes
form_gate key count bytes entry next fits gate whole (lt, (e, ref, here)) first other =
    whole_dead key count bytes gate whole (other_form_dead key count bytes (drop next bytes) e fits here first (λ plain. other (ref.kind ∙ ap kind_of plain)))

pub entry_step : (key : TextKey) (count at : ℕ) (bytes : List ℕ) (entry : EntryRef) (next : ℕ) → IsFrame bytes 0 (frames.Entry entry next) → (key.region ≢ 0 → entry.region ≡ key.region) → (key.version ≡ 1 → entry.kind ≡ 1)
    → IsAtGate key count at bytes (steps.Entry key.version entry next)
entry_step key count at bytes entry next (lt, (e, ref, here)) same plain =
    (refl, e, record { entry = here.entry; region = λ some. sym ref.region ∙ same some; form = λ first. same_kind (entry_form e) Plain (sym ref.kind ∙ plain first) }, ref, omega (arith, here.more, length-drop next bytes), here.is)

pub end_gate : (key : TextKey) (count : ℕ) (bytes : List ℕ) (told next : ℕ) → count < 2 ^ 64 → slice_index bytes 0 ≡ 165 → 7 + number_at 2 4 bytes ≤ length bytes
    → IsFrame bytes 0 (frames.End told next) → told ≢ count → Gate key count bytes
end_gate key count bytes told next fits gate whole (lt, here) other = whole_dead key count bytes gate whole (other_count_dead key count told bytes (drop next bytes) fits here other)

pub end_step : (count : ℕ) (bytes : List ℕ) (told next : ℕ) → IsFrame bytes 0 (frames.End told next) → told ≡ count → (more : List ℕ) → Ends count (bytes ++ more) (Some told)
end_step count bytes told next (lt, here) same = end_more count told bytes (drop next bytes) here same

pub stop_gate : (key : TextKey) (count : ℕ) (bytes : List ℕ) → slice_index bytes 0 ≡ 165 → 7 + number_at 2 4 bytes ≤ length bytes → IsStop bytes → Gate key count bytes
stop_gate key count bytes gate whole stop = absurd (no_stop_at bytes 0 gate (omega (arith, whole)) stop)

pub fault_gate : (key : TextKey) (count : ℕ) (bytes : List ℕ) → count < 2 ^ 64 → slice_index bytes 0 ≡ 165 → 7 + number_at 2 4 bytes ≤ length bytes → IsNoFrame bytes → Gate key count bytes
fault_gate key count bytes fits gate whole none = whole_dead key count bytes gate whole (no_frame_dead key count bytes fits none)

-- ---- a gate after the entries of a file

pub next_behind : (version : ℕ) (file : FileKey) (count at : ℕ) (bytes given : List ℕ) (taken : List Entry) (step : Step) → IsVersion version → Begins (in_version version file) given taken bytes → 18 ≤ length given → 0 < length bytes
    → count ≡ length taken → at ≡ 16 + length (frames_of taken) → IsAtGate (in_version version file) count at bytes step → IsNext file bytes given taken step
next_behind version file count at bytes given taken (steps.Entry w entry used) known begins long some n place (same, e, of, ref, lt, is) =
    let key : TextKey = in_version version file in
    let now : Begins key given (taken ++ e ∷ []) (drop used bytes) = next_begins key given bytes (drop used bytes) taken e begins of is in
    subst (λ (u : ℕ). IsNext file bytes given taken (steps.Entry u entry used)) (sym same) (known, e, now.each, ref, begins_passed key given (drop used bytes) taken e now)
next_behind version file count at bytes given taken (steps.Ended told) known begins long some n place ends =
    λ more. is_text version file (given ++ more) taken told known (inr (bytes ++ more, begins_more (in_version version file) given bytes more taken begins, subst (λ (k : ℕ). Ends k (bytes ++ more) told) n (ends more)))
next_behind version file count at bytes given taken (steps.Damaged where_) known begins long some n place (same, dead) =
    let key : TextKey = in_version version file in (
      dead_no_next version file given bytes taken count known begins (subst (λ (x : List ℕ). IsDead key count x) (append-nil bytes) (dead [])),
      λ more.
          subst (λ (k : ℕ). IsDamaged file (given ++ more) k) (sym (same ∙ place))
          (damaged_at_gate version file (given ++ more) (bytes ++ more) taken known (begins_more key given bytes more taken begins) (omega (arith, length-append bytes more, some)) (omega (arith, length-append given more, long))
          (subst (λ (k : ℕ). IsDead key k (bytes ++ more)) n (dead more))),
    )
next_behind version file count at bytes given taken (steps.Wait None) known begins long some n place one =
    let text : IsLogText file given taken None = is_text version file given taken None known (inr (bytes, begins, inr one)) in
    (text_no_next file given taken None text, text)
next_behind version file count at bytes given taken (steps.Wait (Some where_)) known begins long some n place (same, dead) = (
  dead_no_next version file given bytes taken count known begins dead,
  subst (λ (k : ℕ). IsDamaged file given k) (sym (same ∙ place)) (damaged_at_gate version file given bytes taken known begins some long (subst (λ (k : ℕ). IsDead (in_version version file) k bytes) n dead)),
)

-- after an entry
pub next_later : (version : ℕ) (file : FileKey) (count at : ℕ) (bytes given : List ℕ) (taken : List Entry) (step : Step) → IsVersion version → 0 < count → 0 < length bytes → IsAtGate (in_version version file) count at bytes step → count ≡ length taken
    → Are (in_version version file) taken → given ≡ passed (in_version version file) taken ++ bytes → at ≡ length (passed (in_version version file) taken) → IsNext file bytes given taken step
next_later version file count at bytes given [] step known lt some gate n each is place = absurd (omega (arith, lt, n))
next_later version file count at bytes given (e ∷ es) step known lt some gate n each is place =
    let key : TextKey = in_version version file in
    let size : length (passed key (e ∷ es)) ≡ 16 + length (frames_of (e ∷ es)) = length-append (header version file.number) (frames_of (e ∷ es)) in
    let first : length (frames_of (e ∷ es)) ≡ length (opened (entry_frame e)) + length (frames_of es) = length-append (opened (entry_frame e)) (frames_of es) in
    next_behind version file count at bytes given (e ∷ es) step known (passed_begins key given bytes e es each is) (omega (arith, ap length is, length-append (passed key (e ∷ es)) bytes, size, first)) some n (place ∙ size) gate

-- at the first gate
pub first_begins : (version : ℕ) (file : FileKey) (bytes : List ℕ) → take 16 bytes ≡ header version file.number → Begins (in_version version file) bytes [] (drop 16 bytes)
first_begins version file bytes head = record { is = sym (take-append-drop 16 bytes) ∙ ap (λ (x : List ℕ). x ++ drop 16 bytes) head; each = tt }

pub next_first : (version : ℕ) (file : FileKey) (bytes : List ℕ) (step : Step) → IsVersion version → 18 ≤ length bytes → take 16 bytes ≡ header version file.number → IsAtGate (in_version version file) 0 16 (drop 16 bytes) step → IsNext file (drop 16 bytes) bytes [] step
next_first version file bytes step known long head gate = next_behind version file 0 16 (drop 16 bytes) bytes [] step known (first_begins version file bytes head) long (omega (arith, length-drop 16 bytes, long)) refl refl gate

-- the entries of a file of which none was taken
pub none_taken : (key : TextKey) (count : ℕ) (bytes given : List ℕ) (taken : List Entry) → count ≤ 0 → count ≡ length taken → given ≡ passed key taken ++ bytes → (taken ≡ []) × (given ≡ bytes)
none_taken key count bytes given [] le n is = (refl, is)
none_taken key count bytes given (e ∷ es) le n is = absurd (omega (arith, le, n))

pub wrong_header : (key : FileKey) (bytes : List ℕ) → 18 ≤ length bytes → (¬ IsHeader key.number (take 16 bytes)) → HasNoNext key bytes [] × ((more : List ℕ) → IsDamaged key (bytes ++ more) 0)
wrong_header key bytes long wrong = (
  no_next,
  λ more. damaged_header key (bytes ++ more) (omega (arith, length-append bytes more, long)) (λ head. wrong (subst (λ (x : List ℕ). IsHeader key.number x) (take-append-le 16 bytes more (omega arith)) head)),
)
  where
    no_next : HasNoNext key bytes []
    no_next e (w, kw, rest, more, h) = wrong (known_header w key.number (take 16 bytes) kw (ap (take 16) h.is))

pub short_file : (key : FileKey) (bytes : List ℕ) → length bytes ≤ 17 → HasNoNext key bytes [] × IsLogText key bytes [] None
short_file key bytes le = let text : IsLogText key bytes [] None = inr (inl (le, refl, refl)) in (text_no_next key bytes [] None text, text)

-- ---- the first step

pub whole_at_gate : (key : TextKey) (count at : ℕ) (bytes : List ℕ) (step : Step) → IsVersion key.version → IsAtGate key count at bytes step → IsWhole bytes step
whole_at_gate key count at bytes (steps.Entry version entry used) known (same, e, of, ref, lt, is) =
    (subst IsVersion (sym same) known, omega (arith, ap length is, length-append (opened (entry_frame e)) (drop used bytes), length-drop used bytes, lt), lt, (e, of.entry, ref))
whole_at_gate key count at bytes (steps.Ended told) known gate = tt
whole_at_gate key count at bytes (steps.Damaged place) known gate = tt
whole_at_gate key count at bytes (steps.Wait place) known gate = tt

-- what came of nothing taken
pub from_nothing : (key : FileKey) (bytes given : List ℕ) (taken : List Entry) (step : Step) → (taken ≡ []) × (given ≡ bytes) → IsNext key bytes bytes [] step → IsNext key bytes given taken step
from_nothing key bytes given taken step same h = subst (λ (ts : List Entry). IsNext key bytes given ts step) (sym same.0) (subst (λ (x : List ℕ). IsNext key bytes x [] step) (sym same.1) h)

pub first_entry : (version : ℕ) (file : FileKey) (bytes : List ℕ) (w : ℕ) (entry : EntryRef) (used : ℕ) → IsVersion version → 18 ≤ length bytes → take 16 bytes ≡ header version file.number
    → IsAtGate (in_version version file) 0 16 (drop 16 bytes) (steps.Entry w entry used) → IsNext file bytes bytes [] (steps.Entry w entry (16 + used))
first_entry version file bytes w entry used known long head gate =
    let h = next_first version file bytes (steps.Entry w entry used) known long head gate in
    (h.0, h.1, h.2, h.3, h.4 ∙ ap (λ (x : List ℕ). passed (in_version w file) (h.1 ∷ []) ++ x) (drop-drop used 16 bytes))

pub first_other : (version : ℕ) (file : FileKey) (bytes : List ℕ) (step : Step) → IsVersion version → 18 ≤ length bytes → take 16 bytes ≡ header version file.number → ((w : ℕ) (entry : EntryRef) (used : ℕ) → step ≡ steps.Entry w entry used → ⊥)
    → IsAtGate (in_version version file) 0 16 (drop 16 bytes) step → IsNext file bytes bytes [] step × IsWhole bytes step
first_other version file bytes (steps.Entry w entry used) known long head other gate = absurd (other w entry used refl)
first_other version file bytes (steps.Ended told) known long head other gate = (next_first version file bytes (steps.Ended told) known long head gate, tt)
first_other version file bytes (steps.Damaged place) known long head other gate = (next_first version file bytes (steps.Damaged place) known long head gate, tt)
first_other version file bytes (steps.Wait None) known long head other gate = (next_first version file bytes (steps.Wait None) known long head gate, tt)
first_other version file bytes (steps.Wait (Some place)) known long head other gate = (next_first version file bytes (steps.Wait (Some place)) known long head gate, tt)
