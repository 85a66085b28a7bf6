-- How the command that writes a log ends.
use Rattle.std.proofs.Common.{◌≡◌, ℕ, zero, suc, Contains, ◌<◌, ◌≤◌, ◌+◌, ◌⊎◌, List, [], ◌∷◌, length, map, take, slice_index_or, Some, None, refl, sym, ap, subst, ◌∙◌, arith, inl, inr}
use Rattle.std.proofs.lemmas.List.{length-map}
use Rattle.std.specs.FinMap.{keys, entries, get-entries, find}
use Rattle.log_model.specs.declared.name.Name.{Name}
use Rattle.log_model.specs.Entry.{entry_frame}
use Rattle.log_model.specs.Files.{Files, name_cmp, content, SameBut}
use Rattle.disk_images.specs.Crash.{DiskView, IsImageNow}
use Rattle.disk_images.specs.Calls.{Looks}
use Rattle.script_model.specs.Calls.{Script, Says}
use Rattle.script_model.specs.Report.{replies_text}
use Rattle.script_model.specs.Outputs.{refused_memory, refused_disk}
use Rattle.script_model.specs.declared.command.Command.TheVariants.{Log}
use Rattle.command_base.proofs.Endings.{taken_whole, taken_begins, refused_so, same_disk, unchanged, each_on, each_then, looked}
use Rattle.command_base.specs.Invocation.{Invocation, invocation, taken_of, AtEachMoment}
use Rattle.command_base.specs.LogFiles.{log_name}
use Rattle.log_command.specs.Logged.{entries_in, oks, stopped_replies, LogHolds, LogDone, LogFailed, NoLogBegun, EndsLog, logs, HasNone, IsAlone, LogMayLeave}
use Rattle.log_command.specs.Writing.{WasOrFirst}
use Rattle.command_base.specs.Prints.{Prints}
use Rattle.log_command.specs.Parts.{IsFramesOf, IsStoreRefusal, IsWritingEnd}
use Rattle.command_base.specs.Status.{IsInputRefusal, IsOrEarlier, refusal_line}
use Rattle.command_base.specs.Ends.{Stands, Done, Failed}
use Rattle.command_base.specs.declared.status.Status.{Status}
use Rattle.command_base.specs.declared.status.Status.TheVariants as ends

-- ---- the names of a store

pub head_of : (names l : List Name) (d : Name) → names ≡ l → 1 ≤ length l → (rest : List Name) × (names ≡ slice_index_or l 0 d ∷ rest)
head_of names [] d is some = absurd (omega (arith, some))
head_of names (x ∷ l) d is some = (l, is)

no_pairs : {A B : Type 0} (es : List (A × B)) → map (λ e. e.0) es ≡ [] → es ≡ []
no_pairs [] none = refl
no_pairs (e ∷ es) none = absurd cc

pub absent_of : (files : Files) → keys files ≡ [] → (name : Name) → content files name ≡ None
absent_of files none name = get-entries files name ∙ ap (find name_cmp name) (no_pairs (entries files) none)

-- ---- refusals

pub store_ends : (status : Status) (script had has : List ℕ) (v w : DiskView) (cut rose : Type 0) → IsStoreRefusal status → Looks v w
    → ((text : List ℕ) → refusal_line status ≡ Some text → Prints had has text cut) → EndsLog status (invocation script v w had has) rose cut
store_ends ends.Memory script had has v w cut rose is looks prints = (refused_so had has refused_memory cut (prints refused_memory refl), unchanged v w looks)
store_ends ends.DiskFault script had has v w cut rose is looks prints =
    inr (refused_so had has refused_disk cut (prints refused_disk refl), record { others = λ m other. (unchanged v w looks).files m; images = λ J now. inl (looks.crash J now) })
store_ends (ends.NumbersSpent region last) script had has v w cut rose is looks prints = absurd is
store_ends (ends.NotEmpty name) script had has v w cut rose is looks prints = tt
store_ends (ends.NoPosition number entries) script had has v w cut rose is looks prints = absurd is
store_ends ends.Done script had has v w cut rose is looks prints = absurd is
store_ends ends.Usage script had has v w cut rose is looks prints = absurd is
store_ends (ends.Script line why) script had has v w cut rose is looks prints = absurd is
store_ends ends.SourceFault script had has v w cut rose is looks prints = absurd is
store_ends ends.SinkFault script had has v w cut rose is looks prints = absurd is
store_ends (ends.Damaged damage) script had has v w cut rose is looks prints = absurd is

pub input_ends : (status : Status) (script had has : List ℕ) (v : DiskView) (cut rose : Type 0) → IsInputRefusal status
    → ((text : List ℕ) → refusal_line status ≡ Some text → Prints had has text cut) → EndsLog status (invocation script v v had has) rose cut
input_ends ends.Memory script had has v cut rose is prints = (refused_so had has refused_memory cut (prints refused_memory refl), same_disk v)
input_ends (ends.Script line why) script had has v cut rose is prints = tt
input_ends ends.SourceFault script had has v cut rose is prints = tt
input_ends ends.Done script had has v cut rose is prints = absurd is
input_ends ends.Usage script had has v cut rose is prints = absurd is
input_ends ends.DiskFault script had has v cut rose is prints = absurd is
input_ends ends.SinkFault script had has v cut rose is prints = absurd is
input_ends (ends.Damaged damage) script had has v cut rose is prints = absurd is
input_ends (ends.NumbersSpent region last) script had has v cut rose is prints = absurd is
input_ends (ends.NotEmpty name) script had has v cut rose is prints = absurd is
input_ends (ends.NoPosition number entries) script had has v cut rose is prints = absurd is

pub refused_ends : (status s : Status) (script had has : List ℕ) (v w : DiskView) (cut rose : Type 0) → status ≡ s → IsStoreRefusal s → Looks v w
    → ((text : List ℕ) → refusal_line s ≡ Some text → Prints had has text cut) → EndsLog status (invocation script v w had has) rose cut
refused_ends status s script had has v w cut rose is refused looks prints =
    subst (λ (t : Status). EndsLog t (invocation script v w had has) rose cut) (sym is) (store_ends s script had has v w cut rose refused looks prints)

pub input_refused : (status s : Status) (script had has : List ℕ) (v : DiskView) (cut rose : Type 0) → status ≡ s → IsInputRefusal s
    → ((text : List ℕ) → refusal_line s ≡ Some text → Prints had has text cut) → EndsLog status (invocation script v v had has) rose cut
input_refused status s script had has v cut rose is refused prints =
    subst (λ (t : Status). EndsLog t (invocation script v v had has) rose cut) (sym is) (input_ends s script had has v cut rose refused prints)

-- ---- the writing

count_of : (frames : List (List ℕ)) (script : Script) → IsFramesOf frames script → length frames ≡ length (entries_in script)
count_of frames script of_script = ap length of_script.spelled ∙ length-map (entries_in script) entry_frame

pub nothing_ends : (status : Status) (script had has : List ℕ) (v w : DiskView) (cut rose : Type 0) → status ≡ ends.DiskFault
    → ((text : List ℕ) → refusal_line ends.DiskFault ≡ Some text → Prints had has text cut) → SameBut (log_name 1) v.files w.files
    → ((J : Files) → IsImageNow w J → IsImageNow v J ⊎ HasNone J) → EndsLog status (invocation script v w had has) rose cut
nothing_ends status script had has v w cut rose is prints others none =
    subst (λ (s : Status). EndsLog s (invocation script v w had has) rose cut) (sym is)
    (inr (refused_so had has refused_disk cut (prints refused_disk refl), record { others = others; images = none }))

disk_sink : ends.DiskFault ≡ ends.SinkFault → ⊥
disk_sink e = absurd cc

done_sink : ends.Done ≡ ends.SinkFault → ⊥
done_sink e = absurd cc

pub stopped_ends : (status : Status) (script had has text : List ℕ) (v w : DiskView) (rose sank : Type 0) → status ≡ ends.DiskFault ⊎ status ≡ ends.SinkFault
    → Prints had has text (status ≡ ends.SinkFault) → rose → LogFailed (invocation script v w had has) text → EndsLog status (invocation script v w had has) rose sank
stopped_ends status script had has text v w rose sank (inl is) prints rises failed =
    let whole : taken_of had has ≡ text = taken_whole had has text (status ≡ ends.SinkFault) prints (λ cut. disk_sink (sym is ∙ cut)) in
    subst (λ (s : Status). EndsLog s (invocation script v w had has) rose sank) (sym is) (inl (subst (λ (t : List ℕ). LogFailed (invocation script v w had has) t) (sym whole) failed))
stopped_ends status script had has text v w rose sank (inr is) prints rises failed =
    subst (λ (s : Status). EndsLog s (invocation script v w had has) rose sank) (sym is) (text, taken_begins had has text (status ≡ ends.SinkFault) prints, Failed rises failed)

pub whole_ends : (status : Status) (script had has text : List ℕ) (v w : DiskView) (rose sank : Type 0) → status ≡ ends.Done ⊎ status ≡ ends.SinkFault
    → Prints had has text (status ≡ ends.SinkFault) → LogDone (invocation script v w had has) text → EndsLog status (invocation script v w had has) rose sank
whole_ends status script had has text v w rose sank (inl is) prints logged =
    let whole : taken_of had has ≡ text = taken_whole had has text (status ≡ ends.SinkFault) prints (λ cut. done_sink (sym is ∙ cut)) in
    subst (λ (s : Status). EndsLog s (invocation script v w had has) rose sank) (sym is) (subst (λ (t : List ℕ). LogDone (invocation script v w had has) t) (sym whole) logged)
whole_ends status script had has text v w rose sank (inr is) prints logged =
    subst (λ (s : Status). EndsLog s (invocation script v w had has) rose sank) (sym is) (text, taken_begins had has text (status ≡ ends.SinkFault) prints, Done logged)

pub logged_of : (o : Invocation) (script : Script) (frames : List (List ℕ)) (text : List ℕ) (count : ℕ) → Says Log o.script script → IsFramesOf frames script → count ≡ length frames
    → LogHolds o.after.files (entries_in script) × ((J : Files) → IsImageNow o.after J → LogHolds J (entries_in script)) → SameBut (log_name 1) o.before.files o.after.files
    → ((J : Files) → IsImageNow o.after J → IsAlone J) → text ≡ replies_text (oks 1 count) 0 → LogDone o text
logged_of o script frames text count says of_script counted has others alone is = record {
  script = script;
  says = says;
  reads = has.0;
  others = others;
  images = has.1;
  alone = alone;
  is = is ∙ ap (λ (n : ℕ). replies_text (oks 1 n) 0) (counted ∙ count_of frames script of_script);
}

pub failed_of : (o : Invocation) (script : Script) (frames : List (List ℕ)) (text : List ℕ) (count done : ℕ) → Says Log o.script script → IsFramesOf frames script → count ≡ length frames
    → (done < length (entries_in script)) × ((J : Files) → IsImageNow o.after J → LogHolds J (take done (entries_in script)) ⊎ LogHolds J (take (done + 1) (entries_in script)))
    → SameBut (log_name 1) o.before.files o.after.files → ((J : Files) → IsImageNow o.after J → IsAlone J) → text ≡ replies_text (stopped_replies count done) 5 → LogFailed o text
failed_of o script frames text count done says of_script counted has others alone is = record {
  script = script;
  says = says;
  done = done;
  fewer = has.0;
  others = others;
  images = has.1;
  alone = alone;
  is = is ∙ ap (λ (n : ℕ). replies_text (stopped_replies n done) 5) (counted ∙ count_of frames script of_script);
}

-- what a stop of the writing leaves, a stop of the command may leave
pub may_leave : (text : List ℕ) (script : Script) (v : DiskView) → Says Log text script → (J : Files) → WasOrFirst v (entries_in script) J → LogMayLeave text v J
may_leave text script v says J (inl was) = inl was
may_leave text script v says J (inr first) = inr (script, says, first)

-- ---- the writing after a look

others_from : (u v w : DiskView) → Looks u v → SameBut (log_name 1) v.files w.files → SameBut (log_name 1) u.files w.files
others_from u v w looks others m other = others m other ∙ (unchanged u v looks).files m

logged_from : (script had has text : List ℕ) (u v w : DiskView) → Looks u v → LogDone (invocation script v w had has) text → LogDone (invocation script u w had has) text
logged_from script had has text u v w looks h =
    record { script = h.script; says = h.says; reads = h.reads; others = others_from u v w looks h.others; images = h.images; alone = h.alone; is = h.is }

failed_from : (script had has text : List ℕ) (u v w : DiskView) → Looks u v → LogFailed (invocation script v w had has) text → LogFailed (invocation script u w had has) text
failed_from script had has text u v w looks h =
    record { script = h.script; says = h.says; done = h.done; fewer = h.fewer; others = others_from u v w looks h.others; images = h.images; alone = h.alone; is = h.is }

none_from : (script had has : List ℕ) (u v w : DiskView) → Looks u v → NoLogBegun (invocation script v w had has) → NoLogBegun (invocation script u w had has)
none_from script had has u v w looks h = record { others = others_from u v w looks h.others; images = λ J now. earlier J (h.images J now) } where
  earlier : (J : Files) → IsImageNow v J ⊎ HasNone J → IsImageNow u J ⊎ HasNone J
  earlier J (inl was) = inl (looks.crash J was)
  earlier J (inr none) = inr none

stands_from : (script had has text : List ℕ) (u v w : DiskView) (late early : Type 0) → Looks u v → (late → early) → Stands (logs (invocation script v w had has)) late text → Stands (logs (invocation script u w had has)) early text
stands_from script had has text u v w late early looks rose (Done h) = Done (logged_from script had has text u v w looks h)
stands_from script had has text u v w late early looks rose (Failed r h) = Failed (rose r) (failed_from script had has text u v w looks h)

fault_from : (script had has : List ℕ) (u v w : DiskView) (late early sank : Type 0) → Looks u v → EndsLog ends.DiskFault (invocation script v w had has) late sank
    → EndsLog ends.DiskFault (invocation script u w had has) early sank
fault_from script had has u v w late early sank looks (inl h) = inl (failed_from script had has (taken_of had has) u v w looks h)
fault_from script had has u v w late early sank looks (inr h) = inr (h.0, none_from script had has u v w looks h.1)

pub ends_from : (status : Status) (script had has : List ℕ) (u v w : DiskView) (late early sank : Type 0) → IsWritingEnd status → Looks u v → (late → early)
    → EndsLog status (invocation script v w had has) late sank → EndsLog status (invocation script u w had has) early sank
ends_from ends.Done script had has u v w late early sank is looks rose h = logged_from script had has (taken_of had has) u v w looks h
ends_from ends.DiskFault script had has u v w late early sank is looks rose h = fault_from script had has u v w late early sank looks h
ends_from ends.SinkFault script had has u v w late early sank is looks rose h = (h.0, h.1, stands_from script had has h.0 u v w late early looks rose h.2)
ends_from ends.Memory script had has u v w late early sank is looks rose h = absurd is
ends_from ends.Usage script had has u v w late early sank is looks rose h = absurd is
ends_from (ends.Script line why) script had has u v w late early sank is looks rose h = absurd is
ends_from ends.SourceFault script had has u v w late early sank is looks rose h = absurd is
ends_from (ends.Damaged damage) script had has u v w late early sank is looks rose h = absurd is
ends_from (ends.NumbersSpent region last) script had has u v w late early sank is looks rose h = absurd is
ends_from (ends.NotEmpty name) script had has u v w late early sank is looks rose h = absurd is
ends_from (ends.NoPosition number entries) script had has u v w late early sank is looks rose h = absurd is

pub looked_only : (text : List ℕ) (u v : DiskView) → Looks u v → AtEachMoment (LogMayLeave text u) u v
looked_only text u v looks = looked (LogMayLeave text u) u v looks (λ J now. inl now)

-- at each moment of the writing after a look
pub moments_from : (text : List ℕ) (u v w : DiskView) → Looks u v → AtEachMoment (LogMayLeave text v) v w → AtEachMoment (LogMayLeave text u) u w
moments_from text u v w looks over = each_on (LogMayLeave text u) u v w (looked_only text u v looks) (each_then (LogMayLeave text v) (LogMayLeave text u) v w earlier over) where
  earlier : (J : Files) → LogMayLeave text v J → LogMayLeave text u J
  earlier J (inl was) = inl (looks.crash J was)
  earlier J (inr first) = inr first

-- ---- what is decided before a status

wider_at : (s a b m : Status) (k : ℕ) → k < 2 → slice_index_or (m ∷ a ∷ []) k s ≡ s → Contains (m ∷ b ∷ a ∷ []) s
wider_at s a b m zero lt is = (0, omega arith, is)
wider_at s a b m (suc zero) lt is = (2, omega arith, is)
wider_at s a b m (suc (suc k)) lt is = absurd (omega (arith, lt))

pub wider : (s it a b : Status) → IsOrEarlier s it (a ∷ []) → IsOrEarlier s it (b ∷ a ∷ [])
wider s it a b (inl is) = inl is
wider s it a b (inr earlier) = inr (wider_at s a b ends.Memory earlier.0 earlier.1 earlier.2)
