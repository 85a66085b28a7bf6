-- How the top call ends, by the command that its words name.
use Rattle.std.proofs.Common.{◌≡◌, ℕ, List, [], ◌∷◌, Option, Some, None, refl, sym, ap, subst, ◌∙◌}
use Rattle.std.specs.Option.{option_map}
use Rattle.log_model.specs.declared.name.Name.{Name}
use Rattle.log_model.specs.declared.damage.Damage.{Damage}
use Rattle.log_model.specs.declared.damage.Damage.TheVariants as damages
use Rattle.log_model.specs.Files.{Files, IsSound}
use Rattle.log_model.specs.Damage.{IsDamage}
use Rattle.chronicle_model.specs.Chronicle.{Position}
use Rattle.ship_command.specs.Shipped.{IsShipDamage, IsShipEnd, IsShipComplete, LacksPosition}
use Rattle.load_run.specs.Words.{Word, To_log, To_show, To_dump, To_ship, To_recover, To_compact, To_run, meaning_of}
use Rattle.load_run.specs.declared.words.Word.{Word as CodeWord}
use Rattle.disk_images.specs.Crash.{DiskView}
use Rattle.command_base.specs.Invocation.{AtEachMoment, Invocation}
use Rattle.command_base.specs.LogFiles.{log_name, IsDamagedLog, IsLogDamage}
use Rattle.dump_command.specs.Dumped.{IsDumped, IsDumpDamage}
use Rattle.load_run.specs.Profile.{HasRightScript}
use Rattle.load_run.specs.Commands.{profile, profile_of}
use Rattle.command_base.specs.Status.{IsDamageOf, IsOrEarlier, IsComplete, IsReadingEnd}
use Rattle.command_base.specs.declared.status.Status.{Status}
use Rattle.command_base.specs.declared.status.Status.TheVariants as ends
use Rattle.script_model.specs.Script.{script_fault}
use Rattle.script_model.specs.declared.command.Command.TheVariants.{Run}
use Rattle.compact_command.specs.recover_command.Recovered.{IsStoreDamage}
use Rattle.store_compact.specs.declared.kind.CompactKind.{CompactKind}
use Rattle.load_command.specs.run_command.Ends.{IsRunComplete}

abbrev some_or : {A : Type 0} → A → Option A → A
some_or a None = a
some_or a (Some b) = b

-- the words name the command that was read
pub words_named : (read : Option CodeWord) (x : CodeWord) (words : Option Word) → read ≡ Some x → option_map meaning_of read ≡ words → words ≡ Some (meaning_of x)
words_named read x words is first = sym first ∙ ap (option_map meaning_of) is

pub word_named : (read : Option CodeWord) (x : CodeWord) (words : Option Word) (word : Word) → read ≡ Some x → option_map meaning_of read ≡ words → words ≡ Some word → word ≡ meaning_of x
word_named read x words word is first names = ap (some_or word) (sym names ∙ words_named read x words is first)

-- what may stand at each moment, for the command that was read
pub moments_of : (words command : Option Word) (script : List ℕ) (v w : DiskView) → words ≡ command → AtEachMoment ((profile_of command).may_leave script v) v w → AtEachMoment ((profile_of words).may_leave script v) v w
moments_of words command script v w is over = subst (λ (o : Option Word). AtEachMoment ((profile_of o).may_leave script v) v w) (sym is) over

pub script_told : (words : Option Word) (told : Type 0) → words ≡ Some To_log → (profile_of words).wants_source told → told
script_told words told is tells = subst (λ (o : Option Word). (profile_of o).wants_source told) is tells

-- the status is one of the command that was read
pub status_of : (words command : Option Word) (status : Status) → words ≡ command → (profile_of command).may_end status → (profile_of words).may_end status
status_of words command status is may = subst (λ (o : Option Word). (profile_of o).may_end status) (sym is) may

pub none_status : (read : Option CodeWord) (words : Option Word) (status : Status) → read ≡ None → option_map meaning_of read ≡ words → status ≡ ends.Usage → (profile_of words).may_end status
none_status read words status is names used = status_of words None status (sym names ∙ ap (option_map meaning_of) is) (subst (λ (s : Status). (profile_of None).may_end s) (sym used) tt)

-- what stands then, for the command that was read
pub ends_for : (word x : Word) (status : Status) (o : Invocation) (rose sank : Type 0) → word ≡ x → (profile x).ends status o rose sank → (profile word).ends status o rose sank
ends_for word x status o rose sank is stands = subst (λ (w : Word). (profile w).ends status o rose sank) (sym is) stands

-- damage that was told, for the command that was read
reported_for : (word x : Word) (status : Status) (damage : Damage) → word ≡ x → IsOrEarlier status (ends.Damaged damage) (profile x).earlier
    → IsOrEarlier status (ends.Damaged damage) (profile word).earlier
reported_for word x status damage is told = subst (λ (w : Word). IsOrEarlier status (ends.Damaged damage) (profile w).earlier) (sym is) told

complete_for : (word x : Word) (status : Status) → word ≡ x → (profile x).complete status → (profile word).complete status
complete_for word x status is complete = subst (λ (w : Word). (profile w).complete status) (sym is) complete

IsReported : Status → Damage → Type 0
IsReported status damage = IsOrEarlier status (ends.Damaged damage) (ends.DiskFault ∷ [])

pub show_reported : (word : Word) (status : Status) (files : Files) (damage : Damage) → word ≡ To_show → (profile word).must_tell files damage
    → ((at : ℕ) → IsDamagedLog files (log_name 1) at → IsOrEarlier status (ends.Damaged (damages.Bytes (log_name 1) at)) (ends.DiskFault ∷ []))
    → IsOrEarlier status (ends.Damaged damage) (profile word).earlier
unfolding IsReported
show_reported word status files damage is damaged told = reported_for word To_show status damage is (each damage (subst (λ (w : Word). (profile w).must_tell files damage) is damaged))
  where
    each : (x : Damage) → IsLogDamage files (log_name 1) x → IsReported status x
    each (damages.Bytes name at) d = subst (λ (n : Name). IsReported status (damages.Bytes n at)) (sym d.0) (told at (subst (λ (n : Name). IsDamagedLog files n at) d.0 d.1))
    each (damages.Two first second region number) d = absurd d

pub dump_reported : (word : Word) (n : ℕ) (status : Status) (files : Files) (damage : Damage) → word ≡ To_dump n → (profile word).must_tell files damage
    → ((name : Name) (at : ℕ) → IsDumped files n name → IsDamagedLog files name at → IsOrEarlier status (ends.Damaged (damages.Bytes name at)) (ends.DiskFault ∷ []))
    → IsOrEarlier status (ends.Damaged damage) (profile word).earlier
unfolding IsReported
dump_reported word n status files damage is damaged told = reported_for word (To_dump n) status damage is (each damage (subst (λ (w : Word). (profile w).must_tell files damage) is damaged))
  where
    each : (x : Damage) → IsDumpDamage n files x → IsReported status x
    each (damages.Bytes name at) d = told name at d.0 d.1
    each (damages.Two first second region number) d = absurd d

pub ship_reported : (word : Word) (p : Position) (status : Status) (files : Files) (damage : Damage) → word ≡ To_ship p → (profile word).must_tell files damage
    → ((x : Damage) → IsShipDamage p files x → IsOrEarlier status (ends.Damaged x) (ends.DiskFault ∷ ends.SinkFault ∷ [])) → IsOrEarlier status (ends.Damaged damage) (profile word).earlier
ship_reported word p status files damage is damaged told = reported_for word (To_ship p) status damage is (told damage (subst (λ (w : Word). (profile w).must_tell files damage) is damaged))

pub ship_lacks : (word : Word) (p : Position) (files : Files) (file has : ℕ) → word ≡ To_ship p → (profile word).no_position files file has → LacksPosition p files file has
ship_lacks word p files file has is lacks = subst (λ (w : Word). (profile w).no_position files file has) is lacks

-- of a command without a script: without a fault, and where nothing that it reads is damaged, it is done
reader_done : (status : Status) (P : Damage → Type 0) (d k : Type 0) → IsReadingEnd status → IsDamageOf status P → (status ≡ ends.DiskFault → d) → (status ≡ ends.SinkFault → k)
    → ((damage : Damage) → P damage → ⊥) → (d → ⊥) → (k → ⊥) → IsComplete status
reader_done ends.Done P d k ended damage disk sink sound no_disk no_sink = tt
reader_done ends.Memory P d k ended damage disk sink sound no_disk no_sink = tt
reader_done ends.Usage P d k ended damage disk sink sound no_disk no_sink = absurd ended
reader_done (ends.Script line why) P d k ended damage disk sink sound no_disk no_sink = absurd ended
reader_done ends.SourceFault P d k ended damage disk sink sound no_disk no_sink = absurd ended
reader_done ends.DiskFault P d k ended damage disk sink sound no_disk no_sink = absurd (no_disk (disk refl))
reader_done ends.SinkFault P d k ended damage disk sink sound no_disk no_sink = absurd (no_sink (sink refl))
reader_done (ends.Damaged x) P d k ended damage disk sink sound no_disk no_sink = absurd (sound x damage)
reader_done (ends.NumbersSpent region last) P d k ended damage disk sink sound no_disk no_sink = absurd ended
reader_done (ends.NotEmpty name) P d k ended damage disk sink sound no_disk no_sink = absurd ended
reader_done (ends.NoPosition number entries) P d k ended damage disk sink sound no_disk no_sink = absurd ended

sound_log : (files : Files) (name : Name) → ((at : ℕ) → IsDamagedLog files name at → ⊥) → (damage : Damage) → IsLogDamage files name damage → ⊥
sound_log files name sound (damages.Two first second region number) damage = damage
sound_log files name sound (damages.Bytes n at) damage = sound at (subst (λ (m : Name). IsDamagedLog files m at) damage.0 damage.1)

sound_dump : (files : Files) (n : ℕ) → ((name : Name) (at : ℕ) → IsDumped files n name → IsDamagedLog files name at → ⊥) → (damage : Damage) → IsDumpDamage n files damage → ⊥
sound_dump files n sound (damages.Two first second region number) damage = damage
sound_dump files n sound (damages.Bytes name at) damage = sound name at damage.0 damage.1

pub show_complete : (word : Word) (status : Status) (script : List ℕ) (files : Files) (d k : Type 0) → word ≡ To_show → IsReadingEnd status → IsDamageOf status (IsLogDamage files (log_name 1))
    → (status ≡ ends.DiskFault → d) → (status ≡ ends.SinkFault → k) → (profile word).ready script files → (d → ⊥) → (k → ⊥) → (profile word).complete status
show_complete word status script files d k is ended damage disk sink ready no_disk no_sink =
    complete_for word To_show status is
    (reader_done status (IsLogDamage files (log_name 1)) d k ended damage disk sink (sound_log files (log_name 1) (subst (λ (w : Word). (profile w).ready script files) is ready)) no_disk no_sink)

pub dump_complete : (word : Word) (n : ℕ) (status : Status) (script : List ℕ) (files : Files) (d k : Type 0) → word ≡ To_dump n → IsReadingEnd status → IsDamageOf status (IsDumpDamage n files)
    → (status ≡ ends.DiskFault → d) → (status ≡ ends.SinkFault → k) → (profile word).ready script files → (d → ⊥) → (k → ⊥) → (profile word).complete status
dump_complete word n status script files d k is ended damage disk sink ready no_disk no_sink =
    complete_for word (To_dump n) status is
    (reader_done status (IsDumpDamage n files) d k ended damage disk sink (sound_dump files n (subst (λ (w : Word). (profile w).ready script files) is ready)) no_disk no_sink)

ship_done : (status : Status) (d k : Type 0) → IsShipEnd status → (status ≡ ends.DiskFault → d) → (status ≡ ends.SinkFault → k) → (d → ⊥) → (k → ⊥) → IsShipComplete status
ship_done ends.Done d k ended disk sink no_disk no_sink = tt
ship_done ends.Memory d k ended disk sink no_disk no_sink = tt
ship_done (ends.Damaged damage) d k ended disk sink no_disk no_sink = tt
ship_done (ends.NoPosition file has) d k ended disk sink no_disk no_sink = tt
ship_done ends.DiskFault d k ended disk sink no_disk no_sink = absurd (no_disk (disk refl))
ship_done ends.SinkFault d k ended disk sink no_disk no_sink = absurd (no_sink (sink refl))
ship_done ends.Usage d k ended disk sink no_disk no_sink = absurd ended
ship_done (ends.Script line why) d k ended disk sink no_disk no_sink = absurd ended
ship_done ends.SourceFault d k ended disk sink no_disk no_sink = absurd ended
ship_done (ends.NumbersSpent region last) d k ended disk sink no_disk no_sink = absurd ended
ship_done (ends.NotEmpty name) d k ended disk sink no_disk no_sink = absurd ended

pub ship_complete : (word : Word) (p : Position) (status : Status) (d k : Type 0) → word ≡ To_ship p → IsShipEnd status
    → (status ≡ ends.DiskFault → d) → (status ≡ ends.SinkFault → k) → (d → ⊥) → (k → ⊥) → (profile word).complete status
ship_complete word p status d k is ended disk sink no_disk no_sink = complete_for word (To_ship p) status is (ship_done status d k ended disk sink no_disk no_sink)

pub recover_complete : (word : Word) (status : Status) (script : List ℕ) (files : Files) (d k : Type 0) → word ≡ To_recover → IsReadingEnd status → IsDamageOf status (IsStoreDamage files)
    → (status ≡ ends.DiskFault → d) → (status ≡ ends.SinkFault → k) → (profile word).ready script files → (d → ⊥) → (k → ⊥) → (profile word).complete status
recover_complete word status script files d k is ended damage disk sink ready no_disk no_sink =
    let wanted : (profile To_recover).ready script files = subst (λ (w : Word). (profile w).ready script files) is ready in
    complete_for word To_recover status is
    (reader_done status (IsStoreDamage files) d k ended damage disk sink (λ x told. told.0 wanted) no_disk no_sink)

pub recover_reported : (word : Word) (status : Status) (files : Files) (damage : Damage) → word ≡ To_recover → (profile word).must_tell files damage
    → ((¬ IsSound files) → IsDamage files damage → IsOrEarlier status (ends.Damaged damage) (ends.DiskFault ∷ []))
    → IsOrEarlier status (ends.Damaged damage) (profile word).earlier
recover_reported word status files damage is damaged told =
    let must : (profile To_recover).must_tell files damage = subst (λ (w : Word). (profile w).must_tell files damage) is damaged in
    reported_for word To_recover status damage is (told must.0 must.1)

-- ---- compact

pub compact_complete : (word : Word) (kind : CompactKind) (r : ℕ) (status : Status) (script : List ℕ) (files : Files) (d k : Type 0) → word ≡ To_compact kind r → IsReadingEnd status → IsDamageOf status (IsStoreDamage files)
    → (status ≡ ends.DiskFault → d) → (status ≡ ends.SinkFault → k) → (profile word).ready script files → (d → ⊥) → (k → ⊥) → (profile word).complete status
compact_complete word kind r status script files d k is ended damage disk sink ready no_disk no_sink =
    let wanted : (profile (To_compact kind r)).ready script files = subst (λ (w : Word). (profile w).ready script files) is ready in
    complete_for word (To_compact kind r) status is
    (reader_done status (IsStoreDamage files) d k ended damage disk sink (λ x told. told.0 wanted) no_disk no_sink)

pub compact_reported : (word : Word) (kind : CompactKind) (r : ℕ) (status : Status) (files : Files) (damage : Damage) → word ≡ To_compact kind r → (profile word).must_tell files damage
    → ((¬ IsSound files) → IsDamage files damage → IsOrEarlier status (ends.Damaged damage) (ends.DiskFault ∷ []))
    → IsOrEarlier status (ends.Damaged damage) (profile word).earlier
compact_reported word kind r status files damage is damaged told =
    let must : (profile (To_compact kind r)).must_tell files damage = subst (λ (w : Word). (profile w).must_tell files damage) is damaged in
    reported_for word (To_compact kind r) status damage is (told must.0 must.1)

-- ---- run

pub run_reported : (word : Word) (status : Status) (told : Type 0) (script : List ℕ) (files : Files) (damage : Damage) → word ≡ To_run
    → HasRightScript (profile word) told script → (profile word).must_tell files damage
    → (told → script_fault Run script ≡ None → (¬ IsSound files) → IsDamage files damage → IsOrEarlier status (ends.Damaged damage) (ends.SourceFault ∷ ends.DiskFault ∷ []))
    → IsOrEarlier status (ends.Damaged damage) (profile word).earlier
run_reported word status told script files damage is right damaged tells =
    let must : (profile To_run).must_tell files damage = subst (λ (w : Word). (profile w).must_tell files damage) is damaged in
    let has : HasRightScript (profile To_run) told script = subst (λ (w : Word). HasRightScript (profile w) told script) is right in
    let it : told × (script_fault Run script ≡ None) = has Run refl in
    reported_for word To_run status damage is (tells it.0 it.1 must.0 must.1)

pub run_complete : (word : Word) (status : Status) (script : List ℕ) (files : Files) → word ≡ To_run → (profile word).ready script files
    → (script_fault Run script ≡ None → IsSound files → IsRunComplete status) → (profile word).complete status
run_complete word status script files is ready done =
    let wanted : (profile To_run).ready script files = subst (λ (w : Word). (profile w).ready script files) is ready in
    complete_for word To_run status is (done wanted.0 wanted.1)
