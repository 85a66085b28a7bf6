-- What a run leaves for the end of a load.
use Rattle.std.proofs.Common.{◌≡◌, ◌≢◌, ℕ, ◌^◌, ◌≤◌, ◌⊎◌, Bool, true, false, if◌then◌else◌, List, [], ◌∷◌, ◌++◌, map, Contains, Option, Some, None, inl, inr, refl, sym, ap, ◌∙◌, subst, arith}
use Rattle.std.specs.FinMap.{keys}
use Rattle.std.proofs.Math.Logic.{∥∥₁_map, ∥∥₁_map₂, ∥∥₁_elim, ∥∥₁_prop}
use Rattle.std.proofs.lemmas.Bool.{cases_lt}
use Rattle.std.proofs.lemmas.List.{map-append}
use Rattle.log_model.specs.declared.name.Name.{Name}
use Rattle.run_command.specs.recover_command.Recovered.{IsStoreDamage}
use Rattle.log_model.specs.Files.{Files, IsSound, IsPresent}
use Rattle.log_model.specs.Recovered.{RecoversAlike}
use Rattle.recovery_laws.specs.Alike.{AllAlike}
use Rattle.disk_images.specs.Crash.{DiskView, IsImageNow, Elapses, Throughout}
use Rattle.disk_images.specs.Calls.{Looks, Rose}
use Rattle.script_model.specs.Calls.{Script}
use Rattle.script_model.specs.Report.{ReplyLine}
use Rattle.script_model.specs.Outputs.{refused_memory, refused_disk}
use Rattle.server_model.specs.Pass.{Naming}
use Rattle.server_model.specs.Closing.{Handled, replies_of}
use Rattle.made_script.specs.Made.{AreOptions, made_script}
use Rattle.made_script.specs.declared.options.LoadOptions.{LoadOptions}
use Rattle.run_model.specs.declared.spent.Spent.{Spent}
use Rattle.region_model.specs.Crash.{Fits}
use Rattle.run_model.specs.Closed.{FitsThroughout, MayOpen}
use Rattle.run_model.specs.Headline.{reply_line, FitsStatus, History, IsHeadline, IsOneReport, KeepsFound, KeepsIn, MayKeep, IsHalfOpened}
use Rattle.run_model.proofs.FromClose.{fault_is_told}
use Rattle.run_model.proofs.Headlines.{headline}
use Rattle.run_model.proofs.KeepsFound.{closed_keeps, half_keeps}
use Rattle.run_command.specs.region_calls.declared.refusal.StartWhy.{StartWhy}
use Rattle.run_command.specs.region_calls.declared.refusal.StartWhy.TheVariants as whys
use Rattle.run_command.specs.region_calls.declared.closed.ClosedRegion.{ClosedRegion}
use Rattle.run_command.specs.script_run.Ends.{closed_at, lines_of, HasClosed}
use Rattle.load_model.specs.Loaded.{HasBroken, HasStopped}
use Rattle.load_model.proofs.Empty.{empty_is_sound}
use Rattle.command_base.specs.Invocation.{invocation, AtEachMoment, GoesOn}
use Rattle.command_base.specs.Prints.{Prints}
use Rattle.command_base.specs.Ends.{Done, Failed}
use Rattle.command_base.specs.Status.{refusal_line, exit_status, IsComplete, IsNotEmpty, IsOrEarlier}
use Rattle.command_base.specs.declared.status.Status.{Status}
use Rattle.command_base.specs.declared.status.Status.TheVariants as ends
use Rattle.command_base.proofs.Endings.{refused_so, looked, each_on, each_then}
use Rattle.run_command.specs.Carried.{IfFoundDamaged}
use Rattle.run_command.specs.Decided.{decided, spent_or, wants_memory}
use Rattle.run_command.specs.Ends.{joined, status_for}
use Rattle.run_command.proofs.Fitting.{fits, whole_of}
use Rattle.load_command.specs.Statuses.{IsDecided, IsClosedEnd, IsLoadEnd, IsStoreRefusal, LeavesStore}
use Rattle.load_command.specs.Ends.{EndsLoad, HasEnded}

-- ---- what is decided

want_end : (b : Bool) → IsDecided (if b then ends.Memory else ends.Done)
want_end true = tt
want_end false = tt

spent_end : (o : Option Spent) (s : Status) → IsDecided s → IsDecided (spent_or o s)
spent_end None s may = may
spent_end (Some n) s may = tt

pub decided_end : (broken : Bool) (spent : Option Spent) (lines : List ReplyLine) → IsDecided (decided broken spent lines)
decided_end true spent lines = tt
decided_end false spent lines = spent_end spent _ (want_end (wants_memory lines))

want_whole : (b : Bool) → (if b then ends.Memory else ends.Done) ≡ ends.DiskFault → ⊥
want_whole true e = absurd cc
want_whole false e = absurd cc

pub fault_decided : (broken : Bool) (spent : Option Spent) (lines : List ReplyLine) → decided broken spent lines ≡ ends.DiskFault → broken ≡ true
fault_decided true spent lines e = refl
fault_decided false None lines e = absurd (want_whole (wants_memory lines) e)
fault_decided false (Some n) lines e = absurd cc

-- ---- a server that is closed

all_lines : (hs : List Handled) → joined (map lines_of hs) ≡ map reply_line (replies_of hs)
all_lines [] = refl
all_lines (h ∷ hs) = ap (λ (l : List ReplyLine). map reply_line h.replies ++ l) (all_lines hs) ∙ sym (map-append reply_line h.replies (replies_of hs))

module _ (script : Script) (before left : DiskView) (name : Naming) (regions : List ClosedRegion) (parts : List (List ReplyLine)) (spent : Option Spent) (broken : Bool)
    (c : HasClosed script before.files left name regions parts spent broken) (moments : FitsThroughout before left (map closed_at regions)) where
  said : joined parts ≡ map reply_line (replies_of c.handlers)
  said = ap joined c.lines ∙ all_lines c.handlers

  its_status : FitsStatus (exit_status (decided broken spent (joined parts))) (replies_of c.handlers)
  its_status = subst (λ ls. FitsStatus (exit_status (decided broken spent ls)) (replies_of c.handlers)) (sym said) (fits (replies_of c.handlers) broken spent c.first_told (fault_is_told c.closed))

  reported : ∥ ((report : List ℕ) × IsHeadline script before left (exit_status (decided broken spent (joined parts))) report) ∥₁
  reported = ∥∥₁_map (headline c.closed before (exit_status (decided broken spent (joined parts))) refl moments its_status (whole_of broken spent (joined parts))) (λ h. (_, h))

pub from_closed : (options : LoadOptions) (before left : DiskView) (name : Naming) (regions : List ClosedRegion) (parts : List (List ReplyLine)) (spent : Option Spent) (broken : Bool) (status : Status)
    → AreOptions options → keys before.files ≡ [] → HasClosed (made_script options) before.files left name regions parts spent broken → FitsThroughout before left (map closed_at regions)
    → (status ≡ decided broken spent (joined parts)) ⊎ (status ≡ ends.Memory)
    → HasEnded options before left status
from_closed options before left name regions parts spent broken status right none c moments either = record {
  right = right;
  empty = none;
  keeps = closed_keeps before.files left c.closed;
  reported = λ found. elim either [
    | inl same ↦ subst (λ (s : Status). ∥ ((report : List ℕ) × IsHeadline (made_script options) before left (exit_status s) report) ∥₁) (sym same) (reported (made_script options) before left name regions parts spent broken c moments)
    | inr memory ↦ absurd (found memory)
  ];
}

-- ---- a store that could not be opened

pub not_opened : (why : StartWhy) (result : Status) (options : LoadOptions) (script had has : List ℕ) (before after : DiskView) (rose cut : Type 0) → result ≡ status_for why → IsHalfOpened before after
    → ((text : List ℕ) → refusal_line (status_for why) ≡ Some text → Prints had has text cut) → EndsLoad result options (invocation script before after had has) rose cut
not_opened why result options script had has before after rose cut is half printed =
    subst (λ (s : Status). EndsLoad s options (invocation script before after had has) rose cut) (sym is) (go why printed)
  where
    go : (why : StartWhy) → ((text : List ℕ) → refusal_line (status_for why) ≡ Some text → Prints had has text cut) → EndsLoad (status_for why) options (invocation script before after had has) rose cut
    go whys.Memory p = (refused_so had has refused_memory cut (p refused_memory refl), half_keeps before after half)
    go whys.DiskFault p = inr (refused_so had has refused_disk cut (p refused_disk refl), half)
    go (whys.Damaged damage) p = tt

pub opening_end : (why : StartWhy) → IsClosedEnd (status_for why)
opening_end whys.Memory = tt
opening_end whys.DiskFault = tt
opening_end (whys.Damaged damage) = tt

pub opening_fault : (why : StartWhy) → status_for why ≡ ends.DiskFault → why ≡ whys.DiskFault
opening_fault whys.Memory e = absurd cc
opening_fault whys.DiskFault e = refl
opening_fault (whys.Damaged damage) e = absurd cc

pub opening_sink : (why : StartWhy) → status_for why ≡ ends.SinkFault → ⊥
opening_sink whys.Memory e = absurd cc
opening_sink whys.DiskFault e = absurd cc
opening_sink (whys.Damaged damage) e = absurd cc

-- no damage is found in a store without files
pub opening_complete : (why : StartWhy) (files : Files) (Q : Type 0) → keys files ≡ [] → (why ≡ whys.DiskFault → ⊥) → IfFoundDamaged why (λ damage. IsStoreDamage files damage × Q) → IsComplete (status_for why)
opening_complete whys.Memory files Q none unbroken found = tt
opening_complete whys.DiskFault files Q none unbroken found = absurd (unbroken refl)
opening_complete (whys.Damaged damage) files Q none unbroken found =
    absurd (found.0.0 (empty_is_sound files none))

-- ---- a disk that was looked at first

open_before : (u v : DiskView) → Looks u v → (J : Files) → MayOpen v J → MayOpen u J
open_before u v looks J (inl was) = inl (looks.crash J was)
open_before u v looks J (inr alike) = inr (subst (λ (f : Files). AllAlike f J) looks.files alike)

headline_before : {script : Script} {status : ℕ} {text : List ℕ} (u v w : DiskView) → Looks u v → GoesOn v w → IsHeadline script v w status text → IsHeadline script u w status text
headline_before {script} {status} {text} u v w looks goes h = record {
  histories = h.histories;
  replies = h.replies;
  is = h.is;
  statuses = h.statuses;
  sound = subst IsSound looks.files h.sound;
  report = subst (λ (f : Files). IsOneReport script f h.histories h.replies) looks.files h.report;
  journals = h.journals;
  lawful = h.lawful;
  serial_history = h.serial_history;
  endures = h.endures;
  others = λ J r image above. subst (λ (f : Files). RecoversAlike f J r) looks.files (h.others J r image above);
  images_sound = λ low J image. h.images_sound (subst (λ (f : Files). (name : Name) → IsPresent f name → name.number ≤ 2 ^ 61) (sym looks.files) low) J image;
  done = h.done;
  throughout = ∥∥₁_map₂ goes h.throughout (λ past from. (
    from.0,
    record {
      begun = (omega (arith, looks.time.later, from.1.begun.0), from.1.begun.1);
      before = λ t J low high image. elim (cases_lt t v.clock) [
        | inl early ↦ inl (looked_at t J low (omega (arith, early)) (past.1.past t J (omega (arith, early)) image))
        | inr later ↦ open_before u v looks J (from.1.before t J (omega (arith, later)) high image)
      ];
      since = from.1.since;
    },
  ));
}
  where
    -- at each moment of the look an image is one of before
    looked_at : (t : ℕ) (J : Files) → u.clock ≤ t → t ≤ v.clock → v.image t J → IsImageNow u J
    looked_at t J low high image = elim (cases_lt u.clock t) [
      | inl later ↦ looks.crash J (subst (λ (k : ℕ). v.image k J) (omega (arith, later, high, looks.time.by_most)) image)
      | inr same ↦ subst (λ (k : ℕ). u.image k J) (omega (arith, low, same)) (looks.time.past t J (omega (arith, same)) image)
    ]

kept_before : (u v : DiskView) → Looks u v → (J : Files) → MayKeep v J → MayKeep u J
kept_before u v looks J may = ∥∥₁_map may (λ either. elim either as (λ _. IsImageNow u J ⊎ KeepsIn u.files J) [
  | inl was ↦ inl (looks.crash J was)
  | inr kept ↦ inr (subst (λ (f : Files). KeepsIn f J) looks.files kept)
])

keeps_before : (u v w : DiskView) → Looks u v → KeepsFound v w → KeepsFound u w
keeps_before u v w looks keeps J image = kept_before u v looks J (keeps J image)

pub looked_only : (u v : DiskView) → Looks u v → AtEachMoment (MayKeep u) u v
looked_only u v looks = looked (MayKeep u) u v looks (λ J now. ∣ inl now ∣₁)

-- at each moment of what comes after a look
pub moments_before : (u v w : DiskView) → Looks u v → AtEachMoment (MayKeep v) v w → AtEachMoment (MayKeep u) u w
moments_before u v w looks over = each_on (MayKeep u) u v w (looked_only u v looks) (each_then (MayKeep v) (MayKeep u) v w (kept_before u v looks) over)

broken_before : (options : LoadOptions) (u v w : DiskView) (text : List ℕ) → Looks u v → GoesOn v w → ∥ HasBroken options v w text ⊎ HasStopped options w text ∥₁ → ∥ HasBroken options u w text ⊎ HasStopped options w text ∥₁
broken_before options u v w text looks goes stands = ∥∥₁_map stands (λ either. elim either as (λ _. HasBroken options u w text ⊎ HasStopped options w text) [
  | inl b ↦ inl (record { is = b.is; report = b.report; headline = headline_before u v w looks goes b.headline })
  | inr s ↦ inr s
])

half_before : (u v w : DiskView) → Looks u v → IsHalfOpened v w → IsHalfOpened u w
half_before u v w looks half = each_on (MayOpen u) u v w (looked (MayOpen u) u v looks (λ J now. inl now)) (each_then (MayOpen v) (MayOpen u) v w (open_before u v looks) half)

pub ends_before : (status : Status) (options : LoadOptions) (script had has : List ℕ) (u v w : DiskView) (rose wider cut : Type 0) → IsClosedEnd status → Looks u v → GoesOn v w → (rose → wider)
    → EndsLoad status options (invocation script v w had has) rose cut → EndsLoad status options (invocation script u w had has) wider cut
ends_before ends.Done options script had has u v w rose wider cut may looks goes more e = e
ends_before ends.Memory options script had has u v w rose wider cut may looks goes more e = (e.0, keeps_before u v w looks e.1)
ends_before ends.DiskFault options script had has u v w rose wider cut may looks goes more (inl broken) = inl (broken_before options u v w _ looks goes broken)
ends_before ends.DiskFault options script had has u v w rose wider cut may looks goes more (inr refused) = inr (refused.0, half_before u v w looks refused.1)
ends_before ends.SinkFault options script had has u v w rose wider cut may looks goes more (text, begins, Done done) = (text, begins, Done done)
ends_before ends.SinkFault options script had has u v w rose wider cut may looks goes more (text, begins, Failed rise broken) = (text, begins, Failed (more rise) (broken_before options u v w text looks goes broken))
ends_before (ends.Damaged damage) options script had has u v w rose wider cut may looks goes more e = tt
ends_before (ends.NumbersSpent region last) options script had has u v w rose wider cut may looks goes more e = e
ends_before ends.Usage options script had has u v w rose wider cut may looks goes more e = absurd may
ends_before (ends.Script line why) options script had has u v w rose wider cut may looks goes more e = absurd may
ends_before ends.SourceFault options script had has u v w rose wider cut may looks goes more e = absurd may
ends_before (ends.NotEmpty name) options script had has u v w rose wider cut may looks goes more e = absurd may
ends_before (ends.NoPosition number entries) options script had has u v w rose wider cut may looks goes more e = absurd may

-- what the statuses of a load on an empty store are not
pub closed_load : (status : Status) → IsClosedEnd status → IsLoadEnd status
closed_load (ends.NotEmpty name) may = tt
closed_load (ends.NoPosition number entries) may = absurd may
closed_load ends.Done may = may
closed_load ends.Memory may = may
closed_load ends.DiskFault may = may
closed_load ends.SinkFault may = may
closed_load (ends.Damaged damage) may = may
closed_load (ends.NumbersSpent region last) may = may
closed_load ends.Usage may = may
closed_load (ends.Script line why) may = may
closed_load ends.SourceFault may = may

pub closed_not_empty : (status : Status) (files : Files) → IsClosedEnd status → IsNotEmpty status files
closed_not_empty (ends.NotEmpty name) files may = absurd may
closed_not_empty _ files may = tt

pub closed_leaves : (Q : Type 0) (status : Status) → IsClosedEnd status → LeavesStore status → Q
closed_leaves Q (ends.NotEmpty name) may leaves = absurd may
closed_leaves Q _ may leaves = absurd leaves

-- ---- a store that was refused

pub refused_first : (status result : Status) (options : LoadOptions) (script had has : List ℕ) (u v : DiskView) (rose cut : Type 0) → result ≡ status → IsStoreRefusal status → Looks u v
    → ((text : List ℕ) → refusal_line status ≡ Some text → Prints had has text cut) → EndsLoad result options (invocation script u v had has) rose cut
refused_first status result options script had has u v rose cut is may looks printed =
    subst (λ (s : Status). EndsLoad s options (invocation script u v had has) rose cut) (sym is) (go status may printed)
  where
    keeps : KeepsFound u v
    keeps J image = ∣ inl (looks.crash J image) ∣₁

    go : (s : Status) → IsStoreRefusal s → ((text : List ℕ) → refusal_line s ≡ Some text → Prints had has text cut) → EndsLoad s options (invocation script u v had has) rose cut
    go ends.Memory m p = (refused_so had has refused_memory cut (p refused_memory refl), keeps)
    go ends.DiskFault m p = inr (refused_so had has refused_disk cut (p refused_disk refl), looked (MayOpen u) u v looks (λ J now. inl now))
    go (ends.NotEmpty name) m p = tt
    go (ends.NoPosition number entries) m p = absurd m
    go ends.Done m p = absurd m
    go ends.SinkFault m p = absurd m
    go (ends.Damaged damage) m p = absurd m
    go (ends.NumbersSpent region last) m p = absurd m
    go ends.Usage m p = absurd m
    go (ends.Script line why) m p = absurd m
    go ends.SourceFault m p = absurd m

pub refusal_end : (status : Status) → IsStoreRefusal status → IsLoadEnd status
refusal_end ends.Memory m = tt
refusal_end ends.DiskFault m = tt
refusal_end (ends.NotEmpty name) m = tt
refusal_end (ends.NoPosition number entries) m = absurd m
refusal_end ends.Done m = absurd m
refusal_end ends.SinkFault m = absurd m
refusal_end (ends.Damaged damage) m = absurd m
refusal_end (ends.NumbersSpent region last) m = absurd m
refusal_end ends.Usage m = absurd m
refusal_end (ends.Script line why) m = absurd m
refusal_end ends.SourceFault m = absurd m

pub refusal_sink : (status : Status) → IsStoreRefusal status → status ≡ ends.SinkFault → ⊥
refusal_sink status may is = subst IsStoreRefusal is may

-- the first name is the one that is told
pub refusal_first : (status : Status) (files : Files) (name : Name) (rest : List Name) → IsStoreRefusal status → IsNotEmpty status files → keys files ≡ name ∷ rest → IsOrEarlier status (ends.NotEmpty name) (ends.DiskFault ∷ [])
refusal_first ends.Memory files name rest m told is = inr (0, omega arith, refl)
refusal_first ends.DiskFault files name rest m told is = inr (1, omega arith, refl)
refusal_first (ends.NotEmpty first) files name rest m told is =
    let same : first ∷ told.0 ≡ name ∷ rest = sym told.1 ∙ is in
    let one : first ≡ name = cc in
    inl (ap ends.NotEmpty one)
refusal_first ends.Done files name rest m told is = absurd m
refusal_first ends.SinkFault files name rest m told is = absurd m
refusal_first (ends.Damaged damage) files name rest m told is = absurd m
refusal_first (ends.NumbersSpent region last) files name rest m told is = absurd m
refusal_first ends.Usage files name rest m told is = absurd m
refusal_first (ends.Script line why) files name rest m told is = absurd m
refusal_first ends.SourceFault files name rest m told is = absurd m
refusal_first (ends.NoPosition number entries) files name rest m told is = absurd m

-- a store without names is refused for memory or a fault alone
pub refusal_complete : (status : Status) (files : Files) → IsStoreRefusal status → IsNotEmpty status files → keys files ≡ [] → (status ≡ ends.DiskFault → ⊥) → IsComplete status
refusal_complete ends.Memory files m told none unbroken = tt
refusal_complete ends.DiskFault files m told none unbroken = absurd (unbroken refl)
refusal_complete (ends.NotEmpty name) files m told none unbroken = let no : [] ≡ name ∷ told.0 = sym none ∙ told.1 in absurd cc
refusal_complete (ends.NoPosition number entries) files m told none unbroken = absurd m
refusal_complete ends.Done files m told none unbroken = absurd m
refusal_complete ends.SinkFault files m told none unbroken = absurd m
refusal_complete (ends.Damaged damage) files m told none unbroken = absurd m
refusal_complete (ends.NumbersSpent region last) files m told none unbroken = absurd m
refusal_complete ends.Usage files m told none unbroken = absurd m
refusal_complete (ends.Script line why) files m told none unbroken = absurd m
refusal_complete ends.SourceFault files m told none unbroken = absurd m

-- ---- the command

pub untouched : (disk : DiskView) → KeepsFound disk disk
untouched disk J image = ∣ inl image ∣₁

pub rose_later : (a b c : ℕ) → Rose a b → b ≤ c → Rose a c
rose_later a b c rose later = omega (arith, rose, later)

pub rose_then : (a b c : ℕ) → a ≤ b → Rose b c → Rose a c
rose_then a b c later rose = omega (arith, later, rose)

-- of the script as it was made
pub ended_from : (options : LoadOptions) (made : Script) (before left : DiskView) (regions : List ClosedRegion) (parts : List (List ReplyLine)) (spent : Option Spent) (broken : Bool) (status : Status)
    → AreOptions options → keys before.files ≡ [] → made ≡ made_script options → (name : Naming) × HasClosed made before.files left name regions parts spent broken × FitsThroughout before left (map closed_at regions)
    → (status ≡ decided broken spent (joined parts)) ⊎ (status ≡ ends.Memory) → HasEnded options before left status
ended_from options made before left regions parts spent broken status right none is ran either =
    from_closed options before left ran.0 regions parts spent broken status right none (subst (λ (s : Script). HasClosed s before.files left ran.0 regions parts spent broken) is ran.1) ran.2 either

pub fault_cases : (s : Status) → (s ≡ ends.DiskFault) ⊎ (s ≢ ends.DiskFault)
fault_cases ends.DiskFault = inl refl
fault_cases ends.Done = inr (λ e. absurd cc)
fault_cases ends.Memory = inr (λ e. absurd cc)
fault_cases ends.SinkFault = inr (λ e. absurd cc)
fault_cases (ends.Damaged damage) = inr (λ e. absurd cc)
fault_cases (ends.NumbersSpent region last) = inr (λ e. absurd cc)
fault_cases ends.Usage = inr (λ e. absurd cc)
fault_cases (ends.Script line why) = inr (λ e. absurd cc)
fault_cases ends.SourceFault = inr (λ e. absurd cc)
fault_cases (ends.NotEmpty name) = inr (λ e. absurd cc)
fault_cases (ends.NoPosition number entries) = inr (λ e. absurd cc)
