-- What was printed of a run that is closed is the report that the headline speaks of.
use Rattle.std.proofs.Common.{◌≡◌, ℕ, Bool, true, List, [], ◌∷◌, ◌++◌, length, map, Option, Some, refl, sym, ap, ◌∙◌, subst, inl, inr}
use Rattle.std.specs.FinMap.{len, len-entries, entries}
use Rattle.std.proofs.lemmas.List.{map-append, length-map}
use Rattle.cell_model.specs.Order.{Content, cells_of, cell_of}
use Rattle.disk_images.specs.Crash.{DiskView}
use Rattle.region_model.specs.Calls.{Reply}
use Rattle.region_model.specs.Lines.{Line, edits_in}
use Rattle.script_model.specs.Calls.{Script}
use Rattle.script_model.specs.Report.{EditLine, ReplyLine, report_text}
use Rattle.script_model.specs.Outputs.{refused_memory, refused_disk}
use Rattle.recover_command.specs.Recovered.{IsStoreDamage}
use Rattle.log_model.specs.declared.damage.Damage.{Damage}
use Rattle.log_model.specs.declared.damage.Damage.TheVariants as damages
use Rattle.script_run.specs.region_calls.declared.refusal.StartWhy.{StartWhy}
use Rattle.script_run.specs.region_calls.declared.refusal.StartWhy.TheVariants as whys
use Rattle.script_run.specs.region_calls.declared.closed.ClosedRegion.{ClosedRegion}
use Rattle.server_model.specs.Pass.{Naming}
use Rattle.server_model.specs.Closing.{Handled, replies_of}
use Rattle.run_model.specs.Closed.{FitsThroughout}
use Rattle.run_model.specs.Headline.{edit_line, region_line as history_line, reply_line, report_of, FitsStatus, KeepsFound, IsHalfOpened}
use Rattle.run_model.specs.declared.spent.Spent.{Spent}
use Rattle.run_model.proofs.FromClose.{history_of, fault_is_told}
use Rattle.run_model.proofs.Headlines.{headline_with, first_of_closed}
use Rattle.run_model.specs.Spent.{IsFirstSpent}
use Rattle.report_text.specs.Reading.{IsReport}
use Rattle.std.proofs.Math.Logic.{∥∥₁_map}
use Rattle.run_model.proofs.KeepsFound.{closed_keeps, all_keep, half_keeps}
use Rattle.script_run.specs.Ends.{closed_at, lines_of, HasClosed}
use Rattle.command_base.specs.Invocation.{taken_of}
use Rattle.command_base.specs.Prints.{Prints}
use Rattle.command_base.specs.Status.{refusal_line, exit_status}
use Rattle.command_base.specs.declared.status.Status.{Status}
use Rattle.command_base.specs.declared.status.Status.TheVariants as ends
use Rattle.command_base.proofs.Endings.{taken_whole, taken_begins, refused_so}
use Rattle.run_command.specs.Carried.{IfFoundDamaged}
use Rattle.run_command.specs.Decided.{decided}
use Rattle.run_command.specs.Reported.{line_edit, region_line}
use Rattle.run_command.specs.Ends.{EndsRun, IsRunReport, IsSpentReport, joined, report_in, refused_damage, status_for, IsPrinted, Printed, Cut, Refused}
use Rattle.run_command.proofs.Fitting.{fits, IsDecided, decided_end, whole_of, broken_of, spent_of}

-- ---- lines

all_lines : (hs : List Handled) → joined (map lines_of hs) ≡ map reply_line (replies_of hs)
all_lines [] = refl
all_lines (h ∷ hs) = ap (λ (l : List ReplyLine). map reply_line h.replies ++ l) (all_lines hs) ∙ sym (map-append reply_line h.replies (replies_of hs))

edit_lines : (r : ℕ) (xs : List Line) → map edit_line (edits_in r xs) ≡ map line_edit xs
edit_lines r [] = refl
edit_lines r (x ∷ xs) = ap (λ (l : List EditLine). line_edit x ∷ l) (edit_lines r xs)

count_of : (m : Content) → length (cells_of m) ≡ len m
count_of m = length-map (entries m) cell_of ∙ sym (len-entries m)

one_line : (c : ClosedRegion) → history_line (history_of (closed_at c)) ≡ region_line c
one_line c = λ i. record { region = c.region; last = c.base.last; count = count_of c.base.content i; edits = edit_lines c.region c.lines.items i }

region_lines : (cs : List ClosedRegion) → map history_line (map history_of (map closed_at cs)) ≡ map region_line cs
region_lines [] = refl
region_lines (c ∷ cs) = λ i. one_line c i ∷ region_lines cs i

-- ---- a run that is closed

-- the report of the lines that are told is the report of the histories
pub same_report : (regions : List ClosedRegion) (replies : List Reply) (lines : List ReplyLine) (status : ℕ) → lines ≡ map reply_line replies
    → report_of (map history_of (map closed_at regions)) replies status ≡ report_in regions lines status
same_report regions replies lines status said = λ i. record { regions = region_lines regions i; replies = (sym said) i; status = status }

module _ (script : Script) (entry left : DiskView) (name : Naming) (regions : List ClosedRegion) (parts : List (List ReplyLine)) (spent : Option Spent) (broken : Bool) (rose sank : Type 0)
    (c : HasClosed script entry.files left name regions parts spent broken) (moments : FitsThroughout entry left (map closed_at regions)) where
  said : joined parts ≡ map reply_line (replies_of c.handlers)
  said = ap joined c.lines ∙ all_lines c.handlers

  same : (status : ℕ) → report_of (map history_of (map closed_at regions)) (replies_of c.handlers) status ≡ report_in regions (joined parts) status
  same status = same_report regions (replies_of c.handlers) (joined parts) status said

  -- the status fits the replies
  its_status : FitsStatus (exit_status (decided broken spent (joined parts))) (replies_of c.handlers)
  its_status = subst (λ ls. FitsStatus (exit_status (decided broken spent ls)) (replies_of c.handlers)) (sym said) (fits (replies_of c.handlers) broken spent c.first_told (fault_is_told c.closed))

  report_stands : IsReport (report_in regions (joined parts) (exit_status (decided broken spent (joined parts))))
      → IsRunReport script entry left (exit_status (decided broken spent (joined parts))) (report_text (report_in regions (joined parts) (exit_status (decided broken spent (joined parts)))))
  report_stands reads =
      let status = exit_status (decided broken spent (joined parts)) in
      subst (IsRunReport script entry left status) (ap report_text (same status))
      (headline_with c.closed entry status refl moments its_status (whole_of broken spent (joined parts)) (λ histories replies. IsReport (report_of histories replies status)) (subst IsReport (sym (same status)) reads))

  spent_stands : (region last : ℕ) → decided broken spent (joined parts) ≡ ends.NumbersSpent region last → IsReport (report_in regions (joined parts) 8)
      → IsSpentReport script entry left (record { region = region; last = last }) (report_text (report_in regions (joined parts) 8))
  spent_stands region last is reads =
      let at = spent_of broken spent (joined parts) region last is in
      let s : Spent = record { region = region; last = last } in
      subst (IsSpentReport script entry left s) (ap report_text (same 8))
      (∥∥₁_map (headline_with c.closed entry 8 refl moments (subst (λ s. FitsStatus (exit_status s) (replies_of c.handlers)) is its_status) (λ no_5. at.0)
      (λ histories replies. IsFirstSpent s replies × IsReport (report_of histories replies 8)) (first_of_closed c.closed s (c.first_told ∙ at.1), subst IsReport (sym (same 8)) reads))
      (λ h. ((h.0, h.1.0), h.1.1)))

  at : (status : Status) → decided broken spent (joined parts) ≡ status → IsReport (report_in regions (joined parts) (exit_status status))
      → IsRunReport script entry left (exit_status status) (report_text (report_in regions (joined parts) (exit_status status)))
  at status is =
      subst (λ s. IsReport (report_in regions (joined parts) (exit_status s)) → IsRunReport script entry left (exit_status s) (report_text (report_in regions (joined parts) (exit_status s)))) is report_stands

  -- the whole report of a status that is decided
  of_end : (status : Status) → decided broken spent (joined parts) ≡ status → IsDecided status → IsReport (report_in regions (joined parts) (exit_status status))
      → EndsRun status script entry left rose sank (report_text (report_in regions (joined parts) (exit_status status)))
  of_end ends.Done is e reads = at ends.Done is reads
  of_end ends.Memory is e reads = inl (at ends.Memory is reads)
  of_end ends.DiskFault is e reads = inl (at ends.DiskFault is reads)
  of_end ends.Usage is e reads = absurd e
  of_end (ends.Script line why) is e reads = absurd e
  of_end ends.SourceFault is e reads = absurd e
  of_end ends.SinkFault is e reads = absurd e
  of_end (ends.Damaged damage) is e reads = absurd e
  of_end (ends.NotEmpty name) is e reads = absurd e
  of_end (ends.NoPosition number entries) is e reads = absurd e
  of_end (ends.NumbersSpent region last) is e reads = spent_stands region last is reads

pub no_cut : (status : Status) → IsDecided status → status ≡ ends.SinkFault → ⊥
no_cut status e is = subst IsDecided is e

-- what the sink took of the report of a closed server, or of the line that refuses
pub closed_ends : (rose sank : Type 0) (status : Status) (old new : List ℕ) (script : Script) (entry left : DiskView) (regions : List ClosedRegion) (parts : List (List ReplyLine)) (spent : Option Spent) (broken : Bool)
    → ((name : Naming) × HasClosed script entry.files left name regions parts spent broken × FitsThroughout entry left (map closed_at regions)) → (broken ≡ true → rose) → IsPrinted sank status old new regions (joined parts) spent broken → EndsRun status script entry left rose sank (taken_of old new)
closed_ends rose sank status old new script entry left regions parts spent broken (name, c, moments) cause (Printed is reads p) =
    let end : IsDecided status = subst IsDecided (sym is) (decided_end broken spent (joined parts)) in
    subst (EndsRun status script entry left rose sank) (sym (taken_whole old new _ _ p (no_cut status end))) (of_end script entry left name regions parts spent broken rose sank c moments status (sym is) end reads)
closed_ends rose sank status old new script entry left regions parts spent broken (name, c, moments) cause (Cut is reads p) =
    subst (λ s. EndsRun s script entry left rose sank (taken_of old new)) (sym is)
    record {
      text = report_text (report_in regions (joined parts) (exit_status (decided broken spent (joined parts))));
      status = exit_status (decided broken spent (joined parts));
      begins = taken_begins old new _ _ p;
      report = report_stands script entry left name regions parts spent broken rose sank c moments reads;
      cause = λ is_5. cause (broken_of broken spent (joined parts) is_5);
    }
closed_ends rose sank status old new script entry left regions parts spent broken (name, c, moments) cause (Refused is p) =
    subst (λ s. EndsRun s script entry left rose sank (taken_of old new)) (sym is) (inr (refused_so old new refused_memory sank p, all_keep entry left (closed_keeps entry.files left c.closed)))

-- ---- one that is not

pub left_ends : (rose sank : Type 0) (status : Status) (old new : List ℕ) (script : Script) (before after : DiskView) → status ≡ ends.Memory → KeepsFound before after
    → ((text : List ℕ) → refusal_line ends.Memory ≡ Some text → Prints old new text sank) → EndsRun status script before after rose sank (taken_of old new)
left_ends rose sank status old new script before after is keeps p =
    subst (λ s. EndsRun s script before after rose sank (taken_of old new)) (sym is) (inr (refused_so old new refused_memory sank (p refused_memory refl), keeps))

pub damage_line : (damage : Damage) → refusal_line (ends.Damaged damage) ≡ Some (refused_damage damage)
damage_line (damages.Bytes name at) = refl
damage_line (damages.Two first second region number) = refl

pub refused_ends : (rose sank : Type 0) (why : StartWhy) (status : Status) (old new : List ℕ) (script : Script) (before after : DiskView) → status ≡ status_for why
    → (IsHalfOpened before after × IfFoundDamaged why (λ damage. IsStoreDamage before.files damage × (after.files ≡ before.files)))
    → ((text : List ℕ) → refusal_line (status_for why) ≡ Some text → Prints old new text sank) → EndsRun status script before after rose sank (taken_of old new)
refused_ends rose sank why status old new script before after is half prints = subst (λ s. EndsRun s script before after rose sank (taken_of old new)) (sym is) (go why half.1 prints)
  where
    go : (why : StartWhy) → IfFoundDamaged why (λ damage. IsStoreDamage before.files damage × (after.files ≡ before.files))
        → ((text : List ℕ) → refusal_line (status_for why) ≡ Some text → Prints old new text sank) → EndsRun (status_for why) script before after rose sank (taken_of old new)
    go whys.Memory d p = inr (refused_so old new refused_memory sank (p refused_memory refl), half_keeps before after half.0)
    go whys.DiskFault d p = inr (refused_so old new refused_disk sank (p refused_disk refl), half.0)
    go (whys.Damaged damage) d p = (refused_so old new (refused_damage damage) sank (p (refused_damage damage) (damage_line damage)), d.0, d.1, half.0)
