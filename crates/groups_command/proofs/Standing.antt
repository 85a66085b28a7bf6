-- What was printed of a run on several disks is the report that the headline speaks of.
use Rattle.std.proofs.Common.{◌≡◌, ◌≢◌, ℕ, ◌≤◌, Bool, true, false, true≢false, List, [], ◌∷◌, ◌++◌, map, Contains, Option, Some, refl, sym, ap, ◌∙◌, subst, inl, inr}
use Rattle.std.proofs.Math.Logic.{∥∥₁_map}
use Rattle.std.proofs.lemmas.List.{map-append}
use Rattle.disk_images.specs.Crash.{DiskView}
use Rattle.region_model.specs.Calls.{Reply}
use Rattle.groups_run.specs.region_calls.declared.closed.ClosedRegion.{ClosedRegion}
use Rattle.script_model.specs.Calls.{Script}
use Rattle.script_model.specs.Report.{ReplyLine, report_text}
use Rattle.script_model.specs.Outputs.{refused_memory, refused_disk}
use Rattle.groups_run.specs.script_run.Ends.{closed_at}
use Rattle.server_model.specs.Steps.{IsFault}
use Rattle.run_model.specs.Headline.{reply_line, report_of, FitsStatus, KeepsFound}
use Rattle.run_model.specs.Spent.{IsFirstSpent}
use Rattle.run_model.specs.declared.spent.Spent.{Spent}
use Rattle.run_model.proofs.FromClose.{history_of}
use Rattle.run_model.proofs.KeepsFound.{half_keeps}
use Rattle.report_text.specs.Reading.{IsReport}
use Rattle.command_base.specs.Invocation.{taken_of}
use Rattle.command_base.specs.Prints.{Prints}
use Rattle.command_base.specs.Status.{exit_status}
use Rattle.command_base.specs.declared.status.Status.{Status}
use Rattle.command_base.specs.declared.status.Status.TheVariants as ends
use Rattle.command_base.proofs.Endings.{taken_whole, taken_begins, refused_so}
use Rattle.run_command.specs.Decided.{decided}
use Rattle.run_command.specs.Ends.{joined, report_in, refused_damage, IsPrinted, Printed, Cut, Refused}
use Rattle.run_command.proofs.Fitting.{fits, IsDecided, decided_end, whole_of, broken_of, spent_of}
use Rattle.run_command.proofs.Standing.{same_report, no_cut, damage_line}
use Rattle.groups_model.specs.Groups.{IsGroup}
use Rattle.groups_model.specs.Closed.{GroupHandled, all_replies}
use Rattle.groups_model.proofs.Assembled.{groups_headline_with}
use Rattle.groups_run.specs.group_servers.declared.refusal.GroupsWhy.{GroupsWhy}
use Rattle.groups_run.specs.group_servers.declared.refusal.GroupsWhy.TheVariants as whys
use Rattle.groups_run.specs.Ends.{lines_of, HaveClosed}
use Rattle.groups_command.specs.Carried.{AreNotOpened}
use Rattle.groups_command.specs.Disks.{OfEach}
use Rattle.groups_command.specs.Ends.{EndsGroups, IsGroupsReport, IsSpentGroupsReport}
use Rattle.groups_command.specs.Status.{refusal_line, refused_group, status_as, status_for}
use Rattle.groups_command.specs.declared.status.GroupsStatus.{GroupsStatus}
use Rattle.groups_command.specs.declared.status.GroupsStatus.TheVariants as statuses
use Rattle.groups_command.proofs.Closes.{fault_broke, first_of_closes, closes_keep}

all_lines : (hs : List GroupHandled) → joined (map lines_of hs) ≡ map reply_line (all_replies hs)
all_lines [] = refl
all_lines (h ∷ hs) = ap (λ (l : List ReplyLine). map reply_line h.replies ++ l) (all_lines hs) ∙ sym (map-append reply_line h.replies (all_replies hs))

-- ---- a run whose servers are closed

module _ (groups : ℕ) (some : 1 ≤ groups) (script : Script) (before after : ℕ → DiskView) (rose : ℕ → Type 0) (regions : List ClosedRegion) (parts : List (List ReplyLine)) (spent : Option Spent)
    (broken : Bool) (c : HaveClosed groups script before after rose regions parts spent broken) (cause : broken ≡ true → (k : ℕ) × IsGroup groups k × rose k) where
  said : joined parts ≡ map reply_line (all_replies c.handlers)
  said = ap joined c.lines ∙ all_lines c.handlers

  same : (status : ℕ) → report_of (map history_of (map closed_at regions)) (all_replies c.handlers) status ≡ report_in regions (joined parts) status
  same status = same_report regions (all_replies c.handlers) (joined parts) status said

  -- a fault among the replies is told
  fault_told : (x : Reply) → Contains (all_replies c.handlers) x → IsFault x.answer → broken ≡ true
  fault_told x is fault = go broken refl
    where
      go : (b : Bool) → broken ≡ b → broken ≡ true
      go true e = e
      go false e = let k = fault_broke some c.closed x is fault in absurd (true≢false (sym k.2 ∙ c.none_broken e k.0 k.1))

  -- the status fits the replies
  its_status : FitsStatus (exit_status (decided broken spent (joined parts))) (all_replies c.handlers)
  its_status = subst (λ ls. FitsStatus (exit_status (decided broken spent ls)) (all_replies c.handlers)) (sym said) (fits (all_replies c.handlers) broken spent c.first_told fault_told)

  -- where it isn't 5 no log is broken
  whole : (k : ℕ) → IsGroup groups k → exit_status (decided broken spent (joined parts)) ≢ 5 → c.breaks k ≡ false
  whole k is no_5 = c.none_broken (whole_of broken spent (joined parts) no_5) k is

  report_stands : IsReport (report_in regions (joined parts) (exit_status (decided broken spent (joined parts))))
      → IsGroupsReport groups script before after rose (exit_status (decided broken spent (joined parts))) (report_text (report_in regions (joined parts) (exit_status (decided broken spent (joined parts)))))
  report_stands reads =
      let status = exit_status (decided broken spent (joined parts)) in
      subst (IsGroupsReport groups script before after rose status) (ap report_text (same status))
      (groups_headline_with some c.closed (map closed_at regions) c.chosen rose c.causes status its_status (λ is_5. cause (broken_of broken spent (joined parts) is_5)) whole (λ histories replies. IsReport (report_of histories replies status)) (subst IsReport (sym (same status)) reads))

  spent_stands : (region last : ℕ) → decided broken spent (joined parts) ≡ ends.NumbersSpent region last → IsReport (report_in regions (joined parts) 8)
      → IsSpentGroupsReport groups script before after rose (record { region = region; last = last }) (report_text (report_in regions (joined parts) 8))
  spent_stands region last is reads =
      let at = spent_of broken spent (joined parts) region last is in
      let s : Spent = record { region = region; last = last } in
      subst (IsSpentGroupsReport groups script before after rose s) (ap report_text (same 8))
      (∥∥₁_map (groups_headline_with some c.closed (map closed_at regions) c.chosen rose c.causes 8 (subst (λ s. FitsStatus (exit_status s) (all_replies c.handlers)) is its_status) (λ is_5. absurd cc) (λ k there no_5. c.none_broken at.0 k there)
      (λ histories replies. IsFirstSpent s replies × IsReport (report_of histories replies 8)) (first_of_closes some c.closed s (c.first_told ∙ at.1), subst IsReport (sym (same 8)) reads))
      (λ h. (h.0, h.1.0, h.1.1)))

  at : (status : Status) → decided broken spent (joined parts) ≡ status → IsReport (report_in regions (joined parts) (exit_status status))
      → IsGroupsReport groups script before after rose (exit_status status) (report_text (report_in regions (joined parts) (exit_status status)))
  at status is =
      subst (λ s. IsReport (report_in regions (joined parts) (exit_status s)) → IsGroupsReport groups script before after rose (exit_status s) (report_text (report_in regions (joined parts) (exit_status s)))) is report_stands

  -- the whole report of a status that is decided
  of_end : (sank : Type 0) (status : Status) → decided broken spent (joined parts) ≡ status → IsDecided status → IsReport (report_in regions (joined parts) (exit_status status))
      → EndsGroups (status_as status) groups script before after rose sank (report_text (report_in regions (joined parts) (exit_status status)))
  of_end sank ends.Done is e reads = at ends.Done is reads
  of_end sank ends.Memory is e reads = inl (at ends.Memory is reads)
  of_end sank ends.DiskFault is e reads = inl (at ends.DiskFault is reads)
  of_end sank ends.Usage is e reads = absurd e
  of_end sank (ends.Script line why) is e reads = absurd e
  of_end sank ends.SourceFault is e reads = absurd e
  of_end sank ends.SinkFault is e reads = absurd e
  of_end sank (ends.Damaged damage) is e reads = absurd e
  of_end sank (ends.NotEmpty name) is e reads = absurd e
  of_end sank (ends.NoPosition number entries) is e reads = absurd e
  of_end sank (ends.NumbersSpent region last) is e reads = spent_stands region last is reads

  -- what the sink took of the report of closed servers, or of the line that refuses
  pub closed_ends : (sank : Type 0) (status : Status) (told : GroupsStatus) (old new : List ℕ) → told ≡ status_as status
      → IsPrinted sank status old new regions (joined parts) spent broken → EndsGroups told groups script before after rose sank (taken_of old new)
  closed_ends sank status told old new so (Printed is reads p) =
      let end : IsDecided status = subst IsDecided (sym is) (decided_end broken spent (joined parts)) in
      subst (λ s. EndsGroups s groups script before after rose sank (taken_of old new)) (sym so)
      (subst (EndsGroups (status_as status) groups script before after rose sank) (sym (taken_whole old new _ _ p (no_cut status end))) (of_end sank status (sym is) end reads))
  closed_ends sank status told old new so (Cut is reads p) =
      subst (λ s. EndsGroups s groups script before after rose sank (taken_of old new)) (sym (so ∙ ap status_as is))
      record {
        text = report_text (report_in regions (joined parts) (exit_status (decided broken spent (joined parts))));
        status = exit_status (decided broken spent (joined parts));
        begins = taken_begins old new _ _ p;
        report = report_stands reads;
        cause = λ is_5. cause (broken_of broken spent (joined parts) is_5);
      }
  closed_ends sank status told old new so (Refused is p) =
      subst (λ s. EndsGroups s groups script before after rose sank (taken_of old new)) (sym (so ∙ ap status_as is)) (inr (refused_so old new refused_memory sank p, closes_keep c.closed))

-- ---- one whose servers aren't

pub left_ends : (rose : ℕ → Type 0) (sank : Type 0) (status : GroupsStatus) (old new : List ℕ) (groups : ℕ) (script : Script) (before after : ℕ → DiskView) → status ≡ statuses.Memory → OfEach groups KeepsFound before after
    → ((text : List ℕ) → refusal_line statuses.Memory ≡ Some text → Prints old new text sank) → EndsGroups status groups script before after rose sank (taken_of old new)
left_ends rose sank status old new groups script before after is keeps p =
    subst (λ s. EndsGroups s groups script before after rose sank (taken_of old new)) (sym is) (inr (refused_so old new refused_memory sank (p refused_memory refl), keeps))

pub refused_ends : (rose : ℕ → Type 0) (sank : Type 0) (why : GroupsWhy) (disk : ℕ) (status : GroupsStatus) (old new : List ℕ) (groups : ℕ) (script : Script) (before after : ℕ → DiskView) → status ≡ status_for why disk
    → AreNotOpened groups before after why disk → ((text : List ℕ) → refusal_line (status_for why disk) ≡ Some text → Prints old new text sank)
    → EndsGroups status groups script before after rose sank (taken_of old new)
refused_ends rose sank why disk status old new groups script before after is n prints = subst (λ s. EndsGroups s groups script before after rose sank (taken_of old new)) (sym is) (go why prints)
  where
    go : (why : GroupsWhy) → ((text : List ℕ) → refusal_line (status_for why disk) ≡ Some text → Prints old new text sank)
        → EndsGroups (status_for why disk) groups script before after rose sank (taken_of old new)
    go whys.Memory p = inr (refused_so old new refused_memory sank (p refused_memory refl), λ k is. half_keeps (before k) (after k) (n.half k is))
    go whys.DiskFault p = inr (refused_so old new refused_disk sank (p refused_disk refl), n.half)
    go (whys.Damaged damage) p = (refused_so old new (refused_damage damage) sank (p (refused_damage damage) (damage_line damage)), n.half)
    go (whys.WrongGroup region) p = (refused_so old new (refused_group disk region) sank (p (refused_group disk region) refl), n.half)
