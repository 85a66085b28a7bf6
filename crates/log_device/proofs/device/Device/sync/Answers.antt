use Rattle.std.proofs.Common.{◌≡◌, [], ℕ, List, Ok, Some, get_or, refl, sym, ap, ◌∙◌, subst, arith}
use Rattle.std.specs.Prelude.{sum}
use Rattle.std.proofs.Math.Logic.{∥∥₁_map}
use Rattle.chronicle_model.proofs.Grown.{prolonged}
use Rattle.log_file.specs.Open.{OpenLog}
use Rattle.log_file.specs.LogText.{behind_gate}
use Rattle.log_ledger.specs.Numbers.{Numbers, AreInOrder}
use Rattle.log_ledger.specs.History.{committed_in}
use Rattle.log_device.specs.Keeps.{Keeps}
use Rattle.log_device.specs.Numbered.{IsNumbered}
use Rattle.log_device.proofs.Numbering.{same_file, numbered_still}
use Rattle.log_device.proofs.Whole.{kept_file, whole_goes_on}
use Rattle.log_device.specs.Whole.{IsCommitted}
use Rattle.log_device.proofs.Committed.{commit_kept}
use Rattle.log_device.proofs.Breaking.{no_cause}
use Rattle.log_device.proofs.Results.{ok_apart, some_apart, not_true}
use Rattle.log_device.proofs.Syncing.{faulty_syncs, syncs, sync_appends, told_behind}
use Rattle.log_device.proofs.device.Device.sync.Goals as goal

pub commit-requires : goal.commit-requires
commit-requires g c told =
    ∥∥₁_map (c.requires told (λ broken. absurd (some_apart (sym broken ∙ c.in-Some.is)))) (λ r.
    let keeps = kept_file c.args.self.now (g.D.Disk.view c.args.self.now.disk) r.0 c.in-Some.log c.in-Some.is r.1 in
    (r.0.current, r.0.kept.staged, keeps.open_log, keeps.staged))

pub invariant_of-self-in-Ok : goal.invariant_of-self-in-Ok
invariant_of-self-in-Ok g c = record {
  numbered = λ file is.
      subst (λ (f : OpenLog). IsNumbered f c.commit-in-Ok.new.self) (same_file c.commit.new.self file is)
      (numbered_still c.in-Some.log c.commit.new.self c.args.self.now.ledger.value c.commit-in-Ok.new.self (c.args.self.now.numbered c.in-Some.log c.in-Some.is)
      c.commit.ensures.same_name (omega (arith, c.in-Ok.ensures.entries, c.in-Ok.ensures.stage_emptied.count)) (ap (λ (b : Numbers). sum b.drawn) (rw c.deref_mut.ensures.value at c.commit-in-Ok.ensures.synced)) (ap (λ (b : Numbers). b.accounts.last) (rw c.deref_mut.ensures.value at c.commit-in-Ok.ensures.synced)));
}

pub returns-in-Ok-clause-syncs : goal.returns-in-Ok-clause-syncs
returns-in-Ok-clause-syncs g c told h whole =
    let v = g.D.Disk.view c.args.self.now.disk in
    let w = g.D.Disk.view c.commit.new.disk in
    let keeps = kept_file c.args.self.now v h c.in-Some.log c.in-Some.is whole in
    let atomic = (c.commit.ensures.commits told h.current h.kept.staged keeps.open_log keeps.staged).atomic in
    syncs g.D.Disk h c.args.self.now _ c.in-Some.log c.in-Some.is whole (g.met.D.Disk.is_true c.args.self.now.disk told) (g.met.D.Disk.is_true c.commit.new.disk told) atomic (c.commit.ensures.no_other_file told) _
    (record {
      file = c.commit.new.self;
      is = refl;
      keeps = subst (λ (ns : List ℕ). Keeps c.commit.new.self w (committed_in h) ns) (sym (ap (λ (b : Numbers). b.next_store) (rw c.deref_mut.ensures.value at c.commit-in-Ok.ensures.synced)))
          (commit_kept c.in-Some.log v h c.args.self.now.ledger.value.next_store keeps c.commit.new.self w c.commit.ensures.same_name atomic (c.commit.ensures.no_other_file told)
          (c.in-Ok.ensures.commits told h.current h.kept.staged keeps.open_log keeps.staged).durable c.in-Ok.ensures.stage_emptied);
      counted = (rw c.deref_mut.ensures.value at c.commit-in-Ok.ensures.counted) h whole.counted;
      told = told_behind g.D.Disk h c.args.self.now _ (ap (λ (b : Numbers). b.stored) (rw c.deref_mut.ensures.value at c.commit-in-Ok.ensures.synced)) whole;
    })

pub returns-in-Err-clause-syncs : goal.returns-in-Err-clause-syncs
returns-in-Err-clause-syncs g c told h whole =
    let keeps = kept_file c.args.self.now (g.D.Disk.view c.args.self.now.disk) h c.in-Some.log c.in-Some.is whole in
    syncs g.D.Disk h c.args.self.now _ c.in-Some.log c.in-Some.is whole (g.met.D.Disk.is_true c.args.self.now.disk told) (g.met.D.Disk.is_true c.commit.new.disk told)
    (c.commit.ensures.commits told h.current h.kept.staged keeps.open_log keeps.staged).atomic (c.commit.ensures.no_other_file told) _ tt

none_behind : behind_gate [] ≡ []
unfolding behind_gate
none_behind = refl

pub returns-in-Ok-clause-numbers : goal.returns-in-Ok-clause-numbers
returns-in-Ok-clause-numbers g c =
    let synced = rw c.deref_mut.ensures.value at c.commit-in-Ok.ensures.synced in
    let order = rw c.deref_mut.ensures.value at c.commit-in-Ok.ensures.order in record {
      count = λ file is. c.in-Ok.ensures.returns_count ∙ ap (λ (f : OpenLog). f.staged) (same_file c.in-Some.log file (sym c.in-Some.is ∙ is));
      idle = λ file is none.
          let staged : c.in-Some.log.staged ≡ 0 = ap (λ (f : OpenLog). f.staged) (same_file c.in-Some.log file (sym c.in-Some.is ∙ is)) ∙ none in
          ((c.commit.ensures.nothing_staged staged).0, ap (λ (n : ℕ). Ok n) (c.in-Ok.ensures.returns_count ∙ staged));
      file = λ file is. subst (λ (f : OpenLog). IsCommitted f (Some c.commit.new.self)) (same_file c.in-Some.log file (sym c.in-Some.is ∙ is))
          (c.commit.new.self, refl, c.commit.ensures.same_name, c.in-Ok.ensures.entries, c.in-Ok.ensures.stage_emptied.count);
      emptied = λ file is.
          let same = same_file c.commit.new.self file is in
          (ap (λ (f : OpenLog). f.staged) (sym same) ∙ c.in-Ok.ensures.stage_emptied.count, ap (λ (f : OpenLog). f.bytes) (sym same) ∙ (c.in-Ok.ensures.stage_emptied.bytes ∙ none_behind));
      synced = synced;
      faulty = tt;
      never_falls = λ r.
          let is = ap (λ (b : Numbers). get_or b.synced r 0) synced in
          omega (arith, is, (order.regions r).synced);
      few = rw c.deref_mut.ensures.value at c.commit-in-Ok.ensures.few;
    }

pub returns-in-Ok-clause-appends : goal.returns-in-Ok-clause-appends
returns-in-Ok-clause-appends g c told h file whole is =
    let keeps = kept_file c.args.self.now (g.D.Disk.view c.args.self.now.disk) h c.in-Some.log c.in-Some.is whole in
    sync_appends g.D.Disk h c.args.self.now c.in-Some.log c.in-Some.is whole (g.D.Disk.view c.commit.new.disk) (g.met.D.Disk.is_true c.commit.new.disk told)
    (c.commit.ensures.commits told h.current h.kept.staged keeps.open_log keeps.staged).atomic (c.commit.ensures.no_other_file told) file is

pub returns-in-Err-clause-appends : goal.returns-in-Err-clause-appends
returns-in-Err-clause-appends g c told h file whole is =
    let keeps = kept_file c.args.self.now (g.D.Disk.view c.args.self.now.disk) h c.in-Some.log c.in-Some.is whole in
    sync_appends g.D.Disk h c.args.self.now c.in-Some.log c.in-Some.is whole (g.D.Disk.view c.commit.new.disk) (g.met.D.Disk.is_true c.commit.new.disk told)
    (c.commit.ensures.commits told h.current h.kept.staged keeps.open_log keeps.staged).atomic (c.commit.ensures.no_other_file told) file is

pub returns-in-Ok-clause-chronicle : goal.returns-in-Ok-clause-chronicle
returns-in-Ok-clause-chronicle g c told h whole =
    let keeps = kept_file c.args.self.now (g.D.Disk.view c.args.self.now.disk) h c.in-Some.log c.in-Some.is whole in
    prolonged whole.file.name.number (g.D.Disk.view c.args.self.now.disk).files (g.D.Disk.view c.commit.new.disk).files
    (sync_appends g.D.Disk h c.args.self.now c.in-Some.log c.in-Some.is whole (g.D.Disk.view c.commit.new.disk) (g.met.D.Disk.is_true c.commit.new.disk told)
    (c.commit.ensures.commits told h.current h.kept.staged keeps.open_log keeps.staged).atomic (c.commit.ensures.no_other_file told) whole.file whole.is)

pub returns-in-Err-clause-chronicle : goal.returns-in-Err-clause-chronicle
returns-in-Err-clause-chronicle g c told h whole =
    let keeps = kept_file c.args.self.now (g.D.Disk.view c.args.self.now.disk) h c.in-Some.log c.in-Some.is whole in
    prolonged whole.file.name.number (g.D.Disk.view c.args.self.now.disk).files (g.D.Disk.view c.commit.new.disk).files
    (sync_appends g.D.Disk h c.args.self.now c.in-Some.log c.in-Some.is whole (g.D.Disk.view c.commit.new.disk) (g.met.D.Disk.is_true c.commit.new.disk told)
    (c.commit.ensures.commits told h.current h.kept.staged keeps.open_log keeps.staged).atomic (c.commit.ensures.no_other_file told) whole.file whole.is)

pub invariant_of-self : goal.invariant_of-self
invariant_of-self g c = record { numbered = c.args.self.now.numbered }

pub returns-in_default-clause-syncs : goal.returns-in_default-clause-syncs
returns-in_default-clause-syncs g c told h whole = absurd (some_apart (sym c.in_default.is ∙ whole.is))

pub returns-in_default-clause-numbers : goal.returns-in_default-clause-numbers
returns-in_default-clause-numbers g c = faulty_syncs _ c.args.self.now _ c.in_default.is refl (λ file is none. some_apart (sym c.in_default.is ∙ is))

pub returns-in_default-clause-appends : goal.returns-in_default-clause-appends
returns-in_default-clause-appends g c told h file whole is = absurd (some_apart (sym c.in_default.is ∙ is))

pub returns-in_default-clause-chronicle : goal.returns-in_default-clause-chronicle
returns-in_default-clause-chronicle g c told h whole = absurd (some_apart (sym c.in_default.is ∙ whole.is))

pub returns-in_default-clause-broken : goal.returns-in_default-clause-broken
returns-in_default-clause-broken g c = (λ _. c.in_default.is, λ _. refl)

pub returns-in_default-clause-cause : goal.returns-in_default-clause-cause
returns-in_default-clause-cause g c = no_cause _ _ refl (λ failed. failed.0 c.in_default.is)

pub invariant_of-self-in-Err : goal.invariant_of-self-in-Err
invariant_of-self-in-Err g c = record { numbered = λ file is. absurd (some_apart is) }

pub returns-in-Ok-clause-order : goal.returns-in-Ok-clause-order
returns-in-Ok-clause-order g c = subst AreInOrder c.deref_mut.ensures.value c.commit-in-Ok.ensures.order

pub returns-in-Ok-clause-stays : goal.returns-in-Ok-clause-stays
returns-in-Ok-clause-stays g c broken = absurd (some_apart (sym broken ∙ c.in-Some.is))

pub returns-in-Ok-clause-broken : goal.returns-in-Ok-clause-broken
returns-in-Ok-clause-broken g c = (λ failed. absurd (not_true failed), λ broken. absurd (some_apart (sym broken)))

pub returns-in-Ok-clause-cause : goal.returns-in-Ok-clause-cause
returns-in-Ok-clause-cause g c = record { later = c.commit.ensures.cause.later; risen = λ failed. absurd (not_true failed.1) }

pub returns-in-Err-clause-numbers : goal.returns-in-Err-clause-numbers
returns-in-Err-clause-numbers g c =
    faulty_syncs _ c.args.self.now _ refl refl (λ file is none. ok_apart (sym (c.commit.ensures.nothing_staged (ap (λ (f : OpenLog). f.staged) (same_file c.in-Some.log file (sym c.in-Some.is ∙ is)) ∙ none)).1 ∙ c.in-Err.is))

pub returns-in-Err-clause-stays : goal.returns-in-Err-clause-stays
returns-in-Err-clause-stays g c broken = absurd (some_apart (sym broken ∙ c.in-Some.is))

pub returns-in-Err-clause-broken : goal.returns-in-Err-clause-broken
returns-in-Err-clause-broken g c = (λ _. refl, λ _. refl)

pub returns-in-Err-clause-cause : goal.returns-in-Err-clause-cause
returns-in-Err-clause-cause g c = record { later = c.commit.ensures.cause.later; risen = λ failed. c.in-Err.ensures.cause.risen refl }

pub returns-in-Ok-clause-goes_on : goal.returns-in-Ok-clause-goes_on
returns-in-Ok-clause-goes_on g c told h whole unbroken = whole_goes_on _ (g.D.Disk.view c.commit.new.disk) (committed_in h) (returns-in-Ok-clause-syncs g c told h whole).committed

pub returns-in-Err-clause-goes_on : goal.returns-in-Err-clause-goes_on
returns-in-Err-clause-goes_on g c told h whole unbroken = absurd (unbroken refl)

pub returns-in_default-clause-goes_on : goal.returns-in_default-clause-goes_on
returns-in_default-clause-goes_on g c told h whole unbroken = absurd (unbroken c.in_default.is)
