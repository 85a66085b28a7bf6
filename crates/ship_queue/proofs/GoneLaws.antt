-- How both halves have gone together.
use Rattle.std.proofs.Common.{◌≡◌, ◌⊎◌, inl, inr, ℕ, Bool, true, false, List, [], ◌++◌, length, refl, sym, ap, ◌∙◌, subst, arith, append-nil}
use Rattle.crossbeam_queue.specs.Passes.{view}
use Rattle.append_ring.specs.declared.pass.RingKey.{RingKey}
use Rattle.disk_images.specs.Crash.{DiskView}
use Rattle.chronicle_model.specs.Chronicle.{Placed, Position}
use Rattle.log_tail.specs.declared.refusal.TailRefusal.{TailRefusal}
use Rattle.log_tail.specs.declared.refusal.TailRefusal.TheVariants.{Memory, DiskFault}
use Rattle.ship_queue.specs.declared.reading.Reading.{Reading}
use Rattle.ship_queue.specs.declared.sending.Count.{Count}
use Rattle.ship_queue.specs.declared.reading_half.Stage.{Stage}
use Rattle.ship_queue.specs.declared.reading_half.Stage.TheVariants as stages
use Rattle.ship_queue.specs.declared.rounds.Ending.TheVariants as endings
use Rattle.ship_queue.specs.Messages.{Message}
use Rattle.ship_queue.specs.Course.{counted, HasReadOn}
use Rattle.ship_queue.specs.Sent.{HasSent}
use Rattle.ship_queue.specs.Halves.{AreCut, AreShipped, EndsAt, HasEnded, HasRead, HasShipped, all_given, held_in, read_so_far}
use Rattle.ship_queue.specs.Gone.{HasGone}
use Rattle.ship_queue.proofs.Going.{read_none, looks_none}
use Rattle.ship_queue.proofs.HalfLaws.{given_append}
use Rattle.ship_queue.proofs.Leads.{leads_here}
use Rattle.ship_queue.proofs.Sends.{none_sent, stopped_longer, torn_longer}

-- ---- the start

pub nothing_read : {D : Type 0} (told : Type 0) (images : D → DiskView) (faults : D → ℕ) (p : Position) (disk : D) (key : RingKey Reading) → (view key.pass).pushed ≡ []
    → HasRead told images faults p disk p disk (read_so_far key stages.Read) stages.Read
nothing_read told images faults p disk key none = record {
  leads = λ t. leads_here (images disk).files p;
  read = λ t. subst (λ (rs : List Reading). HasReadOn (images disk).files p p (all_given (rs ++ []))) (sym none) (read_none (images disk).files p);
  ends = λ t. tt;
  looks = λ t. looks_none (images disk);
  cause = record { later = omega arith; risen = λ e. absurd (cc e) };
}

pub nothing_shipped : {P : Type 0} (has : P → List Message → Type 0) (torn : P → List Message → Message → Type 0) (same : P → P → Type 0) (faults : P → ℕ) (peer : P) (count : Count) (popped : List Reading)
    → same peer peer → count.entries ≡ 0 → count.unrecorded ≡ 0 → popped ≡ [] → HasShipped has torn same faults peer peer count false (all_given popped)
nothing_shipped has torn same faults peer count popped itself zero none empty = record {
  all = λ e. record {
    sent = subst (λ (rs : List Reading). HasSent has peer peer 0 count.unrecorded (all_given rs)) (sym empty) (subst (λ (n : ℕ). HasSent has peer peer 0 n []) (sym none) (none_sent has peer 0));
    number = zero ∙ ap (λ (rs : List Reading). counted (length (all_given rs))) (sym empty);
  };
  part = λ e. absurd (cc e);
  stays = itself;
  cause = record { later = omega arith; risen = λ e. absurd (cc e) };
}

-- it ends where one of the halves has ended
pub either_ended : (stage : Stage) (failed later : Bool) → HasEnded stage ⊎ (failed ≡ true) → (failed ≡ true → later ≡ true) → later ≡ false → HasEnded stage
either_ended stage failed later (inl is) still not = is
either_ended stage failed later (inr is) still not = let on : later ≡ true = still is in absurd (cc (on, not))

-- ---- the end

module _ {D P : Type 0} (told : Type 0) (images : D → DiskView) (disk_faults : D → ℕ) (has : P → List Message → Type 0) (torn : P → List Message → Message → Type 0) (same : P → P → Type 0) (peer_faults : P → ℕ) (p : Position) (disk_first : D) (first : P) where
  -- there was no memory for the ring
  pub gone_nowhere : same first first → HasGone told images disk_faults has torn same peer_faults p p disk_first disk_first first first (endings.Refused Memory)
  gone_nowhere itself = record {
    xs = [];
    leads = λ t. leads_here (images disk_first).files p;
    read = λ t. read_none (images disk_first).files p;
    stopped = λ t. record {
      damaged = λ name at is. absurd (cc is);
      damage = λ name at d. inr (inl refl);
      no_position = λ file has' is. absurd (cc is);
      out = λ file has' o. inr (inl refl);
    };
    shipped = (0, omega arith, none_sent has first 0);
    looks = λ t. looks_none (images disk_first);
    stays = itself;
    disk_cause = record { later = omega arith; risen = λ e. absurd (cc e) };
    peer_cause = record { later = omega arith; risen = λ e. absurd (cc e) };
  }

  module _ (q : Position) (disk : D) (now : P) (key : RingKey Reading) (stage : Stage) (count : Count) (failed : Bool)
      (read : HasRead told images disk_faults p disk_first q disk (read_so_far key stage) stage)
      (shipped : HasShipped has torn same peer_faults first now count failed (all_given (view key.pass).pushed)) where
    -- what was read is what was pushed, and then what is held
    all_read : read_so_far key stage ≡ all_given (view key.pass).pushed ++ all_given (held_in stage)
    all_read = given_append (view key.pass).pushed (held_in stage)

    pub gone_failed : failed ≡ true → HasGone told images disk_faults has torn same peer_faults p q disk_first disk first now endings.PeerFailed
    gone_failed is =
        let cut = shipped.part is in
        let xs : List Placed = all_given (view key.pass).pushed in
        let ys : List Placed = all_given (held_in stage) in
        record {
          xs = read_so_far key stage;
          leads = read.leads;
          read = read.read;
          stopped = λ t. tt;
          shipped = subst (AreCut has torn first now) (sym all_read) (record { stopped = stopped_longer has first now xs ys cut.stopped; cut = torn_longer has torn first now 0 xs ys cut.cut });
          looks = read.looks;
          stays = shipped.stays;
          disk_cause = record { later = read.cause.later; risen = λ e. absurd (cc e) };
          peer_cause = record { later = shipped.cause.later; risen = λ e. shipped.cause.risen is };
        }

    module _ (not : failed ≡ false) where
      -- where nothing is held all was shipped
      all_shipped : held_in stage ≡ [] → AreShipped has first now count (read_so_far key stage)
      all_shipped none =
          subst (AreShipped has first now count) (sym (all_read ∙ ap (λ (rs : List Reading). all_given (view key.pass).pushed ++ all_given rs) none ∙ append-nil (all_given (view key.pass).pushed))) (shipped.all not)

      pub gone_whole : stage ≡ stages.AtEnd → HasGone told images disk_faults has torn same peer_faults p q disk_first disk first now (endings.AtEnd count)
      gone_whole is = record {
        xs = read_so_far key stage;
        leads = read.leads;
        read = read.read;
        stopped = λ t. subst (EndsAt (images disk_first).files q) is (read.ends t);
        shipped = all_shipped (ap held_in is);
        looks = read.looks;
        stays = shipped.stays;
        disk_cause = record { later = read.cause.later; risen = λ e. absurd (cc e) };
        peer_cause = record { later = shipped.cause.later; risen = λ e. absurd (cc e) };
      }

      pub gone_refused : (e : TailRefusal) → stage ≡ stages.Refused e → HasGone told images disk_faults has torn same peer_faults p q disk_first disk first now (endings.Refused e)
      gone_refused e is = record {
        xs = read_so_far key stage;
        leads = read.leads;
        read = read.read;
        stopped = λ t. subst (EndsAt (images disk_first).files q) is (read.ends t);
        shipped = (count.unrecorded, count.within, (all_shipped (ap held_in is)).sent);
        looks = read.looks;
        stays = shipped.stays;
        disk_cause = record { later = read.cause.later; risen = λ same_one. let why : e ≡ DiskFault = cc same_one in read.cause.risen (is ∙ ap stages.Refused why) };
        peer_cause = record { later = shipped.cause.later; risen = λ wrong. absurd (cc wrong) };
      }
