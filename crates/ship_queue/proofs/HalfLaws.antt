-- What each half adds to what it has done.
use Rattle.std.proofs.Common.{◌≡◌, ◌⊎◌, inl, inr, ℕ, ◌+◌, ◌≤◌, true, false, List, [], ◌∷◌, ◌++◌, length, Option, Some, None, Err, refl, sym, ap, ◌∙◌, subst, arith, append_assoc, append-nil, length-append}
use Rattle.crossbeam_queue.specs.Passes.{view}
use Rattle.append_ring.specs.declared.pass.RingKey.{RingKey}
use Rattle.append_ring.specs.Rules.{RingPlace, of}
use Rattle.append_ring.specs.Parts.{AreNew, EachThere, IsCounted, IsDrained, IsEqual, first_there, without_first}
use Rattle.log_model.specs.Entry.{Entry}
use Rattle.disk_images.specs.Calls.{HasCause, Rose}
use Rattle.disk_images.specs.Crash.{DiskView}
use Rattle.chronicle_model.specs.Chronicle.{Placed, Position}
use Rattle.log_tail.specs.declared.refusal.TailRefusal.{TailRefusal}
use Rattle.log_tail.specs.declared.refusal.TailRefusal.TheVariants.{DiskFault}
use Rattle.log_tail.specs.Reads.{IsRead, OnlyReads}
use Rattle.ship_queue.specs.declared.reading.Reading.{Reading}
use Rattle.ship_queue.specs.declared.sending.Count.{Count}
use Rattle.ship_queue.specs.declared.reading_half.Stage.{Stage}
use Rattle.ship_queue.specs.declared.reading_half.Stage.TheVariants as stages
use Rattle.ship_queue.specs.Messages.{Message}
use Rattle.ship_queue.specs.Course.{counted, HasReadOn, IsAtEnd, IsRefusedAt, LeadsTo}
use Rattle.ship_queue.specs.Sent.{HasSent, HasStopped, HasTorn}
use Rattle.ship_queue.specs.Halves.{EndsAt, HasRead, HasShipped, all_given, given_by, held_in, read_so_far}
use Rattle.ship_queue.proofs.Going.{joined_read, looks_both, end_on}
use Rattle.ship_queue.proofs.Leads.{leads_from, refused_on, last_read}
use Rattle.ship_queue.proofs.Places.{placed_length}
use Rattle.ship_queue.proofs.Sends.{sent_joined, stopped_behind, stopped_longer, torn_behind, torn_longer}

-- ---- readings

pub given_append : (xs ys : List Reading) → all_given (xs ++ ys) ≡ all_given xs ++ all_given ys
given_append [] ys = refl
given_append (x ∷ xs) ys = ap (λ (l : List Placed). given_by x ++ l) (given_append xs ys) ∙ sym (append_assoc (given_by x) (all_given xs) (all_given ys))

pub given_one : (x : Reading) → all_given (x ∷ []) ≡ given_by x
given_one x = append-nil (given_by x)

pub given_more : (xs : List Reading) (x : Reading) → all_given (xs ++ x ∷ []) ≡ all_given xs ++ given_by x
given_more xs x = given_append xs (x ∷ []) ∙ ap (λ (l : List Placed). all_given xs ++ l) (given_one x)

-- all are of the one region
pub of_one : (xs : List Reading) → of (λ (r : Reading). 1) 1 xs ≡ xs
of_one [] = refl
of_one (x ∷ xs) = ap (λ (l : List Reading). x ∷ l) (of_one xs)

-- ---- the half that reads

module _ {D : Type 0} (told : Type 0) (images : D → DiskView) (faults : D → ℕ) (p : Position) (first : D) (q : Position) (disk : D) (xs : List Placed) where
  -- a push changes nothing of what was read
  pub read_held : (ys : List Placed) (r : Reading) (stage : Stage) → ys ≡ xs → (stage ≡ stages.Read) ⊎ (stage ≡ stages.Push r)
      → HasRead told images faults p first q disk xs (stages.Push r) → HasRead told images faults p first q disk ys stage
  read_held ys r stage same either was = record {
    leads = was.leads;
    read = λ t. subst (HasReadOn (images first).files p q) (sym same) (was.read t);
    ends = λ t. elim either as (λ _. EndsAt (images first).files q stage) [
      | inl is ↦ subst (EndsAt (images first).files q) (sym is) tt
      | inr is ↦ subst (EndsAt (images first).files q) (sym is) tt
    ];
    looks = was.looks;
    cause = record {
      later = was.cause.later;
      risen = λ e. elim either as (λ _. Rose (faults first) (faults disk)) [ inl is ↦ absurd (cc (is, e)) | inr is ↦ absurd (cc (is, e)) ];
    };
  }

  -- what stands read where nothing is held
  pub held_none : (key : RingKey Reading) (stage : Stage) → stage ≡ stages.Read → HasRead told images faults p first q disk (read_so_far key stage) stage
      → HasRead told images faults p first q disk (all_given (view key.pass).pushed) stages.Read
  held_none key stage is was =
      subst (λ (rs : List Reading). HasRead told images faults p first q disk (all_given rs) stages.Read) (append-nil (view key.pass).pushed)
      (subst (λ (s : Stage). HasRead told images faults p first q disk (read_so_far key s) s) is was)

  pub held_some : (key : RingKey Reading) (stage : Stage) → HasRead told images faults p first q disk (all_given (view key.pass).pushed ++ all_given (held_in stage)) stage
      → HasRead told images faults p first q disk (read_so_far key stage) stage
  held_some key stage was = subst (λ (l : List Placed). HasRead told images faults p first q disk l stage) (sym (given_append (view key.pass).pushed (held_in stage))) was

  module _ (now : Position) (next : D) (was : HasRead told images faults p first q disk xs stages.Read) (looks : told → OnlyReads (images disk) (images next)) where
    pub read_more : (r : Reading) → (told → IsRead (images disk).files q r.entries now) → (told → HasReadOn (images disk).files q now (given_by r))
        → faults disk ≤ faults next → HasRead told images faults p first now next (xs ++ all_given (r ∷ [])) (stages.Push r)
    read_more r reads read le = record {
      leads = λ t. leads_from (images first) (images disk) p q now r.entries (was.looks t) (was.leads t) (reads t);
      read = λ t. subst (λ (l : List Placed). HasReadOn (images first).files p now (xs ++ l)) (sym (given_one r))
          (joined_read (images first) (images disk) p q now xs (given_by r) (was.looks t) (was.read t) (read t));
      ends = λ t. tt;
      looks = λ t. looks_both (images first) (images disk) (images next) (was.looks t) (looks t);
      cause = record { later = omega (arith, was.cause.later, le); risen = λ e. absurd (cc e) };
    }

    pub read_last : (given : List Entry) → now ≡ q → given ≡ [] → (told → IsRead (images disk).files q given now) → (told → IsAtEnd (images disk).files now)
        → faults disk ≤ faults next → HasRead told images faults p first now next (xs ++ []) stages.AtEnd
    read_last given stays none reads end le = record {
      leads = λ t. subst (LeadsTo (images first).files p) (sym stays) (was.leads t);
      read = λ t. subst (HasReadOn (images first).files p now) (sym (append-nil xs)) (subst (λ (r : Position). HasReadOn (images first).files p r xs) (sym stays) (was.read t));
      ends = λ t. (
        end_on (images first) (images disk) now now (was.looks t) refl (end t),
        subst (λ (r : Position). IsRead (images first).files r [] r) (sym stays) (last_read (images first) (images disk) q now given (was.looks t) stays none (reads t)),
      );
      looks = λ t. looks_both (images first) (images disk) (images next) (was.looks t) (looks t);
      cause = record { later = omega (arith, was.cause.later, le); risen = λ e. absurd (cc e) };
    }

    pub read_refused : (e : TailRefusal) → now ≡ q → (told → IsRefusedAt {T = Reading} (images disk).files q (Err e)) → HasCause (faults disk) (faults next) (e ≡ DiskFault)
        → HasRead told images faults p first now next (xs ++ []) (stages.Refused e)
    read_refused e stays refused cause = record {
      leads = λ t. subst (LeadsTo (images first).files p) (sym stays) (was.leads t);
      read = λ t. subst (HasReadOn (images first).files p now) (sym (append-nil xs)) (subst (λ (r : Position). HasReadOn (images first).files p r xs) (sym stays) (was.read t));
      ends = λ t. subst (λ (r : Position). IsRefusedAt {T = Reading} (images first).files r (Err e)) (sym stays) (refused_on (images first) (images disk) q (Err e) (was.looks t) (refused t));
      looks = λ t. looks_both (images first) (images disk) (images next) (was.looks t) (looks t);
      cause = record {
        later = omega (arith, was.cause.later, cause.later);
        risen = λ is. let rose : Rose (faults disk) (faults next) = cause.risen (cc is) in omega (arith, was.cause.later, rose);
      };
    }

-- ---- the half that ships

module _ {P : Type 0} (has : P → List Message → Type 0) (torn : P → List Message → Message → Type 0) (same : P → P → Type 0) (faults : P → ℕ) (first old now : P) (xs : List Placed) (r : Reading) where
  -- it has failed before, and what is popped is dropped
  pub dropped : (count : Count) → HasShipped has torn same faults first old count true xs → HasShipped has torn same faults first old count true (xs ++ given_by r)
  dropped count was = record {
    all = λ e. absurd (cc e);
    part = λ e. let cut = was.part e in record {
      stopped = stopped_longer has first old xs (given_by r) cut.stopped;
      cut = torn_longer has torn first old 0 xs (given_by r) cut.cut;
    };
    stays = was.stays;
    cause = was.cause;
  }

  module _ (count next : Count) (was : HasShipped has torn same faults first old count false xs) (on : same old now → same first now) where
    pub shipped_on : HasSent has old now count.unrecorded next.unrecorded (given_by r) → ((n : ℕ) → count.entries ≡ counted n → next.entries ≡ counted (n + length r.entries))
        → same old now → faults old ≤ faults now → HasShipped has torn same faults first now next false (xs ++ given_by r)
    shipped_on sent count_on stays le = record {
      all = λ e. let all = was.all refl in record {
        sent = sent_joined has first old now 0 count.unrecorded next.unrecorded xs (given_by r) all.sent sent;
        number = count_on (length xs) all.number ∙ ap counted (ap (λ (n : ℕ). length xs + n) (sym (placed_length r.at.file r.at.entries r.entries)) ∙ sym (length-append xs (given_by r)));
      };
      part = λ e. absurd (cc e);
      stays = on stays;
      cause = record { later = omega (arith, was.cause.later, le); risen = λ e. absurd (cc e) };
    }

    pub shipped_to : HasStopped has old now (given_by r) → HasTorn has torn old now count.unrecorded (given_by r)
        → same old now → HasCause (faults old) (faults now) (Unit {0}) → HasShipped has torn same faults first now next true (xs ++ given_by r)
    shipped_to stopped cut stays cause = record {
      all = λ e. absurd (cc e);
      part = λ e. let all = was.all refl in record {
        stopped = stopped_behind has first old now 0 count.unrecorded xs (given_by r) all.sent stopped;
        cut = torn_behind has torn first old now 0 count.unrecorded xs (given_by r) all.sent cut;
      };
      stays = on stays;
      cause = record { later = omega (arith, was.cause.later, cause.later); risen = λ e. omega (arith, was.cause.later, cause.risen tt) };
    }

-- ---- the close

-- the one key of a new ring is the next
pub opened_one : (ring : RingPlace) (lasts : List ℕ) (places : List (Option (RingKey Reading))) → length places ≡ 1 → AreNew ring.id lasts 0 places
    → (k : RingKey Reading) × (first_there places ≡ Some k) × (without_first places ≡ None ∷ []) × (k.pass.table_id ≡ ring.id) × (k.region ≡ 1) × ((view k.pass).pushed ≡ [])
opened_one ring lasts [] one new = absurd (omega (arith, one))
opened_one ring lasts (None ∷ places) one new = absurd new
opened_one ring lasts (Some k ∷ []) one new = (k, refl, refl, new.0.0, new.0.1, ap (λ v. v.pushed) new.0.2)
opened_one ring lasts (Some k ∷ x ∷ places) one new = absurd (omega (arith, one))

module _ (key : RingKey Reading) (keys : List (Option (RingKey Reading))) (is : keys ≡ Some key ∷ []) where
  pub there_one : (ring : RingPlace) → key.pass.table_id ≡ ring.id → EachThere (λ (k : RingKey Reading). k.pass.table_id ≡ ring.id) keys
  there_one ring of_it = subst (EachThere (λ (k : RingKey Reading). k.pass.table_id ≡ ring.id)) (sym is) (of_it, tt)

  pub counted_one : (popped : List Reading) → EachThere (IsDrained (λ (r : Reading). 1) popped) keys → EachThere (IsCounted (λ (r : Reading). 1) popped) keys
  counted_one popped each = subst (EachThere (IsCounted (λ (r : Reading). 1) popped)) (sym is) ((subst (EachThere (IsDrained (λ (r : Reading). 1) popped)) is each).0.0, tt)

  pub closed_all : (popped : List Reading) → key.region ≡ 1 → EachThere (IsEqual (λ (r : Reading). 1) popped) keys → popped ≡ (view key.pass).pushed
  closed_all popped one each =
      let its : of (λ (r : Reading). 1) key.region popped ≡ (view key.pass).pushed = (subst (EachThere (IsEqual (λ (r : Reading). 1) popped)) is each).0 in
      sym (of_one popped) ∙ ap (λ (n : ℕ). of (λ (r : Reading). 1) n popped) (sym one) ∙ its
