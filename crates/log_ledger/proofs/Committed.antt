-- The numbers once what is staged is committed, and once the current file is closed.
use Rattle.std.proofs.Common.{◌≡◌, ◌⊎◌, ◌↔◌, inl, inr, ℕ, ◌≤◌, List, [], ◌∷◌, ◌++◌, map, Contains, refl, sym, ap, ◌∙◌, subst, arith, append-nil}
use Rattle.std.proofs.lemmas.List.Elements.{Contains-append_left, Contains-append_right, Contains-append_cases}
use Rattle.log_model.specs.Entry.{Entry}
use Rattle.recovery_laws.specs.Kept.{lasts}
use Rattle.recovery_laws.proofs.Rising.{lasts-append, above_last}
use Rattle.recovery_laws.proofs.Likes.{orderly_committed}
use Rattle.recovery_laws.proofs.Lists.{none_in}
use Rattle.seq_accounting.specs.Marks.{FamilyMark, number_of}
use Rattle.seq_accounting.specs.Accounts.{ClosedFile}
use Rattle.seq_accounting.specs.Noted.{Note, HasNoted}
use Rattle.log_ledger.specs.History.{History, committed_in, closed_in}
use Rattle.log_ledger.specs.Numbers.{Numbers, IsServed, AreInOrder}
use Rattle.log_ledger.specs.Counted.{IsHighest, IsCountedLog, AreCounted, CarriesUnflushed, IsUnflushedEntry, IsCounted, note_of}
use Rattle.log_ledger.proofs.Sets.{same_at}
use Rattle.log_ledger.proofs.Highest.{highest_none}
use Rattle.log_ledger.proofs.Logs.{counted_logs, counted_more}
use Rattle.log_ledger.proofs.Steps.{ClosedBy, flushed_same}

pub counted_committed : (b : Numbers) (h : History) → AreInOrder b → IsCounted b h → IsCounted (record b { synced = b.drawn }) (committed_in h)
counted_committed b h order counted = record {
  synced = λ r served. counted.drawn r served ∙ sym (lasts-append h.kept.first h.kept.durable h.kept.staged r);
  drawn = λ r served. counted.drawn r served ∙ sym (lasts-append h.kept.first h.kept.durable h.kept.staged r);
  flushed = counted.flushed;
  stored = λ e f has of below. elim (Contains-append_cases h.kept.durable h.kept.staged e has) as (λ _. e.number ≤ h.kept.flushed e.region f) [
    | inl old ↦ counted.stored e f old of below
    | inr new ↦ absurd (omega (arith, below, (order.regions e.region).stored, counted.synced e.region (counted.ours e (inl (Contains-append_right h.current h.kept.staged e new))), above_last (lasts h.kept.first h.kept.durable) h.kept.staged e counted.orderly.rising new))
  ];
  noted = subst (λ (l : List Entry). HasNoted b.accounts (map note_of l)) (sym (append-nil (h.kept.durable ++ h.kept.staged))) counted.noted;
  newer = λ e has. counted.newer e (subst (λ (l : List Entry). Contains l e) current has);
  ours = λ e has. counted.ours e (elim has as (λ _. Contains (h.current ++ h.kept.staged) e ⊎ Contains h.kept.durable e) [
    | inl written ↦ inl (subst (λ (l : List Entry). Contains l e) current written)
    | inr durable ↦ (elim (Contains-append_cases h.kept.durable h.kept.staged e durable) as (λ _. Contains (h.current ++ h.kept.staged) e ⊎ Contains h.kept.durable e) [
      | inl old ↦ inr old
      | inr new ↦ inl (Contains-append_right h.current h.kept.staged e new)
    ])
  ]);
  given = λ e has. counted.given e (subst (λ (l : List Entry). Contains l e) current has);
  current = λ r f. subst (λ (l : List Entry). IsHighest r f l (number_of b.accounts.current r f)) (sym current) (counted.current r f);
  logs = counted_logs b (record b { synced = b.drawn }) b.accounts.closed h.logs (λ r served. served) counted.logs;
  chains = λ r served. let carries = counted.chains r served in record {
    entries = carries.entries;
    held = carries.held;
    apart = carries.apart;
    each = λ e. subst (λ (l : List Entry). Contains carries.entries e ↔ (Contains l e × (e.region ≡ r) × IsUnflushedEntry h.kept e)) (sym (append-nil (h.kept.durable ++ h.kept.staged))) (carries.each e);
  };
  orderly = orderly_committed h.kept counted.orderly (λ e has. counted.given e (Contains-append_right h.current h.kept.staged e has));
}
  where
    current : (h.current ++ h.kept.staged) ++ [] ≡ h.current ++ h.kept.staged
    current = append-nil (h.current ++ h.kept.staged)

-- with nothing staged, what is written is what is current
pub written : (h : History) → h.kept.staged ≡ [] → h.current ++ h.kept.staged ≡ h.current
written h none = ap (λ (l : List Entry). h.current ++ l) none ∙ append-nil h.current

pub counted_closed : (old new : Numbers) (file : ℕ) (h : History) → AreInOrder old → ClosedBy old new file → IsCounted old h → h.kept.staged ≡ [] → IsCounted new (closed_in h file)
counted_closed old new file h order s counted none = record {
  synced = λ r served. same_at old.synced new.synced r 0 s.synced ∙ counted.synced r (was r served);
  drawn = λ r served. same_at old.drawn new.drawn r 0 s.drawn ∙ counted.drawn r (was r served);
  flushed = λ r f served. flushed_same old.accounts new.accounts s.keeps.numbers.flushed r f ∙ counted.flushed r f (was r served);
  stored = λ e f has of below. counted.stored e f has of (omega (arith, below, same_at old.stored new.stored e.region 0 s.stored));
  noted = s.keeps.history (map note_of (h.kept.durable ++ h.kept.staged)) counted.noted;
  newer = λ e has. absurd (none_in e (subst (λ (l : List Entry). Contains l e) none has));
  ours = λ e has. is_served e.region (elim has as (λ _. IsServed old e.region) [
    | inl staged ↦ absurd (none_in e (subst (λ (l : List Entry). Contains l e) none staged))
    | inr durable ↦ counted.ours e (inr durable)
  ]);
  given = λ e has. absurd (none_in e (subst (λ (l : List Entry). Contains l e) none has));
  current = λ r f. subst (λ (l : List Entry). IsHighest r f l (number_of new.accounts.current r f)) (sym none) (subst (IsHighest r f []) (sym (empty r f)) (highest_none r f));
  logs = subst (λ (cs : List ClosedFile). AreCounted new cs (h.logs ++ record { number = file; entries = h.current } ∷ [])) (sym s.files)
      (counted_more new old.accounts.closed h.logs (record { file = file; highest = old.accounts.current }) (record { number = file; entries = h.current })
      (counted_logs old new old.accounts.closed h.logs is_served counted.logs) the_log);
  chains = λ r served. subst (CarriesUnflushed h.kept r) (sym (same_at old.chains new.chains r [] s.chains)) (counted.chains r (was r served));
  orderly = counted.orderly;
}
  where
    was : (r : ℕ) → IsServed new r → IsServed old r
    was r served = omega (arith, served, same_at old.next_store new.next_store r 0 s.next_store)

    is_served : (r : ℕ) → IsServed old r → IsServed new r
    is_served r served = omega (arith, served, same_at old.next_store new.next_store r 0 s.next_store)

    empty : (r : ℕ) (f : List ℕ) → number_of new.accounts.current r f ≡ 0
    empty r f = ap (λ (l : List FamilyMark). number_of l r f) s.current

    the_log : IsCountedLog new (record { file = file; highest = old.accounts.current }) (record { number = file; entries = h.current })
    the_log = record {
      number = refl;
      highest = λ r f. subst (λ (l : List Entry). IsHighest r f l (number_of old.accounts.current r f)) (written h none) (counted.current r f);
      ours = λ e has. is_served e.region (counted.ours e (inl (Contains-append_left h.current h.kept.staged e has)));
      given = λ e has. counted.given e (Contains-append_left h.current h.kept.staged e has);
    }

pub counted_empty : (b : Numbers) (h : History) → IsCounted b h → h.kept.staged ≡ [] → h.current ≡ [] → IsCounted (record b { closed = b.synced }) h
counted_empty b h counted none empty = record {
  synced = counted.synced;
  drawn = counted.drawn;
  flushed = counted.flushed;
  stored = counted.stored;
  noted = counted.noted;
  newer = λ e has. absurd (none_in e (subst (λ (l : List Entry). Contains l e) (written h none ∙ empty) has));
  ours = counted.ours;
  given = counted.given;
  current = counted.current;
  logs = counted_logs b (record b { closed = b.synced }) b.accounts.closed h.logs (λ r served. served) counted.logs;
  chains = counted.chains;
  orderly = counted.orderly;
}

-- room says nothing of the history
pub counted_room : (b : Numbers) (n : ℕ) (h : History) → ((notes : List Note) → HasNoted b.accounts notes → HasNoted (record b.accounts { room = n }) notes) → IsCounted b h → IsCounted (record b { accounts = record b.accounts { room = n } }) h
counted_room b n h history counted = record {
  synced = counted.synced;
  drawn = counted.drawn;
  flushed = counted.flushed;
  stored = counted.stored;
  noted = history (map note_of (h.kept.durable ++ h.kept.staged)) counted.noted;
  newer = counted.newer;
  ours = counted.ours;
  given = counted.given;
  current = counted.current;
  logs = counted_logs b (record b { accounts = record b.accounts { room = n } }) b.accounts.closed h.logs (λ r served. served) counted.logs;
  chains = counted.chains;
  orderly = counted.orderly;
}
