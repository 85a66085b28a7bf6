-- The status of a report fits its replies.
use Rattle.std.proofs.Common.{◌≡◌, ◌≢◌, ℕ, zero, suc, ◌⊎◌, Bool, true, false, ◌||◌, if◌then◌else◌, List, [], ◌∷◌, map, Contains, Option, Some, None, refl, sym, subst, arith, inl, inr, true≢false}
use Rattle.region_model.specs.Calls.{Answer, PutMemory, PutFault, PutSpent, ScanMemory, FlushFault, FlushMemory, RollFault, RollMemory, Reply}
use Rattle.script_model.specs.Report.{ReplyLine}
use Rattle.server_model.specs.Steps.{IsFault}
use Rattle.server_model.proofs.JournalLaws.{contains_cons}
use Rattle.run_model.specs.declared.spent.Spent.{Spent}
use Rattle.run_model.specs.Spent.{IsSpent, region_of, told_at, first_of, first_spent}
use Rattle.run_model.proofs.SpentLaws.{none_found}
use Rattle.run_model.specs.Headline.{reply_line, IsWant, IsClean, FitsStatus}
use Rattle.command_base.specs.Status.{exit_status}
use Rattle.run_command.specs.Decided.{is_want, wants_memory, spent_or, decided}
use Rattle.command_base.specs.declared.status.Status.{Status}
use Rattle.command_base.specs.declared.status.Status.TheVariants as ends

no_member : {A : Type 0} (x : A) → Contains [] x → ⊥
no_member x is = omega (arith, is.1)

spent_found : (r : ℕ) (a : Answer) (later : Option Spent) (s : Spent) → first_of (told_at r a) later ≡ Some s → IsSpent a ⊎ (later ≡ Some s)
spent_found r (PutSpent k) later s e = inl tt
spent_found r _ later s e = inr e

want_here : (a : Answer) (later : Bool) → is_want a || later ≡ false → (IsWant a → ⊥) × (later ≡ false)
want_here (PutMemory n) later e = absurd (true≢false e)
want_here ScanMemory later e = absurd (true≢false e)
want_here FlushMemory later e = absurd (true≢false e)
want_here RollMemory later e = absurd (true≢false e)
want_here _ later e = ((λ s. s), e)

want_found : (a : Answer) (later : Bool) → is_want a || later ≡ true → IsWant a ⊎ (later ≡ true)
want_found (PutMemory n) later e = inl tt
want_found ScanMemory later e = inl tt
want_found FlushMemory later e = inl tt
want_found RollMemory later e = inl tt
want_found _ later e = inr e

clean_of : (a : Answer) → (IsFault a → ⊥) → (IsSpent a → ⊥) → (IsWant a → ⊥) → IsClean a
clean_of (PutMemory n) f s w = absurd (w tt)
clean_of ScanMemory f s w = absurd (w tt)
clean_of FlushMemory f s w = absurd (w tt)
clean_of RollMemory f s w = absurd (w tt)
clean_of (PutSpent n) f s w = absurd (s tt)
clean_of (PutFault n) f s w = absurd (f tt)
clean_of FlushFault f s w = absurd (f tt)
clean_of RollFault f s w = absurd (f tt)
clean_of _ f s w = tt

some_spent : (rs : List Reply) (s : Spent) → first_spent rs ≡ Some s → (x : Reply) × Contains rs x × IsSpent x.answer
some_spent [] s e = absurd cc
some_spent (r ∷ rs) s e = elim (spent_found (region_of r.call) r.answer (first_spent rs) s e) [
  | inl here ↦ (r, (0, omega arith, refl), here)
  | inr later ↦ let x = some_spent rs s later in (x.0, contains_cons r rs x.0 x.1, x.2)
]

none_want : (rs : List Reply) → wants_memory (map reply_line rs) ≡ false → (x : Reply) → Contains rs x → IsWant x.answer → ⊥
none_want [] e x is s = no_member x is
none_want (r ∷ rs) e x (zero, lt, same) s = (want_here r.answer (wants_memory (map reply_line rs)) e).0 (subst (λ (y : Reply). IsWant y.answer) (sym same) s)
none_want (r ∷ rs) e x (suc k, lt, same) s = none_want rs (want_here r.answer (wants_memory (map reply_line rs)) e).1 x (k, omega (arith, lt), same) s

some_want : (rs : List Reply) → wants_memory (map reply_line rs) ≡ true → (x : Reply) × Contains rs x × IsWant x.answer
some_want [] e = absurd (true≢false (sym e))
some_want (r ∷ rs) e = elim (want_found r.answer (wants_memory (map reply_line rs)) e) [
  | inl here ↦ (r, (0, omega arith, refl), here)
  | inr later ↦ let x = some_want rs later in (x.0, contains_cons r rs x.0 x.1, x.2)
]

-- ---- the status

module _ (rs : List Reply) where
  fits_5 : FitsStatus 5 rs
  fits_5 = record {
    one_of = inr (inr (inl refl));
    faults = λ x is f. refl;
    clean = λ e. absurd (omega (arith, e));
    spent = λ x is s. inl refl;
    memory = λ e. absurd (omega (arith, e));
    spent_only = λ e. absurd (omega (arith, e));
  }

  fits_8 : (s : Spent) → first_spent rs ≡ Some s → ((x : Reply) → Contains rs x → IsFault x.answer → ⊥) → FitsStatus 8 rs
  fits_8 s e none = record {
    one_of = inr (inr (inr refl));
    faults = λ x is f. absurd (none x is f);
    clean = λ e. absurd (omega (arith, e));
    spent = λ x is s. inr refl;
    memory = λ e. absurd (omega (arith, e));
    spent_only = λ same. some_spent rs s e;
  }

  fits_1 : first_spent rs ≡ None → wants_memory (map reply_line rs) ≡ true → ((x : Reply) → Contains rs x → IsFault x.answer → ⊥) → FitsStatus 1 rs
  fits_1 e w none = record {
    one_of = inr (inl refl);
    faults = λ x is f. absurd (none x is f);
    clean = λ e. absurd (omega (arith, e));
    spent = λ x is s. absurd (none_found rs e x is s);
    memory = λ same. some_want rs w;
    spent_only = λ e. absurd (omega (arith, e));
  }

  fits_0 : first_spent rs ≡ None → wants_memory (map reply_line rs) ≡ false → ((x : Reply) → Contains rs x → IsFault x.answer → ⊥) → FitsStatus 0 rs
  fits_0 e w none = record {
    one_of = inl refl;
    faults = λ x is f. absurd (none x is f);
    clean = λ same x is. clean_of x.answer (none x is) (none_found rs e x is) (none_want rs w x is);
    spent = λ x is s. absurd (none_found rs e x is s);
    memory = λ e. absurd (omega (arith, e));
    spent_only = λ e. absurd (omega (arith, e));
  }

  fits_want : (b : Bool) → first_spent rs ≡ None → wants_memory (map reply_line rs) ≡ b → ((x : Reply) → Contains rs x → IsFault x.answer → ⊥)
      → FitsStatus (exit_status (if b then ends.Memory else ends.Done)) rs
  fits_want true e w none = fits_1 e w none
  fits_want false e w none = fits_0 e w none

  fits_spent : (o : Option Spent) → first_spent rs ≡ o → ((x : Reply) → Contains rs x → IsFault x.answer → ⊥)
      → FitsStatus (exit_status (spent_or o (if wants_memory (map reply_line rs) then ends.Memory else ends.Done))) rs
  fits_spent (Some s) e none = fits_8 s e none
  fits_spent None e none = fits_want (wants_memory (map reply_line rs)) e refl none

  pub fits : (broken : Bool) (spent : Option Spent) → first_spent rs ≡ spent → ((x : Reply) → Contains rs x → IsFault x.answer → broken ≡ true) → FitsStatus (exit_status (decided broken spent (map reply_line rs))) rs
  fits true spent e told = fits_5
  fits false spent e told = fits_spent spent e (λ x is f. true≢false (sym (told x is f)))

-- ---- what is decided

-- all but a fault of the sink
abbrev pub IsDecided : Status → Type 0
IsDecided ends.Done = Unit {0}
IsDecided ends.Memory = Unit {0}
IsDecided ends.DiskFault = Unit {0}
IsDecided (ends.NumbersSpent region last) = Unit {0}
IsDecided _ = ⊥

end_want : (b : Bool) → IsDecided (if b then ends.Memory else ends.Done)
end_want true = tt
end_want false = tt

end_spent : (o : Option Spent) (s : Status) → IsDecided s → IsDecided (spent_or o s)
end_spent None s e = e
end_spent (Some n) s e = tt

pub decided_end : (broken : Bool) (spent : Option Spent) (lines : List ReplyLine) → IsDecided (decided broken spent lines)
decided_end true spent lines = tt
decided_end false spent lines = end_spent spent _ (end_want (wants_memory lines))

-- it is 5 exactly where the log is broken
pub whole_of : (broken : Bool) (spent : Option Spent) (lines : List ReplyLine) → exit_status (decided broken spent lines) ≢ 5 → broken ≡ false
whole_of true spent lines other = absurd (other refl)
whole_of false spent lines other = refl

not_5 : (spent : Option Spent) (wants : Bool) → exit_status (spent_or spent (if wants then ends.Memory else ends.Done)) ≡ 5 → ⊥
not_5 (Some s) wants e = omega (arith, e)
not_5 None true e = omega (arith, e)
not_5 None false e = omega (arith, e)

pub broken_of : (broken : Bool) (spent : Option Spent) (lines : List ReplyLine) → exit_status (decided broken spent lines) ≡ 5 → broken ≡ true
broken_of true spent lines is = refl
broken_of false spent lines is = absurd (not_5 spent (wants_memory lines) is)

-- where it names numbers that are spent, the log isn't broken, and these are they
spent_want : (b : Bool) (region last : ℕ) → (if b then ends.Memory else ends.Done) ≡ ends.NumbersSpent region last → ⊥
spent_want true region last e = absurd cc
spent_want false region last e = absurd cc

pub spent_of : (broken : Bool) (spent : Option Spent) (lines : List ReplyLine) (region last : ℕ) → decided broken spent lines ≡ ends.NumbersSpent region last
    → (broken ≡ false) × (spent ≡ Some (record { region = region; last = last }))
spent_of true spent lines region last e = absurd cc
spent_of false None lines region last e = absurd (spent_want (wants_memory lines) region last e)
spent_of false (Some s) lines region last e = (refl, λ i. Some (record { region = regions i; last = lasts i }))
  where
    regions : s.region ≡ region
    regions = cc e

    lasts : s.last ≡ last
    lasts = cc e
