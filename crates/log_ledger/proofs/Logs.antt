-- Closed files and the logs that they are.
use Rattle.std.proofs.Common.{◌≡◌, ◌↔◌, inl, inr, ℕ, Bool, true, false, not, cond, List, [], ◌∷◌, ◌++◌, length, Contains, refl, sym, ap, ◌∙◌, subst, arith}
use Rattle.std.specs.Prelude.{filter, IsTrue, Option, Some, None, MatchOption}
use Rattle.log_model.specs.Recovered.{IsWhollyFlushed}
use Rattle.seq_accounting.specs.Marks.{number_of}
use Rattle.seq_accounting.specs.Accounts.{ClosedFile, AreLower, are_lower, flushed_at}
use Rattle.log_archive.specs.First.{NoneToGo, IsFirstToGo}
use Rattle.log_ledger.specs.History.{History, ClosedLog}
use Rattle.log_ledger.specs.Numbers.{Numbers, IsServed}
use Rattle.log_ledger.specs.Counted.{IsCountedLog, AreCounted, IsCounted, NoneMayGoAbove, GoesNext}
use Rattle.log_ledger.proofs.Chains.{none_at, at_first, at_later, at_either}
use Rattle.log_ledger.proofs.Highest.{highest_lower}

-- what is counted of closed logs asks only which regions are served
pub counted_logs : (a b : Numbers) (cs : List ClosedFile) (ls : List ClosedLog) → ((r : ℕ) → IsServed a r → IsServed b r) → AreCounted a cs ls → AreCounted b cs ls
counted_logs a b [] [] served are = are
counted_logs a b [] (l ∷ ls) served are = absurd are
counted_logs a b (c ∷ cs) [] served are = absurd are
counted_logs a b (c ∷ cs) (l ∷ ls) served are = (record { number = are.0.number; highest = are.0.highest; ours = λ e has. served e.region (are.0.ours e has); given = are.0.given }, counted_logs a b cs ls served are.1)

-- one more
pub counted_more : (b : Numbers) (cs : List ClosedFile) (ls : List ClosedLog) (c : ClosedFile) (l : ClosedLog) → AreCounted b cs ls → IsCountedLog b c l → AreCounted b (cs ++ c ∷ []) (ls ++ l ∷ [])
counted_more b [] [] c l are is = (is, tt)
counted_more b [] (k ∷ ls) c l are is = absurd are
counted_more b (d ∷ cs) [] c l are is = absurd are
counted_more b (d ∷ cs) (k ∷ ls) c l are is = (are.0, counted_more b cs ls c l are.1 is)

-- there are as many
pub counted_length : (b : Numbers) (cs : List ClosedFile) (ls : List ClosedLog) → AreCounted b cs ls → length cs ≡ length ls
counted_length b [] [] are = refl
counted_length b [] (l ∷ ls) are = absurd are
counted_length b (c ∷ cs) [] are = absurd are
counted_length b (c ∷ cs) (l ∷ ls) are = let rest = counted_length b cs ls are.1 in omega (arith, rest)

-- the log of a closed file
pub log_of : (b : Numbers) (cs : List ClosedFile) (ls : List ClosedLog) → AreCounted b cs ls → (c : ClosedFile) → Contains cs c → (l : ClosedLog) × Contains ls l × IsCountedLog b c l
log_of b [] ls are c h = absurd (none_at c h)
log_of b (d ∷ cs) [] are c h = absurd are
log_of b (d ∷ cs) (l ∷ ls) are c h = elim (at_either d cs c h) [
  | inl is ↦ (l, at_first l ls, subst (λ (x : ClosedFile). IsCountedLog b x l) is are.0)
  | inr later ↦ let more = log_of b cs ls are.1 c later in (more.0, at_later l ls more.0 more.1, more.2)
]

-- the closed file of a log
pub file_of : (b : Numbers) (cs : List ClosedFile) (ls : List ClosedLog) → AreCounted b cs ls → (l : ClosedLog) → Contains ls l → (c : ClosedFile) × Contains cs c × IsCountedLog b c l
file_of b [] [] are l h = absurd (none_at l h)
file_of b [] (k ∷ ls) are l h = absurd are
file_of b (c ∷ cs) [] are l h = absurd are
file_of b (c ∷ cs) (k ∷ ls) are l h = elim (at_either k ls l h) [
  | inl is ↦ (c, at_first c cs, subst (λ (x : ClosedLog). IsCountedLog b c x) is are.0)
  | inr later ↦ let more = file_of b cs ls are.1 l later in (more.0, at_later c cs more.0 more.1, more.2)
]

-- its numbers are at or below the flushed ones exactly if its entries are wholly flushed
pub lower_flushed : (b : Numbers) (c : ClosedFile) (l : ClosedLog) (flushed : ℕ → List ℕ → ℕ) → IsCountedLog b c l → ((r : ℕ) (f : List ℕ) → IsServed b r → flushed_at b.accounts r f ≡ flushed r f)
    → AreLower b.accounts c.highest → IsWhollyFlushed flushed l.entries
lower_flushed b c l flushed is same lower e f has of =
    omega (arith, (is.highest e.region f).bound e.number (e, has, refl, of, refl), lower e.region f, same e.region f (is.ours e has))

pub flushed_lower : (b : Numbers) (c : ClosedFile) (l : ClosedLog) (flushed : ℕ → List ℕ → ℕ) → IsCountedLog b c l → ((r : ℕ) (f : List ℕ) → IsServed b r → flushed_at b.accounts r f ≡ flushed r f)
    → IsWhollyFlushed flushed l.entries → AreLower b.accounts c.highest
flushed_lower b c l flushed is same whole r f = highest_lower r f (number_of c.highest r f) (flushed_at b.accounts r f) l.entries (is.highest r f)
    (λ e has of in_family. let served : IsServed b r = subst (IsServed b) of (is.ours e has) in omega (arith, whole e f has in_family, ap (λ (q : ℕ). flushed q f) of, same r f served))

abbrev pub is_left_file : Numbers → ClosedFile → Bool
is_left_file b c = not (are_lower b.accounts.whole b.accounts.flushed c.highest)

-- the logs of the files of which not all is flushed
pub record Sieved (b : Numbers) (flushed : ℕ → List ℕ → ℕ) (cs : List ClosedFile) (ls : List ClosedLog) : Type 0 where
  pub left : List ClosedLog
  pub counted : AreCounted b (filter (is_left_file b) cs) left
  pub those : (l : ClosedLog) → Contains left l ↔ (Contains ls l × (IsWhollyFlushed flushed l.entries → ⊥))

-- the test of a file says whether all of it is flushed
abbrev pub IsTested : Numbers → ClosedFile → Type 0
IsTested b c = IsTrue (are_lower b.accounts.whole b.accounts.flushed c.highest) ↔ AreLower b.accounts c.highest

module _ (b : Numbers) (flushed : ℕ → List ℕ → ℕ) (same : (r : ℕ) (f : List ℕ) → IsServed b r → flushed_at b.accounts r f ≡ flushed r f) where
  none_left : Sieved b flushed [] []
  none_left = record { left = []; counted = tt; those = λ l. (λ has. absurd (none_at l has), λ has. absurd (none_at l has.0)) }

  -- the first file goes or stays
  one_more : (c : ClosedFile) (l : ClosedLog) (cs : List ClosedFile) (ls : List ClosedLog) → IsCountedLog b c l → IsTested b c → Sieved b flushed cs ls
      → (t : Bool) → are_lower b.accounts.whole b.accounts.flushed c.highest ≡ t → Sieved b flushed (c ∷ cs) (l ∷ ls)
  one_more c l cs ls is tested rest true lower =
      let whole = lower_flushed b c l flushed is same (tested.0 lower) in record {
        left = rest.left;
        counted = subst (λ (t : Bool). AreCounted b (cond (not t) (c ∷ filter (is_left_file b) cs) (filter (is_left_file b) cs)) rest.left) (sym lower) rest.counted;
        those = λ k. (
          λ has. let r = (rest.those k).0 has in (at_later l ls k r.0, r.1),
          λ has. elim (at_either l ls k has.0) as (λ _. Contains rest.left k) [
            | inl first ↦ absurd (has.1 (subst (λ (x : ClosedLog). IsWhollyFlushed flushed x.entries) first whole))
            | inr later ↦ (rest.those k).1 (later, has.1)
          ],
        );
      }
  one_more c l cs ls is tested rest false lower =
      let stays : IsWhollyFlushed flushed l.entries → ⊥ = λ whole. absurd (cc (sym lower ∙ tested.1 (flushed_lower b c l flushed is same whole))) in record {
        left = l ∷ rest.left;
        counted = subst (λ (t : Bool). AreCounted b (cond (not t) (c ∷ filter (is_left_file b) cs) (filter (is_left_file b) cs)) (l ∷ rest.left)) (sym lower) (is, rest.counted);
        those = λ k. (
          λ has. elim (at_either l rest.left k has) as (λ _. Contains (l ∷ ls) k × (IsWhollyFlushed flushed k.entries → ⊥)) [
            | inl first ↦ subst (λ (x : ClosedLog). Contains (l ∷ ls) x × (IsWhollyFlushed flushed x.entries → ⊥)) first (at_first l ls, λ whole. absurd (stays whole))
            | inr later ↦ (let r = (rest.those k).0 later in (at_later l ls k r.0, r.1))
          ],
          λ has. elim (at_either l ls k has.0) as (λ _. Contains (l ∷ rest.left) k) [
            | inl first ↦ subst (λ (x : ClosedLog). Contains (l ∷ rest.left) x) first (at_first l rest.left)
            | inr later ↦ at_later l rest.left k ((rest.those k).1 (later, has.1))
          ],
        );
      }

  pub sieved : (cs : List ClosedFile) (ls : List ClosedLog) → ((c : ClosedFile) → Contains cs c → IsTested b c) → AreCounted b cs ls → Sieved b flushed cs ls
  sieved [] [] tested are = none_left
  sieved [] (l ∷ ls) tested are = absurd are
  sieved (c ∷ cs) [] tested are = absurd are
  sieved (c ∷ cs) (l ∷ ls) tested are = one_more c l cs ls are.0 (tested c (at_first c cs)) (sieved cs ls (λ d has. tested d (at_later c cs d has)) are.1) (are_lower b.accounts.whole b.accounts.flushed c.highest) refl

-- which log may go next
pub first_counted : (b : Numbers) (h : History) (above : ℕ) (o : Option ℕ) → IsCounted b h
    → MatchOption o (NoneToGo b.accounts above) (λ file. IsFirstToGo b.accounts above file) → MatchOption o (NoneMayGoAbove h above) (GoesNext h above)
first_counted b h above None counted none = λ l has later whole.
    let f = file_of b b.accounts.closed h.logs counted.logs l has in
    none f.0 f.1 (omega (arith, later, f.2.number)) (flushed_lower b f.0 l h.kept.flushed f.2 counted.flushed whole)
first_counted b h above (Some file) counted first =
    let l = log_of b b.accounts.closed h.logs counted.logs first.which first.there in record {
      log = l.0;
      member = l.1;
      number = sym l.2.number ∙ first.named;
      flushed = lower_flushed b first.which l.0 h.kept.flushed l.2 counted.flushed first.lower;
      least = λ k has later whole.
          let f = file_of b b.accounts.closed h.logs counted.logs k has in
          let low = first.least f.0 f.1 (omega (arith, later, f.2.number)) (flushed_lower b f.0 k h.kept.flushed f.2 counted.flushed whole) in
          omega (arith, low, f.2.number);
    }
