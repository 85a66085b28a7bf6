-- Closed files up to a number, none of which may go.
use Rattle.std.proofs.Common.{◌≡◌, ℕ, ◌<◌, ◌≤◌, ⊎_elim, Contains, arith}
use Rattle.std.proofs.lemmas.Bool.{cases_lt}
use Rattle.seq_accounting.specs.Accounts.{Accounts, ClosedFile, NoneClosedAbove, IsNextClosed}
use Rattle.log_archive.specs.First.{IsFlushedFile, NoneToGo, IsFirstToGo}

-- no file above the first number and up to the second one may go
abbrev pub NoneUpTo : Accounts → ℕ → ℕ → Type 0
NoneUpTo a above after = (c : ClosedFile) → Contains a.closed c → above < c.file → c.file ≤ after → IsFlushedFile a c → ⊥

-- the next one may not go
pub none_more : (a : Accounts) (above after file : ℕ) → NoneUpTo a above after → IsNextClosed a.closed after file
    → ((c : ClosedFile) → Contains a.closed c → c.file ≡ file → IsFlushedFile a c → ⊥) → NoneUpTo a above file
none_more a above after file none next stays c there later below lower = ⊎_elim
    (λ (lt : after < c.file). let least = next.least c there lt in stays c there (omega arith) lower)
    (λ (le : c.file ≤ after). none c there later le lower)
    (cases_lt after c.file)

-- the next one may go
pub first_found : (a : Accounts) (above after file : ℕ) → above ≤ after → NoneUpTo a above after → (next : IsNextClosed a.closed after file) → IsFlushedFile a next.which → IsFirstToGo a above file
first_found a above after file up none next lower = record {
  which = next.which;
  there = next.there;
  named = next.named;
  later = omega (arith, up, next.above);
  lower = lower;
  least = λ c there later low. ⊎_elim
      (λ (lt : after < c.file). next.least c there lt)
      (λ (le : c.file ≤ after). absurd (none c there later le low))
      (cases_lt after c.file);
}

pub none_left : (a : Accounts) (above after : ℕ) → NoneUpTo a above after → NoneClosedAbove a.closed after → NoneToGo a above
none_left a above after none end c there later lower = none c there later (end c there) lower
