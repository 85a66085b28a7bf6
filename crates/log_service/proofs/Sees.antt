-- What a seat has seen of the words, and the chains that were committed.
use Rattle.std.proofs.Common.{◌≡◌, ◌≤◌, ◌<◌, ◌+◌, ◌-◌, ◌*◌, ℕ, List, length, get_or, ap, ◌∙◌, arith}
use Rattle.append_ring.specs.Rules.{base_of}
use Rattle.log_berth.specs.declared.known.Known.{Known}
use Rattle.log_berth.specs.Words.{NoMore}
use Rattle.log_trucks.specs.Held.{Held}
use Rattle.log_ledger.specs.Numbers.{Numbers}
use Rattle.log_halves.specs.Trucks.{come_to}
use Rattle.log_halves.specs.Chains.{all_trucks}
use Rattle.log_halves.specs.Numbers.{told_numbers, seen_closed, HasSeen}
use Rattle.log_service.specs.Turns.{SawCommitted}
use Rattle.log_halves.proofs.Numbers.{told_synced, told_stored, told_closed}
use Rattle.log_service.proofs.Numbers.{synced_low}

-- where all words were raised to what is told, each is at its number
pub has_seen : (n : ℕ) (k : Known) (b : Numbers) → ((i : ℕ) → i < 3 * n → get_or k.seen i 0 ≡ get_or (told_numbers n b) i 0) → HasSeen n k b
has_seen n k b raised = record {
  synced = λ r above within.
      let here : (r - 1) + 1 ≡ r = omega (arith, above) in
      raised (r - 1) (omega (arith, above, within)) ∙ (told_synced n b (r - 1) (omega (arith, above, within)) ∙ ap (λ (j : ℕ). get_or b.synced j 0) here);
  stored = λ r above within.
      let here : (n + r - 1 - n) + 1 ≡ r = omega (arith, above) in
      raised (n + r - 1) (omega (arith, above, within)) ∙ (told_stored n b (n + r - 1) (omega (arith, above)) (omega (arith, above, within)) ∙ ap (λ (j : ℕ). get_or b.stored j 0) here);
  closed = λ r above within.
      let here : (n + n + r - 1 - n - n) + 1 ≡ r = omega (arith, above) in
      raised (n + n + r - 1) (omega (arith, above, within)) ∙ (told_closed n b (n + n + r - 1) (omega (arith, above)) (omega (arith, above, within)) ∙ ap (λ (j : ℕ). get_or b.closed j 0) here);
}

-- the numbers that a device tells, all of which it has committed, are those that the chains popped come to
module _ (lasts : List ℕ) (n : ℕ) (b : Numbers) (chains : List (List Held)) (all : n ≡ length lasts) (synced : b.synced ≡ b.drawn)
    (drawn : (r : ℕ) → 0 < r → r ≤ length lasts → get_or b.drawn r 0 ≡ come_to (base_of lasts) (all_trucks chains) r) where
  pub saw_committed : (k : Known) → ((i : ℕ) → i < n → get_or k.seen i 0 ≡ get_or (told_numbers n b) i 0) → SawCommitted lasts k chains
  saw_committed k raised r above within =
      let here : (r - 1) + 1 ≡ r = omega (arith, above) in
      raised (r - 1) (omega (arith, above, all, within)) ∙ (told_synced n b (r - 1) (omega (arith, above, all, within)) ∙ (ap (λ (j : ℕ). get_or b.synced j 0) here ∙ (ap (λ (l : List ℕ). get_or l r 0) synced ∙ drawn r above within)))

  pub sees_all : (k : Known) → HasSeen n k b → SawCommitted lasts k chains
  sees_all k seen r above within = seen.synced r above (omega (arith, all, within)) ∙ (ap (λ (l : List ℕ). get_or l r 0) synced ∙ drawn r above within)

-- where all was closed, the closed words are at or above the synced ones that were told
pub closed_over : (n m : ℕ) → n ≡ m → (k : Known) (b : Numbers) (old : List ℕ) → NoMore old (told_numbers n b) → HasSeen m k b → b.closed ≡ b.synced → (r : ℕ) → 0 < r → r ≤ m → get_or old (r - 1) 0 ≤ seen_closed m k r
closed_over n m same k b old low seen closed r above within =
    omega (arith, synced_low n b old r low above (omega (arith, within, same)), seen.closed r above within, ap (λ (l : List ℕ). get_or l r 0) closed)
