-- Trucks are staged one after the other.
use Rattle.std.proofs.Common.{◌≡◌, ℕ, ◌<◌, List, [], ◌∷◌, ◌++◌, get_or, refl, sym, ap, subst, append_assoc}
use Rattle.log_model.specs.Entry.{Entry}
use Rattle.log_trucks.specs.Held.{Held, IsHeld, AreHeld}
use Rattle.log_ledger.specs.History.{History, staged_in}
use Rattle.log_ledger.specs.Numbers.{Numbers}
use Rattle.log_halves.specs.Trucks.{come_to, FollowOn}
use Rattle.log_halves.specs.Commits.{all_staged_in, AreServed}

pub come_same : (f h : ℕ → ℕ) → ((r : ℕ) → f r ≡ h r) → (ts : List Held) (r : ℕ) → come_to f ts r ≡ come_to h ts r
come_same f h same ts r = ap (λ (k : ℕ → ℕ). come_to k ts r) (λ i s. same s i)

pub follow_same : (n : ℕ) (f h : ℕ → ℕ) → ((r : ℕ) → f r ≡ h r) → (ts : List Held) → FollowOn n f ts → FollowOn n h ts
follow_same n f h same ts follow = subst (λ (k : ℕ → ℕ). FollowOn n k ts) (λ i s. same s i) follow

pub served_still : (a b : Numbers) → b.next_store ≡ a.next_store → (ts : List Held) → AreServed a ts → AreServed b ts
served_still a b same [] s = tt
served_still a b same (t ∷ ts) s = (subst (λ (l : List ℕ). 0 < get_or l t.region 0) (sym same) s.0, served_still a b same ts s.1)

-- one entry more
pub staged_more : (h : History) (ds : List Entry) (e : Entry) → staged_in (all_staged_in h ds) e ≡ all_staged_in h (ds ++ e ∷ [])
staged_more h ds e = ap (λ (l : List Entry). record { kept = record { base = h.kept.base; first = h.kept.first; durable = h.kept.durable; staged = l; flushed = h.kept.flushed }; logs = h.logs; current = h.current }) (append_assoc h.kept.staged ds (e ∷ []))

pub staged_none : (h : History) → all_staged_in h [] ≡ h
staged_none h = ap (λ (l : List Entry). record { kept = record { base = h.kept.base; first = h.kept.first; durable = h.kept.durable; staged = l; flushed = h.kept.flushed }; logs = h.logs; current = h.current }) (append-nil h.kept.staged)
  where
    append-nil : (xs : List Entry) → xs ++ [] ≡ xs
    append-nil [] = refl
    append-nil (x ∷ xs) = ap (λ (l : List Entry). x ∷ l) (append-nil xs)

pub held_none : (es : List Entry) → AreHeld [] es → es ≡ []
held_none [] held = refl
held_none (e ∷ es) held = absurd held

-- trucks that have entries: the first one has one
pub held_head : (t : Held) (ts : List Held) (es : List Entry) → AreHeld (t ∷ ts) es → (e : Entry) × (left : List Entry) × (es ≡ e ∷ left) × IsHeld t e × AreHeld ts left
held_head t ts [] held = absurd held
held_head t ts (e ∷ es) held = (e, es, refl, held.0, held.1)
