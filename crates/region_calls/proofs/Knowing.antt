-- What a pass knows of all regions, where one of its hands was used.
use Rattle.std.proofs.Common.{◌≡◌, ◌≢◌, inl, inr, ℕ, zero, suc, ◌+◌, ◌-◌, ◌<◌, ◌≤◌, List, [], ◌∷◌, ◌++◌, length, set, Option, Some, None, slice_get, Contains, refl, sym, ap, subst, arith}
use Rattle.pass_calls.proofs.region_lock_laws.Lists.{get_set, length_set}
use Rattle.log_berth.specs.Words.{NoMore}
use Rattle.pass_calls.specs.log_service.declared.seats.LogSeat.{LogSeat}
use Rattle.pass_calls.specs.log_service.declared.tally.PutTally.{PutTally}
use Rattle.region_model.specs.Journal.{Edit}
use Rattle.region_model.specs.Lines.{Line, edit_in, edits_in}
use Rattle.server_model.specs.Pass.{Known, IsLaterOf, IsQuiet}
use Rattle.server_model.proofs.JournalLaws.{prefix_here}
use Rattle.pass_calls.specs.region_lock.declared.pass.RegionPass.{RegionPass}
use Rattle.pass_calls.specs.region_lock.declared.naming.LockNaming.{Ghosts}
use Rattle.pass_calls.specs.region_lock.Parts.{AreCalledBelow}
use Rattle.pass_calls.specs.region_lock.Passes.{known_of}
use Rattle.region_calls.specs.Passes.{known_at, known_in, tally_at, tally_in, IsHandOf, AreHandsOf}

get_other : {A : Type 0} → (xs : List A) (k j : ℕ) (y : A) → j ≢ k → slice_get (set xs k y) j ≡ slice_get xs j
get_other [] k j y ne = refl
get_other (x ∷ xs) zero zero y ne = absurd (ne refl)
get_other (x ∷ xs) zero (suc j) y ne = refl
get_other (x ∷ xs) (suc k) zero y ne = refl
get_other (x ∷ xs) (suc k) (suc j) y ne = get_other xs k j y (λ e. ne (ap suc e))

get_here : {A : Type 0} → (xs : List A) (k : ℕ) (y : A) → k < length xs → slice_get (set xs k y) k ≡ Some y
get_here [] k y low = absurd (omega (arith, low))
get_here (x ∷ xs) zero y low = refl
get_here (x ∷ xs) (suc k) y low = get_here xs k y (omega (arith, low))

pub below_more : (m n : ℕ) (xs : List Line) → m ≤ n → AreCalledBelow m xs → AreCalledBelow n xs
below_more m n xs le a x has = let low = a x has in omega (arith, low, le)

module _ {N : Type 0} {g : Ghosts N} where
  -- with a seat that has seen more the pass knows no less of a region, and the same of its own
  seat_later : (n : ℕ) (o : Option (RegionPass N g)) (seat seat' : LogSeat) → NoMore seat.device.knows.seen seat'.device.knows.seen
      → IsLaterOf (known_at n seat o) (known_at n seat' o) × IsQuiet (known_at n seat o) (known_at n seat' o)
  seat_later n None seat seat' more = (record { shown = prefix_here []; synced = omega arith; stored = omega arith; closed = omega arith }, record { own = refl; spent = refl })
  seat_later n (Some p) seat seat' more = (
    record {
      shown = prefix_here (edits_in p.viewer.region p.viewer.lines);
      synced = more (p.viewer.region - 1);
      stored = more (n + p.viewer.region - 1);
      closed = more (n + n + p.viewer.region - 1);
    },
    record { own = refl; spent = refl },
  )

  pub all_later : (ps : List (RegionPass N g)) (seat seat' : LogSeat) → NoMore seat.device.knows.seen seat'.device.knows.seen → (s : ℕ)
      → IsLaterOf (known_in ps seat s) (known_in ps seat' s) × IsQuiet (known_in ps seat s) (known_in ps seat' s)
  all_later ps seat seat' more zero = seat_later 0 None seat seat' more
  all_later ps seat seat' more (suc k) = seat_later (length ps) (slice_get ps k) seat seat' more

  pub others_later : (ps : List (RegionPass N g)) (k : ℕ) (p : RegionPass N g) (seat seat' : LogSeat) → NoMore seat.device.knows.seen seat'.device.knows.seen → (s : ℕ) → s ≢ suc k
      → IsLaterOf (known_in ps seat s) (known_in (set ps k p) seat' s) × IsQuiet (known_in ps seat s) (known_in (set ps k p) seat' s)
  others_later ps k p seat seat' more zero ne = seat_later 0 None seat seat' more
  others_later ps k p seat seat' more (suc j) ne =
      let same : known_in (set ps k p) seat' (suc j) ≡ known_in ps seat' (suc j) = λ i. known_at (length_set ps k p i) seat' (get_other ps k j p (λ e. ne (ap suc e)) i) in
      subst (λ (w : Known). IsLaterOf (known_in ps seat (suc j)) w × IsQuiet (known_in ps seat (suc j)) w) (sym same) (seat_later (length ps) (slice_get ps j) seat seat' more)

  pub known_here : (ps : List (RegionPass N g)) (k : ℕ) (p : RegionPass N g) (seat : LogSeat) → k < length ps → known_in (set ps k p) seat (suc k) ≡ known_of (length ps) p seat
  known_here ps k p seat low = λ i. known_at (length_set ps k p i) seat (get_here ps k p low i)

  pub tally_was : (ps : List (RegionPass N g)) (k : ℕ) (p : RegionPass N g) → slice_get ps k ≡ Some p → tally_in ps (suc k) ≡ p.tally
  tally_was ps k p at = ap tally_at at

  pub tally_here : (ps : List (RegionPass N g)) (k : ℕ) (p : RegionPass N g) → k < length ps → tally_in (set ps k p) (suc k) ≡ p.tally
  tally_here ps k p low = ap tally_at (get_here ps k p low)

  pub tally_other : (ps : List (RegionPass N g)) (k : ℕ) (p : RegionPass N g) (s : ℕ) → s ≢ suc k → tally_in (set ps k p) s ≡ tally_in ps s
  tally_other ps k p zero ne = refl
  tally_other ps k p (suc j) ne = ap tally_at (get_other ps k j p (λ e. ne (ap suc e)))

  pub hands_set : (h calls more : ℕ) (ps : List (RegionPass N g)) (k : ℕ) (p : RegionPass N g) → AreHandsOf h calls ps → calls ≤ more → IsHandOf h more (k + 1) p → AreHandsOf h more (set ps k p)
  hands_set h calls more ps k p all le one j q at = elim (get_set ps k j p q at) as (λ _. IsHandOf h more (j + 1) q) [
    | inl (here, same) ↦ subst (λ (t : RegionPass N g). IsHandOf h more (j + 1) t) same (subst (λ n. IsHandOf h more (n + 1) p) (sym here) one)
    | inr (other, was) ↦
        let old = all j q was in
        record { region = old.region; number = old.number; mark = old.mark; called = below_more (calls + 1) (more + 1) q.hand.record.list (omega (arith, le)) old.called }
  ]

cons_head : {A : Type 0} → (x y : A) (xs ys : List A) → x ∷ xs ≡ y ∷ ys → x ≡ y
cons_head x y xs ys e = cc e

cons_tail : {A : Type 0} → (x y : A) (xs ys : List A) → x ∷ xs ≡ y ∷ ys → xs ≡ ys
cons_tail x y xs ys e = cc e

all_called : (r m : ℕ) (ys : List Line) (extra : List Edit) → edits_in r ys ≡ extra → ((e : Edit) → Contains extra e → e.caller.call < m) → AreCalledBelow m ys
all_called r m [] extra is low y (k, within, at) = absurd (omega (arith, within))
all_called r m (z ∷ zs) [] is low y has = absurd (cc is)
all_called r m (z ∷ zs) (e ∷ es) is low y (zero, within, at) =
    let head = cons_head (edit_in r z) e (edits_in r zs) es is in
    let one = low e (0, omega arith, refl) in
    omega (arith, one, ap (λ (t : Edit). t.caller.call) head, ap (λ (t : Line). t.caller.call) at)
all_called r m (z ∷ zs) (e ∷ es) is low y (suc k, within, at) =
    all_called r m zs es (cons_tail (edit_in r z) e (edits_in r zs) es is) (λ t has. low t (suc has.0, omega (arith, has.1), has.2)) y (k, omega (arith, within), at)

-- lines whose edits are those before with some more, each called below m
pub called_more : (r m : ℕ) (xs ys : List Line) (extra : List Edit) → edits_in r ys ≡ edits_in r xs ++ extra → AreCalledBelow m xs → ((e : Edit) → Contains extra e → e.caller.call < m) → AreCalledBelow m ys
called_more r m [] ys extra is a low y has = all_called r m ys extra is low y has
called_more r m (x ∷ xs) [] extra is a low y (k, within, at) = absurd (omega (arith, within))
called_more r m (x ∷ xs) (z ∷ zs) extra is a low y (zero, within, at) =
    let head = cons_head (edit_in r z) (edit_in r x) (edits_in r zs) (edits_in r xs ++ extra) is in
    let one = a x (0, omega arith, refl) in
    omega (arith, one, ap (λ (t : Edit). t.caller.call) head, ap (λ (t : Line). t.caller.call) at)
called_more r m (x ∷ xs) (z ∷ zs) extra is a low y (suc k, within, at) =
    called_more r m xs zs extra (cons_tail (edit_in r z) (edit_in r x) (edits_in r zs) (edits_in r xs ++ extra) is) (λ t has. a t (suc has.0, omega (arith, has.1), has.2)) low y (k, omega (arith, within), at)
