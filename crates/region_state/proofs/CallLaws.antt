-- One more call, for the tests.
use Rattle.std.proofs.Common.{◌≡◌, ℕ, zero, suc, ◌+◌, ◌<◌, ◌≤◌, ◌==◌, Bool, true, false, cond, List, [], ◌∷◌, ◌++◌, length, get_or, refl, sym, subst, arith}
use Rattle.std.proofs.lemmas.List.Elements.{Contains-push}
use Rattle.region_model.specs.Journal.{Caller, Outcome, Pending}
use Rattle.region_model.specs.Lines.{Line, IsNextCall, IsPending, with_outcome}
use Rattle.region_state.specs.Calls.{AreBelow}

at_below : (call : ℕ) (xs : List Line) (k : ℕ) (d : Line) → AreBelow call xs → k < length xs → (get_or xs k d).caller.call < call
at_below call [] k d all lt = absurd (omega arith)
at_below call (x ∷ xs) zero d all lt = all.0
at_below call (x ∷ xs) (suc k) d all lt = at_below call xs k d all.1 (omega arith)

pub next_call : (caller : Caller) (xs : List Line) → AreBelow caller.call xs → IsNextCall caller xs
next_call caller xs all x c same = subst (λ (y : Line). y.caller.call < caller.call) c.2 (at_below caller.call xs c.0 x all c.1)

below_push : (call next : ℕ) (xs : List Line) (x : Line) → call ≤ next → x.caller.call < next → AreBelow call xs → AreBelow next (xs ++ x ∷ [])
below_push call next [] x le lt all = (lt, tt)
below_push call next (y ∷ xs) x le lt all = let under : y.caller.call < call = all.0 in (omega arith, below_push call next xs x le lt all.1)

ended_call : (b : Bool) (x y : Line) → x.caller ≡ y.caller → (cond b y x).caller ≡ x.caller
ended_call true x y e = sym e
ended_call false x y e = refl

below_ended : (call n : ℕ) (o : Outcome) (xs : List Line) → AreBelow call xs → AreBelow call (with_outcome n o xs)
below_ended call n o [] all = tt
below_ended call n o (x ∷ xs) all =
    (subst (λ (c : Caller). c.call < call) (sym (ended_call (x.number == n) x (record x { outcome = o }) refl)) all.0, below_ended call n o xs all.1)

-- a line is begun and ends
pub below_put : (call next n : ℕ) (o : Outcome) (xs : List Line) (x : Line) → call ≤ next → x.caller.call < next → AreBelow call xs → AreBelow next (with_outcome n o (xs ++ x ∷ []))
below_put call next n o xs x le lt all = below_ended next n o (xs ++ x ∷ []) (below_push call next xs x le lt all)

pub pending_put : (xs : List Line) (x : Line) (n : ℕ) → x.number ≡ n → x.outcome ≡ Pending → IsPending (xs ++ x ∷ []) n
pending_put xs x n number outcome = (x, Contains-push xs x, number, outcome)
