-- The calls of a script stand by handler and then number, and its flushes are listed.
use Rattle.std.proofs.Common.{◌≡◌, ℕ, zero, suc, ◌+◌, ◌≤◌, Bool, true, false, List, [], ◌∷◌, map, filter, All, Contains, AllPairs, cond, refl, sym, ap, ◌∙◌, subst, arith, inl, inr, true≢false}
use Rattle.std.proofs.lemmas.Bool.{eq-eqb, ne_eqb, cases_eq}
use Rattle.std.proofs.lemmas.List.Elements.{Contains-append_cases}
use Rattle.region_model.specs.Journal.{Caller}
use Rattle.region_model.specs.Calls.{Call, Put, Scan, Flush, Roll, IsFlushOf, Reply}
use Rattle.region_model.specs.Lawful.{InOrder}
use Rattle.script_model.specs.Calls.{Script, Asked, asked_of, asked_from, asked, asked_by, IsAmong}
use Rattle.server_model.specs.Closing.{Pairs}
use Rattle.server_model.proofs.JournalLaws.{pairs_all, pairs_append, filter_has, filter_kept}
use Rattle.run_model.specs.Closed.{is_flush_of, caller_of, flushes_in, Before, AreCallsOn}
use Rattle.run_model.proofs.Lists.{mapped, map_contains, pairs_through}

no_member : {A : Type 0} (x : A) → Contains [] x → ⊥
no_member x is = omega (arith, is.1)

of_handler : (h n : ℕ) (calls : List Call) (a : Asked) → Contains (asked_of h n calls) a → (a.handler ≡ h) × (n ≤ a.number)
of_handler h n [] a is = absurd (no_member a is)
of_handler h n (c ∷ cs) a (zero, lt, e) = (sym (ap (λ (x : Asked). x.handler) e), omega (arith, ap (λ (x : Asked). x.number) e))
of_handler h n (c ∷ cs) a (suc k, lt, e) = let m = of_handler h (n + 1) cs a (k, omega (arith, lt), e) in (m.0, omega (arith, m.1))

one_handler : (h n : ℕ) (calls : List Call) → Pairs Before (asked_of h n calls)
one_handler h n [] = tt
one_handler h n (c ∷ cs) = ((λ b is. let m = of_handler h (n + 1) cs b is in inr (sym m.0, omega (arith, m.1))), one_handler h (n + 1) cs)

from_handler : (h : ℕ) (lists : List (List Call)) (a : Asked) → Contains (asked_from h lists) a → h ≤ a.handler
from_handler h [] a is = absurd (no_member a is)
from_handler h (cs ∷ css) a is = elim (Contains-append_cases (asked_of h 1 cs) (asked_from (h + 1) css) a is) [
  | inl here ↦ omega (arith, (of_handler h 1 cs a here).0)
  | inr later ↦ omega (arith, from_handler (h + 1) css a later)
]

all_handlers : (h : ℕ) (lists : List (List Call)) → Pairs Before (asked_from h lists)
all_handlers h [] = tt
all_handlers h (cs ∷ css) = pairs_append Before (asked_of h 1 cs) (asked_from (h + 1) css) (one_handler h 1 cs) (all_handlers (h + 1) css)
    (λ a b is it. inl (omega (arith, (of_handler h 1 cs a is).0, from_handler (h + 1) css b it)))

-- replies to calls in order are in order
pub ordered_replies : (asks : List Asked) (replies : List Reply) → map asked_by replies ≡ asks → Pairs Before asks → AllPairs InOrder replies
ordered_replies asks replies calls order = pairs_all InOrder replies (pairs_through asked_by Before replies (subst (Pairs Before) (sym calls) order))

-- all calls of a script
pub whole_script : (script : Script) → AreCallsOn (λ r. Unit {0}) script (asked script)
whole_script script = record { part = λ a is. is; order = all_handlers 1 script.handlers; flushes = λ a r on is flush. is }

-- replies to a script's calls are in order
pub replies_order : (script : Script) (replies : List Reply) → map asked_by replies ≡ asked script → AllPairs InOrder replies
replies_order script replies calls = ordered_replies (asked script) replies calls (whole_script script).order

-- ---- flushes

flush_is : (r : ℕ) (call : Call) → is_flush_of r call ≡ true → IsFlushOf r call
flush_is r (Flush region family) is = elim (cases_eq region r) [ inl same ↦ same | inr other ↦ absurd (true≢false (sym is ∙ ne_eqb region r other)) ]
flush_is r (Put region sync batch) is = absurd (true≢false (sym is))
flush_is r (Scan view region from to) is = absurd (true≢false (sym is))
flush_is r Roll is = absurd (true≢false (sym is))

is_flush : (r : ℕ) (call : Call) → IsFlushOf r call → is_flush_of r call ≡ true
is_flush r (Flush region family) is = eq-eqb region r is
is_flush r (Put region sync batch) is = absurd is
is_flush r (Scan view region from to) is = absurd is
is_flush r Roll is = absurd is

-- a call that is a flush is listed
pub flush_listed : (script : Script) (r : ℕ) (a : Asked) → Contains (asked script) a → IsFlushOf r a.call → Contains (flushes_in r script) (caller_of a)
flush_listed script r a is call = map_contains caller_of (filter (λ (x : Asked). is_flush_of r x.call) (asked script)) a (filter_has (λ (x : Asked). is_flush_of r x.call) (asked script) a is (is_flush r a.call call))

filter_true : {A : Type 0} (p : A → Bool) (xs : List A) (x : A) → Contains (filter p xs) x → p x ≡ true
filter_true p [] x is = absurd (no_member x is)
filter_true {A} p (y ∷ ys) x is = go (p y) refl (filter_true p ys x) is
  where
    first : p y ≡ true → (Contains (filter p ys) x → p x ≡ true) → Contains (y ∷ filter p ys) x → p x ≡ true
    first e rest (zero, lt, s) = subst (λ z. p z ≡ true) s e
    first e rest (suc k, lt, s) = rest (k, omega (arith, lt), s)

    go : (b : Bool) → p y ≡ b → (Contains (filter p ys) x → p x ≡ true) → Contains (cond (p y) (y ∷ filter p ys) (filter p ys)) x → p x ≡ true
    go true e rest is' = first e rest (subst (λ b. Contains (cond b (y ∷ filter p ys) (filter p ys)) x) e is')
    go false e rest is' = rest (subst (λ b. Contains (cond b (y ∷ filter p ys) (filter p ys)) x) e is')

-- what is listed is a flush that was asked for, so it has a reply
pub listed_reply : {on : ℕ → Type 0} (script : Script) (asks : List Asked) (replies : List Reply) (r : ℕ) (c : Caller) → AreCallsOn on script asks → on r → map asked_by replies ≡ asks → Contains (flushes_in r script) c
    → (x : Reply) × Contains replies x × (x.handler ≡ c.handler) × (x.number ≡ c.call) × IsFlushOf r x.call
listed_reply script asks replies r c these here calls is =
    let a = mapped caller_of (filter (λ (x : Asked). is_flush_of r x.call) (asked script)) c is in
    let member = filter_kept (λ (x : Asked). is_flush_of r x.call) (asked script) a.0 a.1 in
    let flush = flush_is r a.0.call (filter_true (λ (x : Asked). is_flush_of r x.call) (asked script) a.0 a.1) in
    let x = mapped asked_by replies a.0 (subst (λ l. Contains l a.0) (sym calls) (these.flushes a.0 r here member flush)) in (
      x.0,
      x.1,
      ap (λ (y : Asked). y.handler) x.2 ∙ ap (λ (d : Caller). d.handler) a.2,
      ap (λ (y : Asked). y.number) x.2 ∙ ap (λ (d : Caller). d.call) a.2,
      subst (IsFlushOf r) (sym (ap (λ (y : Asked). y.call) x.2)) flush,
    )

-- ---- regions

among_of : (n h k : ℕ) (calls : List Call) → All (IsAmong n) calls → (a : Asked) → Contains (asked_of h k calls) a → IsAmong n a.call
among_of n h k [] all a is = absurd (no_member a is)
among_of n h k (c ∷ cs) all a (zero, lt, e) = subst (IsAmong n) (ap (λ (x : Asked). x.call) e) (all 0 c (omega arith))
among_of n h k (c ∷ cs) all a (suc j, lt, e) = among_of n h (k + 1) cs (λ i d low. all (suc i) d (omega (arith, low))) a (j, omega (arith, lt), e)

among_from : (n h : ℕ) (lists : List (List Call)) → All (All (IsAmong n)) lists → (a : Asked) → Contains (asked_from h lists) a → IsAmong n a.call
among_from n h [] all a is = absurd (no_member a is)
among_from n h (cs ∷ css) all a is = elim (Contains-append_cases (asked_of h 1 cs) (asked_from (h + 1) css) a is) [
  | inl here ↦ among_of n h 1 cs (all 0 cs (omega arith)) a here
  | inr later ↦ among_from n (h + 1) css (λ i d low. all (suc i) d (omega (arith, low))) a later
]

-- a call of the script is on one of its regions
pub asked_among : (script : Script) (a : Asked) → All (All (IsAmong script.regions)) script.handlers → Contains (asked script) a → IsAmong script.regions a.call
asked_among script a all is = among_from script.regions 1 script.handlers all a is
