-- Calls by their handlers, a call at a time.
use Rattle.std.proofs.Common.{◌≡◌, ◌≢◌, ℕ, zero, suc, ◌+◌, ◌-◌, ◌^◌, ◌<◌, ◌≤◌, Bool, true, false, List, [], ◌∷◌, ◌++◌, length, replicate, get_or, map, All, refl, sym, ap, subst, ◌∙◌, arith, add-one, append_assoc, append-nil, ◌==◌}
use Rattle.std.proofs.Math.ListN.{set, length-set}
use Rattle.std.proofs.lemmas.Bool.{ne_eqb, eq-eqb}
use Rattle.region_model.specs.Calls.{Call}
use Rattle.std.proofs.lemmas.List.Elements.{All-nil, All-cons, All-head, All-tail, All-weaker}
use Rattle.script_model.specs.Calls.{calls_of, by_handler, IsScript, IsAmong}
use Rattle.script_lines.specs.Spoken.{IsCallOf}
use Rattle.script_text.specs.Grouping.{IsOfHandler}
use Rattle.script_text.specs.State.{handler_call}
use Rattle.script_text.specs.declared.state.HandlerCall.{HandlerCall}

-- the lists with this call after those of its handler
abbrev pub added : List (List Call) → ℕ × Call → List (List Call)
added lists c = set lists (c.0 - 1) (get_or lists (c.0 - 1) [] ++ c.1 ∷ [])

-- the lists with these calls after those of their handlers
abbrev pub added_all : List (List Call) → List (ℕ × Call) → List (List Call)
added_all lists [] = lists
added_all lists (c ∷ cs) = added_all (added lists c) cs

calls_of_same : (h : ℕ) (call : Call) (cs : List (ℕ × Call)) → calls_of h (cs ++ (h, call) ∷ []) ≡ calls_of h cs ++ call ∷ []
calls_of_same h call [] = rw (eq-eqb h h refl) refl
calls_of_same h call (c ∷ cs) = by (c.0 == h) refl (calls_of_same h call cs)
  where
    by : (t : Bool) → (c.0 == h) ≡ t → calls_of h (cs ++ (h, call) ∷ []) ≡ calls_of h cs ++ call ∷ [] → calls_of h ((c ∷ cs) ++ (h, call) ∷ []) ≡ calls_of h (c ∷ cs) ++ call ∷ []
    by true e rest = rw (e, rest) refl
    by false e rest = rw (e, rest) refl

calls_of_other : (h k : ℕ) (call : Call) (cs : List (ℕ × Call)) → h ≢ k → calls_of k (cs ++ (h, call) ∷ []) ≡ calls_of k cs
calls_of_other h k call [] ne = rw (ne_eqb h k ne) refl
calls_of_other h k call (c ∷ cs) ne = by (c.0 == k) refl (calls_of_other h k call cs ne)
  where
    by : (t : Bool) → (c.0 == k) ≡ t → calls_of k (cs ++ (h, call) ∷ []) ≡ calls_of k cs → calls_of k ((c ∷ cs) ++ (h, call) ∷ []) ≡ calls_of k (c ∷ cs)
    by true e rest = rw (e, rest) refl
    by false e rest = rw (e, rest) refl

-- a call of an earlier handler is in none of these
by_handler_below : (n k h : ℕ) (call : Call) (cs : List (ℕ × Call)) → h < k → by_handler n k (cs ++ (h, call) ∷ []) ≡ by_handler n k cs
by_handler_below zero k h call cs lt = refl
by_handler_below (suc n) k h call cs lt =
    let ne : h ≢ k = omega arith in
    (λ i. calls_of_other h k call cs ne i ∷ by_handler_below n (k + 1) h call cs (omega arith) i)

by_handler_more : (n k i : ℕ) (call : Call) (cs : List (ℕ × Call)) → i < n
    → by_handler n k (cs ++ (k + i, call) ∷ []) ≡ set (by_handler n k cs) i (get_or (by_handler n k cs) i [] ++ call ∷ [])
by_handler_more zero k i call cs lt = absurd omega arith
by_handler_more (suc n) k zero call cs lt =
    let here : k + 0 ≡ k = omega arith in
    rw here (λ i. calls_of_same k call cs i ∷ by_handler_below n (k + 1) k call cs (omega arith) i)
by_handler_more (suc n) k (suc i) call cs lt =
    let ne : k + suc i ≢ k = omega arith in
    let next : k + suc i ≡ k + 1 + i = omega arith in
    (λ j. calls_of_other (k + suc i) k call cs ne j ∷ (ap (λ (h : ℕ). by_handler n (k + 1) (cs ++ (h, call) ∷ [])) next ∙ by_handler_more n (k + 1) i call cs (omega arith)) j)

pub by_handler_added : (n : ℕ) (c : ℕ × Call) (cs : List (ℕ × Call)) → 1 ≤ c.0 → c.0 ≤ n → by_handler n 1 (cs ++ c ∷ []) ≡ added (by_handler n 1 cs) c
by_handler_added n c cs given within =
    let at : c.0 ≡ 1 + (c.0 - 1) = omega arith in
    ap (λ (h : ℕ). by_handler n 1 (cs ++ (h, c.1) ∷ [])) at ∙ by_handler_more n 1 (c.0 - 1) c.1 cs (omega arith)

by_handler_none : (n k : ℕ) → by_handler n k [] ≡ replicate n []
by_handler_none zero k = refl
by_handler_none (suc n) k = ap (λ (css : List (List Call)). [] ∷ css) (by_handler_none n (k + 1))

-- a list without calls more
pub replicate_more : {X : Type 0} (n : ℕ) (x : X) → replicate n x ++ x ∷ [] ≡ replicate (n + 1) x
replicate_more zero x = refl
replicate_more {X = X} (suc n) x = rw add-one (ap (λ (xs : List X). x ∷ xs) (replicate_more n x ∙ ap (λ (m : ℕ). replicate m x) (add-one n)))

by_handler_all : (n : ℕ) (ds cs : List (ℕ × Call)) → All (IsOfHandler n) cs → added_all (by_handler n 1 ds) cs ≡ by_handler n 1 (ds ++ cs)
by_handler_all n ds [] each = ap (by_handler n 1) (sym (append-nil ds))
by_handler_all n ds (c ∷ cs) each =
    let one : IsOfHandler n c = All-head (IsOfHandler n) c cs each in
    ap (λ (lists : List (List Call)). added_all lists cs) (sym (by_handler_added n c ds one.0 one.1))
    ∙ by_handler_all n (ds ++ c ∷ []) cs (All-tail (IsOfHandler n) c cs each)
    ∙ ap (by_handler n 1) (append_assoc ds (c ∷ []) cs)

-- calls added to lists without one
pub grouped : (n : ℕ) (cs : List (ℕ × Call)) → All (IsOfHandler n) cs → added_all (replicate n []) cs ≡ by_handler n 1 cs
grouped n cs each = ap (λ (lists : List (List Call)). added_all lists cs) (sym (by_handler_none n 1)) ∙ by_handler_all n [] cs each

pub length-added : (lists : List (List Call)) (c : ℕ × Call) → length (added lists c) ≡ length lists
length-added lists c = simp length-set

-- the first of what is left, and the rest
pub first_is : (n : ℕ) (was rest : List HandlerCall) (one : HandlerCall) → was ≡ one ∷ rest → All (IsOfHandler n) (map handler_call was) → IsOfHandler n (handler_call one)
first_is n was rest one e each = All-head (IsOfHandler n) (handler_call one) (map handler_call rest) (subst (λ (xs : List HandlerCall). All (IsOfHandler n) (map handler_call xs)) e each)

pub rest_is : (n : ℕ) (was rest : List HandlerCall) (one : HandlerCall) → was ≡ one ∷ rest → All (IsOfHandler n) (map handler_call was) → All (IsOfHandler n) (map handler_call rest)
rest_is n was rest one e each = All-tail (IsOfHandler n) (handler_call one) (map handler_call rest) (subst (λ (xs : List HandlerCall). All (IsOfHandler n) (map handler_call xs)) e each)

pub still_left : (lists new all : List (List Call)) (was rest : List HandlerCall) (one : HandlerCall) → was ≡ one ∷ rest → new ≡ added lists (handler_call one)
    → added_all lists (map handler_call was) ≡ all → added_all new (map handler_call rest) ≡ all
still_left lists new all was rest one e step told =
    ap (λ (l : List (List Call)). added_all l (map handler_call rest)) step ∙ ap (λ (xs : List HandlerCall). added_all lists (map handler_call xs)) (sym e) ∙ told

pub none_left : (lists first : List (List Call)) (left calls : List HandlerCall) (n : ℕ) → length left ≡ 0 → first ≡ replicate n [] → All (IsOfHandler n) (map handler_call calls)
    → added_all lists (map handler_call left) ≡ added_all first (map handler_call calls) → lists ≡ by_handler n 1 (map handler_call calls)
none_left lists first [] calls n none e each told = told ∙ ap (λ (l : List (List Call)). added_all l (map handler_call calls)) e ∙ grouped n (map handler_call calls) each
none_left lists first (one ∷ left) calls n none e each told = absurd omega arith

-- what holds of each call holds of each by its handler
among_calls : (P : Call → Type 0) (h : ℕ) (cs : List (ℕ × Call)) → All (λ c. P c.1) cs → All P (calls_of h cs)
among_calls P h [] each = All-nil P
among_calls P h (c ∷ cs) each = by (c.0 == h) refl (among_calls P h cs (All-tail (λ x. P x.1) c cs each))
  where
    by : (t : Bool) → (c.0 == h) ≡ t → All P (calls_of h cs) → All P (calls_of h (c ∷ cs))
    by true e rest = rw e (All-cons P c.1 (calls_of h cs) (All-head (λ x. P x.1) c cs each) rest)
    by false e rest = rw e rest

pub among : (P : Call → Type 0) (n k : ℕ) (cs : List (ℕ × Call)) → All (λ c. P c.1) cs → All (All P) (by_handler n k cs)
among P zero k cs each = All-nil (All P)
among P (suc n) k cs each = All-cons (All P) (calls_of k cs) (by_handler n (k + 1) cs) (among_calls P k cs each) (among P n (k + 1) cs each)

-- a handler has no more calls than all have
length-calls_of : (h : ℕ) (cs : List (ℕ × Call)) → length (calls_of h cs) ≤ length cs
length-calls_of h [] = omega arith
length-calls_of h (c ∷ cs) = by (c.0 == h) refl (length-calls_of h cs)
  where
    by : (t : Bool) → (c.0 == h) ≡ t → length (calls_of h cs) ≤ length cs → length (calls_of h (c ∷ cs)) ≤ length (c ∷ cs)
    by true e rest = rw e (omega (arith, rest))
    by false e rest = rw e (omega (arith, rest))

few : (most n k : ℕ) (cs : List (ℕ × Call)) → length cs ≤ most → All (λ calls. length calls ≤ most) (by_handler n k cs)
few most zero k cs le = All-nil (λ (calls : List Call). length calls ≤ most)
few most (suc n) k cs le =
    All-cons (λ (calls : List Call). length calls ≤ most) (calls_of k cs) (by_handler n (k + 1) cs) (omega (arith, le, length-calls_of k cs)) (few most n (k + 1) cs le)

pub length-by_handler : (n k : ℕ) (cs : List (ℕ × Call)) → length (by_handler n k cs) ≡ n
length-by_handler zero k cs = refl
length-by_handler (suc n) k cs = ap suc (length-by_handler n (k + 1) cs)

pub in_limits : (time regions handlers : ℕ) (lists : List (List Call)) (cs : List (ℕ × Call)) → time < 2 ^ 63 - 1 → (1 ≤ regions) × (regions ≤ 64) → (1 ≤ handlers) × (handlers ≤ 16)
    → All (λ c. IsCallOf handlers regions c.0 c.1) cs → length cs ≤ 16777216 → lists ≡ by_handler handlers 1 cs → IsScript (record { time = time; regions = regions; handlers = lists })
in_limits time regions handlers lists cs below within some each short e =
    let count : length lists ≡ handlers = ap length e ∙ length-by_handler handlers 1 cs in
    record {
      time_below = below;
      some_region = within.0;
      regions_below = within.1;
      some_handler = omega (arith, count, some.0);
      handlers_below = omega (arith, count, some.1);
      calls_among = subst (All (All (IsAmong regions))) (sym e) (among (IsAmong regions) handlers 1 cs (All-weaker (λ c. IsCallOf handlers regions c.0 c.1) (λ c. IsAmong regions c.1) (λ c h. h.2) cs each));
      calls_few = subst (All (λ calls. length calls ≤ 16777216)) (sym e) (few 16777216 handlers 1 cs short);
    }
