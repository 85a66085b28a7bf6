-- What calls on several servers do to their handler's passes.
use Rattle.std.proofs.Common.{◌≡◌, ◌≢◌, ℕ, zero, suc, ◌-◌, ◌<◌, ◌≤◌, max, Option, Some, None, List, Contains, refl, sym, ap, ◌∙◌, subst, arith, inl, inr}
use Rattle.std.proofs.Math.Nat.{le-max_left, le-max_right, max-le, mod-lt}
use Rattle.std.proofs.lemmas.Bool.{cases_eq}
use Rattle.region_model.specs.Calls.{Call, Put, Scan, Flush, Roll, Answer, IsFlushOf}
use Rattle.region_model.specs.Journal.{Caller}
use Rattle.server_model.specs.Pass.{Pass, Naming}
use Rattle.server_model.specs.Steps.{Step, Does}
use Rattle.groups_model.specs.Groups.{group_for, group_of, IsGroup}
use Rattle.script_calls.specs.Calls.{call_of}
use Rattle.script_calls.specs.declared.call.Call.{Call as ScriptCall}
use Rattle.script_model.specs.Calls.{IsAmong}
use Rattle.group_servers.specs.log_service.Places.{ServiceId}
use Rattle.group_servers.specs.region_lock.declared.naming.LockNaming.{Ghosts}
use Rattle.group_servers.specs.region_calls.declared.pass.Pass.{Pass as ServerPass}
use Rattle.group_servers.specs.region_calls.Passes.{knows}
use Rattle.group_servers.specs.Passes.{call_by, known_by, HasHandlerAt, IsPassAt}
use Rattle.group_calls.specs.declared.groups.GroupPass.{GroupPass}
use Rattle.group_calls.specs.Passes.{known, IsGroupPassOf, StayElsewhere}
use Rattle.group_calls.specs.Servers.{Servers, AreServers}
use Rattle.group_calls.specs.Serving.{GroupDoes, MayCallEach, most_calls}

-- ---- the greatest count of four

pub calls_at : (known : ℕ → Pass) (k : ℕ) → 1 ≤ k → k ≤ 4 → (known k).calls ≤ most_calls known
calls_at known zero low high = absurd (omega (arith, low))
calls_at known (suc zero) low high =
    omega (arith, le-max_left (known 1).calls (known 2).calls, le-max_left (max (known 1).calls (known 2).calls) (max (known 3).calls (known 4).calls))
calls_at known (suc (suc zero)) low high =
    omega (arith, le-max_right (known 1).calls (known 2).calls, le-max_left (max (known 1).calls (known 2).calls) (max (known 3).calls (known 4).calls))
calls_at known (suc (suc (suc zero))) low high =
    omega (arith, le-max_left (known 3).calls (known 4).calls, le-max_right (max (known 1).calls (known 2).calls) (max (known 3).calls (known 4).calls))
calls_at known (suc (suc (suc (suc zero)))) low high =
    omega (arith, le-max_right (known 3).calls (known 4).calls, le-max_right (max (known 1).calls (known 2).calls) (max (known 3).calls (known 4).calls))
calls_at known (suc (suc (suc (suc (suc n))))) low high = absurd (omega (arith, high))

pub calls_next : (known : ℕ → Pass) (k n : ℕ) → (1 ≤ k) × (k ≤ 4) → most_calls known < n → (known k).calls < n
calls_next known k n within below = omega (arith, calls_at known k within.0 within.1, below)

pub most_within : (known : ℕ → Pass) (n : ℕ) → ((k : ℕ) → (1 ≤ k) × (k ≤ 4) → (known k).calls ≤ n) → most_calls known ≤ n
most_within known n each = max-le (max-le (each 1 (omega arith, omega arith)) (each 2 (omega arith, omega arith))) (max-le (each 3 (omega arith, omega arith)) (each 4 (omega arith, omega arith)))

-- ---- one call

does_used : (name : Naming) (time : ℕ) (caller : Caller) (call : Call) (answer : Answer) (old new : Pass) → Does name time caller call answer old new
    → old.calls ≤ caller.call → new.calls ≤ caller.call
does_used name time caller (Put r sync batch) answer old new d low = omega (arith, d.used)
does_used name time caller (Scan view r from to) answer old new d low = omega (arith, d.used, low)
does_used name time caller (Flush r family) answer old new d low = omega (arith, d.used)
does_used name time caller Roll answer old new d low = omega (arith, d.used, low)

does_handler : (name : Naming) (time : ℕ) (caller : Caller) (call : Call) (answer : Answer) (old new : Pass) → Does name time caller call answer old new → new.handler ≡ old.handler
does_handler name time caller (Put r sync batch) answer old new d = d.later.handler
does_handler name time caller (Scan view r from to) answer old new d = d.later.handler
does_handler name time caller (Flush r family) answer old new d = d.later.handler
does_handler name time caller Roll answer old new d = d.later.handler

module _ (groups : ℕ) (names : ℕ → Naming) (time n : ℕ) (call : Call) (answer : Answer) (old new : ℕ → Pass) where
  abbrev by : Caller
  by = record { handler = (old 1).handler; call = n }

  -- as its group's server did it
  pub does_on : (k : ℕ) → k ≡ group_for groups (old 1).handler call → (old k).handler ≡ (old 1).handler
      → Does (names k) time (call_by (old k) n) call answer (old k) (new k) → StayElsewhere k old new → GroupDoes groups names time by call answer old new
  does_on k is same does stay = record {
    here = λ j e. subst (λ (i : ℕ). Step (names i) time (old i) (record { handler = (old 1).handler; number = n; call = call; answer = answer }) (new i)) (is ∙ sym e)
        (record { handler = sym same; does = subst (λ (h : ℕ). Does (names k) time (record { handler = h; call = n }) call answer (old k) (new k)) same does });
    elsewhere = λ j other. stay j (λ e. other (e ∙ is));
  }

  -- all passes keep their handler
  pub keeps_handler : GroupDoes groups names time by call answer old new → (k : ℕ) → (new k).handler ≡ (old k).handler
  keeps_handler does k = elim (cases_eq k (group_for groups (old 1).handler call)) [
    | inl same ↦ does_handler (names k) time by call answer (old k) (new k) (does.here k same).does
    | inr other ↦ ap (λ (p : Pass). p.handler) (does.elsewhere k other)
  ]

  -- and none is used for a later call
  pub keeps_calls : GroupDoes groups names time by call answer old new → most_calls old < n → most_calls new ≤ n
  keeps_calls does below = most_within new n each
    where
      each : (k : ℕ) → (1 ≤ k) × (k ≤ 4) → (new k).calls ≤ n
      each k within =
          let low = calls_next old k n within below in
          elim (cases_eq k (group_for groups (old 1).handler call)) [
            | inl same ↦ does_used (names k) time by call answer (old k) (new k) (does.here k same).does (omega (arith, low))
            | inr other ↦ omega (arith, low, ap (λ (p : Pass). p.calls) (does.elsewhere k other))
          ]

-- ---- on these servers

pub group_within : (groups r : ℕ) → 1 ≤ groups → IsGroup groups (group_of groups r)
group_within groups r some = (omega arith, omega (arith, mod-lt (r - 1) {m = groups} (omega (arith, some))))

-- the group on which a call is made is there
pub call_within : (groups h : ℕ) (call : Call) → 1 ≤ groups → IsGroup groups (group_for groups h call)
call_within groups h (Put r sync batch) some = group_within groups r some
call_within groups h (Scan view r from to) some = group_within groups r some
call_within groups h (Flush r family) some = group_within groups r some
call_within groups h Roll some = group_within groups h some

-- a server's pass is the handler's
of_handler : {N : Type 0} {g : Ghosts N} (place : Option ServiceId) (p : Option (ServerPass N g)) (h : ℕ) → place ≢ None → IsPassAt place p → HasHandlerAt h p
    → (known_by p).handler ≡ h
of_handler None p h there is same = absurd (there refl)
of_handler (Some place) None h there is same = absurd is
of_handler (Some place) (Some p) h there is same = same

module _ {N1 N2 N3 N4 : Type 0} {g1 : Ghosts N1} {g2 : Ghosts N2} {g3 : Ghosts N3} {g4 : Ghosts N4} (s : Servers) (are : AreServers s.count s.second s.third s.fourth)
    (old : GroupPass N1 N2 N3 N4 g1 g2 g3 g4) (of : IsGroupPassOf s old) where
  pub same_handler : (k : ℕ) → IsGroup s.count k → (known old k).handler ≡ (known old 1).handler
  same_handler zero within = absurd (omega (arith, within.0))
  same_handler (suc zero) within = refl
  same_handler (suc (suc zero)) within = of_handler s.second old.second (knows old.first).handler (are.second_there (omega (arith, within.1))) of.second of.second_same
  same_handler (suc (suc (suc zero))) within = of_handler s.third old.third (knows old.first).handler (are.third_there (omega (arith, within.1))) of.third of.third_same
  same_handler (suc (suc (suc (suc zero)))) within = of_handler s.fourth old.fourth (knows old.first).handler (are.fourth_there (omega (arith, within.1))) of.fourth of.fourth_same
  same_handler (suc (suc (suc (suc (suc n))))) within = absurd (omega (arith, within.1, are.some.1))

  -- the group on which a call is made is one of four
  pub one_of_four : (call : Call) → IsGroup 4 (group_for s.count (known old 1).handler call)
  one_of_four call = let w = call_within s.count (known old 1).handler call are.some.0 in (w.0, omega (arith, w.1, are.some.1))

  -- so a script's call that was made on its group's server was made on all of them
  pub serves : (names : ℕ → Naming) (time n : ℕ) (x : ScriptCall) (call : Call) → call_of x ≡ call → (told answer : Answer) → told ≡ answer → (new : ℕ → Pass) (k : ℕ)
      → k ≡ group_for s.count (known old 1).handler call → Does (names k) time (call_by (known old k) n) call answer (known old k) (new k) → StayElsewhere k (known old) new
      → GroupDoes s.count names time (record { handler = (known old 1).handler; call = n }) (call_of x) told (known old) new
  serves names time n x call means told answer said new k is does stay =
      let w = call_within s.count (known old 1).handler call are.some.0 in
      let all = does_on s.count names time n call answer (known old) new k is (same_handler k (omega (arith, w.0, is), omega (arith, w.1, is))) does stay in
      subst (λ (y : Call). GroupDoes s.count names time (record { handler = (known old 1).handler; call = n }) y told (known old) new) (sym means)
      (subst (λ (a : Answer). GroupDoes s.count names time (record { handler = (known old 1).handler; call = n }) call a (known old) new) (sym said) all)

-- a script's call may be made on each server
pub among : (names : ℕ → Naming) (h n : ℕ) (x : ScriptCall) (call : Call) → call_of x ≡ call → MayCallEach names h n (call_of x) → (k : ℕ) → IsAmong (names k).regions call
among names h n x call means may k = subst (λ (y : Call). IsAmong (names k).regions y) means (may.each k).among

-- and where it is a flush each server's name lists it
pub listed : (names : ℕ → Naming) (h n r : ℕ) (x : ScriptCall) (family : Option (List ℕ)) → call_of x ≡ Flush r family → MayCallEach names h n (call_of x) → (k : ℕ)
    → Contains ((names k).flushes r) (record { handler = h; call = n })
listed names h n r x family means may k = (may.each k).listed r (subst (IsFlushOf r) (sym means) refl)
