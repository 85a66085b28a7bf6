-- The calls and replies of one group.
use Rattle.std.proofs.Common.{◌≡◌, ℕ, zero, suc, ◌-◌, ◌≤◌, Bool, true, false, true≢false, List, [], ◌∷◌, ◌++◌, map, filter, Contains, cond, refl, sym, ap, ◌∙◌, subst, arith, inl, inr}
use Rattle.std.proofs.lemmas.Bool.{eq-eqb, ne_eqb, cases_eq, cases_Bool}
use Rattle.std.proofs.lemmas.List.Elements.{filter-append}
use Rattle.std.proofs.lemmas.Nat.{mod_below}
use Rattle.cell_model.specs.Batch.{Batch}
use Rattle.region_model.specs.Journal.{Base, Edit}
use Rattle.region_model.specs.Calls.{Call, Put, Scan, Flush, Roll, IsFlushOf, Reply}
use Rattle.region_model.specs.Crash.{Receipted, IsReceipted, Put_ok, Put_memory, Flushed}
use Rattle.region_model.specs.Lawful.{IsOn}
use Rattle.script_model.specs.Calls.{Script, asked, asked_by}
use Rattle.server_model.specs.Closing.{Pairs, replies_of}
use Rattle.server_model.proofs.JournalLaws.{filter_has, filter_kept}
use Rattle.serial_history.specs.History.{IsHistory}
use Rattle.run_model.specs.Closed.{AreCallsOn}
use Rattle.run_model.proofs.AskedLaws.{whole_script}
use Rattle.groups_model.specs.Groups.{group_of, group_for, IsGroup, is_on, replies_on, is_asked_on, asked_on}
use Rattle.groups_model.specs.Closed.{GroupHandled, all_replies, handled_on}

-- a region's group is one of them
pub group_there : (groups r : ℕ) → 1 ≤ groups → IsGroup groups (group_of groups r)
group_there groups r some = let below = mod_below (r - 1) groups (omega (arith, some)) in (omega arith, omega (arith, below))

filter_map_same : {A B : Type 0} (f : A → B) (p : B → Bool) (xs : List A) → map f (filter (λ x. p (f x)) xs) ≡ filter p (map f xs)
filter_map_same f p [] = refl
filter_map_same f p (x ∷ xs) =
    let rest = filter_map_same f p xs in
    elim (cases_Bool (p (f x))) [
      | inl e ↦ subst (λ b. map f (cond b (x ∷ filter (λ x. p (f x)) xs) (filter (λ x. p (f x)) xs)) ≡ cond b (f x ∷ filter p (map f xs)) (filter p (map f xs))) (sym e) (ap (λ l. f x ∷ l) rest)
      | inr e ↦ subst (λ b. map f (cond b (x ∷ filter (λ x. p (f x)) xs) (filter (λ x. p (f x)) xs)) ≡ cond b (f x ∷ filter p (map f xs)) (filter p (map f xs))) (sym e) rest
    ]

-- the calls of the replies on a group are those asked on it
pub calls_on : (groups k : ℕ) (replies : List Reply) → map asked_by (replies_on groups k replies) ≡ asked_on groups k (map asked_by replies)
calls_on groups k replies = filter_map_same asked_by (is_asked_on groups k) replies

-- all that one group's handlers were replied
pub replies_joined : (groups k : ℕ) (hs : List GroupHandled) → replies_of (map (handled_on groups k) hs) ≡ replies_on groups k (all_replies hs)
replies_joined groups k [] = refl
replies_joined groups k (h ∷ hs) = ap (λ l. replies_on groups k h.replies ++ l) (replies_joined groups k hs) ∙ sym (filter-append (is_on groups k) h.replies (all_replies hs))

pairs_filter : {A : Type 0} (R : A → A → Type 0) (p : A → Bool) (xs : List A) → Pairs R xs → Pairs R (filter p xs)
pairs_filter R p [] h = tt
pairs_filter R p (x ∷ xs) h =
    let rest = pairs_filter R p xs h.1 in
    elim (cases_Bool (p x)) [
      | inl e ↦ subst (λ b. Pairs R (cond b (x ∷ filter p xs) (filter p xs))) (sym e) ((λ y is. h.0 y (filter_kept p xs y is)), rest)
      | inr e ↦ subst (λ b. Pairs R (cond b (x ∷ filter p xs) (filter p xs))) (sym e) rest
    ]

-- the calls asked on a group are all that are on its regions
pub asked_of_group : (groups k : ℕ) (script : Script) → AreCallsOn (λ r. group_of groups r ≡ k) script (asked_on groups k (asked script))
asked_of_group groups k script = record {
  part = λ a is. filter_kept (is_asked_on groups k) (asked script) a is;
  order = pairs_filter _ (is_asked_on groups k) (asked script) (whole_script script).order;
  flushes = λ a r here is flush. filter_has (is_asked_on groups k) (asked script) a is (eq-eqb (group_for groups a.handler a.call) k (at r a.handler a.call here flush));
}
  where
    at : (r h : ℕ) (call : Call) → group_of groups r ≡ k → IsFlushOf r call → group_for groups h call ≡ k
    at r h (Flush s family) here same = ap (group_of groups) same ∙ here
    at r h _ here same = absurd same

on_group : (groups k r : ℕ) (y : Reply) → group_of groups r ≡ k → IsOn r y.call → is_on groups k y ≡ true
on_group groups k r y here on = eq-eqb (group_for groups y.handler y.call) k (at y.call on)
  where
    at : (call : Call) → IsOn r call → group_for groups y.handler call ≡ k
    at (Put s sync batch) same = ap (group_of groups) same ∙ here
    at (Scan view s from to) same = ap (group_of groups) same ∙ here
    at (Flush s family) same = ap (group_of groups) same ∙ here
    at Roll same = absurd same

-- a reply on a region is one on its group
pub reply_on : (groups k r : ℕ) (replies : List Reply) (y : Reply) → group_of groups r ≡ k → IsOn r y.call → Contains replies y → Contains (replies_on groups k replies) y
reply_on groups k r replies y here on is = filter_has (is_on groups k) replies y is (on_group groups k r y here on)

-- what was receipted of a region was so on its group
pub receipted_on : (groups k r n : ℕ) (replies : List Reply) → group_of groups r ≡ k → Receipted r n replies → Receipted r n (replies_on groups k replies)
receipted_on groups k r n replies here (y, is, receipt) = (y, reply_on groups k r replies y here (on receipt) is, receipt)
  where
    flush_on : (call : Call) → IsFlushOf r call → IsOn r call
    flush_on (Flush s family) same = same
    flush_on _ same = absurd same

    on : IsReceipted r n y → IsOn r y.call
    on (Put_ok batch call answer) = subst (IsOn r) (sym call) refl
    on (Put_memory batch call answer) = subst (IsOn r) (sym call) refl
    on (Flushed call answer) = flush_on y.call call

-- a history of the replies on a region's group is one of all replies
pub history_on : (groups k r : ℕ) (base : Base) (edits : List Edit) (replies history : List Reply) → group_of groups r ≡ k → IsHistory r base edits (replies_on groups k replies) history → IsHistory r base edits replies history
history_on groups k r base edits replies history here h = record {
  runs = h.runs;
  from = λ y is. (filter_kept (is_on groups k) replies y (h.from y is).0, (h.from y is).1);
  whole = λ y is has. h.whole y (reply_on groups k r replies y here has.on is) has;
  once = h.once;
  in_order = h.in_order;
  puts_in_order = h.puts_in_order;
}

-- a put that one group's server replied is on one of its regions
pub put_on : (groups k r : ℕ) (replies : List Reply) (y : Reply) (sync : Bool) (batch : Batch) → Contains (replies_on groups k replies) y → y.call ≡ Put r sync batch → group_of groups r ≡ k
put_on groups k r replies y sync batch is put = elim (cases_eq (group_for groups y.handler y.call) k) [
  | inl same ↦ sym (ap (group_for groups y.handler) put) ∙ same
  | inr other ↦ absurd (true≢false (sym (filter_true (is_on groups k) replies y is) ∙ ne_eqb (group_for groups y.handler y.call) k other))
]
  where
    no_member : {A : Type 0} (x : A) → Contains [] x → ⊥
    no_member x is = omega (arith, is.1)

    filter_true : {A : Type 0} (p : A → Bool) (xs : List A) (x : A) → Contains (filter p xs) x → p x ≡ true
    filter_true p [] x is = absurd (no_member x is)
    filter_true {A} p (y ∷ ys) x is = go (p y) refl (filter_true p ys x) is
      where
        first : p y ≡ true → (Contains (filter p ys) x → p x ≡ true) → Contains (y ∷ filter p ys) x → p x ≡ true
        first e rest (zero, lt, s) = subst (λ z. p z ≡ true) s e
        first e rest (suc k, lt, s) = rest (k, omega (arith, lt), s)

        go : (b : Bool) → p y ≡ b → (Contains (filter p ys) x → p x ≡ true) → Contains (cond (p y) (y ∷ filter p ys) (filter p ys)) x → p x ≡ true
        go true e rest is' = first e rest (subst (λ b. Contains (cond b (y ∷ filter p ys) (filter p ys)) x) e is')
        go false e rest is' = rest (subst (λ b. Contains (cond b (y ∷ filter p ys) (filter p ys)) x) e is')
