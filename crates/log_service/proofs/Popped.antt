-- What is popped from both rings at the close.
use Rattle.std.proofs.Common.{◌≡◌, ◌-◌, ℕ, suc, List, [], ◌∷◌, ◌++◌, refl, sym, ap, ◌∙◌, subst, arith}
use Rattle.std.specs.Prelude.{Option, Some, None, slice_get, slice_set}
use Rattle.std.proofs.Props.{props}
use Rattle.std.proofs.Math.Logic.{∥∥₁_map, ∥∥₁_elim}
use Rattle.std.proofs.lemmas.List.{append-nil}
use Rattle.atomic_table.specs.Seated.{TableId}
use Rattle.append_ring.specs.declared.pass.RingKey.{RingKey}
use Rattle.crossbeam_queue.specs.Passes.{view}
use Rattle.append_ring.specs.Rules.{of}
use Rattle.append_ring.specs.Parts.{EachThere, AreNew, AreNewAfter}
use Rattle.log_trucks.specs.Held.{Held}
use Rattle.log_halves.specs.declared.item.Item.{Item}
use Rattle.log_halves.specs.Items.{appended, held_in}
use Rattle.log_halves.specs.Chains.{all_trucks}
use Rattle.log_halves.proofs.Committed.{of_all}

-- all that was pushed into the ring of chains was popped from it
pub chains_pushed : (pass first : RingKey (List Held)) (chains popped : List (List Held)) → pass ≡ first → pass.region ≡ 1 → popped ≡ chains → of (λ (_ : List Held). 1) pass.region popped ≡ (view pass.pass).pushed → chains ≡ (view first.pass).pushed
chains_pushed pass first chains popped is region same equal =
    sym same ∙ (sym (of_all popped) ∙ (ap (λ (r : ℕ). of (λ (_ : List Held). 1) r popped) (sym region) ∙ (equal ∙ ap (λ (p : RingKey (List Held)). (view p.pass).pushed) is)))

-- all that was popped from the ring of items went through the ring of chains
pub all_popped : (pushed chains : List (List Held)) (chain : List Held) (held : Option Item) (items : List Item) → all_trucks pushed ++ (chain ++ appended (held_in held)) ≡ appended items → chain ≡ [] → held ≡ None → chains ≡ pushed
    → all_trucks chains ≡ appended items
all_popped pushed chains chain held items tie empty none same =
    ap all_trucks same
    ∙ (sym (append-nil (all_trucks pushed))
    ∙ (ap (λ (p : List Held × Option Item). all_trucks pushed ++ (p.0 ++ appended (held_in p.1))) {x = ([], None)} {y = (chain, held)} (λ i. (sym empty i, sym none i)) ∙ tie))

module _ {T : Type 0} (id : TableId) (lasts : List ℕ) where
  named_prop : (p : RingKey T) → IsProp (p.pass.table_id ≡ id)
  named_prop p = hlevel props

  each_new : (k : ℕ) (places : List (Option (RingKey T))) → ∥ AreNew id lasts k places ∥₁ → EachThere (λ p. p.pass.table_id ≡ id) places
  each_new k [] new = tt
  each_new k (None ∷ places) new = absurd (∥∥₁_elim new (λ a b. absurd a) (λ n. n))
  each_new k (Some p ∷ places) new = (
    ∥∥₁_elim new (named_prop p) (λ n. n.0.0),
    each_new (suc k) places (∥∥₁_map new (λ n. subst (λ (j : ℕ). AreNew id lasts j places) (omega arith) n.1)),
  )

  -- the first pass is handed out
  pub idle_out : (places : List (Option (RingKey T))) → ∥ AreNewAfter id lasts 0 1 places ∥₁ → (rest : List (Option (RingKey T))) × (places ≡ None ∷ rest) × ∥ AreNew id lasts 1 rest ∥₁
  idle_out [] new = absurd (∥∥₁_elim new (λ a b. absurd a) (λ n. n))
  idle_out (Some p ∷ places) new = absurd (∥∥₁_elim new (λ a b. absurd a) (λ n. n))
  idle_out (None ∷ places) new = (places, refl, new)

  -- its place is empty
  pub idle_empty : (places : List (Option (RingKey T))) (pass : RingKey T) → ∥ AreNewAfter id lasts 0 1 places ∥₁ → pass.region ≡ 1 → slice_get places (pass.region - 1) ≡ Some None
  idle_empty places pass new first = let o = idle_out places new in λ i. slice_get (o.1 i) (first i - 1)

  -- the first pass is back in its place
  pub idle_back : (places : List (Option (RingKey T))) (pass : RingKey T) → ∥ AreNewAfter id lasts 0 1 places ∥₁ → pass.pass.table_id ≡ id → pass.region ≡ 1 → EachThere (λ p. p.pass.table_id ≡ id) (slice_set places (pass.region - 1) (Some pass))
  idle_back places pass new of first =
      let o = idle_out places new in
      subst (λ (q : List (Option (RingKey T)) × ℕ). EachThere (λ p. p.pass.table_id ≡ id) (slice_set q.0 q.1 (Some pass))) (λ i. (sym o.1 i, sym (ap (λ (r : ℕ). r - 1) first) i)) (of, each_new 1 o.0 o.2)

  -- what holds of all holds of that one
  pub idle_first : (is_so : RingKey T → Type 0) (places : List (Option (RingKey T))) (pass : RingKey T) → ∥ AreNewAfter id lasts 0 1 places ∥₁ → pass.region ≡ 1 → EachThere is_so (slice_set places (pass.region - 1) (Some pass)) → is_so pass
  idle_first is_so places pass new first all =
      let o = idle_out places new in
      (subst (λ (q : List (Option (RingKey T)) × ℕ). EachThere is_so (slice_set q.0 q.1 (Some pass))) {x = (places, pass.region - 1)} {y = (None ∷ o.0, 0)} (λ i. (o.1 i, ap (λ (r : ℕ). r - 1) first i)) all).0
