use Rattle.std.proofs.Common.{◌≡◌, ◌⊎◌, inl, inr, ◌+◌, ◌<◌, ◌≤◌, ◌^◌, ◌∙◌, List, Contains, take, get_or, sym, ap, subst, arith}
use Rattle.std.proofs.lemmas.List.{take_more, take_all}
use Rattle.std.proofs.lemmas.List.Elements.{Contains-get_or, Contains-push_cases}
use Rattle.log_model.specs.declared.name.Name.{Name}
use Rattle.log_model.specs.declared.name.NameKind.TheVariants as kinds
use Rattle.store_compact.proofs.numbering.number_above.Goals as goal

abbrev some_name : Name
some_name = record { kind = kinds.Log; region = 0; number = 0 }

pub loop-name-preserved : goal.loop-name-preserved
loop-name-preserved c =
    let names = c.args.names.now in
    let i = c.loop-name.name-index in
    let this : Name = get_or names i some_name in
    let next = c.in_ok-next.next in
    record {
      given = (let was = c.loop-name.invariant.given in let low = c.in_ok-next.ensures.low in omega (arith, was, low));
      above = λ m has store. elim (Contains-push_cases (take i names) this m (subst (λ (l : List Name). Contains l m) (take_more names i some_name c.loop-name-test.true) has)) as (λ _. m.number < next) [
        | inl before ↦ (let h = c.loop-name.invariant.above m before store in let low = c.in_ok-next.ensures.low in omega (arith, h, low))
        | inr is ↦ (let k : this.number ≡ m.number = ap (λ (n : Name). n.number) is in let h = c.in_ok-next.ensures.above (ap (λ (n : Name). n.kind) is ∙ store) in omega (arith, h, k))
      ];
      one = elim c.in_ok-next.ensures.one as (λ _. (next ≡ 1) ⊎ ((m : Name) × Contains names m × (m.kind ≡ kinds.Store) × (next ≡ m.number + 1))) [
        | inl same ↦ elim c.loop-name.invariant.one as (λ _. (next ≡ 1) ⊎ ((m : Name) × Contains names m × (m.kind ≡ kinds.Store) × (next ≡ m.number + 1))) [
          | inl first ↦ inl (same ∙ first)
          | inr (m, has, store, is) ↦ inr (m, has, store, same ∙ is)
        ]
        | inr (store, is) ↦ inr (this, Contains-get_or names i some_name c.loop-name-test.true, store, is)
      ];
    }

pub returns-clause-above : goal.returns-clause-above
returns-clause-above c = record {
  given = c.loop-name.invariant.given;
  above = λ m has store. c.loop-name.invariant.above m (subst (λ (l : List Name). Contains l m) (sym (take_all c.loop-name.name-index c.args.names.now (omega (arith, c.loop-name-test.false)))) has) store;
  least = λ k bound. elim c.loop-name.invariant.one as (λ _. c.loop-name.next ≤ k + 1) [
    | inl first ↦ omega (arith, first)
    | inr (m, has, store, is) ↦ (let low = bound m has store in omega (arith, low, is))
  ];
}
