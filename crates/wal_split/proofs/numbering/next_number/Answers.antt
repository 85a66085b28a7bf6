use Rattle.std.proofs.Common.{◌≡◌, ◌≢◌, ◌⊎◌, inl, inr, ◌+◌, ◌≤◌, ◌^◌, ◌∙◌, List, Contains, take, get_or, sym, ap, subst, arith}
use Rattle.std.proofs.lemmas.List.{take_more, take_all}
use Rattle.std.proofs.lemmas.List.Elements.{Contains-get_or, Contains-push_cases}
use Rattle.log_model.specs.declared.name.Name.{Name}
use Rattle.log_model.specs.declared.name.NameKind.TheVariants as kinds
use Rattle.wal_split.proofs.numbering.next_number.Goals as goal

abbrev some_name : Name
some_name = record { kind = kinds.Log; region = 0; number = 0 }

pub loop-name-preserved : goal.loop-name-preserved
loop-name-preserved c =
    let names = c.args.names.now in
    let i = c.loop-name.name-index in
    let this : Name = get_or names i some_name in
    let small : this.number ≤ 2 ^ 62 = c.requires this (Contains-get_or names i some_name c.loop-name-test.true) in
    record {
      above = λ m has other. elim (Contains-push_cases (take i names) this m (subst (λ (l : List Name). Contains l m) (take_more names i some_name c.loop-name-test.true) has)) as (λ _. m.number ≤ c.greater-greatest.result) [
        | inl before ↦ (let h = c.loop-name.invariant.above m before other in omega (arith, h, c.greater-greatest.ensures.left))
        | inr is ↦ (let h : c.counted.result ≡ this.number = c.counted.ensures.other (λ store. other (sym (ap (λ (n : Name). n.kind) is) ∙ store)) in let k : this.number ≡ m.number = ap (λ (n : Name). n.number) is in omega (arith, h, k, c.greater-greatest.ensures.right))
      ];
      low = elim c.greater-greatest.ensures.one as (λ _. c.greater-greatest.result ≤ 2 ^ 62) [ inl is ↦ omega (arith, is, c.loop-name.invariant.low) | inr is ↦ omega (arith, is, c.counted.ensures.low, small) ];
      one = elim c.greater-greatest.ensures.one as (λ _. (c.greater-greatest.result ≡ 0) ⊎ ((m : Name) × Contains names m × (m.kind ≢ kinds.Store) × (c.greater-greatest.result ≡ m.number))) [
        | inl is ↦ elim c.loop-name.invariant.one as (λ _. (c.greater-greatest.result ≡ 0) ⊎ ((m : Name) × Contains names m × (m.kind ≢ kinds.Store) × (c.greater-greatest.result ≡ m.number))) [
          | inl zero ↦ inl (is ∙ zero)
          | inr (m, has, other, same) ↦ inr (m, has, other, is ∙ same)
        ]
        | inr is ↦ elim c.counted.ensures.one as (λ _. (c.greater-greatest.result ≡ 0) ⊎ ((m : Name) × Contains names m × (m.kind ≢ kinds.Store) × (c.greater-greatest.result ≡ m.number))) [
          | inl zero ↦ inl (is ∙ zero)
          | inr (other, same) ↦ inr (this, Contains-get_or names i some_name c.loop-name-test.true, other, is ∙ same)
        ]
      ];
    }

pub returns-clause-above : goal.returns-clause-above
returns-clause-above c m has other =
    let names = c.args.names.now in
    let h = c.loop-name.invariant.above m (subst (λ (l : List Name). Contains l m) (sym (take_all c.loop-name.name-index names (omega (arith, c.loop-name-test.false)))) has) other in
    omega (arith, h)

pub returns-clause-next : goal.returns-clause-next
returns-clause-next c = elim c.loop-name.invariant.one as (λ _. (c.loop-name.greatest + 1 ≡ 1) ⊎ ((m : Name) × Contains c.args.names.now m × (m.kind ≢ kinds.Store) × (c.loop-name.greatest + 1 ≡ m.number + 1))) [
  | inl zero ↦ inl (omega (arith, zero))
  | inr (m, has, other, same) ↦ inr (m, has, other, omega (arith, same))
]
