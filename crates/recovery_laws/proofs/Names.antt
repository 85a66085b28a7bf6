-- Names that are the same or not.
use Rattle.std.proofs.Common.{◌≡◌, ◌≢◌, ◌⊎◌, ◌==◌, if◌then◌else◌, inl, inr, ℕ, refl, sym, ap, ◌∙◌, arith}
use Rattle.std.proofs.lemmas.Bool.{cases_eq}
use Rattle.log_model.specs.declared.name.Name.{Name}
use Rattle.log_model.specs.declared.name.NameKind.{NameKind}
use Rattle.log_model.specs.declared.name.NameKind.TheVariants as kinds
use Rattle.log_model.specs.Files.{rank_of, HoldsEntries}

of_rank : ℕ → NameKind
of_rank n = if n == 0 then kinds.Log else (if n == 1 then kinds.Old else (if n == 2 then kinds.Store else kinds.Edits))

of_rank-rank_of : (k : NameKind) → of_rank (rank_of k) ≡ k
unfolding of_rank
of_rank-rank_of kinds.Log = refl
of_rank-rank_of kinds.Old = refl
of_rank-rank_of kinds.Store = refl
of_rank-rank_of kinds.Edits = refl

same_kind : (a b : NameKind) → rank_of a ≡ rank_of b → a ≡ b
same_kind a b is = sym (of_rank-rank_of a) ∙ ap of_rank is ∙ of_rank-rank_of b

pub name_cases : (a b : Name) → (a ≡ b) ⊎ (a ≢ b)
name_cases a b =
    elim (cases_eq (rank_of a.kind) (rank_of b.kind)) as (λ _. (a ≡ b) ⊎ (a ≢ b)) [
      | inl k ↦ elim (cases_eq a.region b.region) as (λ _. (a ≡ b) ⊎ (a ≢ b)) [
        | inl r ↦ elim (cases_eq a.number b.number) as (λ _. (a ≡ b) ⊎ (a ≢ b)) [
          | inl n ↦ inl (λ i. record { kind = same_kind a.kind b.kind k i; region = r i; number = n i })
          | inr other ↦ inr (λ is. other (ap (λ (m : Name). m.number) is))
        ]
        | inr other ↦ inr (λ is. other (ap (λ (m : Name). m.region) is))
      ]
      | inr other ↦ inr (λ is. other (ap (λ (m : Name). rank_of m.kind) is))
    ]

-- a store isn't a file of entries
pub store_apart : (n name : Name) → n.kind ≡ kinds.Store → HoldsEntries name.kind → n ≢ name
store_apart n name store holds is =
    elim holds as (λ _. ⊥) [
      | inl log ↦ let h : 2 ≡ 0 = sym (ap rank_of store) ∙ ap (λ (m : Name). rank_of m.kind) is ∙ ap rank_of log in absurd (omega (arith, h))
      | inr edits ↦ let h : 2 ≡ 3 = sym (ap rank_of store) ∙ ap (λ (m : Name). rank_of m.kind) is ∙ ap rank_of edits in absurd (omega (arith, h))
    ]

-- an old log isn't a file of entries, nor a store
pub entries_no_old : (k : NameKind) → HoldsEntries k → k ≢ kinds.Old
entries_no_old k holds is = elim holds as (λ _. ⊥) [
  | inl log ↦ let h : 0 ≡ 1 = sym (ap rank_of log) ∙ ap rank_of is in absurd (omega (arith, h))
  | inr edits ↦ let h : 3 ≡ 1 = sym (ap rank_of edits) ∙ ap rank_of is in absurd (omega (arith, h))
]

pub store_no_old : (k : NameKind) → k ≡ kinds.Store → k ≢ kinds.Old
store_no_old k store is = let h : 2 ≡ 1 = sym (ap rank_of store) ∙ ap rank_of is in absurd (omega (arith, h))
