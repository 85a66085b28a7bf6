-- Entries that were sorted are in order.
use Rattle.std.proofs.Common.{◌≡◌, ◌≢◌, ◌⊎◌, inl, inr, ℕ, ◌<◌, false, List, get_or, refl, sym, ap, ◌∙◌, subst}
use Rattle.std.specs.declared.cmp.Ordering.{Ordering}
use Rattle.std.specs.declared.cmp.Ordering.TheVariants.{Less, Equal, Greater}
use Rattle.std.specs.Ordering.{nat_cmp, is_lt, ordering_then, MatchOrdering}
use Rattle.std.specs.Cmp.{IsTotalOrder}
use Rattle.std.specs.List.Sorted.{IsSortedBy}
use Rattle.std.proofs.lemmas.Cmp.{ranked, nat_cmp_total, on_total, then_total}
use Rattle.std.proofs.lemmas.List.Sorted.{sorted_far, ranks_by}
use Rattle.log_model.specs.declared.name.Name.{Name}
use Rattle.log_model.specs.declared.name.NameKind.{NameKind}
use Rattle.log_model.specs.declared.name.NameKind.TheVariants.{Log, Old, Store, Edits}
use Rattle.log_model.specs.Files.{name_cmp}
use Rattle.log_model.proofs.NameLaws.{name_cmp_total}
use Rattle.log_model.specs.contracts.name.NameOrd.TheImpl.{cmp-value}
use Rattle.found_files.specs.declared.found.FoundEntry.{FoundEntry}
use Rattle.found_files.specs.Sorted.{IsUpTo, AreOrdered}

-- the derived order of names is that of the definitions
abbrev pub order : Name → Name → Ordering
order = cmp-value.it

abbrev made : NameKind → ℕ → ℕ → Name
made k r n = record { kind = k; region = r; number = n }

parts_order : (k j : NameKind) (r s n m : ℕ) → order (made k r n) (made j s m) ≡ name_cmp (made k r n) (made j s m)
parts_order Log Log r s n m = refl
parts_order Log Old r s n m = refl
parts_order Log Store r s n m = refl
parts_order Log Edits r s n m = refl
parts_order Old Log r s n m = refl
parts_order Old Old r s n m = refl
parts_order Old Store r s n m = refl
parts_order Old Edits r s n m = refl
parts_order Store Log r s n m = refl
parts_order Store Old r s n m = refl
parts_order Store Store r s n m = refl
parts_order Store Edits r s n m = refl
parts_order Edits Log r s n m = refl
parts_order Edits Old r s n m = refl
parts_order Edits Store r s n m = refl
parts_order Edits Edits r s n m = refl

pub order_same : order ≡ name_cmp
order_same = λ i a b. parts_order a.kind b.kind a.region b.region a.number b.number i

abbrev pub Ranked : ℕ → ℕ → Type 0
Ranked a b = ((a < b) × (nat_cmp a b ≡ Less)) ⊎ (((a ≡ b) × (nat_cmp a b ≡ Equal)) ⊎ ((b < a) × (nat_cmp a b ≡ Greater)))

of_rank : (a b : ℕ) (r : Ordering) → r ≡ nat_cmp a b → MatchOrdering r (a < b) (a ≡ b) (b < a) → Ranked a b
of_rank a b Less is m = inl (m, sym is)
of_rank a b Equal is m = inr (inl (m, sym is))
of_rank a b Greater is m = inr (inr (m, sym is))

pub rank_cases : (a b : ℕ) → Ranked a b
rank_cases a b = of_rank a b (nat_cmp a b) refl (ranked a b (nat_cmp a b) refl)

abbrev pub place_cmp : (Name → Name → Ordering) → FoundEntry → FoundEntry → Ordering
place_cmp cmp x y = ordering_then (ordering_then (nat_cmp x.entry.region y.entry.region) (nat_cmp x.entry.number y.entry.number)) (cmp x.name y.name)

place_total : IsTotalOrder (place_cmp name_cmp)
place_total = then_total (then_total (on_total (λ (x : FoundEntry). x.entry.region) nat_cmp_total) (on_total (λ (x : FoundEntry). x.entry.number) nat_cmp_total)) (on_total (λ (x : FoundEntry). x.name) name_cmp_total)

up_to : (x y : FoundEntry) → is_lt (place_cmp name_cmp y x) ≡ false → IsUpTo x y
up_to x y not = elim (rank_cases y.entry.region x.entry.region) as (λ _. IsUpTo x y) [
  | inl less ↦ absurd (cc (sym (ap (λ (o : Ordering). is_lt (ordering_then (ordering_then o (nat_cmp y.entry.number x.entry.number)) (name_cmp y.name x.name))) less.1) ∙ not))
  | inr (inl same) ↦
      let here : is_lt (ordering_then (nat_cmp y.entry.number x.entry.number) (name_cmp y.name x.name)) ≡ false = sym (ap (λ (o : Ordering). is_lt (ordering_then (ordering_then o (nat_cmp y.entry.number x.entry.number)) (name_cmp y.name x.name))) same.1) ∙ not in
      inr (
        sym same.0,
        elim (rank_cases y.entry.number x.entry.number) as (λ _. (x.entry.number < y.entry.number) ⊎ ((x.entry.number ≡ y.entry.number) × (name_cmp y.name x.name ≢ Less))) [
          | inl less ↦ absurd (cc (sym (ap (λ (o : Ordering). is_lt (ordering_then o (name_cmp y.name x.name))) less.1) ∙ here))
          | inr (inl one) ↦
              let last : is_lt (name_cmp y.name x.name) ≡ false = sym (ap (λ (o : Ordering). is_lt (ordering_then o (name_cmp y.name x.name))) one.1) ∙ here in
              inr (sym one.0, λ is. absurd (cc (sym (ap is_lt is) ∙ last)))
          | inr (inr more) ↦ inl more.0
        ],
      )
  | inr (inr more) ↦ inl more.0
]

pub in_order : (xs : List FoundEntry) → IsSortedBy (λ x y. is_lt (place_cmp order x y)) xs → AreOrdered xs
in_order xs sorted i j d le lt =
    let by_name : IsSortedBy (λ x y. is_lt (place_cmp name_cmp x y)) xs = subst (λ (cmp : Name → Name → Ordering). IsSortedBy (λ x y. is_lt (place_cmp cmp x y)) xs) order_same sorted in
    up_to (get_or xs i d) (get_or xs j d) (sorted_far (λ x y. is_lt (place_cmp name_cmp x y)) (ranks_by place_total (λ x. x)) xs by_name i j d le lt)
