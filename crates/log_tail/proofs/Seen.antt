-- What was seen among names, and one more.
use Rattle.std.proofs.Common.{◌≡◌, ◌≢◌, ◌⊎◌, inl, inr, ◌↔◌, ℕ, ◌<◌, ◌==◌, ◌||◌, Bool, false, IsTrue, List, [], ◌∷◌, ◌++◌, Contains, sym, ap, ◌∙◌, subst, arith}
use Rattle.std.specs.Prelude.{nat_lt}
use Rattle.std.proofs.Math.Bool.{or-true, true-or}
use Rattle.std.proofs.lemmas.Bool.{or_cases, eqb-true, eq-eqb, ltb-true, lt-ltb}
use Rattle.std.proofs.lemmas.List.Elements.{Contains-append_left, Contains-push, Contains-push_cases}
use Rattle.log_model.specs.declared.name.Name.{Name}
use Rattle.log_model.specs.declared.name.NameKind.{NameKind}
use Rattle.log_model.specs.declared.name.NameKind.TheVariants as kinds
use Rattle.log_tail.specs.declared.finding.Seen.{Seen}
use Rattle.log_tail.specs.Found.{HasName, HasHigherName, HasSeen}

none_in : (x : Name) → Contains [] x → ⊥
none_in x is = omega (arith, is.1)

pub none_seen : (number : ℕ) (seen : Seen) → seen.has_log ≡ false → seen.has_old ≡ false → seen.has_higher ≡ false → HasSeen [] number seen
none_seen number seen log old higher = record {
  log = ((λ is. absurd (cc (sym log ∙ is))), (λ has. absurd (none_in has.0 has.1)));
  old = ((λ is. absurd (cc (sym old ∙ is))), (λ has. absurd (none_in has.0 has.1)));
  higher = ((λ is. absurd (cc (sym higher ∙ is))), (λ has. absurd (none_in has.0 has.1)));
}

module _ (names : List Name) (m : Name) (number : ℕ) where
  named_before : (kind : NameKind) → HasName names kind number → HasName (names ++ m ∷ []) kind number
  named_before kind (n, has, k, is) = (n, Contains-append_left names (m ∷ []) n has, k, is)

  named_now : (kind : NameKind) → m.kind ≡ kind → m.number ≡ number → HasName (names ++ m ∷ []) kind number
  named_now kind k is = (m, Contains-push names m, k, is)

  named_cases : (kind : NameKind) → HasName (names ++ m ∷ []) kind number → HasName names kind number ⊎ ((m.kind ≡ kind) × (m.number ≡ number))
  named_cases kind (n, has, k, is) = elim (Contains-push_cases names m n has) as (λ _. HasName names kind number ⊎ ((m.kind ≡ kind) × (m.number ≡ number))) [
    | inl front ↦ inl (n, front, k, is)
    | inr same ↦ inr (ap (λ (x : Name). x.kind) same ∙ k, ap (λ (x : Name). x.number) same ∙ is)
  ]

  higher_before : HasHigherName names number → HasHigherName (names ++ m ∷ []) number
  higher_before (n, has, k, above) = (n, Contains-append_left names (m ∷ []) n has, k, above)

  higher_cases : HasHigherName (names ++ m ∷ []) number → HasHigherName names number ⊎ (((m.kind ≡ kinds.Log) ⊎ (m.kind ≡ kinds.Old)) × (number < m.number))
  higher_cases (n, has, k, above) = elim (Contains-push_cases names m n has) as (λ _. HasHigherName names number ⊎ (((m.kind ≡ kinds.Log) ⊎ (m.kind ≡ kinds.Old)) × (number < m.number))) [
    | inl front ↦ inl (n, front, k, above)
    | inr same ↦ inr (subst (λ (x : Name). (x.kind ≡ kinds.Log) ⊎ (x.kind ≡ kinds.Old)) (sym same) k, subst (λ (x : Name). number < x.number) (sym same) above)
  ]

  -- a name of another kind shows nothing of this one
  other_kind : (kind : NameKind) (b : Bool) → m.kind ≢ kind → IsTrue b ↔ HasName names kind number → IsTrue b ↔ HasName (names ++ m ∷ []) kind number
  other_kind kind b differs was = (
    (λ is. named_before kind (was.0 is)),
    (λ has. elim (named_cases kind has) as (λ _. IsTrue b) [ inl front ↦ was.1 front | inr this ↦ absurd (differs this.0) ]),
  )

  same_kind : (kind : NameKind) (b : Bool) → m.kind ≡ kind → IsTrue b ↔ HasName names kind number → IsTrue (b || m.number == number) ↔ HasName (names ++ m ∷ []) kind number
  same_kind kind b k was = (
    (λ is. elim (or_cases b (m.number == number) is) as (λ _. HasName (names ++ m ∷ []) kind number) [
      | inl before ↦ named_before kind (was.0 before)
      | inr now ↦ named_now kind k (eqb-true m.number number now)
    ]),
    (λ has. elim (named_cases kind has) as (λ _. IsTrue (b || m.number == number)) [
      | inl front ↦ ap (λ (x : Bool). x || m.number == number) (was.1 front) ∙ true-or (m.number == number)
      | inr this ↦ ap (λ (x : Bool). b || x) (eq-eqb m.number number this.1) ∙ or-true b
    ]),
  )

  log_or_old : (b : Bool) → (m.kind ≡ kinds.Log) ⊎ (m.kind ≡ kinds.Old) → IsTrue b ↔ HasHigherName names number → IsTrue (b || nat_lt number m.number) ↔ HasHigherName (names ++ m ∷ []) number
  log_or_old b k was = (
    (λ is. elim (or_cases b (nat_lt number m.number) is) as (λ _. HasHigherName (names ++ m ∷ []) number) [
      | inl before ↦ higher_before (was.0 before)
      | inr now ↦ (m, Contains-push names m, k, ltb-true number m.number now)
    ]),
    (λ has. elim (higher_cases has) as (λ _. IsTrue (b || nat_lt number m.number)) [
      | inl front ↦ ap (λ (x : Bool). x || nat_lt number m.number) (was.1 front) ∙ true-or (nat_lt number m.number)
      | inr this ↦ ap (λ (x : Bool). b || x) (lt-ltb number m.number this.1) ∙ or-true b
    ]),
  )

  neither_kind : (b : Bool) → m.kind ≢ kinds.Log → m.kind ≢ kinds.Old → IsTrue b ↔ HasHigherName names number → IsTrue b ↔ HasHigherName (names ++ m ∷ []) number
  neither_kind b log old was = (
    (λ is. higher_before (was.0 is)),
    (λ has. elim (higher_cases has) as (λ _. IsTrue b) [
      | inl front ↦ was.1 front
      | inr this ↦ elim this.0 as (λ _. IsTrue b) [ inl is ↦ absurd (log is) | inr is ↦ absurd (old is) ]
    ]),
  )

  module _ (seen : Seen) (was : HasSeen names number seen) where
    pub log_seen : (now : Seen) → m.kind ≡ kinds.Log → now.has_log ≡ (seen.has_log || m.number == number) → now.has_old ≡ seen.has_old → now.has_higher ≡ (seen.has_higher || nat_lt number m.number)
        → HasSeen (names ++ m ∷ []) number now
    log_seen now k log old higher = record {
      log = subst (λ (b : Bool). IsTrue b ↔ HasName (names ++ m ∷ []) kinds.Log number) (sym log) (same_kind kinds.Log seen.has_log k was.log);
      old = subst (λ (b : Bool). IsTrue b ↔ HasName (names ++ m ∷ []) kinds.Old number) (sym old) (other_kind kinds.Old seen.has_old (λ is. absurd (cc (sym k ∙ is))) was.old);
      higher = subst (λ (b : Bool). IsTrue b ↔ HasHigherName (names ++ m ∷ []) number) (sym higher) (log_or_old seen.has_higher (inl k) was.higher);
    }

    pub old_seen : (now : Seen) → m.kind ≡ kinds.Old → now.has_log ≡ seen.has_log → now.has_old ≡ (seen.has_old || m.number == number) → now.has_higher ≡ (seen.has_higher || nat_lt number m.number)
        → HasSeen (names ++ m ∷ []) number now
    old_seen now k log old higher = record {
      log = subst (λ (b : Bool). IsTrue b ↔ HasName (names ++ m ∷ []) kinds.Log number) (sym log) (other_kind kinds.Log seen.has_log (λ is. absurd (cc (sym k ∙ is))) was.log);
      old = subst (λ (b : Bool). IsTrue b ↔ HasName (names ++ m ∷ []) kinds.Old number) (sym old) (same_kind kinds.Old seen.has_old k was.old);
      higher = subst (λ (b : Bool). IsTrue b ↔ HasHigherName (names ++ m ∷ []) number) (sym higher) (log_or_old seen.has_higher (inr k) was.higher);
    }

    pub other_seen : m.kind ≢ kinds.Log → m.kind ≢ kinds.Old → HasSeen (names ++ m ∷ []) number seen
    other_seen log old = record {
      log = other_kind kinds.Log seen.has_log log was.log;
      old = other_kind kinds.Old seen.has_old old was.old;
      higher = neither_kind seen.has_higher log old was.higher;
    }
