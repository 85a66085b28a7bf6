-- What a filter keeps.
use Rattle.std.proofs.Common.{◌≡◌, inl, inr, Bool, true, cond, List, [], ◌∷◌, filter, Contains, sym, ap, ◌∙◌, subst}
use Rattle.std.proofs.lemmas.Bool.{cases_Bool}
use Rattle.log_ledger.proofs.Chains.{none_at, at_first, at_later, at_either}

module _ {A : Type 0} (p : A → Bool) where
  pub in_filter : (xs : List A) (x : A) → Contains (filter p xs) x → Contains xs x × (p x ≡ true)
  in_filter [] x has = absurd (none_at x has)
  in_filter (y ∷ ys) x has = elim (cases_Bool (p y)) as (λ _. Contains (y ∷ ys) x × (p x ≡ true)) [
    | inl is ↦ elim (at_either y (filter p ys) x (subst (λ (l : List A). Contains l x) (ap (λ (b : Bool). cond b (y ∷ filter p ys) (filter p ys)) is) has)) as (λ _. Contains (y ∷ ys) x × (p x ≡ true)) [
      | inl here ↦ (subst (λ (z : A). Contains (y ∷ ys) z) here (at_first y ys), subst (λ (z : A). p z ≡ true) here is)
      | inr later ↦ (let r = in_filter ys x later in (at_later y ys x r.0, r.1))
    ]
    | inr not ↦ (let r = in_filter ys x (subst (λ (l : List A). Contains l x) (ap (λ (b : Bool). cond b (y ∷ filter p ys) (filter p ys)) not) has) in (at_later y ys x r.0, r.1))
  ]

  pub to_filter : (xs : List A) (x : A) → Contains xs x → p x ≡ true → Contains (filter p xs) x
  to_filter [] x has is = absurd (none_at x has)
  to_filter (y ∷ ys) x has is = elim (at_either y ys x has) as (λ _. Contains (filter p (y ∷ ys)) x) [
    | inl here ↦ subst (λ (l : List A). Contains l x) (sym (ap (λ (b : Bool). cond b (y ∷ filter p ys) (filter p ys)) (ap p here ∙ is))) (subst (λ (z : A). Contains (y ∷ filter p ys) z) here (at_first y (filter p ys)))
    | inr later ↦ elim (cases_Bool (p y)) as (λ _. Contains (filter p (y ∷ ys)) x) [
      | inl this ↦ subst (λ (l : List A). Contains l x) (sym (ap (λ (b : Bool). cond b (y ∷ filter p ys) (filter p ys)) this)) (at_later y (filter p ys) x (to_filter ys x later is))
      | inr not ↦ subst (λ (l : List A). Contains l x) (sym (ap (λ (b : Bool). cond b (y ∷ filter p ys) (filter p ys)) not)) (to_filter ys x later is)
    ]
  ]
