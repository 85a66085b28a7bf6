-- The greatest of some numbers, and of one more.
use Rattle.std.proofs.Common.{◌≡◌, ◌⊎◌, inl, inr, ℕ, ◌≤◌, ◌<◌, max, sym, subst, arith, ◌∙◌}
use Rattle.std.proofs.lemmas.Bool.{cases_lt}
use Rattle.log_model.specs.Recovered.{IsGreatest}

max_left : (a b : ℕ) → b < a → max a b ≡ a
max_left a b lt = omega arith

max_right : (a b : ℕ) → a ≤ b → max a b ≡ b
max_right a b le = omega arith

module _ (P Q : ℕ → Type 0) (old : ℕ) (is : IsGreatest P old) (kept : (n : ℕ) → P n → Q n) where
  pub greatest_more : (to : ℕ) → Q to → ((n : ℕ) → Q n → P n ⊎ (n ≡ to)) → IsGreatest Q (max old to)
  greatest_more to one back = record {
    reached = elim (cases_lt to old) as (λ _. Q (max old to) ⊎ (max old to ≡ 0)) [
      | inl less ↦ elim is.reached as (λ _. Q (max old to) ⊎ (max old to ≡ 0)) [
        | inl had ↦ inl (subst Q (sym (max_left old to less)) (kept old had))
        | inr zero ↦ inr (max_left old to less ∙ zero)
      ]
      | inr not ↦ inl (subst Q (sym (max_right old to not)) one)
    ];
    bound = λ m has. elim (back m has) as (λ _. m ≤ max old to) [
      | inl had ↦ (let low = is.bound m had in omega (arith, low))
      | inr same ↦ omega (arith, same)
    ];
  }

  pub greatest_same : ((n : ℕ) → Q n → P n) → IsGreatest Q old
  greatest_same back = record {
    reached = elim is.reached as (λ _. Q old ⊎ (old ≡ 0)) [ inl had ↦ inl (kept old had) | inr zero ↦ inr zero ];
    bound = λ m has. is.bound m (back m has);
  }
