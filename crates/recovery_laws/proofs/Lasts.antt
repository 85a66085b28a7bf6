-- The last sequence ids of files.
use Rattle.std.proofs.Common.{◌≡◌, ◌⊎◌, ◌↔◌, inl, inr, ℕ, ◌≤◌, List, [], sym, ap, ◌∙◌, subst, arith}
use Rattle.std.proofs.lemmas.Bool.{cases_lt}
use Rattle.log_model.specs.Entry.{Entry}
use Rattle.log_model.specs.Files.{Files, IsLogged}
use Rattle.log_model.specs.Recovered.{IsSeen, IsLast}
use Rattle.recovery_laws.specs.Change.{last_of, LastsWith, Grown}
use Rattle.recovery_laws.specs.Kept.{Kept, lasts, AreRising, IsLike, IsOrderly}
use Rattle.recovery_laws.proofs.Rising.{last_is, lasts_no_less, below_lasts}
use Rattle.recovery_laws.proofs.Numbers.{one_last}

-- where all that one has seen is at or below what the other has seen, and back, the greatest is the same
pub same_last : (I J : Files) (r : ℕ) → ((m : ℕ) → IsSeen I r m → (n : ℕ) × IsSeen J r n × (m ≤ n)) → ((m : ℕ) → IsSeen J r m → (n : ℕ) × IsSeen I r n × (m ≤ n)) → (n : ℕ) → IsLast I r n ↔ IsLast J r n
same_last I J r there back n = (over I J there back, over J I back there)
  where
    over : (A B : Files) → ((m : ℕ) → IsSeen A r m → (k : ℕ) × IsSeen B r k × (m ≤ k)) → ((m : ℕ) → IsSeen B r m → (k : ℕ) × IsSeen A r k × (m ≤ k)) → IsLast A r n → IsLast B r n
    over A B to from last = record {
      reached = elim last.reached as (λ _. IsSeen B r n ⊎ (n ≡ 0)) [
        | inl seen ↦
            let up = to n seen in
            let down = from up.0 up.1 in
            inl (subst (IsSeen B r) (omega (arith, up.2, down.2, last.bound down.0 down.1)) up.1)
        | inr none ↦ inr none
      ];
      bound = λ m seen. let down = from m seen in omega (arith, down.2, last.bound down.0 down.1);
    }

-- files that log more go on to the last of it
pub grown_lasts : (I J : Files) (more : List Entry) (last : ℕ → ℕ) → Grown I J more → ((r : ℕ) → IsLast I r (last r)) → AreRising last more → (r : ℕ) → IsLast J r (lasts last more r)
grown_lasts I J more last g are rise r = record {
  reached = elim (last_is r (last r) more) as (λ _. IsSeen J r (lasts last more r) ⊎ (lasts last more r ≡ 0)) [
    | inl e ↦ inl (inr (e.0, (g.logged e.0).1 (inr e.1), e.2, e.3))
    | inr same ↦ elim (are r).reached as (λ _. IsSeen J r (lasts last more r) ⊎ (lasts last more r ≡ 0)) [
      | inl seen ↦ inl (subst (IsSeen J r) (sym same) (still (last r) seen))
      | inr none ↦ inr (same ∙ none)
    ]
  ];
  bound = bound;
}
  where
    still : (m : ℕ) → IsSeen I r m → IsSeen J r m
    still m (inl f) = inl (f.0, f.1, (g.counting r f.0 f.1).1 f.2, f.3)
    still m (inr (e, logged, region, number)) = inr (e, (g.logged e).1 (inl logged), region, number)

    bound : (m : ℕ) → IsSeen J r m → m ≤ lasts last more r
    bound m (inl f) = omega (arith, (are r).bound m (inl (f.0, f.1, (g.counting r f.0 f.1).0 f.2, f.3)), lasts_no_less last more r rise)
    bound m (inr (e, logged, region, number)) = elim ((g.logged e).0 logged) as (λ _. m ≤ lasts last more r) [
      | inl old ↦ omega (arith, (are r).bound m (inr (e, old, region, number)), lasts_no_less last more r rise)
      | inr new ↦ let at : lasts last more e.region ≡ lasts last more r = ap (lasts last more) region in omega (arith, below_lasts last more e rise new, number, at)
    ]

-- where these are the last ones before and after
pub lasts_with : (old new : Files) (more : List Entry) (last : ℕ → ℕ) → ((r : ℕ) → IsLast old r (last r)) → ((r : ℕ) → IsLast new r (lasts last more r)) → LastsWith old more new
lasts_with old new more last were are r n is = subst (λ (m : ℕ). IsLast new r (last_of r m more)) (one_last old r (last r) n (were r) is) (are r)

-- files that are like what is kept go up to the last durable entries
pub like_last : (k : Kept) (J : Files) → IsLike k J → IsOrderly k → (r : ℕ) → IsLast J r (lasts k.first k.durable r)
like_last k J like orderly r = record {
  reached = elim (last_is r (k.first r) k.durable) as (λ _. IsSeen J r (lasts k.first k.durable r) ⊎ (lasts k.first k.durable r ≡ 0)) [
    | inl e ↦ (let f = orderly.given e.0 e.1 in elim (cases_lt (k.flushed r f.0) e.0.number) as (λ _. IsSeen J r (lasts k.first k.durable r) ⊎ (lasts k.first k.durable r ≡ 0)) [
      | inl above ↦ inl (inr (e.0, like.sure e.0 f.0 e.1 f.1 (let at : k.flushed e.0.region f.0 ≡ k.flushed r f.0 = ap (λ (q : ℕ). k.flushed q f.0) e.2 in omega (arith, above, at)), e.2, e.3))
      | inr low ↦ flushed f.0 (omega (arith, low, e.3, orderly.low r f.0))
    ])
    | inr same ↦ flushed [] (omega (arith, same, orderly.from r [], orderly.low r []))
  ];
  bound = bound;
}
  where
    flushed : (g : List ℕ) → k.flushed r g ≡ lasts k.first k.durable r → IsSeen J r (lasts k.first k.durable r) ⊎ (lasts k.first k.durable r ≡ 0)
    flushed g is = elim (like.flushed r g).reached as (λ _. IsSeen J r (lasts k.first k.durable r) ⊎ (lasts k.first k.durable r ≡ 0)) [
      | inl f ↦ inl (inl (f.0, f.1, f.2, f.4 ∙ is))
      | inr none ↦ inr (sym is ∙ none)
    ]

    bound : (m : ℕ) → IsSeen J r m → m ≤ lasts k.first k.durable r
    bound m (inl f) = omega (arith, (like.flushed r f.1.family).bound m (f.0, f.1, f.2, inr (λ _. f.1.family), f.3), orderly.low r f.1.family)
    bound m (inr (e, logged, region, number)) = let at : lasts k.first k.durable e.region ≡ lasts k.first k.durable r = ap (lasts k.first k.durable) region in omega (arith, like.numbers e logged, number, at)

-- what the base went on to
pub like_lasts : (k : Kept) (J : Files) → IsLike k J → IsOrderly k → LastsWith k.base k.durable J
like_lasts k J like orderly = lasts_with k.base J k.durable k.first orderly.begun (like_last k J like orderly)
