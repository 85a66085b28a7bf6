-- What a test that is asked of each element in turn tells of each.
use Rattle.std.proofs.Common.{◌≡◌, ◌↔◌, inl, inr, ℕ, Bool, List, [], ◌∷◌, length, IsTrue, Contains, subst, sym, arith}
use Rattle.std.specs.List.Retain.{ReturnsInTurn, IsFiltered}
use Rattle.seq_accounting.specs.Marks.{FamilyMark}
use Rattle.seq_accounting.specs.Accounts.{ClosedFile, AreLowerBy, are_lower}
use Rattle.seq_accounting.proofs.LiveLaws.{first_or_behind}

module _ {X F : Type 0} (R : F → X → Bool → F → Type 0) (P : X → Type 0) (f : F) (h : (x : X) (b : Bool) (g : F) → R f x b g → P x × (g ≡ f)) where
  told : (bs : List Bool) (xs : List X) (q : F) → length bs ≡ length xs → ReturnsInTurn R f bs xs q → (x : X) → Contains xs x → P x
  told bs [] q long in_turn x has = absurd (omega (arith, has.1))
  told [] (y ∷ ys) q long in_turn x has = absurd (omega (arith, long))
  told (b ∷ bs) (y ∷ ys) q long in_turn x has =
      let one = h y b in_turn.0 in_turn.1 in
      elim (first_or_behind y x ys has) as (λ _. P x) [
        | inl is ↦ subst P is one.0
        | inr later ↦ told bs ys q (omega (arith, long)) (subst (λ (g : F). ReturnsInTurn R g bs ys q) one.1 in_turn.2) x later
      ]

  -- each element that a filter asked
  pub told_each : (xs ys : List X) → IsFiltered R f xs ys → (x : X) → Contains xs x → P x
  told_each xs ys k = told k.0 xs k.1 k.2 k.3

abbrev pub IsTested : List ℕ → List (List FamilyMark) → ClosedFile → Type 0
IsTested whole flushed c = IsTrue (are_lower whole flushed c.highest) ↔ AreLowerBy whole flushed c.highest

-- the answer is the test's, and says what it is to say
pub tested : (whole : List ℕ) (flushed : List (List FamilyMark)) (c : ClosedFile) (b : Bool) → (IsTrue b ↔ AreLowerBy whole flushed c.highest) → b ≡ are_lower whole flushed c.highest → IsTested whole flushed c
tested whole flushed c b says same = subst (λ (t : Bool). IsTrue t ↔ AreLowerBy whole flushed c.highest) same says
