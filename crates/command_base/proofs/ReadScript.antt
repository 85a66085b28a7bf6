-- A script is read up to one byte more than it may have.
use Rattle.std.proofs.Common.{◌≡◌, ℕ, ◌<◌, ◌≤◌, List, length, take, Some, None, refl, sym, ap, subst, ◌∙◌, arith, inl, inr}
use Rattle.std.proofs.lemmas.Bool.{cases_lt, lt-ltb}
use Rattle.std.proofs.lemmas.List.{take_all, length-take-le}
use Rattle.script_model.specs.declared.command.Command.{Command}
use Rattle.script_model.specs.Fields.{why}
use Rattle.script_model.specs.Script.{script_fault}
use Rattle.script_model.specs.Calls.{Script, Says}

too_long : (c : Command) (bytes : List ℕ) → 16777216 < length bytes → script_fault c bytes ≡ Some (0, why 7)
unfolding script_fault
too_long c bytes over = rw (lt-ltb 16777216 (length bytes) over) refl

some_none : {A : Type 0} (a : A) → Some a ≡ None → ⊥
some_none a e = absurd cc

no_fault : (c : Command) (bytes : List ℕ) → 16777216 < length bytes → script_fault c bytes ≡ None → ⊥
no_fault c bytes over right = some_none (0, why 7) (sym (too_long c bytes over) ∙ right)

-- what was read has the fault of all
pub read_fault : (c : Command) (n : ℕ) (all : List ℕ) → 16777216 < n → script_fault c (take n all) ≡ script_fault c all
read_fault c n all enough = elim (cases_lt n (length all)) as (λ _. script_fault c (take n all) ≡ script_fault c all) [
  | inl over ↦ (let le : n ≤ length all = omega (arith, over) in
      too_long c (take n all) (omega (arith, enough, length-take-le n all le)) ∙ sym (too_long c all (omega (arith, enough, over))))
  | inr within ↦ ap (script_fault c) (take_all n all within)
]

-- and says what all says
pub read_says : (c : Command) (n : ℕ) (all : List ℕ) (s : Script) → 16777216 < n → Says c (take n all) s → Says c all s
read_says c n all s enough says = elim (cases_lt n (length all)) as (λ _. Says c all s) [
  | inl over ↦ (let le : n ≤ length all = omega (arith, over) in absurd (no_fault c (take n all) (omega (arith, enough, length-take-le n all le)) says.right))
  | inr within ↦ subst (λ bytes. Says c bytes s) (take_all n all within) says
]
