-- Passes with which no call was made.
use Rattle.std.proofs.Common.{◌≡◌, ℕ, zero, suc, ◌<◌, List, [], ◌∷◌, ◌++◌, inl, inr, sym, subst, ◌∙◌, ap, arith}
use Rattle.std.specs.List.{Contains, slice_index_or}
use Rattle.std.proofs.lemmas.List.Elements.{Contains-append_cases}
use Rattle.server_model.specs.Pass.{Pass, IsFresh}
use Rattle.group_servers.specs.Starting.{AreUnused}

pub none_unused : AreUnused []
none_unused p there = absurd (omega (arith, there.1))

at_one : (p q : Pass) (k : ℕ) → k < 1 → slice_index_or (p ∷ []) k q ≡ q → p ≡ q
at_one p q zero low is = is
at_one p q (suc k) low is = absurd (omega (arith, low))

same_unused : (p q : Pass) (h : ℕ) → p ≡ q → IsFresh h p → IsFresh q.handler q
same_unused p q h same fresh = subst (λ (x : Pass). IsFresh x.handler x) same (subst (λ (n : ℕ). IsFresh n p) (sym fresh.handler) fresh)

pub one_more_unused : (old mid new : List Pass) (h : ℕ) (p : Pass) → AreUnused old → mid ≡ old → new ≡ mid ++ p ∷ [] → IsFresh h p → AreUnused new
one_more_unused old mid new h p unused same is fresh q there =
    let at = subst (λ (ps : List Pass). Contains ps q) (is ∙ ap (λ (ps : List Pass). ps ++ p ∷ []) same) there in
    elim (Contains-append_cases old (p ∷ []) q at) [
      | inl before ↦ unused q before
      | inr last ↦ same_unused p q h (at_one p q last.0 last.1 last.2) fresh
    ]
