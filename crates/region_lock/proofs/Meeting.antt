-- What a pass knows of a region meets in its journal.
use Rattle.std.proofs.Common.{◌≡◌, ℕ, ◌≤◌, ◌==◌, Bool, true, false, true≢false, cond, List, [], ◌∷◌, ◌++◌, Contains, IsTrue, MatchBool, sym, ap, ◌∙◌, subst, refl, arith}
use mathlib.Core.List.{IsPrefix}
use Rattle.log_service.specs.declared.seats.LogSeat.{LogSeat}
use Rattle.region_model.specs.Journal.{Base, Edit}
use Rattle.region_model.specs.Lines.{Line, edit_in, edits_in, handled_lines, last_in}
use Rattle.server_model.specs.Pass.{handled}
use Rattle.region_lock.specs.Met.{IsMet}
use Rattle.region_lock.proofs.Knowns.{at_region, edits_begin, last_same}

-- the edits of a handler's lines are the handler's edits
pub edits_handled : (r h : ℕ) (xs : List Line) → edits_in r (handled_lines h xs) ≡ handled h (edits_in r xs)
edits_handled r h [] = refl
edits_handled r h (x ∷ xs) = go (x.caller.handler == h) (edits_handled r h xs)
  where
    go : (b : Bool) → edits_in r (handled_lines h xs) ≡ handled h (edits_in r xs) → edits_in r (cond b (x ∷ handled_lines h xs) (handled_lines h xs)) ≡ cond b (edit_in r x ∷ handled h (edits_in r xs)) (handled h (edits_in r xs))
    go true rest = ap (λ (l : List Edit). edit_in r x ∷ l) rest
    go false rest = rest

pub holds_of : {A : Type 0} → (B : Type 0) (b : Bool) → MatchBool b A B → IsTrue b → A
holds_of B true m t = m
holds_of B false m t = absurd (true≢false (sym t))

pub met_at : (n r r' h : ℕ) (base : Base) (xs own shown : List Line) (told : List ℕ) (seat : LogSeat) → r' ≡ r → own ≡ handled_lines h xs → IsPrefix shown xs → ((k : ℕ) → Contains told k → k ≤ last_in base xs)
    → IsMet base (edits_in r xs) h (at_region n r' own shown told seat)
met_at n r r' h base xs own shown told seat same mine begins spent = record {
  own = (λ i. edits_in (same i) (mine i)) ∙ edits_handled r h xs;
  shown = subst (λ (k : ℕ). (rest : List Edit) × (edits_in r xs ≡ edits_in k shown ++ rest)) (sym same) (edits_begin r r shown xs refl begins);
  spent = λ k c. let l = last_same base r xs in let s = spent k c in omega (arith, l, s);
}
