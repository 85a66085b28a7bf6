-- A step that only adds lines keeps the rule.
use Rattle.std.proofs.Common.{zero, suc, ◌≡◌, ◌≢◌, ℕ, List, [], ◌∷◌, ◌++◌, fold, refl, sym, ap, ◌∙◌, subst, ⊎_elim, Result, Ok, Err, MatchResult}
use mathlib.Core.List.{IsPrefix}
use mathlib.Core.Option.{some, some-injective, some-ne-none}
use lib.ListN.{get_elem?}
use Rattle.left_right.specs.Register.{Admits, Turns, TurnsAt}
use Rattle.atomic_table.proofs.Lists.{at_set, at_snoc}
use Rattle.logbook.specs.Pages.{Book}
use Rattle.region_model.specs.Journal.{Base}
use Rattle.region_versions.specs.declared.slot.Showing.{Showing}
use Rattle.region_versions.specs.declared.slot.State.{State}
use Rattle.region_versions.specs.declared.rule.Seen.{Seen}
use Rattle.region_versions.specs.Shown.{cut, state_of, IsOf, new_viewer, Keeps, has_seen, Shows}
use Rattle.region_versions.proofs.Fronts.{prefix_self, prefix_trans}

pub admits : (book : ℕ → Book) (base : ℕ → Base) → Admits (Keeps book base) new_viewer
admits book base x views h = (h.0, λ seat v at. ⊎_elim (h.1 seat v) (λ (e : new_viewer ≡ v). subst (λ (u : Seen). IsPrefix u.seen (cut x)) e (cut x, refl)) (at_snoc views new_viewer v seat at))

pub rises : (book : ℕ → Book) (base : ℕ → Base) (seat : ℕ) (v : Seen) (x y : Showing) → IsOf book base y → IsPrefix (cut x) (cut y) → TurnsAt (Keeps book base) seat v x y (Shows book base)
rises book base seat v x y same up views h at = (
  has_seen (cut y),
  (
    same,
    λ j u e. ⊎_elim
        (λ (t : (j ≡ seat) × (has_seen (cut y) ≡ u)). subst (λ (w : Seen). IsPrefix w.seen (cut y)) t.1 (prefix_self (cut y)))
        (λ (t : (j ≢ seat) × (get_elem? views j ≡ some u)). prefix_trans u.seen (cut x) (cut y) (h.1 j u t.1) up)
        (at_set views seat j (has_seen (cut y)) u e),
  ),
  (same, prefix_trans v.seen (cut x) (cut y) (h.1 seat v at) up, refl),
)

-- a reader sees what is shown
pub looks : (book : ℕ → Book) (base : ℕ → Base) (seat : ℕ) (v : Seen) → Turns (Keeps book base) seat v (λ x. x) (Shows book base)
looks book base seat v x views h at = rises book base seat v x x h.0 (prefix_self (cut x)) views h at

-- the last of some operations alone tells what comes of them
fold_last : {O S : Type 0} (f : O → S) (s : S) (os : List O) (o : O) → fold (λ (s : S) (p : O). f p) s (os ++ o ∷ []) ≡ f o
fold_last f s [] o = refl
fold_last f s (p ∷ os) o = fold_last f (f p) os o

-- what comes of some operations is the last one's state
pub after_pending : (p : State) (ops old : List Showing) (o : Showing) → ops ≡ old ++ o ∷ [] → fold (λ (s : State) (v : Showing). state_of v) p ops ≡ state_of o
after_pending p ops old o is = ap (λ l. fold (λ (s : State) (v : Showing). state_of v) p l) is ∙ fold_last state_of p old o

-- two facts by cases of one answer give a third
pub by_answer : {A E : Type 0} (r : Result A E) (P P' R : A → Type 0) (Q Q' S : E → Type 0) → MatchResult r P Q → MatchResult r P' Q' → ((a : A) → P a → P' a → R a) → ((e : E) → Q e → Q' e → S e) → MatchResult r R S
by_answer (Ok a) P P' R Q Q' S p q f h = f a p q
by_answer (Err e) P P' R Q Q' S p q f h = h e p q

pub begins : (book : ℕ → Book) (base : ℕ → Base) (x : Showing) → IsOf book base x → Keeps book base x (new_viewer ∷ [])
begins book base x same = (same, one)
  where
    one : (seat : ℕ) (v : Seen) → get_elem? (new_viewer ∷ []) seat ≡ some v → IsPrefix v.seen (cut x)
    one zero v e = subst (λ (u : Seen). IsPrefix u.seen (cut x)) (some-injective _ _ e) (cut x, refl)
    one (suc seat) v e = absurd (some-ne-none v (sym e))
