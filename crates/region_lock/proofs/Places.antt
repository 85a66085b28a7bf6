-- Which lines a pass has seen shown: those of its own that are numbered up to its point.
use Rattle.std.proofs.Common.{◌≡◌, ℕ, zero, suc, ◌+◌, ◌<◌, ◌==◌, Bool, true, false, cond, List, [], ◌∷◌, ◌++◌, length, Contains, sym, ap, subst, arith, ⊎_elim}
use Rattle.std.proofs.lemmas.List.Elements.{Contains-append_cases}
use mathlib.Core.List.{IsPrefix}
use Rattle.region_model.specs.Journal.{Base, IsJournal, Follows}
use Rattle.region_model.specs.Lines.{Line, edits_in, handled_lines}
use Rattle.server_model.proofs.JournalLaws.{contains_cons}
use Rattle.region_lock.specs.Met.{ArePlaced}

-- lines that follow a number are above it
above_all : (r last : ℕ) (xs : List Line) (x : Line) → Follows last (edits_in r xs) → Contains xs x → last < x.number
above_all r last [] x follows (k, lt, is) = absurd (omega (arith, lt))
above_all r last (y ∷ ys) x follows (zero, lt, is) = omega (arith, follows.0, ap (λ (l : Line). l.number) is)
above_all r last (y ∷ ys) x follows (suc k, lt, is) = omega (arith, above_all r (last + 1) ys x follows.1 (k, omega (arith, lt), is))

above_front : (r last : ℕ) (front rest : List Line) (x : Line) → Follows last (edits_in r (front ++ rest)) → Contains rest x → last + length front < x.number
above_front r last [] rest x follows has = omega (arith, above_all r last rest x follows has)
above_front r last (y ∷ ys) rest x follows has = omega (arith, above_front r (last + 1) ys rest x follows.1 has)

-- a line of a handler is one of all
handled_among : (h : ℕ) (xs : List Line) (x : Line) → Contains (handled_lines h xs) x → Contains xs x
handled_among h [] x has = has
handled_among h (y ∷ ys) x has = go (y.caller.handler == h) (handled_among h ys x) has
  where
    go : (b : Bool) → (Contains (handled_lines h ys) x → Contains ys x) → Contains (cond b (y ∷ handled_lines h ys) (handled_lines h ys)) x → Contains (y ∷ ys) x
    go true rest (zero, lt, is) = (0, omega arith, is)
    go true rest (suc k, lt, is) = contains_cons y ys x (rest (k, omega (arith, lt), is))
    go false rest later = contains_cons y ys x (rest later)

pub placed_in : (r h : ℕ) (base : Base) (xs own shown : List Line) → IsJournal r base (edits_in r xs) → own ≡ handled_lines h xs → IsPrefix shown xs → ArePlaced base own shown
placed_in r h base xs own shown journal mine begins x has low =
    let all : Contains (shown ++ begins.0) x = subst (λ (l : List Line). Contains l x) (sym begins.1) (handled_among h xs x (subst (λ (l : List Line). Contains l x) mine has)) in
    let follows : Follows base.last (edits_in r (shown ++ begins.0)) = subst (λ (l : List Line). Follows base.last (edits_in r l)) (sym begins.1) journal.numbers in
    ⊎_elim (λ (here : Contains shown x). here) (λ (behind : Contains begins.0 x). absurd (omega (arith, low, above_front r base.last shown begins.0 x follows behind)))
    (Contains-append_cases shown begins.0 x all)
