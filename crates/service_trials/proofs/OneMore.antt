-- One line more.
use Rattle.std.proofs.Common.{◌≡◌, ℕ, ◌+◌, ◌<◌, ◌==◌, Bool, false, cond, List, [], ◌∷◌, ◌++◌, length, refl, ap, ◌∙◌, arith}
use Rattle.std.proofs.lemmas.Bool.{ne_eqb}
use Rattle.std.proofs.lemmas.List.{map-append}
use Rattle.region_model.specs.Journal.{Outcome, Follows}
use Rattle.region_model.specs.Lines.{Line, edits_in, ended, with_outcome}
use Rattle.service_trials.specs.AllShown.{IsOneMore}

-- lines numbered below n stay
others_stay : (r last n : ℕ) (o : Outcome) (xs : List Line) → Follows last (edits_in r xs) → last + length xs < n → with_outcome n o xs ≡ xs
others_stay r last n o [] f lt = refl
others_stay r last n o (x ∷ xs) f lt =
    let no : (x.number == n) ≡ false = ne_eqb x.number n (λ e. omega (arith, e, f.0, lt)) in
    let head : ended n o x ≡ x = ap (λ (b : Bool). cond b (record x { outcome = o }) x) no in
    let tail = others_stay r (last + 1) n o xs f.1 (omega (arith, lt)) in
    cc (head, tail)

pub one_more : (r last n : ℕ) (o : Outcome) (xs : List Line) (x : Line) → Follows last (edits_in r xs) → last + length xs < n → IsOneMore xs (with_outcome n o (xs ++ x ∷ []))
one_more r last n o xs x f lt =
    (ended n o x, map-append (ended n o) xs (x ∷ []) ∙ ap (λ (l : List Line). l ++ ended n o x ∷ []) (others_stay r last n o xs f lt))
