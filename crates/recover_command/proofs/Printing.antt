-- What is printed of the regions, one more at a time.
use Rattle.std.proofs.Common.{◌≡◌, ℕ, ◌+◌, List, [], ◌∷◌, ◌++◌, length, take, get_or, ◌<◌, ◌≤◌, sym, ap, ◌∙◌, arith, append_assoc, append-nil}
use Rattle.std.proofs.lemmas.List.{take_more, take_all, length-take}
use Rattle.std.proofs.lemmas.Grind.{flat_map-append}
use Rattle.std.specs.List.{flat_map}
use Rattle.script_model.specs.Outputs.{RecoveredLine, recovered_line}
use Rattle.region_replay.specs.Ready.{Found}
use Rattle.recover_command.specs.Lines.{line_of, lines_from}

lines_append : (r : ℕ) (xs : List Found) (x : Found) (n : ℕ) → n ≡ r + length xs → lines_from r (xs ++ x ∷ []) ≡ lines_from r xs ++ line_of n x ∷ []
lines_append r [] x n is =
    let here : r ≡ n = omega (arith, is) in
    ap (λ (k : ℕ). line_of k x ∷ []) here
lines_append r (y ∷ xs) x n is = ap (λ (ls : List RecoveredLine). line_of r y ∷ ls) (lines_append (r + 1) xs x n (omega (arith, is)))

pub lines_more : (xs : List Found) (i : ℕ) (x : Found) (o o1 o2 : List ℕ) → i < length xs → x ≡ get_or xs i x → o1 ≡ o ++ flat_map recovered_line (lines_from 1 (take i xs))
    → o2 ≡ o1 ++ recovered_line (line_of (i + 1) x) → o2 ≡ o ++ flat_map recovered_line (lines_from 1 (take (i + 1) xs))
lines_more xs i x o o1 o2 lt here so_far next =
    let line : List ℕ = recovered_line (line_of (i + 1) x) in
    let front : List RecoveredLine = lines_from 1 (take i xs) in
    let place : i + 1 ≡ 1 + length (take i xs) = omega (arith, length-take i xs, lt) in
    let more : lines_from 1 (take (i + 1) xs) ≡ front ++ line_of (i + 1) x ∷ []
    = ap (lines_from 1) (take_more xs i x lt ∙ ap (λ (y : Found). take i xs ++ y ∷ []) (sym here)) ∙ lines_append 1 (take i xs) x (i + 1) place in
    next ∙ ap (λ (t : List ℕ). t ++ line) so_far ∙ append_assoc o (flat_map recovered_line front) line
    ∙ ap (λ (t : List ℕ). o ++ (flat_map recovered_line front ++ t)) (sym (append-nil line))
    ∙ ap (λ (t : List ℕ). o ++ t) (sym (flat_map-append recovered_line front (line_of (i + 1) x ∷ [])))
    ∙ ap (λ (ls : List RecoveredLine). o ++ flat_map recovered_line ls) (sym more)

pub lines_whole : (xs : List Found) (i : ℕ) (o o1 : List ℕ) → length xs ≤ i → o1 ≡ o ++ flat_map recovered_line (lines_from 1 (take i xs)) → o1 ≡ o ++ flat_map recovered_line (lines_from 1 xs)
lines_whole xs i o o1 past so_far = so_far ∙ ap (λ (ys : List Found). o ++ flat_map recovered_line (lines_from 1 ys)) (take_all i xs past)
