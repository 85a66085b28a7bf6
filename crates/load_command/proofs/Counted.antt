-- The cells of all regions, counted.
use Rattle.std.proofs.Common.{◌≡◌, ℕ, ◌+◌, ◌-◌, ◌^◌, ◌<◌, ◌≤◌, min, List, [], ◌∷◌, length, take, get_or, sum_by, refl, sym, ap, ◌∙◌, arith}
use Rattle.std.specs.FinMap.{len}
use Rattle.std.proofs.lemmas.List.{take_all}
use Rattle.std.proofs.lemmas.List.Sums.{sum_by-cons, sum_by_more}
use Rattle.cell_model.specs.Order.{Content}
use Rattle.log_model.specs.Files.{Files}
use Rattle.log_model.specs.Recovered.{IsRecovered, IsContent}
use Rattle.run_command.specs.region_replay.Ready.{Found}
use Rattle.run_command.specs.region_replay.Opened.{AreOf}
use Rattle.load_model.specs.Loaded.{sum_over}
use Rattle.load_model.proofs.Cells.{one_content}
use Rattle.load_model.proofs.Leaves.{CountsCells}
use Rattle.load_command.specs.Counted.{cells_of}

counted_from : (old new : Files) (first : ℕ) (xs : List Found) (contents : ℕ → Content) → AreOf old new first xs → 1 ≤ first → ((r : ℕ) → 1 ≤ r → IsContent (IsRecovered old r) (contents r))
    → sum_by cells_of xs ≡ sum_over (λ r. len (contents r)) first (length xs)
counted_from old new first [] contents are low held = refl
counted_from old new first (x ∷ xs) contents are low held =
    let here : len x.base.content ≡ len (contents first) = ap len (one_content (IsRecovered old first) x.base.content (contents first) are.0.content (held first low)) in
    let rest : sum_by cells_of xs ≡ sum_over (λ r. len (contents r)) (first + 1) (length xs) = counted_from old new (first + 1) xs contents are.1 (omega (arith, low)) held in
    omega (arith, here, rest, sum_by-cons cells_of x xs)

pub counts_cells : (old new : Files) (xs : List Found) → length xs ≡ 64 → AreOf old new 1 xs → CountsCells old (sum_by cells_of xs)
counts_cells old new xs all are contents held = counted_from old new 1 xs contents are (omega arith) held ∙ ap (sum_over (λ r. len (contents r)) 1) all

-- ---- one region more

pub region_more : (xs : List Found) (i total more : ℕ) (x : Found) → i < length xs → x ≡ get_or xs i x → total ≡ min (sum_by cells_of (take i xs)) (2 ^ 64 - 1)
    → more ≡ min (total + len x.base.content) (2 ^ 64 - 1) → more ≡ min (sum_by cells_of (take (i + 1) xs)) (2 ^ 64 - 1)
region_more xs i total more x low here so_far added =
    let grown : sum_by cells_of (take (i + 1) xs) ≡ sum_by cells_of (take i xs) + len x.base.content =
    sum_by_more cells_of xs i x low ∙ ap (λ (y : Found). sum_by cells_of (take i xs) + len y.base.content) (sym here) in
    omega (arith, grown, so_far, added)

pub all_regions : (xs : List Found) (i total : ℕ) → length xs ≤ i → total ≡ min (sum_by cells_of (take i xs)) (2 ^ 64 - 1) → total ≡ min (sum_by cells_of xs) (2 ^ 64 - 1)
all_regions xs i total past so_far = so_far ∙ ap (λ (ys : List Found). min (sum_by cells_of ys) (2 ^ 64 - 1)) (take_all i xs past)
