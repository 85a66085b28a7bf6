-- How the lines are put together from their parts.
use Rattle.std.proofs.Common.{◌≡◌, ℕ, List, [], ◌∷◌, ◌++◌, codes, refl, sym, ap, ◌∙◌, append_assoc}
use Rattle.std.specs.Fmt.{decimal}
use Rattle.script_model.specs.Outputs.{end_line}
use Rattle.store_compact.specs.declared.kind.Compacted.{Compacted}
use Rattle.compact_command.specs.Lines.{compacted_line, nothing_line}

regroup_made : (r b a end : List ℕ) → (((codes "compacted " ++ r) ++ (32 ∷ b)) ++ (32 ∷ a)) ++ (10 ∷ end) ≡ (codes "compacted " ++ (r ++ (32 ∷ (b ++ (32 ∷ a)))) ++ (10 ∷ [])) ++ end
regroup_made r b a end = simp append_assoc

regroup_nothing : (n end : List ℕ) → (codes "compact nothing " ++ n) ++ (10 ∷ end) ≡ ((codes "compact nothing " ++ n) ++ (10 ∷ [])) ++ end
regroup_nothing n end = simp append_assoc

pub made_line : (r : ℕ) (counts : Compacted) (t0 t1 t2 t3 t4 : List ℕ) → t0 ≡ [] → t1 ≡ t0 ++ (codes "compacted " ++ decimal r) → t2 ≡ t1 ++ (codes " " ++ decimal counts.before) → t3 ≡ t2 ++ (codes " " ++ decimal counts.after)
    → t4 ≡ t3 ++ (10 ∷ end_line 0) → t4 ≡ compacted_line r counts ++ end_line 0
unfolding compacted_line
made_line r counts t0 t1 t2 t3 t4 e0 e1 e2 e3 e4 =
    let first : t1 ≡ codes "compacted " ++ decimal r = e1 ∙ ap (λ (t : List ℕ). t ++ (codes "compacted " ++ decimal r)) e0 in
    let second = e2 ∙ ap (λ (t : List ℕ). t ++ (codes " " ++ decimal counts.before)) first in
    let third = e3 ∙ ap (λ (t : List ℕ). t ++ (codes " " ++ decimal counts.after)) second in
    e4 ∙ ap (λ (t : List ℕ). t ++ (10 ∷ end_line 0)) third ∙ regroup_made (decimal r) (decimal counts.before) (decimal counts.after) (end_line 0)

pub nothing_told : (files : ℕ) (t0 t1 t2 : List ℕ) → t0 ≡ [] → t1 ≡ t0 ++ (codes "compact nothing " ++ decimal files) → t2 ≡ t1 ++ (10 ∷ end_line 0) → t2 ≡ nothing_line files ++ end_line 0
unfolding nothing_line
nothing_told files t0 t1 t2 e0 e1 e2 =
    let first : t1 ≡ codes "compact nothing " ++ decimal files = e1 ∙ ap (λ (t : List ℕ). t ++ (codes "compact nothing " ++ decimal files)) e0 in
    e2 ∙ ap (λ (t : List ℕ). t ++ (10 ∷ end_line 0)) first ∙ regroup_nothing (decimal files) (end_line 0)
