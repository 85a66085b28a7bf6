use Rattle.std.proofs.Common.{◌≡◌, ℕ, List, [], ◌++◌, ◌∷◌, length, replicate, ap, ◌∙◌, arith}
use Rattle.std.proofs.lemmas.List.{replicate_more}
use Rattle.seq_accounting.specs.Marks.{FamilyMark}
use Rattle.seq_accounting.proofs.regions.RegionMarks.new.Goals as goal

pub loop-preserved : goal.loop-preserved
loop-preserved c =
    c.in_ok-push.ensures.items
    ∙ ap (λ (xs : List (List FamilyMark)). xs ++ c.new.result ∷ []) c.loop.invariant
    ∙ ap (λ (ms : List FamilyMark). replicate c.loop.counter [] ++ ms ∷ []) c.new.ensures
    ∙ replicate_more c.loop.counter []

pub returns : goal.returns
returns c = let full : c.loop.counter ≡ 65 = omega (arith, c.loop-test.false) in c.loop.invariant ∙ ap (λ (n : ℕ). replicate n []) full

pub invariant_of-result : goal.invariant_of-result
invariant_of-result c = let full : c.loop.counter ≡ 65 = omega (arith, c.loop-test.false) in ap length (c.loop.invariant ∙ ap (λ (n : ℕ). replicate n []) full)
