use Rattle.std.proofs.Common.{ℕ, List, ◌∷◌, ◌++◌, true, refl}
use Rattle.script_model.specs.Text.{printed}
use Rattle.ship_command.proofs.Cuts.{cut_here, cut_then, cut_as, columns_is}
use Rattle.ship_command.proofs.cells.put_columns.Goals as goal

pub returns-in_err-put_word-clause-cut : goal.returns-in_err-put_word-clause-cut
returns-in_err-put_word-clause-cut g c told err =
    let row : List ℕ = c.args.row.now in
    let family : List ℕ = c.args.family.now in
    let qualifier : List ℕ = c.args.qualifier.now in
    cut_as (columns_is row family qualifier)
    (cut_here (32 ∷ printed row) ((32 ∷ printed family) ++ (32 ∷ printed qualifier)) (c.in_err-put_word.ensures.cut told (refl {a = true})))

pub returns-in_err-put_word-2-clause-cut : goal.returns-in_err-put_word-2-clause-cut
returns-in_err-put_word-2-clause-cut g c told err =
    let row : List ℕ = c.args.row.now in
    let family : List ℕ = c.args.family.now in
    let qualifier : List ℕ = c.args.qualifier.now in
    cut_as (columns_is row family qualifier)
    (cut_then (32 ∷ printed row) ((32 ∷ printed family) ++ (32 ∷ printed qualifier)) (c.in_ok-put_word.ensures.ok told)
    (cut_here (32 ∷ printed family) (32 ∷ printed qualifier) (c.in_err-put_word-2.ensures.cut told (refl {a = true}))))

pub returns-clause-cut : goal.returns-clause-cut
returns-clause-cut g c told err =
    let row : List ℕ = c.args.row.now in
    let family : List ℕ = c.args.family.now in
    let qualifier : List ℕ = c.args.qualifier.now in
    cut_as (columns_is row family qualifier)
    (cut_then (32 ∷ printed row) ((32 ∷ printed family) ++ (32 ∷ printed qualifier)) (c.in_ok-put_word.ensures.ok told)
    (cut_then (32 ∷ printed family) (32 ∷ printed qualifier) (c.in_ok-put_word-2.ensures.ok told) (c.put_word-3.ensures.cut told err)))
