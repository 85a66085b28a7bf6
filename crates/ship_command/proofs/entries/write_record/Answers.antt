use Rattle.std.proofs.Common.{ℕ, List, ◌∷◌, ◌++◌, codes, true, refl}
use Rattle.std.specs.Fmt.{decimal}
use Rattle.log_tail.specs.Position.{position_of}
use Rattle.ship_command.proofs.Cuts.{cut_here, cut_then, cut_as, cut_begun, cut_sent, went_on, position_is}
use Rattle.ship_command.proofs.entries.write_record.Goals as goal

pub returns-in_err-put_numbers-clause-cut : goal.returns-in_err-put_numbers-clause-cut
returns-in_err-put_numbers-clause-cut g c told err =
    let line : List ℕ = codes "position " ++ (decimal c.args.at.file ++ (32 ∷ decimal c.args.at.entries)) in
    cut_as (position_is (position_of c.args.at))
    (cut_begun c.new-held.ensures (cut_here line (codes "\n") (c.in_err-put_numbers.ensures.cut told (refl {a = true}))))

pub returns-in_err-put-clause-cut : goal.returns-in_err-put-clause-cut
returns-in_err-put-clause-cut g c told err =
    let line : List ℕ = codes "position " ++ (decimal c.args.at.file ++ (32 ∷ decimal c.args.at.entries)) in
    cut_as (position_is (position_of c.args.at))
    (cut_begun c.new-held.ensures (cut_then line (codes "\n") (c.in_ok-put_numbers.ensures.ok told) (c.in_err-put.ensures.cut told (refl {a = true}))))

pub returns-clause-cut : goal.returns-clause-cut
returns-clause-cut g c told err =
    let line : List ℕ = codes "position " ++ (decimal c.args.at.file ++ (32 ∷ decimal c.args.at.entries)) in
    cut_as (position_is (position_of c.args.at))
    (cut_begun c.new-held.ensures
    (cut_sent (went_on (g.K.Sink.taken c.args.out.now ++ c.new-held.result.items) line (codes "\n") (c.in_ok-put_numbers.ensures.ok told) (c.in_ok-put.ensures.ok told)) (c.send.ensures.cut told err)))
