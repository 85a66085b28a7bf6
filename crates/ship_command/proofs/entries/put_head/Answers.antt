use Rattle.std.proofs.Common.{◌≡◌, ℕ, List, ◌∷◌, ◌++◌, length, codes, rules, true, refl, ap, ◌∙◌}
use Rattle.std.specs.Fmt.{decimal}
use Rattle.log_model.specs.Entry.{Entry}
use Rattle.ship_queue.specs.Messages.{placed}
use Rattle.ship_command.proofs.Cuts.{cut_here, cut_then, cut_as, cut_to, head_is}
use Rattle.ship_command.proofs.entries.put_head.Goals as goal

pub returns-in_err-put_numbers-clause-cut : goal.returns-in_err-put_numbers-clause-cut
returns-in_err-put_numbers-clause-cut g c told err =
    let place : List ℕ = codes "ship " ++ (decimal c.args.at.file ++ (32 ∷ decimal c.args.at.entries)) in
    let number : List ℕ = 32 ∷ (decimal c.args.entry.now.region ++ (32 ∷ decimal c.args.entry.now.number)) in
    let cells : List ℕ = 32 ∷ (decimal c.args.entry.now.time ++ (32 ∷ decimal (length c.args.entry.now.batch.cells))) in
    cut_as (head_is (placed c.args.at c.args.entry.now))
    (cut_here place (number ++ (cells ++ codes "\n")) (c.in_err-put_numbers.ensures.cut told (refl {a = true})))

pub returns-in_err-put_numbers-2-clause-cut : goal.returns-in_err-put_numbers-2-clause-cut
returns-in_err-put_numbers-2-clause-cut g c told err =
    let place : List ℕ = codes "ship " ++ (decimal c.args.at.file ++ (32 ∷ decimal c.args.at.entries)) in
    let number : List ℕ = 32 ∷ (decimal c.args.entry.now.region ++ (32 ∷ decimal c.args.entry.now.number)) in
    let cells : List ℕ = 32 ∷ (decimal c.args.entry.now.time ++ (32 ∷ decimal (length c.args.entry.now.batch.cells))) in
    cut_as (head_is (placed c.args.at c.args.entry.now))
    (cut_then place (number ++ (cells ++ codes "\n")) (c.in_ok-put_numbers.ensures.ok told)
    (cut_here number (cells ++ codes "\n") (cut_to (c.in_err-put_numbers-2.ensures.cut told (refl {a = true})) (ap (λ (e : Entry). 32 ∷ (decimal e.region ++ (32 ∷ decimal e.number))) c.entry.view_is))))

pub returns-in_err-put_numbers-3-clause-cut : goal.returns-in_err-put_numbers-3-clause-cut
returns-in_err-put_numbers-3-clause-cut g c told err =
    let place : List ℕ = codes "ship " ++ (decimal c.args.at.file ++ (32 ∷ decimal c.args.at.entries)) in
    let number : List ℕ = 32 ∷ (decimal c.args.entry.now.region ++ (32 ∷ decimal c.args.entry.now.number)) in
    let cells : List ℕ = 32 ∷ (decimal c.args.entry.now.time ++ (32 ∷ decimal (length c.args.entry.now.batch.cells))) in
    let first : List ℕ = g.K.Sink.taken c.put_numbers.new.out ++ c.put_numbers.new.held.items in
    let count : c.len.result ≡ length c.args.entry.now.batch.cells = search rules in
    cut_as (head_is (placed c.args.at c.args.entry.now))
    (cut_then place (number ++ (cells ++ codes "\n")) (c.in_ok-put_numbers.ensures.ok told)
    (cut_then number (cells ++ codes "\n") (c.in_ok-put_numbers-2.ensures.ok told ∙ ap (λ (e : Entry). first ++ (32 ∷ (decimal e.region ++ (32 ∷ decimal e.number)))) c.entry.view_is)
    (cut_here cells (codes "\n") (cut_to (c.in_err-put_numbers-3.ensures.cut told (refl {a = true})) (ap (λ (e : Entry). 32 ∷ (decimal e.time ++ (32 ∷ decimal c.len.result))) c.entry.view_is ∙ ap (λ (n : ℕ). 32 ∷ (decimal c.args.entry.now.time ++ (32 ∷ decimal n))) count)))))

pub returns-clause-cut : goal.returns-clause-cut
returns-clause-cut g c told err =
    let place : List ℕ = codes "ship " ++ (decimal c.args.at.file ++ (32 ∷ decimal c.args.at.entries)) in
    let number : List ℕ = 32 ∷ (decimal c.args.entry.now.region ++ (32 ∷ decimal c.args.entry.now.number)) in
    let cells : List ℕ = 32 ∷ (decimal c.args.entry.now.time ++ (32 ∷ decimal (length c.args.entry.now.batch.cells))) in
    let first : List ℕ = g.K.Sink.taken c.put_numbers.new.out ++ c.put_numbers.new.held.items in
    let count : c.len.result ≡ length c.args.entry.now.batch.cells = search rules in
    let held : List ℕ = g.K.Sink.taken c.put_numbers-2.new.out ++ c.put_numbers-2.new.held.items in
    cut_as (head_is (placed c.args.at c.args.entry.now))
    (cut_then place (number ++ (cells ++ codes "\n")) (c.in_ok-put_numbers.ensures.ok told)
    (cut_then number (cells ++ codes "\n") (c.in_ok-put_numbers-2.ensures.ok told ∙ ap (λ (e : Entry). first ++ (32 ∷ (decimal e.region ++ (32 ∷ decimal e.number)))) c.entry.view_is)
    (cut_then cells (codes "\n") (c.in_ok-put_numbers-3.ensures.ok told ∙ ap (λ (e : Entry). held ++ (32 ∷ (decimal e.time ++ (32 ∷ decimal c.len.result)))) c.entry.view_is ∙ ap (λ (n : ℕ). held ++ (32 ∷ (decimal c.args.entry.now.time ++ (32 ∷ decimal n)))) count) (c.put.ensures.cut told err))))
