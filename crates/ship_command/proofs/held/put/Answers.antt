use Rattle.std.proofs.Common.{◌≡◌, ◌++◌, ℕ, List, rules, true, refl, ap, ◌∙◌}
use Rattle.ship_command.proofs.Cuts.{cut_held, cut_from, cut_of}
use Rattle.ship_command.proofs.held.put.Goals as goal

pub returns-in_err-send-clause-cut : goal.returns-in_err-send-clause-cut
returns-in_err-send-clause-cut g c told err =
    let stays : c.try_extend_from_slice.new.self.items ≡ c.args.held.now.items = search rules in
    cut_from (ap (λ (l : List ℕ). g.K.Sink.taken c.args.out.now ++ l) stays) (cut_held (c.in_err-send.ensures.cut told (refl {a = true})))

pub returns-clause-cut : goal.returns-clause-cut
returns-clause-cut g c told err =
    let stays : c.try_extend_from_slice.new.self.items ≡ c.args.held.now.items = search rules in
    cut_from (c.in_ok-send.ensures.ok told ∙ ap (λ (l : List ℕ). g.K.Sink.taken c.args.out.now ++ l) stays) (cut_of (c.write_all.ensures.prints told))
