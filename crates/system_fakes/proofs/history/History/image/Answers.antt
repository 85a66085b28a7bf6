use Rattle.std.proofs.Common.{List, subst}
use Rattle.system_fakes.specs.declared.op.Op.{Op}
use Rattle.system_fakes.specs.Table.{held_in}
use Rattle.system_fakes.specs.History.{after, quiet}
use Rattle.system_fakes.specs.Image.{IsPlayed}
use Rattle.system_fakes.specs.Views.{state_of}
use Rattle.system_fakes.proofs.Played.{start_played}
use Rattle.system_fakes.proofs.Calls.{fair_of}
use Rattle.system_fakes.proofs.Images.{image_now}
use Rattle.system_fakes.proofs.history.History.image.Goals as goal

pub quiet-requires : goal.quiet-requires
quiet-requires c =
    start_played (state_of c.args.self.now) (fair_of c.args.self.now) (held_in c.in_ok-image.image)
    (subst (λ (l : List Op). IsPlayed (after (quiet (held_in c.args.self.now.first)) l) (held_in c.in_ok-image.image)) c.deref.ensures.value c.in_ok-image.ensures)

pub returns : goal.returns
returns c =
    image_now c.quiet.result (state_of c.args.self.now) (held_in c.in_ok-image.image)
    (subst (λ (l : List Op). IsPlayed (after (quiet (held_in c.args.self.now.first)) l) (held_in c.in_ok-image.image)) c.deref.ensures.value c.in_ok-image.ensures)
    c.quiet.ensures
