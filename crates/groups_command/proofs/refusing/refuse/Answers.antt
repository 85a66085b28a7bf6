use Rattle.std.proofs.Common.{List, ℕ, sym, ◌∙◌, subst}
use Rattle.command_base.specs.Prints.{Prints}
use Rattle.disk_images.specs.Calls.{Rose}
use Rattle.groups_command.specs.Status.{refused_group}
use Rattle.groups_command.proofs.Printing.{shared_line, group_line, one_text}
use Rattle.groups_command.proofs.refusing.refuse.Goals as goal

pub returns-in-Ok-clause-prints : goal.returns-in-Ok-clause-prints
returns-in-Ok-clause-prints g c told text is = c.refuse.ensures.prints told text (sym (shared_line c.args.status c.in-Ok.one (sym c.split.ensures ∙ c.in-Ok.is)) ∙ is)

pub returns-in-Err-clause-prints : goal.returns-in-Err-clause-prints
returns-in-Err-clause-prints g c told text is =
    let wrong = c.in-Err.wrong in
    subst (λ (t : List ℕ). Prints (g.K.Sink.taken c.args.out.now) (g.K.Sink.taken c.print_group.new.out) t
    (Rose (g.K.Sink.faults c.args.out.now) (g.K.Sink.faults c.print_group.new.out)))
    (one_text (refused_group wrong.disk wrong.region) text (sym (group_line c.args.status wrong (sym c.split.ensures ∙ c.in-Err.is)) ∙ is)) (c.print_group.ensures.prints told)
