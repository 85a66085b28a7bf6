use Rattle.std.proofs.Common.{◌≡◌, List, ℕ, sym, ap, subst, ◌∙◌}
use Rattle.command_base.specs.Prints.{Prints}
use Rattle.command_base.specs.declared.status.Status.TheVariants.{SinkFault}
use Rattle.dump_command.specs.Found.{found_text}
use Rattle.dump_command.proofs.Dumps.{none_bytes}
use Rattle.dump_command.proofs.command.print_found.Goals as goal

pub returns-in-None-clause-prints : goal.returns-in-None-clause-prints
returns-in-None-clause-prints g c told other =
    subst (λ (t : List ℕ). Prints (g.K.Sink.taken c.args.out.now) (g.K.Sink.taken c.emit.new.sink) t (c.emit.result ≡ SinkFault)) (sym (ap found_text c.in-None.is ∙ none_bytes)) (c.emit.ensures.prints told (λ e. absurd cc))
