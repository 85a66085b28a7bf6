use Rattle.std.proofs.Common.{arith, ◌∙◌, ap, List, ℕ, ◌++◌}
use Rattle.log_command.proofs.ReplyLaws.{stopped}
use Rattle.log_command.proofs.replies.put_stopped.Goals as goal

pub returns : goal.returns
returns c =
    stopped c.args.count c.args.done c.args.out.now.items c.put_oks.new.out.items c.put_reply.new.out.items c.put_faults.new.out.items c.put_line.new.out.items
    c.requires.empty c.put_oks.ensures.text c.put_reply.ensures.text (omega arith) c.put_faults.ensures.text (c.put_line.ensures.text ∙ ap (λ (t : List ℕ). c.put_faults.new.out.items ++ t) c.end_line.ensures.text)
