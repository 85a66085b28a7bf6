use Rattle.std.proofs.Common.{◌++◌, List, ℕ, ap, ◌∙◌}
use Rattle.report_text.proofs.LineLaws.{reply_appended}
use Rattle.report_text.proofs.replies.append_reply.Goals as goal

pub returns-clause-ok : goal.returns-clause-ok
returns-clause-ok c = rw (← c.reply.view_is)
    (reply_appended _ c.args.out.now.items c.append.new.out.items c.append_told.new.out.items
    (c.in_ok-append.ensures.ok ∙ ap (λ (t : List ℕ). c.args.out.now.items ++ t) (c.as_slice.ensures.text ∙ c.head_line-line.ensures.text))
    c.in_ok-append_told.ensures.ok)
