use Rattle.report_text.proofs.LineLaws.{head_appended}
use Rattle.report_text.proofs.replies.head_line.Goals as goal

pub returns-clause-text : goal.returns-clause-text
returns-clause-text c =
    head_appended _ _ _ _ c.new-line.result c.push_two.new.self c.push.new.self c.push_answer.new.line c.push-2.new.self
    c.new-line.ensures c.push_two.ensures.text c.push.ensures.text c.push_answer.ensures.text c.push-2.ensures.text
