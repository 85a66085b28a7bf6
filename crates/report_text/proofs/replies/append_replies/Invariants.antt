use Rattle.std.proofs.Common.{◌≡◌, ◌++◌, take}
use Rattle.std.specs.List.{flat_map, AllByRecursion}
use Rattle.script_model.specs.Report.{reply_text}
use Rattle.report_text.specs.Reading.{IsReplyLine}
use Rattle.report_text.proofs.replies.append_replies.Given as goal

abbrev pub invariant-loop-reply : goal.invariant-loop-reply
invariant-loop-reply l = (l.out.items ≡ l.initial.out.items ++ flat_map reply_text (take l.reply-index l.replies)) × AllByRecursion IsReplyLine (take l.reply-index l.replies)
