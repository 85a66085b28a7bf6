use Rattle.std.proofs.Common.{arith}
use Rattle.made_script.specs.Made.{calls_of}
use Rattle.made_script.proofs.Making.{one_call_more}
use Rattle.made_script.proofs.script.make_calls.Goals as goal

pub loop-before-preserved : goal.loop-before-preserved
loop-before-preserved c =
    let o = c.args.options in
    one_call_more c.loop-before.calls.items c.push.new.self.items c.in_ok-make_call.field-0 (calls_of o c.args.handler) o.regions c.args.handler o.count c.loop-before.before c.loop-before.x c.next_number-x.result
    (omega arith) c.in_ok-push.ensures.items c.next_number-x.ensures c.in_ok-make_call.ensures c.loop-before.invariant
