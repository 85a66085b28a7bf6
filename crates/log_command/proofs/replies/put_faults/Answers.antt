use Rattle.std.proofs.Common.{arith}
use Rattle.log_command.proofs.ReplyLaws.{fault_more}
use Rattle.log_command.proofs.replies.put_faults.Goals as goal

pub loop-i-preserved : goal.loop-i-preserved
loop-i-preserved c = record {
  text = fault_more c.args.out.now.items c.loop-i.out.items c.put_reply.new.out.items c.args.first c.loop-i.i c.loop-i.invariant.text c.put_reply.ensures.text;
  len = omega (arith, c.loop-i.invariant.len, c.put_reply.ensures.len);
  capacity = omega (arith, c.loop-i.invariant.capacity, c.put_reply.ensures.capacity);
}
