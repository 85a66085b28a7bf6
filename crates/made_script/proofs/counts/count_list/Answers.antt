use Rattle.made_script.proofs.Counting.{one_call_more, up_to_more}
use Rattle.made_script.proofs.counts.count_list.Goals as goal

pub loop-call-preserved : goal.loop-call-preserved
loop-call-preserved c =
    let calls = c.as_slice-call-items.result.now in
    let i = c.loop-call.call-index in
    record {
      so_far = one_call_more c.args.counts.now c.loop-call.counts c.count_call.new.counts calls i c.call-item.result c.loop-call-test.true c.call-item.is c.loop-call.invariant.so_far c.count_call.ensures.counted;
      most = λ n first. up_to_more n i c.loop-call.counts c.count_call.new.counts c.count_call.ensures.most (c.loop-call.invariant.most n first);
    }
