use Rattle.made_script.proofs.Counting.{one_list_more, up_to_list}
use Rattle.made_script.proofs.counts.count_calls.Goals as goal

pub loop-list-preserved : goal.loop-list-preserved
loop-list-preserved c =
    let lists = c.as_slice-list-items.result.now in
    let i = c.loop-list.list-index in
    record {
      so_far = one_list_more c.loop-list.counts c.count_list.new.counts lists i c.list-item.result c.loop-list-test.true c.list-item.is c.loop-list.invariant.so_far c.count_list.ensures.counted;
      most = up_to_list i c.loop-list.counts c.count_list.new.counts c.count_list.ensures.most c.loop-list.invariant.most;
    }
