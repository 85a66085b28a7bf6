use Rattle.disk_fakes.specs.Table.{files_in}
use Rattle.disk_fakes.proofs.SafeNoted.{loop_met, loop_files}
use Rattle.disk_fakes.proofs.safe_disk.SafeDisk.replayed.Goals as goal

pub replay-requires : goal.replay-requires
replay-requires c =
    loop_met c.args.self.now.arena.items c.deref.result.now c.args.self.now.calls.items c.deref-call-items.result.now c.loop-call.call-index _ c.deref.ensures.value c.deref-call-items.ensures.value c.loop-call-test.true
    (files_in c.loop-call.table) c.loop-call.invariant c.args.self.now.met

pub loop-call-preserved : goal.loop-call-preserved
loop-call-preserved c =
    loop_files c.args.self.now.arena.items c.deref.result.now c.args.self.now.calls.items c.deref-call-items.result.now c.loop-call.call-index _ c.deref.ensures.value c.deref-call-items.ensures.value c.loop-call-test.true
    (files_in c.loop-call.table) (files_in c.replay.new.table) c.loop-call.invariant c.in_ok-replay.ensures
