use Rattle.std.proofs.Common.{◌≡◌, length, map, take, arith, [], ◌∷◌}
use Rattle.script_calls.specs.Calls.{call_of}
use Rattle.log_command.proofs.Framing.{framed_on, among_at, calls_more}
use Rattle.log_command.proofs.writing.add_frames.Goals as goal

pub add_frame-requires-clause-among : goal.add_frame-requires-clause-among
add_frame-requires-clause-among c =
    among_at 64 c.loop-call.call-index c.args.calls.now c.call-item.result c.requires.calls c.loop-call-test.true c.call-item.is

pub loop-call-preserved : goal.loop-call-preserved
loop-call-preserved c =
    let len : length c.loop-call.frames.items ≡ c.loop-call.frames.len = omega (arith, c.loop-call.frames.ok.0) in
    let new_len : length c.add_frame.new.frames.items ≡ c.add_frame.new.frames.len = omega (arith, c.add_frame.new.frames.ok.0) in
    framed_on c.args.time c.loop-call.frames.len c.loop-call.call-index 1
    c.args.frames.now.items c.loop-call.frames.items c.add_frame.new.frames.items
    (map call_of (take c.loop-call.call-index c.args.calls.now)) (call_of c.call-item.result ∷ []) _
    c.loop-call.invariant len (c.in_ok-add_frame.ensures.frames) (c.in_ok-add_frame.ensures.entries) (omega (arith, new_len, c.in_ok-add_frame.ensures.few))
    (calls_more c.loop-call.call-index c.args.calls.now c.call-item.result c.loop-call-test.true c.call-item.is)
