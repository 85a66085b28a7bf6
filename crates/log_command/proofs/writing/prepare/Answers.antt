use Rattle.std.proofs.Common.{◌≡◌, ◌≤◌, ◌∙◌, List, ap, length, arith, get_or}
use Rattle.region_model.specs.Calls.{Call}
use Rattle.script_model.specs.Calls.{Script}
use Rattle.log_command.proofs.Framing.{handler_on, handlers_done}
use Rattle.log_command.proofs.writing.prepare.Goals as goal

pub loop-calls-preserved : goal.loop-calls-preserved
loop-calls-preserved c =
    let len : length c.loop-calls.frames.items ≡ c.loop-calls.frames.len = omega (arith, c.loop-calls.frames.ok.0) in
    let new_len : length c.add_frames.new.frames.items ≡ c.add_frames.new.frames.len = omega (arith, c.add_frames.new.frames.ok.0) in
    let time : c.script.inside.time ≡ c.args.script.now.time = ap (λ (s : Script). s.time) c.script.view_is in
    let handlers : c.as_slice-calls-items.result.now ≡ c.args.script.now.handlers = c.as_slice-calls-items.ensures ∙ ap (λ (s : Script). s.handlers) c.script.view_is in
    handler_on c.args.script.now c.script.inside.time c.loop-calls.calls-index c.loop-calls.frames.len c.loop-calls.frames.items c.add_frames.new.frames.items
    c.calls-item.result c.as_slice.result.now c.requires time
    (omega (arith, c.loop-calls-test.true, ap length handlers))
    (c.calls-item.is ∙ ap (λ (hs : List (List Call)). get_or hs c.loop-calls.calls-index c.calls-item.result) handlers) c.as_slice.ensures
    c.loop-calls.invariant len c.in_ok-add_frames.ensures.frames c.in_ok-add_frames.ensures.entries (omega (arith, new_len, c.in_ok-add_frames.ensures.few))

pub returns-clause-frames : goal.returns-clause-frames
returns-clause-frames c =
    let past : length c.args.script.now.handlers ≤ c.loop-calls.calls-index
    = omega (arith, c.loop-calls-test.false, ap length c.as_slice-calls-items.ensures, ap (λ (s : Script). length s.handlers) c.script.view_is) in
    (handlers_done c.args.script.now c.loop-calls.calls-index _ c.loop-calls.frames.items c.loop-calls.invariant past).0

pub returns-clause-entries : goal.returns-clause-entries
returns-clause-entries c =
    let past : length c.args.script.now.handlers ≤ c.loop-calls.calls-index
    = omega (arith, c.loop-calls-test.false, ap length c.as_slice-calls-items.ensures, ap (λ (s : Script). length s.handlers) c.script.view_is) in
    (handlers_done c.args.script.now c.loop-calls.calls-index _ c.loop-calls.frames.items c.loop-calls.invariant past).1
