use Rattle.std.proofs.Common.{map}
use Rattle.script_text.proofs.GroupLaws.{in_limits}
use Rattle.script_text.specs.State.{handler_call}
use Rattle.script_text.proofs.state.make_script.Goals as goal

pub returns-clause-within : goal.returns-clause-within
returns-clause-within c =
    in_limits c.args.time c.args.regions c.args.handlers c.in_ok-handlers.handlers (map handler_call c.args.calls.items) c.requires.time c.requires.regions c.requires.handlers c.requires.calls c.requires.few c.in_ok-handlers.ensures
