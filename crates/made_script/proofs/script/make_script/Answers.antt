use Rattle.std.proofs.Common.{◌≡◌, ◌-◌, ◌+◌, List, sym, subst, ◌∙◌, arith}
use Rattle.region_model.specs.Calls.{Call}
use Rattle.script_model.specs.Calls.{IsScript}
use Rattle.made_script.specs.Made.{made_handlers}
use Rattle.made_script.proofs.Making.{one_handler_more, all_handlers}
use Rattle.made_script.proofs.MadeLaws.{made_right}
use Rattle.made_script.proofs.script.make_script.Goals as goal

pub loop-before-preserved : goal.loop-before-preserved
loop-before-preserved c =
    let o = c.args.options in
    one_handler_more c.loop-before.lists.items c.push.new.self.items c.in_ok-make_calls.field-0 (made_handlers o o.handlers 1) o o.handlers c.loop-before.before
    (omega arith) c.in_ok-push.ensures.items c.in_ok-make_calls.ensures c.loop-before.invariant

pub returns-clause-right : goal.returns-clause-right
returns-clause-right c =
    let o = c.args.options in
    let all : c.of.result ≡ made_handlers o o.handlers 1 =
    c.of.ensures ∙ all_handlers c.loop-before.lists.items (made_handlers o o.handlers 1) o (o.handlers - c.loop-before.before) (c.loop-before.before + 1) (omega arith) c.loop-before.invariant in
    subst (λ (hs : List (List Call)). IsScript (record { time = 0; regions = o.regions; handlers = hs })) (sym all) (made_right o c.requires)
