use Rattle.std.proofs.Common.{ℕ, ◌+◌, sym, subst}
use Rattle.server_model.specs.Steps.{Puts}
use Rattle.handler_threads.specs.region_calls.Answers.{is_sync, put_answer}
use Rattle.handler_threads.specs.region_calls.Passes.{knows}
use Rattle.embedded.proofs.Later.{set_after}
use Rattle.embedded.proofs.talking.ServerSessionSession.put.Goals as goal

pub returns-clause-puts : goal.returns-clause-puts
returns-clause-puts g c =
    let s = c.args.self.now in
    subst (λ (n : ℕ). Puts g.N.ServerNaming.name s.time c.args.region (is_sync c.args.durability) c.args.batch (record { handler = (knows s.pass).handler; call = n + 1 })
    (put_answer c.put.result) (knows s.pass) (knows c.put.new.pass)) c.requires.of.1.calls_are c.put.ensures.puts

pub returns-clause-of : goal.returns-clause-of
returns-clause-of g c =
    let s = c.args.self.now in (
      c.put.ensures.of,
      set_after g.N.ServerNaming.name s.time s.regions s.calls (s.calls + 1) (knows s.first.value) (knows s.pass) (knows c.put.new.pass) c.requires.of.1
          c.put.ensures.puts.later (sym c.put.ensures.puts.used),
    )
