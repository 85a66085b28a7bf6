use Rattle.std.proofs.Common.{ℕ, ◌+◌, sym, subst, arith}
use Rattle.std.specs.Option.{option_map}
use Rattle.server_model.specs.Steps.{Flushes}
use Rattle.handler_threads.specs.region_calls.Answers.{flush_answer}
use Rattle.handler_threads.specs.region_calls.Passes.{knows}
use Rattle.embedded.proofs.Later.{set_after}
use Rattle.embedded.proofs.talking.ServerSessionSession.flush.Goals as goal

pub flush-requires-clause-listed : goal.flush-requires-clause-listed
flush-requires-clause-listed g c =
    let of = c.requires.of.1 in
    of.flushers c.args.region (knows c.args.self.now.pass).handler (c.args.self.now.calls + 1) of.handler.0 of.handler.1 (omega (arith, of.calls_are, c.requires.left))

pub returns-clause-flushes : goal.returns-clause-flushes
returns-clause-flushes g c =
    let s = c.args.self.now in
    subst (λ (n : ℕ). Flushes g.N.ServerNaming.name c.args.region (option_map (λ (f : _). f.now) c.args.family) (record { handler = (knows s.pass).handler; call = n + 1 })
    (flush_answer c.flush.result) (knows s.pass) (knows c.flush.new.pass)) c.requires.of.1.calls_are c.flush.ensures.flushes

pub returns-clause-of : goal.returns-clause-of
returns-clause-of g c =
    let s = c.args.self.now in (
      c.flush.ensures.of,
      set_after g.N.ServerNaming.name s.time s.regions s.calls (s.calls + 1) (knows s.first.value) (knows s.pass) (knows c.flush.new.pass) c.requires.of.1
          c.flush.ensures.flushes.later (sym c.flush.ensures.flushes.used),
    )
