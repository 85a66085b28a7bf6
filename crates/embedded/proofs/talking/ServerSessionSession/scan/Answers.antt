use Rattle.std.proofs.Common.{sym, ◌∙◌}
use Rattle.handler_threads.specs.region_calls.Passes.{knows}
use Rattle.embedded.proofs.Later.{set_after}
use Rattle.embedded.proofs.talking.ServerSessionSession.scan.Goals as goal

pub returns-clause-of : goal.returns-clause-of
returns-clause-of g c =
    let s = c.args.self.now in (
      c.scan.ensures.of,
      set_after g.N.ServerNaming.name s.time s.regions s.calls s.calls (knows s.first.value) (knows s.pass) (knows c.scan.new.pass) c.requires.of.1
          c.scan.ensures.scans.later (c.requires.of.1.calls_are ∙ sym c.scan.ensures.scans.used),
    )
