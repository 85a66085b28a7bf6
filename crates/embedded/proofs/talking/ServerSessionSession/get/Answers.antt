use Rattle.std.proofs.Common.{ℕ, List, sym, ◌∙◌, subst}
use Rattle.region_model.specs.Calls.{Newest}
use Rattle.server_model.specs.Steps.{Scans}
use Rattle.handler_threads.specs.region_calls.Answers.{scan_answer}
use Rattle.embedded.proofs.Masking.{scan_rises, got_answer}
use Rattle.handler_threads.specs.region_calls.Passes.{knows}
use Rattle.embedded.proofs.Later.{set_after}
use Rattle.embedded.proofs.talking.ServerSessionSession.get.Goals as goal

pub masked-requires : goal.masked-requires
masked-requires g c = record {
  order = scan_rises g.N.ServerNaming.name c.args.region c.args.row.now c.as_slice.result.now (knows c.args.self.now.pass) (knows c.scan-scanned.new.pass) c.scan-scanned.result c.scan-scanned.ensures.scans;
}

pub returns-clause-gets : goal.returns-clause-gets
returns-clause-gets g c =
    let name = g.N.ServerNaming.name in
    let old = knows c.args.self.now.pass in
    let new = knows c.scan-scanned.new.pass in
    subst (λ (to : List ℕ). Scans name (Newest c.args.versions) c.args.region c.args.row.now to (scan_answer c.masked.result) old new) (c.as_slice.ensures.value ∙ c.in_ok-behind.ensures)
    (got_answer name c.args.region c.args.row.now c.as_slice.result.now old new c.args.versions c.scan-scanned.result c.masked.result c.scan-scanned.ensures.scans c.masked.ensures)

pub returns-clause-of : goal.returns-clause-of
returns-clause-of g c =
    let s = c.args.self.now in (
      c.scan-scanned.ensures.of,
      set_after g.N.ServerNaming.name s.time s.regions s.calls s.calls (knows s.first.value) (knows s.pass) (knows c.scan-scanned.new.pass) c.requires.of.1
          c.scan-scanned.ensures.scans.later (c.requires.of.1.calls_are ∙ sym c.scan-scanned.ensures.scans.used),
    )
