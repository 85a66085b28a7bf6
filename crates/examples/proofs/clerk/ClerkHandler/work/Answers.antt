use Rattle.std.proofs.Common.{sym, ap, ◌∙◌}
use Rattle.cell_model.specs.Batch.{Batch}
use Rattle.examples.proofs.Putting.{put_known, known_later}
use Rattle.examples.proofs.clerk.ClerkHandler.work.Goals as goal

-- what was synced by its put is its own and stays so in its scan and its flush
pub returns-clause-did : goal.returns-clause-did
returns-clause-did g c n is =
    let knows = g.S.Session.knows in
    let put = put_known g.S.Session.name (g.S.Session.setting c.args.at.now).time _ _ c.args.self.now.row.now c.args.self.now.name.now c.put-put.result (knows c.args.at.now) _
    (ap (λ (b : Batch). b.cells) c.in-Some.ensures) c.put-put.ensures.puts n (sym c.ok-self.ensures.value ∙ is) in
    known_later _ _ n _ _ (known_later _ _ n _ _ put c.scan-scanned.ensures.scans.later c.scan-scanned.ensures.scans.own) c.flush-flushed.ensures.flushes.later c.flush-flushed.ensures.flushes.own
