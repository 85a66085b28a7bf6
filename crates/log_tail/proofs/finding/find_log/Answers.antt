use Rattle.std.proofs.Common.{◌≡◌, List, Option, sym, ◌∙◌, subst}
use Rattle.std.specs.FinMap.{keys}
use Rattle.log_model.specs.declared.name.Name.{Name}
use Rattle.log_tail.specs.Found.{HasSeen, HasFound}
use Rattle.log_tail.proofs.Found.{found_so}
use Rattle.log_tail.proofs.finding.find_log.Goals as goal

pub returns-clause-found : goal.returns-clause-found
returns-clause-found g c told =
    let disk = g.D.Disk.view c.args.disk.now in
    let seen = c.look_for-seen.result in
    let same : c.as_slice.result.now ≡ keys disk.files = c.as_slice.ensures ∙ c.in_ok-names.ensures.names told in
    subst (λ (o : Option Name). HasFound disk.files c.args.number (record { name = o; has_higher = seen.has_higher })) (sym c.counted.ensures)
    (found_so disk.files (g.met.D.Disk.is_true c.args.disk.now told).named c.args.number seen (subst (λ (l : List Name). HasSeen l c.args.number seen) same c.look_for-seen.ensures.seen))
