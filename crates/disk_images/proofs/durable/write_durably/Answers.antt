use Rattle.std.proofs.Math.Logic.{∥∥₁_map}
use Rattle.std.proofs.Common.{length, sym, subst, arith}
use Rattle.log_model.specs.Files.{Reads}
use Rattle.disk_images.specs.Crash.{IsDurable, overwritten}
use Rattle.disk_images.specs.OneFile.{TornAt}
use Rattle.disk_images.proofs.Moments.{goes_on, more_time}
use Rattle.std.proofs.lemmas.Result.{on_ok_weaker}
use Rattle.disk_images.proofs.Torn.{writing, written_image}
use Rattle.disk_images.proofs.durable.write_durably.Goals as goal

pub returns-in_err-write_at-clause-any_moment : goal.returns-in_err-write_at-clause-any_moment
returns-in_err-write_at-clause-any_moment g c told =
    more_time _ 1 2 _ _ (omega arith) (writing c.args.name c.args.at c.args.bytes.now _ _ (c.requires.unmoved told) (c.write_at.ensures.writes told))

pub returns-clause-durable : goal.returns-clause-durable
returns-clause-durable g c told bytes reads =
    let writes = c.write_at.ensures.writes told in
    let syncs = c.sync.ensures.syncs told in
    let now = (c.in_ok-write_at.ensures.writes told).written bytes reads in
    on_ok_weaker c.sync.result
    (λ (durable : (b : _) → Reads (g.D.Disk.view c.write_at.new.self).files c.args.name b → IsDurable (g.D.Disk.view c.sync.new.self) c.args.name b). record {
      reads = subst (λ files. Reads files c.args.name (overwritten bytes c.args.at c.args.bytes.now)) (sym syncs.looks.files) now;
      durable = durable (overwritten bytes c.args.at c.args.bytes.now) now;
      unmoved = λ m former. c.requires.unmoved told m (writes.formerly c.args.name m (syncs.looks.formerly c.args.name m former));
    })
    syncs.durable

pub returns-clause-any_moment : goal.returns-clause-any_moment
returns-clause-any_moment g c told =
    let before = g.D.Disk.view c.args.disk.now in
    let between = g.D.Disk.view c.write_at.new.self in
    let after = g.D.Disk.view c.sync.new.self in
    let P = TornAt c.args.name c.args.at (length c.args.bytes.now) before in
    let writes = c.write_at.ensures.writes told in
    let syncs = c.sync.ensures.syncs told in
    let first = writing c.args.name c.args.at c.args.bytes.now before between (c.requires.unmoved told) writes in
    goes_on P 1 before between after first syncs.looks.time
    (λ J now. written_image c.args.name c.args.at (length c.args.bytes.now) before between (c.requires.unmoved told) writes.crash J (syncs.looks.crash J now))

pub sync-requires : goal.sync-requires
sync-requires g c told =
    let first = told in
    ∥∥₁_map (c.requires.there first) (λ r. let t = (c.write_at.ensures.writes first).torn r.0 r.1 in (t.0, t.1))
