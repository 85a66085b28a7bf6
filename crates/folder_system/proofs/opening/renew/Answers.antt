use Rattle.std.proofs.lemmas.Result.{on_ok_weaker}
use Rattle.folder_system.proofs.Mended.{renewing}
use Rattle.folder_system.proofs.opening.renew.Goals as goal

pub returns-clause-renews : goal.returns-clause-renews
returns-clause-renews g c told =
    on_ok_weaker c.put_in_place.result (λ placed.
    renewing c.args.name (g.S.System.inode c.in-Ok.from) (g.S.System.inode c.in-Ok-create_part.to)
    (g.S.System.view c.args.system.now) (g.S.System.view c.open.new.self) (g.S.System.view c.create_part.new.self) (g.S.System.view c.copy_bytes.new.system)
    (g.S.System.view c.copy_access.new.self) (g.S.System.view c.sync.new.self) (g.S.System.view c.put_in_place.new.self)
    (g.met.S.System.is_true c.args.system.now told) (g.met.S.System.is_true c.open.new.self told) (g.met.S.System.is_true c.copy_bytes.new.system told)
    (g.met.S.System.is_true c.copy_access.new.self told) (g.met.S.System.is_true c.sync.new.self told) (c.in-Ok.ensures.opened told) (c.open.ensures.looks told) (c.in-Ok-create_part.ensures.creates told).made
    (c.in-Ok-copy_bytes.ensures.copies told) (c.copy_access.ensures.looks told) (c.sync.ensures.syncs told).observes (c.sync.ensures.syncs told).parts
    (c.in-Ok-sync.ensures.syncs told).certain (c.in-Ok-sync.ensures.syncs told).pinned placed)
    (c.put_in_place.ensures.puts told).placed
