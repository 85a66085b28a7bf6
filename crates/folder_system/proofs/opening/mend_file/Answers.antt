use Rattle.std.proofs.Common.{◌∙◌, ap, is_some}
use Rattle.std.specs.FinMap.{get}
use Rattle.std.proofs.lemmas.Result.{on_ok_weaker}
use Rattle.folder_system.specs.System.{Folder}
use Rattle.folder_system.proofs.Mended.{renews_sealed, renews_after}
use Rattle.folder_system.proofs.opening.mend_file.Goals as goal

pub renew-requires : goal.renew-requires
renew-requires g c = record {
  there = λ told. ap (λ (D : Folder). is_some (get D c.args.name)) (c.is_sealed.ensures.looks told).observes.folder ∙ c.requires.there told;
}

pub returns-then-is_sealed-clause-renews : goal.returns-then-is_sealed-clause-renews
returns-then-is_sealed-clause-renews g c told =
    renews_sealed c.args.name (g.S.System.view c.args.system.now) (g.S.System.view c.is_sealed.new.self) (g.met.S.System.is_true c.args.system.now told) (c.is_sealed.ensures.looks told) (c.in-Ok.ensures.sealed told c.if-is_sealed.true)

pub returns-clause-renews : goal.returns-clause-renews
returns-clause-renews g c told =
    on_ok_weaker c.renew.result (λ r. renews_after c.args.name (g.S.System.view c.args.system.now) (g.S.System.view c.is_sealed.new.self) (g.S.System.view c.renew.new.system)
    (g.met.S.System.is_true c.args.system.now told) (c.is_sealed.ensures.looks told) r) (c.renew.ensures.renews told)
