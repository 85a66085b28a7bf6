use Rattle.std.proofs.Common.{◌∙◌, ap, is_some, subst, List, Contains}
use Rattle.std.specs.FinMap.{get}
use Rattle.log_model.specs.declared.name.Name.{Name}
use Rattle.folder_system.specs.System.{Folder}
use Rattle.folder_system.proofs.Mended.{opened, opened_safely, listed_there}
use Rattle.folder_system.proofs.opening.mend.Goals as goal

pub mend_files-requires : goal.mend_files-requires
mend_files-requires g c = record {
  there = λ told m has.
      let old = g.S.System.view c.args.system.now in
      ap (λ (D : Folder). is_some (get D m)) (c.names.ensures.looks told).observes.folder
      ∙ listed_there old.folder old.bytes m (subst (λ (l : List Name). Contains l m) (c.as_slice.ensures.value ∙ c.in-Ok.ensures.names told) has);
}

pub returns-in-Ok-tick-clause-opens : goal.returns-in-Ok-tick-clause-opens
returns-in-Ok-tick-clause-opens g c told =
    opened (g.S.System.view c.args.system.now) (g.S.System.view c.names.new.self) (g.S.System.view c.mend_files.new.system) (g.S.System.view c.sync_folder.new.self)
    (g.S.System.view c.tick.new.self) (g.met.S.System.is_true c.args.system.now told) (g.met.S.System.is_true c.mend_files.new.system told) (g.met.S.System.is_true c.sync_folder.new.self told)
    c.as_slice.result.now (c.as_slice.ensures.value ∙ c.in-Ok.ensures.names told) (c.names.ensures.looks told) (c.in-Ok-mend_files.ensures.mends told)
    (c.sync_folder.ensures.syncs told).looks (c.in-Ok-sync_folder.ensures.syncs told).pinned (c.in-Ok-tick.ensures.ticks told)

pub returns-in-Ok-tick-clause-safely : goal.returns-in-Ok-tick-clause-safely
returns-in-Ok-tick-clause-safely g c told =
    opened_safely (g.S.System.view c.args.system.now) (g.S.System.view c.names.new.self) (g.S.System.view c.mend_files.new.system) (g.S.System.view c.sync_folder.new.self)
    (g.S.System.view c.tick.new.self) (g.met.S.System.is_true c.args.system.now told) (g.met.S.System.is_true c.mend_files.new.system told) (g.met.S.System.is_true c.sync_folder.new.self told)
    c.as_slice.result.now (c.as_slice.ensures.value ∙ c.in-Ok.ensures.names told) (c.names.ensures.looks told) (c.in-Ok-mend_files.ensures.mends told)
    (c.sync_folder.ensures.syncs told).looks (c.in-Ok-sync_folder.ensures.syncs told).pinned (c.in-Ok-tick.ensures.ticks told)
