use Rattle.std.proofs.Common.{◌∙◌, IsTrue, List, sym, subst}
use Rattle.log_model.specs.declared.name.Name.{Name}
use Rattle.disk_images.proofs.Watching.{watches_once}
use Rattle.found_files.specs.OfRegion.{AreNamesOf}
use Rattle.found_files.proofs.InRegion.{are_names_of}
use Rattle.found_files.proofs.one_region.names_in.Goals as goal

pub returns-in_err-all-clause-watches : goal.returns-in_err-all-clause-watches
returns-in_err-all-clause-watches g c told = (1, watches_once (g.D.Disk.view c.args.disk.now) (g.D.Disk.view c.names.new.self) (c.names.ensures.looks told))

pub returns-in_err-own-clause-watches : goal.returns-in_err-own-clause-watches
returns-in_err-own-clause-watches g c told = (1, watches_once (g.D.Disk.view c.args.disk.now) (g.D.Disk.view c.names.new.self) (c.names.ensures.looks told))

pub returns-clause-watches : goal.returns-clause-watches
returns-clause-watches g c told = (1, watches_once (g.D.Disk.view c.args.disk.now) (g.D.Disk.view c.names.new.self) (c.names.ensures.looks told))

pub returns-clause-names : goal.returns-clause-names
returns-clause-names g c =
    let files = (g.D.Disk.view c.args.disk.now).files in
    subst (λ (l : List Name). AreNamesOf (IsTrue g.D.Disk.told) files c.args.region l) (sym c.in_ok-own.ensures) (are_names_of (IsTrue g.D.Disk.told) files c.args.region c.as_slice.result.now (λ t. c.as_slice.ensures ∙ c.in_ok-all.ensures.names t))
