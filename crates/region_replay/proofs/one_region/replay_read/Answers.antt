use Rattle.std.proofs.Common.{◌≡◌, ◌∙◌, IsTrue, refl, sym, ap, subst, arith, ℕ}
use Rattle.std.specs.Prelude.{Err}
use Rattle.log_model.specs.declared.name.Name.{Name}
use Rattle.log_model.specs.Files.{content}
use Rattle.disk_images.proofs.Moments.{at_once}
use Rattle.file_base.specs.declared.error.FileRefusal.{FileRefusal}
use Rattle.recovery_laws.specs.Alike.{AllAlike}
use Rattle.found_files.proofs.Causes.{same_cause, no_error}
use Rattle.region_replay.specs.Names.{store_name}
use Rattle.region_replay.specs.Ready.{IsOf}
use Rattle.region_replay.specs.Stored.{StoresReplayed}
use Rattle.region_replay.proofs.Passing.{else_same}
use Rattle.region_replay.proofs.RegionAlone.{in_order, next_absent, edits_there, none_of_region, is_found}
use Rattle.region_replay.proofs.StillSplit.{still_split, one_higher}
use Rattle.region_replay.proofs.one_region.replay_read.Goals as goal

pub region_of-requires-clause-stores : goal.region_of-requires-clause-stores
region_of-requires-clause-stores g c y has =
    let e = (c.requires.read.each y has).1 in
    let region : y.name.region ≡ c.args.region = ap (λ (m : Name). m.region) e.2 ∙ (c.requires.names.each e.0 e.1).0 in
    omega (arith, region, c.requires.region.1)

pub replay_and_clear-requires-clause-order : goal.replay_and_clear-requires-clause-order
replay_and_clear-requires-clause-order g c =
    let u = g.D.Disk.view c.args.disk.now in
    let found = c.args.found in
    in_order (IsTrue g.D.Disk.told) u.files c.args.region c.requires.region.0 c.requires.region.1 found.names.items found.files.entries.items found.files.stores.items c.requires.names c.requires.read c.in_ok-files.files c.in_ok-files.ensures

pub replay_and_clear-requires-clause-absent : goal.replay_and_clear-requires-clause-absent
replay_and_clear-requires-clause-absent g c told =
    let u = g.D.Disk.view c.args.disk.now in
    let found = c.args.found in
    (next_absent (IsTrue g.D.Disk.told) u.files c.args.region c.requires.region.0 c.requires.region.1 found.names.items found.files.entries.items found.files.stores.items c.requires.names c.requires.read c.in_ok-files.files c.in_ok-files.ensures told, c.requires.stores told (store_name c.in_ok-files.files.region c.in_ok-files.files.next_store) refl)

pub replay_and_clear-requires-clause-there : goal.replay_and_clear-requires-clause-there
replay_and_clear-requires-clause-there g c told m has =
    let u = g.D.Disk.view c.args.disk.now in
    let found = c.args.found in
    edits_there (IsTrue g.D.Disk.told) u.files c.args.region c.requires.region.0 c.requires.region.1 found.names.items found.files.entries.items found.files.stores.items c.requires.names c.requires.read c.in_ok-files.files c.in_ok-files.ensures told m has

pub returns-in_err-files-clause-any_moment : goal.returns-in_err-files-clause-any_moment
returns-in_err-files-clause-any_moment g c told split =
    let u = g.D.Disk.view c.args.disk.now in
    (0, at_once (AllAlike u.files) u split.held.alike)

pub returns-in-Ok-clause-any_moment : goal.returns-in-Ok-clause-any_moment
returns-in-Ok-clause-any_moment g c told split =
    let u = g.D.Disk.view c.args.disk.now in
    let found = c.args.found in
    c.replay_and_clear.ensures.any_moment told u.files split.held (is_found (IsTrue g.D.Disk.told) u.files c.args.region c.requires.region.0 c.requires.region.1 found.names.items found.files.entries.items found.files.stores.items c.requires.names c.requires.read c.in_ok-files.files c.in_ok-files.ensures told split.no_logs split.given)

pub returns-in-Err-Memory-clause-any_moment : goal.returns-in-Err-Memory-clause-any_moment
returns-in-Err-Memory-clause-any_moment g c told split =
    let u = g.D.Disk.view c.args.disk.now in
    let found = c.args.found in
    c.replay_and_clear.ensures.any_moment told u.files split.held (is_found (IsTrue g.D.Disk.told) u.files c.args.region c.requires.region.0 c.requires.region.1 found.names.items found.files.entries.items found.files.stores.items c.requires.names c.requires.read c.in_ok-files.files c.in_ok-files.ensures told split.no_logs split.given)

pub returns-in-Err-DiskFault-clause-any_moment : goal.returns-in-Err-DiskFault-clause-any_moment
returns-in-Err-DiskFault-clause-any_moment g c told split =
    let u = g.D.Disk.view c.args.disk.now in
    let found = c.args.found in
    c.replay_and_clear.ensures.any_moment told u.files split.held (is_found (IsTrue g.D.Disk.told) u.files c.args.region c.requires.region.0 c.requires.region.1 found.names.items found.files.entries.items found.files.stores.items c.requires.names c.requires.read c.in_ok-files.files c.in_ok-files.ensures told split.no_logs split.given)

pub returns-in-Ok-clause-split : goal.returns-in-Ok-clause-split
returns-in-Ok-clause-split g c told split =
    let u = g.D.Disk.view c.args.disk.now in
    let found = c.args.found in
    let w = g.D.Disk.view c.replay_and_clear.new.disk in
    let here = is_found (IsTrue g.D.Disk.told) u.files c.args.region c.requires.region.0 c.requires.region.1 found.names.items found.files.entries.items found.files.stores.items c.requires.names c.requires.read c.in_ok-files.files c.in_ok-files.ensures told split.no_logs split.given in
    still_split u w c.in_ok-files.files (in_order (IsTrue g.D.Disk.told) u.files c.args.region c.requires.region.0 c.requires.region.1 found.names.items found.files.entries.items found.files.stores.items c.requires.names c.requires.read c.in_ok-files.files c.in_ok-files.ensures) (g.met.D.Disk.is_true c.replay_and_clear.new.disk told) split here (c.in-Ok.ensures.held told u.files split.held here) (c.in-Ok.ensures.others told) (c.in-Ok.ensures.no_edits told)

pub returns-in-Ok-clause-names : goal.returns-in-Ok-clause-names
returns-in-Ok-clause-names g c told split =
    let u = g.D.Disk.view c.args.disk.now in
    let found = c.args.found in
    let w = g.D.Disk.view c.replay_and_clear.new.disk in
    let here = is_found (IsTrue g.D.Disk.told) u.files c.args.region c.requires.region.0 c.requires.region.1 found.names.items found.files.entries.items found.files.stores.items c.requires.names c.requires.read c.in_ok-files.files c.in_ok-files.ensures told split.no_logs split.given in
    one_higher u w c.in_ok-files.files (in_order (IsTrue g.D.Disk.told) u.files c.args.region c.requires.region.0 c.requires.region.1 found.names.items found.files.entries.items found.files.stores.items c.requires.names c.requires.read c.in_ok-files.files c.in_ok-files.ensures) here (c.in-Ok.ensures.others told) (c.in-Ok.ensures.no_edits told)

pub returns-in-Ok-clause-replayed : goal.returns-in-Ok-clause-replayed
returns-in-Ok-clause-replayed g c told split =
    let u = g.D.Disk.view c.args.disk.now in
    let found = c.args.found in
    let w = g.D.Disk.view c.replay_and_clear.new.disk in
    subst (λ (r : ℕ). IsOf u.files w.files r c.in-Ok.replayed) c.in_ok-files.ensures.region (c.in-Ok.ensures.replayed told u.files split.held (is_found (IsTrue g.D.Disk.told) u.files c.args.region c.requires.region.0 c.requires.region.1 found.names.items found.files.entries.items found.files.stores.items c.requires.names c.requires.read c.in_ok-files.files c.in_ok-files.ensures told split.no_logs split.given))

pub returns-in-Ok-clause-stored : goal.returns-in-Ok-clause-stored
returns-in-Ok-clause-stored g c told split =
    let u = g.D.Disk.view c.args.disk.now in
    let found = c.args.found in
    let w = g.D.Disk.view c.replay_and_clear.new.disk in
    subst (λ (r : ℕ). StoresReplayed u.files w.files r c.in-Ok.replayed) c.in_ok-files.ensures.region (c.in-Ok.ensures.stored told (is_found (IsTrue g.D.Disk.told) u.files c.args.region c.requires.region.0 c.requires.region.1 found.names.items found.files.entries.items found.files.stores.items c.requires.names c.requires.read c.in_ok-files.files c.in_ok-files.ensures told split.no_logs split.given))

pub returns-in-Ok-clause-no_edits : goal.returns-in-Ok-clause-no_edits
returns-in-Ok-clause-no_edits g c told J m now edits region =
    let u = g.D.Disk.view c.args.disk.now in
    let found = c.args.found in
    let w = g.D.Disk.view c.replay_and_clear.new.disk in
    (c.in-Ok.ensures.pinned told).absent J m now (none_of_region (IsTrue g.D.Disk.told) u.files c.args.region c.requires.region.0 c.requires.region.1 found.names.items found.files.entries.items found.files.stores.items c.requires.names c.requires.read c.in_ok-files.files c.in_ok-files.ensures told w.files (c.in-Ok.ensures.others told) (c.in-Ok.ensures.no_edits told) m edits region)

pub returns-in-Ok-clause-none_gone : goal.returns-in-Ok-clause-none_gone
returns-in-Ok-clause-none_gone g c told = (c.in-Ok.ensures.pinned told).none_gone

pub returns-in-Ok-clause-others : goal.returns-in-Ok-clause-others
returns-in-Ok-clause-others g c told m other =
    let u = g.D.Disk.view c.args.disk.now in
    let found = c.args.found in
    let w = g.D.Disk.view c.replay_and_clear.new.disk in
    else_same c.in_ok-files.files (in_order (IsTrue g.D.Disk.told) u.files c.args.region c.requires.region.0 c.requires.region.1 found.names.items found.files.entries.items found.files.stores.items c.requires.names c.requires.read c.in_ok-files.files c.in_ok-files.ensures) u.files w.files (c.in-Ok.ensures.others told) m (λ kind is. other kind (is ∙ c.in_ok-files.ensures.region))

pub returns-in-Ok-clause-stay : goal.returns-in-Ok-clause-stay
returns-in-Ok-clause-stay g c told m store here =
    let u = g.D.Disk.view c.args.disk.now in
    let found = c.args.found in
    c.in-Ok.ensures.others told m (λ is. here (ap (λ (k : Name). content u.files k) is ∙ next_absent (IsTrue g.D.Disk.told) u.files c.args.region c.requires.region.0 c.requires.region.1 found.names.items found.files.entries.items found.files.stores.items c.requires.names c.requires.read c.in_ok-files.files c.in_ok-files.ensures told))
    (λ n has is. absurd (cc (sym store ∙ ap (λ (k : Name). k.kind) is ∙ (in_order (IsTrue g.D.Disk.told) u.files c.args.region c.requires.region.0 c.requires.region.1 found.names.items found.files.entries.items found.files.stores.items c.requires.names c.requires.read c.in_ok-files.files c.in_ok-files.ensures).edits.kind n has)))

pub returns-in-Ok-clause-cause : goal.returns-in-Ok-clause-cause
returns-in-Ok-clause-cause g c = same_cause c.replay_and_clear.ensures.cause (λ is. absurd (no_error is))

pub returns-in-Err-DiskFault-clause-cause : goal.returns-in-Err-DiskFault-clause-cause
returns-in-Err-DiskFault-clause-cause g c = same_cause c.in-Err-DiskFault.ensures.cause (λ is. ap (λ (e : FileRefusal). Err e) c.in-Err-DiskFault.field-0-is)
