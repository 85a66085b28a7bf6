use Rattle.std.proofs.Common.{IsTrue, List, refl, subst}
use Rattle.log_model.specs.declared.name.Name.{Name}
use Rattle.log_model.specs.Files.{IsSound}
use Rattle.log_model.specs.Damage.{IsDamage}
use Rattle.found_files.specs.declared.found.FoundFiles.{FoundFiles}
use Rattle.found_files.specs.declared.found.Finding.{Finding}
use Rattle.found_files.specs.Found.{AreRead}
use Rattle.found_files.specs.Sorted.{IsFirstPairOf}
use Rattle.found_files.proofs.Told.{handed_on}
use Rattle.found_files.proofs.Watched.{watched_on}
use Rattle.found_files.proofs.Sound.{found_read, are_sound}
use Rattle.found_files.proofs.Disagreeing.{pair_told, pair_unsound}
use Rattle.found_files.proofs.finding.find_files.Goals as goal

pub returns-in_err-files-clause-watches : goal.returns-in_err-files-clause-watches
returns-in_err-files-clause-watches g c told = watched_on (g.D.Disk.view c.args.disk.now) (g.D.Disk.view c.barrier.new.disk) (g.D.Disk.view c.read_checked.new.disk) (c.barrier.ensures.watches told) (c.read_checked.ensures.watches told)

pub returns-in_err-files-2-clause-watches : goal.returns-in_err-files-2-clause-watches
returns-in_err-files-2-clause-watches g c told = watched_on (g.D.Disk.view c.args.disk.now) (g.D.Disk.view c.barrier.new.disk) (g.D.Disk.view c.read_checked.new.disk) (c.barrier.ensures.watches told) (c.read_checked.ensures.watches told)

pub returns-clause-watches : goal.returns-clause-watches
returns-clause-watches g c told = watched_on (g.D.Disk.view c.args.disk.now) (g.D.Disk.view c.barrier.new.disk) (g.D.Disk.view c.read_checked.new.disk) (c.barrier.ensures.watches told) (c.read_checked.ensures.watches told)

pub returns-in_err-files-2-clause-damaged : goal.returns-in_err-files-2-clause-damaged
returns-in_err-files-2-clause-damaged g c told =
    let T = IsTrue g.D.Disk.told in
    let u = g.D.Disk.view c.args.disk.now in
    let v = g.D.Disk.view c.barrier.new.disk in
    let es = c.in_ok-files.files.entries.items in
    let ss = c.in_ok-files.files.stores.items in
    let h = c.from_residual-in_err-files-2.ensures in
    handed_on FoundFiles Finding (IsFirstPairOf es) (IsDamage u.files) c.in_err-files-2.field-0.0 c.from_residual-in_err-files-2.result h.0 h.1
    (λ d pair. pair_told T told u.files pair.0 ss
    (subst (λ (l : List Name). AreRead T u.files l l pair.0 ss) (c.in_ok-names.ensures.names told)
    (found_read T v.files u.files (λ t. (c.barrier.ensures.watches t).1.files) c.in_ok-names.names c.as_slice.result.now c.as_slice.ensures es pair.0 ss ss pair.2 refl c.in_ok-files.ensures.read)) pair.1 d pair.3)
    c.in_err-files-2.ensures.differ

pub returns-in_err-files-2-clause-unsound : goal.returns-in_err-files-2-clause-unsound
returns-in_err-files-2-clause-unsound g c told =
    let T = IsTrue g.D.Disk.told in
    let u = g.D.Disk.view c.args.disk.now in
    let v = g.D.Disk.view c.barrier.new.disk in
    let es = c.in_ok-files.files.entries.items in
    let ss = c.in_ok-files.files.stores.items in
    let h = c.from_residual-in_err-files-2.ensures in
    handed_on FoundFiles Finding (IsFirstPairOf es) (λ d. ¬ IsSound u.files) c.in_err-files-2.field-0.0 c.from_residual-in_err-files-2.result h.0 h.1
    (λ d pair. pair_unsound T told u.files pair.0 ss
    (subst (λ (l : List Name). AreRead T u.files l l pair.0 ss) (c.in_ok-names.ensures.names told)
    (found_read T v.files u.files (λ t. (c.barrier.ensures.watches t).1.files) c.in_ok-names.names c.as_slice.result.now c.as_slice.ensures es pair.0 ss ss pair.2 refl c.in_ok-files.ensures.read)) pair.1 d pair.3)
    c.in_err-files-2.ensures.differ

pub returns-clause-read : goal.returns-clause-read
returns-clause-read g c =
    let u = g.D.Disk.view c.args.disk.now in
    let v = g.D.Disk.view c.barrier.new.disk in
    found_read (IsTrue g.D.Disk.told) v.files u.files (λ is_told. (c.barrier.ensures.watches is_told).1.files) c.in_ok-names.names c.as_slice.result.now c.as_slice.ensures c.in_ok-files.files.entries.items c.in_ok-files-2.files.entries.items
    c.in_ok-files.files.stores.items c.in_ok-files-2.files.stores.items c.in_ok-files-2.ensures.same c.in_ok-files-2.ensures.stores c.in_ok-files.ensures.read

pub returns-clause-sound : goal.returns-clause-sound
returns-clause-sound g c told =
    let u = g.D.Disk.view c.args.disk.now in
    let v = g.D.Disk.view c.barrier.new.disk in
    let es = c.in_ok-files-2.files.entries.items in
    let ss = c.in_ok-files-2.files.stores.items in
    let read = found_read (IsTrue g.D.Disk.told) v.files u.files (λ is_told. (c.barrier.ensures.watches is_told).1.files) c.in_ok-names.names c.as_slice.result.now c.as_slice.ensures c.in_ok-files.files.entries.items es c.in_ok-files.files.stores.items ss
    c.in_ok-files-2.ensures.same c.in_ok-files-2.ensures.stores c.in_ok-files.ensures.read in
    are_sound (IsTrue g.D.Disk.told) told u.files es ss (subst (λ (l : List Name). AreRead (IsTrue g.D.Disk.told) u.files l l es ss) (c.in_ok-names.ensures.names told) read) c.in_ok-files-2.ensures.agree
