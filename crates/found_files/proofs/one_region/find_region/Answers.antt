use Rattle.std.proofs.Common.{◌≡◌, IsTrue, List, Contains, refl, sym, subst}
use Rattle.std.specs.Prelude.{AllPairs}
use Rattle.std.specs.declared.cmp.Ordering.TheVariants.{Less}
use Rattle.log_model.specs.declared.name.Name.{Name}
use Rattle.log_model.specs.Files.{Files, name_cmp}
use Rattle.found_files.specs.declared.found.FoundFiles.{FoundFiles}
use Rattle.found_files.specs.declared.found.RegionFinding.{RegionFinding}
use Rattle.found_files.specs.Found.{AreContents}
use Rattle.found_files.specs.OfRegion.{IsFirstHurt, IsDamageIn}
use Rattle.found_files.specs.Sorted.{IsFirstPairOf}
use Rattle.found_files.proofs.InRegion.{reads_there, hurt_told, none_told, two_told}
use Rattle.found_files.proofs.Sound.{reordered, of_same_files}
use Rattle.found_files.proofs.Told.{handed_on}
use Rattle.found_files.proofs.Watched.{watched_on}
use Rattle.found_files.proofs.one_region.find_region.Goals as goal

pub read_each-requires-clause-there : goal.read_each-requires-clause-there
read_each-requires-clause-there g c told m has =
    reads_there (g.D.Disk.view c.args.disk.now).files (g.D.Disk.view c.names_in.new.disk).files (c.names_in.ensures.watches told).1.files m
    (c.in_ok-names.ensures.names.there told m (subst (λ (l : List Name). Contains l m) c.deref.ensures.value has))

pub read_each-requires-clause-rise : goal.read_each-requires-clause-rise
read_each-requires-clause-rise g c told = subst (λ (l : List Name). AllPairs (λ a b. name_cmp a b ≡ Less) l) (sym c.deref.ensures.value) (c.in_ok-names.ensures.names.rise told)

pub returns-in_err-files-clause-damaged : goal.returns-in_err-files-clause-damaged
returns-in_err-files-clause-damaged g c told =
    let u = g.D.Disk.view c.args.disk.now in
    let v = g.D.Disk.view c.names_in.new.disk in
    let names = c.in_ok-names.names.items in
    let h = c.from_residual-in_err-files.ensures in
    handed_on FoundFiles RegionFinding (IsFirstHurt v.files c.deref.result.now) (IsDamageIn u.files c.args.region) c.in_err-files.field-0.0 c.from_residual-in_err-files.result h.0 h.1
    (λ d hurt. hurt_told (IsTrue g.D.Disk.told) told u.files c.args.region c.requires names c.in_ok-names.ensures.names d
    (subst (λ (f : Files). IsFirstHurt f names d) (c.names_in.ensures.watches told).1.files (subst (λ (l : List Name). IsFirstHurt v.files l d) c.deref.ensures.value hurt)))
    (c.in_err-files.ensures.damaged told)

pub returns-in_err-files-clause-watches : goal.returns-in_err-files-clause-watches
returns-in_err-files-clause-watches g c told =
    watched_on (g.D.Disk.view c.args.disk.now) (g.D.Disk.view c.names_in.new.disk) (g.D.Disk.view c.read_each.new.disk) (c.names_in.ensures.watches told) (c.read_each.ensures.watches told)

pub returns-in_err-files-2-clause-watches : goal.returns-in_err-files-2-clause-watches
returns-in_err-files-2-clause-watches g c told =
    watched_on (g.D.Disk.view c.args.disk.now) (g.D.Disk.view c.names_in.new.disk) (g.D.Disk.view c.read_each.new.disk) (c.names_in.ensures.watches told) (c.read_each.ensures.watches told)

pub returns-clause-watches : goal.returns-clause-watches
returns-clause-watches g c told =
    watched_on (g.D.Disk.view c.args.disk.now) (g.D.Disk.view c.names_in.new.disk) (g.D.Disk.view c.read_each.new.disk) (c.names_in.ensures.watches told) (c.read_each.ensures.watches told)

pub returns-in_err-files-2-clause-damaged : goal.returns-in_err-files-2-clause-damaged
returns-in_err-files-2-clause-damaged g c told =
    let u = g.D.Disk.view c.args.disk.now in
    let v = g.D.Disk.view c.names_in.new.disk in
    let names = c.in_ok-names.names.items in
    let es = c.in_ok-files.files.entries.items in
    let ss = c.in_ok-files.files.stores.items in
    let read : AreContents (IsTrue g.D.Disk.told) u.files names es ss =
    of_same_files (IsTrue g.D.Disk.told) v.files u.files (λ t. (c.names_in.ensures.watches t).1.files) names es ss (subst (λ (l : List Name). AreContents (IsTrue g.D.Disk.told) v.files l es ss) c.deref.ensures.value c.in_ok-files.ensures.read) in
    let h = c.from_residual-in_err-files-2.ensures in
    handed_on FoundFiles RegionFinding (IsFirstPairOf es) (IsDamageIn u.files c.args.region) c.in_err-files-2.field-0.0 c.from_residual-in_err-files-2.result h.0 h.1
    (λ d pair. two_told (IsTrue g.D.Disk.told) told u.files c.args.region c.requires names c.in_ok-names.ensures.names pair.0 ss (reordered (IsTrue g.D.Disk.told) u.files names es pair.0 ss ss pair.2 refl read) pair.1 d pair.3)
    c.in_err-files-2.ensures.differ

pub returns-clause-read : goal.returns-clause-read
returns-clause-read g c =
    let u = g.D.Disk.view c.args.disk.now in
    let v = g.D.Disk.view c.names_in.new.disk in
    let names = c.in_ok-names.names.items in
    let es = c.in_ok-files.files.entries.items in
    let ss = c.in_ok-files.files.stores.items in
    let read : AreContents (IsTrue g.D.Disk.told) u.files names es ss =
    of_same_files (IsTrue g.D.Disk.told) v.files u.files (λ t. (c.names_in.ensures.watches t).1.files) names es ss (subst (λ (l : List Name). AreContents (IsTrue g.D.Disk.told) v.files l es ss) c.deref.ensures.value c.in_ok-files.ensures.read) in
    reordered (IsTrue g.D.Disk.told) u.files names es c.in_ok-files-2.files.entries.items ss c.in_ok-files-2.files.stores.items c.in_ok-files-2.ensures.same c.in_ok-files-2.ensures.stores read

pub returns-clause-sound : goal.returns-clause-sound
returns-clause-sound g c told =
    let u = g.D.Disk.view c.args.disk.now in
    let v = g.D.Disk.view c.names_in.new.disk in
    let names = c.in_ok-names.names.items in
    let es = c.in_ok-files.files.entries.items in
    let ss = c.in_ok-files.files.stores.items in
    let read : AreContents (IsTrue g.D.Disk.told) u.files names es ss =
    of_same_files (IsTrue g.D.Disk.told) v.files u.files (λ t. (c.names_in.ensures.watches t).1.files) names es ss (subst (λ (l : List Name). AreContents (IsTrue g.D.Disk.told) v.files l es ss) c.deref.ensures.value c.in_ok-files.ensures.read) in
    none_told (IsTrue g.D.Disk.told) told u.files c.args.region c.requires names c.in_ok-names.ensures.names c.in_ok-files-2.files.entries.items c.in_ok-files-2.files.stores.items
    (reordered (IsTrue g.D.Disk.told) u.files names es c.in_ok-files-2.files.entries.items ss c.in_ok-files-2.files.stores.items c.in_ok-files-2.ensures.same c.in_ok-files-2.ensures.stores read) c.in_ok-files-2.ensures.agree
