use Rattle.std.proofs.Common.{◌≡◌, ◌≤◌, ◌<◌, ℕ, ◌∙◌, IsTrue, sym, ap, subst}
use Rattle.std.specs.Prelude.{IfOk, OnOk}
use Rattle.log_model.specs.declared.name.Name.{Name}
use Rattle.log_model.specs.declared.damage.Damage.TheVariants as damages
use Rattle.log_model.specs.Files.{Files, content, IsFit}
use Rattle.log_model.specs.Damage.{IsFirstDamageOf}
use Rattle.disk_images.specs.Crash.{IsImageNow}
use Rattle.found_files.specs.declared.found.RegionFinding.{RegionFinding}
use Rattle.found_files.specs.OfRegion.{IsDamageIn}
use Rattle.found_files.specs.Watching.{OnlyWatches}
use Rattle.found_files.proofs.Sound.{of_same_files}
use Rattle.region_replay.proofs.StillSplit.{same_names}
use Rattle.store_compact.specs.declared.kind.Compacted.{Compacted}
use Rattle.store_compact.specs.Compacting.{IsCompacted, IsCompactedIn, HasOneStore, AreCounts, HasCounting, least_files}
use Rattle.store_compact.proofs.Moments.{rest_watched}
use Rattle.store_compact.proofs.InRegion.{watched_in, then_in}
use Rattle.store_compact.proofs.Reading.{watched_moments, then_moments, no_disagreement}
use Rattle.store_compact.proofs.Refusing.{told_damage, not_read, not_nothing, damaged_on, nothing_both, read_where}
use Rattle.store_compact.proofs.compacting.compact.Goals as goal

pub compact_found-requires-clause-rest : goal.compact_found-requires-clause-rest
compact_found-requires-clause-rest g c told =
    let watches = c.find_region.ensures.watches told in
    rest_watched watches.0 (g.D.Disk.view c.args.disk.now) (g.D.Disk.view c.find_region.new.disk) watches.1 (c.requires.rest told)

pub compact_found-requires-clause-names : goal.compact_found-requires-clause-names
compact_found-requires-clause-names g c =
    let u = g.D.Disk.view c.args.disk.now in
    let v = g.D.Disk.view c.find_region.new.disk in
    same_names (IsTrue g.D.Disk.told) u.files v.files (λ told. sym (c.find_region.ensures.watches told).1.files) c.args.region c.in-Ok.found.names.items c.in-Ok.ensures.names

pub compact_found-requires-clause-read : goal.compact_found-requires-clause-read
compact_found-requires-clause-read g c =
    let u = g.D.Disk.view c.args.disk.now in
    let v = g.D.Disk.view c.find_region.new.disk in
    of_same_files (IsTrue g.D.Disk.told) u.files v.files (λ told. sym (c.find_region.ensures.watches told).1.files) c.in-Ok.found.names.items c.in-Ok.found.files.entries.items c.in-Ok.found.files.stores.items c.in-Ok.ensures.read

pub returns-in-Ok-clause-any_moment : goal.returns-in-Ok-clause-any_moment
returns-in-Ok-clause-any_moment g c told fit =
    let u = g.D.Disk.view c.args.disk.now in
    let v = g.D.Disk.view c.find_region.new.disk in
    let watches = c.find_region.ensures.watches told in
    then_moments u v (g.D.Disk.view c.compact_found.new.disk) watches (c.requires.rest told) fit c.args.region c.args.kind
    (c.compact_found.ensures.any_moment told (subst IsFit (sym watches.1.files) fit))

pub returns-in-Err-clause-any_moment : goal.returns-in-Err-clause-any_moment
returns-in-Err-clause-any_moment g c told fit =
    watched_moments (g.D.Disk.view c.args.disk.now) (g.D.Disk.view c.find_region.new.disk) (c.find_region.ensures.watches told) (c.requires.rest told) fit c.args.region c.args.kind

pub returns-in-Ok-clause-compacted : goal.returns-in-Ok-clause-compacted
returns-in-Ok-clause-compacted g c told fit =
    let w = g.D.Disk.view c.compact_found.new.disk in
    let same = (c.find_region.ensures.watches told).1.files in
    subst (λ (f : Files). OnOk c.compact_found.result ((J : Files) → IsImageNow w J → IsCompacted f c.args.region c.args.kind J × HasOneStore f c.args.region J)) same
    (c.compact_found.ensures.compacted told (subst IsFit (sym same) fit))

pub returns-in-Ok-clause-region : goal.returns-in-Ok-clause-region
returns-in-Ok-clause-region g c told =
    let u = g.D.Disk.view c.args.disk.now in
    let v = g.D.Disk.view c.find_region.new.disk in
    then_in u v (g.D.Disk.view c.compact_found.new.disk) (c.find_region.ensures.watches told) (c.requires.rest told) c.args.region c.args.kind (c.compact_found.ensures.region told)

pub returns-in-Err-clause-region : goal.returns-in-Err-clause-region
returns-in-Err-clause-region g c told =
    watched_in (g.D.Disk.view c.args.disk.now) (c.requires.rest told) (g.D.Disk.view c.find_region.new.disk) (c.find_region.ensures.watches told) c.args.region c.args.kind

pub returns-in-Ok-clause-region_compacted : goal.returns-in-Ok-clause-region_compacted
returns-in-Ok-clause-region_compacted g c told =
    let w = g.D.Disk.view c.compact_found.new.disk in
    subst (λ (f : Files). OnOk c.compact_found.result ((J : Files) → IsImageNow w J → IsCompactedIn f c.args.region c.args.kind J × HasOneStore f c.args.region J)) (c.find_region.ensures.watches told).1.files
    (c.compact_found.ensures.region_compacted told)

pub returns-in-Ok-clause-others : goal.returns-in-Ok-clause-others
returns-in-Ok-clause-others g c told m other = c.compact_found.ensures.others told m other ∙ ap (λ (f : Files). content f m) (c.find_region.ensures.watches told).1.files

pub returns-in-Err-clause-others : goal.returns-in-Err-clause-others
returns-in-Err-clause-others g c told m other = ap (λ (f : Files). content f m) (c.find_region.ensures.watches told).1.files

pub returns-in-Ok-clause-counts : goal.returns-in-Ok-clause-counts
returns-in-Ok-clause-counts g c told =
    subst (λ (f : Files). IfOk c.compact_found.result (AreCounts f c.args.region c.args.kind)) (c.find_region.ensures.watches told).1.files (c.compact_found.ensures.counts told)

pub returns-in-Ok-clause-enough : goal.returns-in-Ok-clause-enough
returns-in-Ok-clause-enough g c told =
    subst (λ (f : Files). OnOk c.compact_found.result ((n : ℕ) × HasCounting f c.args.region n × (least_files c.args.kind ≤ n))) (c.find_region.ensures.watches told).1.files (c.compact_found.ensures.enough told)

pub returns-in-Ok-clause-nothing : goal.returns-in-Ok-clause-nothing
returns-in-Ok-clause-nothing g c told =
    let u = g.D.Disk.view c.args.disk.now in
    let w = g.D.Disk.view c.compact_found.new.disk in
    let watches = c.find_region.ensures.watches told in
    nothing_both (λ n. HasCounting (g.D.Disk.view c.find_region.new.disk).files c.args.region n × (n < least_files c.args.kind)) (λ n. c.compact_found.new.disk ≡ c.find_region.new.disk)
    (λ n. HasCounting u.files c.args.region n × (n < least_files c.args.kind) × OnlyWatches u w) c.compact_found.result
    (λ n h same. (subst (λ (f : Files). HasCounting f c.args.region n) watches.1.files h.0, h.1, subst (λ d. OnlyWatches u (g.D.Disk.view d)) (sym same) watches))
    (c.compact_found.ensures.nothing told) c.compact_found.ensures.nothing_done

pub returns-in-Err-clause-nothing : goal.returns-in-Err-clause-nothing
returns-in-Err-clause-nothing g c told =
    let u = g.D.Disk.view c.args.disk.now in
    let v = g.D.Disk.view c.find_region.new.disk in
    not_nothing Compacted c.in-Err.e (λ n. HasCounting u.files c.args.region n × (n < least_files c.args.kind) × OnlyWatches u v) c.refused.result c.refused.ensures

pub returns-in-Ok-clause-sound : goal.returns-in-Ok-clause-sound
returns-in-Ok-clause-sound g c told =
    let u = g.D.Disk.view c.args.disk.now in
    read_where ((name : Name) (at : ℕ) → ¬ IsFirstDamageOf u.files c.args.region name at) c.compact_found.result (λ name at. c.in-Ok.ensures.sound told (damages.Bytes name at))

pub returns-in-Err-clause-sound : goal.returns-in-Err-clause-sound
returns-in-Err-clause-sound g c told =
    let u = g.D.Disk.view c.args.disk.now in
    not_read Compacted c.in-Err.e ((name : Name) (at : ℕ) → ¬ IsFirstDamageOf u.files c.args.region name at) c.refused.result c.refused.ensures

pub returns-in-Ok-clause-damaged : goal.returns-in-Ok-clause-damaged
returns-in-Ok-clause-damaged g c told =
    let u = g.D.Disk.view c.args.disk.now in
    damaged_on (λ name at. ⊥) (λ name at. IsFirstDamageOf u.files c.args.region name at × OnlyWatches u (g.D.Disk.view c.compact_found.new.disk)) c.compact_found.result (λ name at none. absurd none) (c.compact_found.ensures.undamaged told)

pub returns-in-Err-clause-damaged : goal.returns-in-Err-clause-damaged
returns-in-Err-clause-damaged g c told =
    let u = g.D.Disk.view c.args.disk.now in
    let v = g.D.Disk.view c.find_region.new.disk in
    let watches = c.find_region.ensures.watches told in
    told_damage RegionFinding Compacted c.in-Err.e (IsDamageIn u.files c.args.region) (λ name at. IsFirstDamageOf u.files c.args.region name at × OnlyWatches u v) c.refused.result c.refused.ensures
    (λ name at is. (is, watches)) (no_disagreement u.files c.args.region (c.requires.rest told).no_logs) (c.in-Err.ensures.damaged told)

pub returns-in-Ok-clause-memory : goal.returns-in-Ok-clause-memory
returns-in-Ok-clause-memory g c told memory =
    let u = g.D.Disk.view c.args.disk.now in
    subst (λ d. OnlyWatches u (g.D.Disk.view d)) (sym (c.compact_found.ensures.memory memory)) (c.find_region.ensures.watches told)
