use Rattle.std.proofs.Common.{◌≡◌, ℕ, ◌+◌, Err, sym, ap, subst, ◌∙◌, length}
use Rattle.std.specs.Prelude.{IsErrOf}
use Rattle.disk_images.specs.Crash.{Throughout}
use Rattle.file_base.specs.declared.error.FileRefusal.{FileRefusal}
use Rattle.file_base.specs.declared.error.FileRefusal.TheVariants as refusals
use Rattle.mem_segments.specs.declared.segment.Segment.{Segment}
use Rattle.flush_snapshot.specs.Cut.{ordered_cells}
use Rattle.recovery_laws.specs.Alike.{AllAlike}
use Rattle.found_files.proofs.Causes.{same_cause, no_error}
use Rattle.region_replay.proofs.Cutting.{cut_moments, cut_held, cut_flushes, none_written}
use Rattle.region_replay.proofs.NewStores.{cut_stored}
use Rattle.region_replay.proofs.storing.store_unflushed.Goals as goal

fault_no_memory : (e : FileRefusal) → e ≡ refusals.DiskFault → IsErrOf {T = Segment} (Err e) refusals.Memory → ⊥
fault_no_memory e fault memory = absurd (cc (fault, memory))

pub returns-in-Ok-clause-any_moment : goal.returns-in-Ok-clause-any_moment
returns-in-Ok-clause-any_moment g c told base held is =
    let free = c.requires.absent told in
    cut_moments base (g.D.Disk.view c.args.disk.now) (g.D.Disk.view c.store_cut.new.disk) held (g.met.D.Disk.is_true c.args.disk.now told) c.args.name c.args.from c.args.to c.args.cut c.requires.kind free.0 free.1
    is (c.store_cut.ensures.store (λ memory. no_error (sym c.in-Ok.is ∙ memory))) (7 + length (ordered_cells c.args.cut)) (c.store_cut.ensures.any_moment told)

pub returns-in-Ok-clause-held : goal.returns-in-Ok-clause-held
returns-in-Ok-clause-held g c told base held is =
    let free = c.requires.absent told in
    cut_held base (g.D.Disk.view c.args.disk.now) (g.D.Disk.view c.store_cut.new.disk) held (g.met.D.Disk.is_true c.args.disk.now told) c.args.name c.args.from c.args.to c.args.cut c.requires.kind free.0 free.1
    is (c.store_cut.ensures.store (λ memory. no_error (sym c.in-Ok.is ∙ memory))) (7 + length (ordered_cells c.args.cut)) (c.store_cut.ensures.any_moment told)
    (c.store_cut.ensures.touches told) (c.in-Ok.ensures.stored told)

pub returns-in-Ok-clause-flushed : goal.returns-in-Ok-clause-flushed
returns-in-Ok-clause-flushed g c told =
    cut_flushes (g.D.Disk.view c.args.disk.now) (g.D.Disk.view c.store_cut.new.disk) c.args.name c.args.from c.args.to c.args.cut c.requires.kind (c.store_cut.ensures.store (λ memory. no_error (sym c.in-Ok.is ∙ memory))) (c.store_cut.ensures.touches told) (c.in-Ok.ensures.stored told)

pub returns-in-Ok-clause-stored : goal.returns-in-Ok-clause-stored
returns-in-Ok-clause-stored g c told =
    cut_stored (g.D.Disk.view c.store_cut.new.disk) c.args.name c.args.from c.args.to c.args.cut c.requires.kind (c.store_cut.ensures.store (λ memory. no_error (sym c.in-Ok.is ∙ memory))) (c.in-Ok.ensures.stored told)

pub returns-in-Err-Memory-clause-any_moment : goal.returns-in-Err-Memory-clause-any_moment
returns-in-Err-Memory-clause-any_moment g c told base held is =
    let v = g.D.Disk.view c.args.disk.now in
    let same = c.store_cut.ensures.memory (c.in-Err-Memory.is ∙ ap (λ (e : FileRefusal). Err e) c.in-Err-Memory.field-0-is) in
    subst (λ d. (by : ℕ) × Throughout (AllAlike base) by v (g.D.Disk.view d)) (sym same) (none_written base v held)

pub returns-in-Err-DiskFault-clause-any_moment : goal.returns-in-Err-DiskFault-clause-any_moment
returns-in-Err-DiskFault-clause-any_moment g c told base held is =
    let free = c.requires.absent told in
    cut_moments base (g.D.Disk.view c.args.disk.now) (g.D.Disk.view c.store_cut.new.disk) held (g.met.D.Disk.is_true c.args.disk.now told) c.args.name c.args.from c.args.to c.args.cut c.requires.kind free.0 free.1
    is (c.store_cut.ensures.store (λ memory. fault_no_memory c.in-Err-DiskFault.field-0 c.in-Err-DiskFault.field-0-is (sym c.in-Err-DiskFault.is ∙ memory))) (7 + length (ordered_cells c.args.cut)) (c.store_cut.ensures.any_moment told)

pub returns-in-Ok-clause-cause : goal.returns-in-Ok-clause-cause
returns-in-Ok-clause-cause g c = same_cause c.store_cut.ensures.cause (λ is. absurd (no_error is))

pub returns-in-Err-DiskFault-clause-cause : goal.returns-in-Err-DiskFault-clause-cause
returns-in-Err-DiskFault-clause-cause g c = same_cause c.in-Err-DiskFault.ensures.cause (λ is. ap (λ (e : FileRefusal). Err e) c.in-Err-DiskFault.field-0-is)
