use Rattle.std.proofs.Common.{refl, ap}
use Rattle.std.specs.Prelude.{Err}
use Rattle.disk_images.proofs.Reading.{reads_some}
use Rattle.file_base.specs.declared.error.ReadRefusal.{ReadRefusal}
use Rattle.log_model.specs.Damage.HasDamage.{Logged}
use Rattle.log_model.proofs.DamageLaws.{no_damaged_log}
use Rattle.found_files.proofs.Causes.{same_cause, no_error, memory_no_fault, damage_no_fault}
use Rattle.found_files.proofs.Watched.{watched}
use Rattle.found_files.proofs.reading.read_entries.Goals as goal

pub returns-in_err-add_entries-in-Ok-clause-watches : goal.returns-in_err-add_entries-in-Ok-clause-watches
returns-in_err-add_entries-in-Ok-clause-watches g c told = watched (g.D.Disk.view c.args.disk.now) (g.D.Disk.view c.read_log.new.disk) c.args.name (c.requires.there told) (c.read_log.ensures.looks told)

pub returns-in_ok-add_entries-in-Ok-clause-watches : goal.returns-in_ok-add_entries-in-Ok-clause-watches
returns-in_ok-add_entries-in-Ok-clause-watches g c told = watched (g.D.Disk.view c.args.disk.now) (g.D.Disk.view c.read_log.new.disk) c.args.name (c.requires.there told) (c.read_log.ensures.looks told)

pub returns-in-Err-Memory-clause-watches : goal.returns-in-Err-Memory-clause-watches
returns-in-Err-Memory-clause-watches g c told = watched (g.D.Disk.view c.args.disk.now) (g.D.Disk.view c.read_log.new.disk) c.args.name (c.requires.there told) (c.read_log.ensures.looks told)

pub returns-in-Err-DiskFault-clause-watches : goal.returns-in-Err-DiskFault-clause-watches
returns-in-Err-DiskFault-clause-watches g c told = watched (g.D.Disk.view c.args.disk.now) (g.D.Disk.view c.read_log.new.disk) c.args.name (c.requires.there told) (c.read_log.ensures.looks told)

pub returns-in-Err-Damaged-clause-watches : goal.returns-in-Err-Damaged-clause-watches
returns-in-Err-Damaged-clause-watches g c told = watched (g.D.Disk.view c.args.disk.now) (g.D.Disk.view c.read_log.new.disk) c.args.name (c.requires.there told) (c.read_log.ensures.looks told)

pub returns-in-Err-Damaged-clause-damaged : goal.returns-in-Err-Damaged-clause-damaged
returns-in-Err-Damaged-clause-damaged g c told =
    let r = reads_some (g.D.Disk.view c.args.disk.now).files c.args.name (c.requires.there told) in
    let hurt = rw c.in-Err-Damaged.field-0-is at (c.in-Err-Damaged.ensures.damaged told r.0 r.1) in
    (c.in-Err-Damaged.at, refl, Logged r.0 r.1 c.requires.kind hurt, λ sound. no_damaged_log (g.D.Disk.view c.args.disk.now).files c.args.name r.0 c.in-Err-Damaged.at sound c.requires.kind r.1 hurt)

pub returns-in_ok-add_entries-in-Ok-clause-read : goal.returns-in_ok-add_entries-in-Ok-clause-read
returns-in_ok-add_entries-in-Ok-clause-read g c = record {
  entries = c.into_vec.result.items;
  added = c.in_ok-add_entries-in-Ok.ensures;
  file = λ told.
      let r = reads_some (g.D.Disk.view c.args.disk.now).files c.args.name (c.requires.there told) in
      let text = c.in-Ok.ensures.text told r.0 r.1 in
      record { kind = c.requires.kind; bytes = r.0; there = r.1; ended = c.in-Ok.text.ended; text = rw c.into_vec.ensures text };
}

pub returns-in_ok-add_entries-in-Ok-clause-cause : goal.returns-in_ok-add_entries-in-Ok-clause-cause
returns-in_ok-add_entries-in-Ok-clause-cause g c = same_cause c.read_log.ensures.cause (λ is. absurd (no_error is))

pub returns-in-Err-Memory-clause-cause : goal.returns-in-Err-Memory-clause-cause
returns-in-Err-Memory-clause-cause g c = same_cause c.read_log.ensures.cause (λ is. absurd (memory_no_fault is))

pub returns-in-Err-Damaged-clause-cause : goal.returns-in-Err-Damaged-clause-cause
returns-in-Err-Damaged-clause-cause g c = same_cause c.read_log.ensures.cause (λ is. absurd (damage_no_fault is))

pub returns-in-Err-DiskFault-clause-cause : goal.returns-in-Err-DiskFault-clause-cause
returns-in-Err-DiskFault-clause-cause g c = same_cause c.in-Err-DiskFault.ensures.cause (λ is. ap (λ (e : ReadRefusal). Err e) c.in-Err-DiskFault.field-0-is)
