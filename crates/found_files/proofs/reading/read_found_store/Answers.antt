use Rattle.std.proofs.Common.{IsTrue, refl, ap}
use Rattle.std.specs.Prelude.{Err}
use Rattle.disk_images.proofs.Reading.{reads_some}
use Rattle.file_base.specs.declared.error.ReadRefusal.{ReadRefusal}
use Rattle.log_model.specs.Damage.HasDamage.{Stored}
use Rattle.log_model.proofs.DamageLaws.{no_damaged_store}
use Rattle.found_files.specs.declared.found.FoundStore.{FoundStore}
use Rattle.found_files.proofs.Causes.{same_cause, cause_since, no_error, memory_no_fault, damage_no_fault}
use Rattle.found_files.proofs.Watched.{watched, watched_on, there_now, reads_now}
use Rattle.found_files.proofs.OneStore.{store_added, store_not_there}
use Rattle.found_files.proofs.reading.read_found_store.Goals as goal

pub read_store-requires : goal.read_store-requires
read_store-requires g c told = there_now (g.D.Disk.view c.args.disk.now) (g.D.Disk.view c.size_of_file.new.disk) c.args.name (c.size_of_file.ensures.files told) (c.requires.there told)

pub returns-in_err-push-in-Ok-Some-clause-watches : goal.returns-in_err-push-in-Ok-Some-clause-watches
returns-in_err-push-in-Ok-Some-clause-watches g c told =
    let u = g.D.Disk.view c.args.disk.now in
    let v = g.D.Disk.view c.size_of_file.new.disk in
    let w = g.D.Disk.view c.read_store.new.disk in
    watched_on u v w (c.size_of_file.ensures.watches told) (watched v w c.args.name (there_now u v c.args.name (c.size_of_file.ensures.files told) (c.requires.there told)) (c.read_store.ensures.looks told))

pub returns-in_ok-push-in-Ok-Some-clause-watches : goal.returns-in_ok-push-in-Ok-Some-clause-watches
returns-in_ok-push-in-Ok-Some-clause-watches g c told =
    let u = g.D.Disk.view c.args.disk.now in
    let v = g.D.Disk.view c.size_of_file.new.disk in
    let w = g.D.Disk.view c.read_store.new.disk in
    watched_on u v w (c.size_of_file.ensures.watches told) (watched v w c.args.name (there_now u v c.args.name (c.size_of_file.ensures.files told) (c.requires.there told)) (c.read_store.ensures.looks told))

pub returns-in-Ok-None-clause-watches : goal.returns-in-Ok-None-clause-watches
returns-in-Ok-None-clause-watches g c told =
    let u = g.D.Disk.view c.args.disk.now in
    let v = g.D.Disk.view c.size_of_file.new.disk in
    let w = g.D.Disk.view c.read_store.new.disk in
    watched_on u v w (c.size_of_file.ensures.watches told) (watched v w c.args.name (there_now u v c.args.name (c.size_of_file.ensures.files told) (c.requires.there told)) (c.read_store.ensures.looks told))

pub returns-in-Err-Memory-clause-watches : goal.returns-in-Err-Memory-clause-watches
returns-in-Err-Memory-clause-watches g c told =
    let u = g.D.Disk.view c.args.disk.now in
    let v = g.D.Disk.view c.size_of_file.new.disk in
    let w = g.D.Disk.view c.read_store.new.disk in
    watched_on u v w (c.size_of_file.ensures.watches told) (watched v w c.args.name (there_now u v c.args.name (c.size_of_file.ensures.files told) (c.requires.there told)) (c.read_store.ensures.looks told))

pub returns-in-Err-DiskFault-clause-watches : goal.returns-in-Err-DiskFault-clause-watches
returns-in-Err-DiskFault-clause-watches g c told =
    let u = g.D.Disk.view c.args.disk.now in
    let v = g.D.Disk.view c.size_of_file.new.disk in
    let w = g.D.Disk.view c.read_store.new.disk in
    watched_on u v w (c.size_of_file.ensures.watches told) (watched v w c.args.name (there_now u v c.args.name (c.size_of_file.ensures.files told) (c.requires.there told)) (c.read_store.ensures.looks told))

pub returns-in-Err-Damaged-clause-watches : goal.returns-in-Err-Damaged-clause-watches
returns-in-Err-Damaged-clause-watches g c told =
    let u = g.D.Disk.view c.args.disk.now in
    let v = g.D.Disk.view c.size_of_file.new.disk in
    let w = g.D.Disk.view c.read_store.new.disk in
    watched_on u v w (c.size_of_file.ensures.watches told) (watched v w c.args.name (there_now u v c.args.name (c.size_of_file.ensures.files told) (c.requires.there told)) (c.read_store.ensures.looks told))

pub returns-in-Err-Damaged-clause-damaged : goal.returns-in-Err-Damaged-clause-damaged
returns-in-Err-Damaged-clause-damaged g c told =
    let u = g.D.Disk.view c.args.disk.now in
    let v = g.D.Disk.view c.size_of_file.new.disk in
    let r = reads_some u.files c.args.name (c.requires.there told) in
    let hurt = rw c.in-Err-Damaged.field-0-is at (c.in-Err-Damaged.ensures.damaged told r.0 (reads_now u v c.args.name r.0 (c.size_of_file.ensures.files told) r.1)) in
    (c.in-Err-Damaged.at, refl, Stored r.0 r.1 c.requires.kind hurt, λ sound. no_damaged_store u.files c.args.name r.0 c.in-Err-Damaged.at sound (c.in_ok-_size.ensures.small told r.0 r.1) c.requires.kind r.1 hurt)

pub returns-in_ok-push-in-Ok-Some-clause-read : goal.returns-in_ok-push-in-Ok-Some-clause-read
returns-in_ok-push-in-Ok-Some-clause-read g c =
    let u = g.D.Disk.view c.args.disk.now in
    let v = g.D.Disk.view c.size_of_file.new.disk in
    let x : FoundStore = record { name = c.args.name; text = c.in-Ok-Some.text } in
    store_added (IsTrue g.D.Disk.told) u.files c.args.name c.args.into.now.items c.push.new.self.items (λ told bytes reads. c.in_ok-_size.ensures.small told bytes reads) x refl c.in_ok-push-in-Ok-Some.ensures.items
    (rw c.in-Ok-Some.field-0-is at c.in-Ok-Some.ensures.store)
    (λ told.
    let r = reads_some u.files c.args.name (c.requires.there told) in
    let text = rw c.in-Ok-Some.field-0-is at (c.in-Ok-Some.ensures.text told r.0 (reads_now u v c.args.name r.0 (c.size_of_file.ensures.files told) r.1)) in
    record { kind = c.requires.kind; of = refl; bytes = r.0; there = r.1; gate = text.0; text = text.1 })

pub returns-in-Ok-None-clause-read : goal.returns-in-Ok-None-clause-read
returns-in-Ok-None-clause-read g c =
    let u = g.D.Disk.view c.args.disk.now in
    let v = g.D.Disk.view c.size_of_file.new.disk in
    store_not_there (IsTrue g.D.Disk.told) u.files c.args.name c.args.into.now.items c.args.into.now.items (λ told bytes reads. c.in_ok-_size.ensures.small told bytes reads) refl
    (λ told bytes reads. rw c.in-Ok-None.field-0-is at (c.in-Ok-None.ensures.text told bytes (reads_now u v c.args.name bytes (c.size_of_file.ensures.files told) reads)))

pub returns-in_err-_size-clause-cause : goal.returns-in_err-_size-clause-cause
returns-in_err-_size-clause-cause g c = same_cause c.in_err-_size.ensures.cause (λ is. refl)

pub returns-in_ok-push-in-Ok-Some-clause-cause : goal.returns-in_ok-push-in-Ok-Some-clause-cause
returns-in_ok-push-in-Ok-Some-clause-cause g c = cause_since c.read_store.ensures.cause c.size_of_file.ensures.cause.later (λ is. absurd (no_error is))

pub returns-in-Ok-None-clause-cause : goal.returns-in-Ok-None-clause-cause
returns-in-Ok-None-clause-cause g c = cause_since c.read_store.ensures.cause c.size_of_file.ensures.cause.later (λ is. absurd (no_error is))

pub returns-in-Err-Memory-clause-cause : goal.returns-in-Err-Memory-clause-cause
returns-in-Err-Memory-clause-cause g c = cause_since c.read_store.ensures.cause c.size_of_file.ensures.cause.later (λ is. absurd (memory_no_fault is))

pub returns-in-Err-Damaged-clause-cause : goal.returns-in-Err-Damaged-clause-cause
returns-in-Err-Damaged-clause-cause g c = cause_since c.read_store.ensures.cause c.size_of_file.ensures.cause.later (λ is. absurd (damage_no_fault is))

pub returns-in-Err-DiskFault-clause-cause : goal.returns-in-Err-DiskFault-clause-cause
returns-in-Err-DiskFault-clause-cause g c = cause_since c.in-Err-DiskFault.ensures.cause c.size_of_file.ensures.cause.later (λ is. ap (λ (e : ReadRefusal). Err e) c.in-Err-DiskFault.field-0-is)
