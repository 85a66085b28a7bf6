use Rattle.std.proofs.Common.{ℕ, List, length, get_or, refl, inr, sym, ap, ◌∙◌, arith}
use Rattle.std.specs.Option.{option_map}
use Rattle.std.proofs.Math.Logic.{∥∥₁_map}
use Rattle.log_ledger.specs.History.{committed_in, flushed_in, family_in, with_logs}
use Rattle.log_device.specs.Whole.{disk_of, numbers_of}
use Rattle.log_halves.proofs.Tied.{ties_committed, ties_archived, one_higher}
use Rattle.log_halves.proofs.Stored.{numbers_flushed, numbers_archived}
use Rattle.log_halves.proofs.Faults.{no_flush_fault}
use Rattle.log_halves.proofs.Stores.{one_more}
use Rattle.log_halves.proofs.archived.flush_archived.Goals as goal

pub returns-in-Err-clause-numbers : goal.returns-in-Err-clause-numbers
returns-in-Err-clause-numbers g c = numbers_flushed c.args.region (option_map (λ (f : _). f.now) c.args.family) c.flush.result c.args.device.now c.flush.new.self c.flush.ensures.numbers c.flush.ensures.broken

pub returns-in-Ok-archive-clause-numbers : goal.returns-in-Ok-archive-clause-numbers
returns-in-Ok-archive-clause-numbers g c =
    numbers_archived c.archive.result c.args.device.now c.flush.new.self c.archive.new.self
    (numbers_flushed c.args.region (option_map (λ (f : _). f.now) c.args.family) c.flush.result c.args.device.now c.flush.new.self c.flush.ensures.numbers c.flush.ensures.broken)
    c.archive.ensures.numbers c.archive.ensures.broken

pub returns-in-Err-archive-clause-numbers : goal.returns-in-Err-archive-clause-numbers
returns-in-Err-archive-clause-numbers g c =
    numbers_archived c.archive.result c.args.device.now c.flush.new.self c.archive.new.self
    (numbers_flushed c.args.region (option_map (λ (f : _). f.now) c.args.family) c.flush.result c.args.device.now c.flush.new.self c.flush.ensures.numbers c.flush.ensures.broken)
    c.archive.ensures.numbers c.archive.ensures.broken

pub returns-in-Err-clause-ties : goal.returns-in-Err-clause-ties
returns-in-Err-clause-ties g c told =
    let old = c.args.device.now in
    let mid = c.flush.new.self in
    let v = g.D.Disk.view (disk_of old) in
    let u = g.D.Disk.view (disk_of mid) in
    ties_committed old mid v u (g.met.D.Disk.is_true (disk_of old) told) (λ h whole. (c.flush.ensures.flushes told h whole).any_moment)
    (λ h file whole is. let n = (c.flush.ensures.flushes told h whole).names file is in (n.0, one_higher h.kept.base (numbers_of old).next_store file.name.number n.0 v u n.1))
    c.flush.ensures.numbers.few (λ h whole unbroken. (c.in-Err.ensures.flushes told h whole).refused unbroken)
    record { synced = c.flush.ensures.numbers.synced_either; stored = λ broken. c.flush.ensures.numbers.stored_still (inr (c.flush.ensures.broken.1 broken)); closed = λ _. c.flush.ensures.numbers.closed }

pub archive-requires : goal.archive-requires
archive-requires g c told unbroken = ∥∥₁_map (c.requires.whole told) (λ x. (flushed_in (committed_in x.0) c.args.region (family_in (option_map (λ (f : _). f.now) c.args.family)) c.in-Ok.number, (c.in-Ok.ensures.flushes told x.0 x.1).flushed.2))

pub returns-in-Ok-archive-clause-ties : goal.returns-in-Ok-archive-clause-ties
returns-in-Ok-archive-clause-ties g c told =
    let old = c.args.device.now in
    let mid = c.flush.new.self in
    let v = g.D.Disk.view (disk_of old) in
    let u = g.D.Disk.view (disk_of mid) in
    let new = c.archive.new.self in
    let w = g.D.Disk.view (disk_of new) in
    ties_archived old mid new v u w (g.met.D.Disk.is_true (disk_of old) told) (g.met.D.Disk.is_true (disk_of mid) told) (λ h whole. (c.flush.ensures.flushes told h whole).any_moment)
    (λ h whole. (flushed_in (committed_in h) c.args.region (family_in (option_map (λ (f : _). f.now) c.args.family)) c.in-Ok.number, (c.in-Ok.ensures.flushes told h whole).flushed.2, record { base = refl; first = λ r. refl; durable = refl; staged = refl }))
    c.flush.ensures.numbers.served
    c.flush.ensures.numbers.few
    (λ h whole. (c.archive.ensures.archives told h whole).any_moment)
    (λ h file whole is. (length h.logs, one_higher h.kept.base (numbers_of mid).next_store file.name.number (length h.logs) u w ((c.archive.ensures.archives told h whole).names file is)))
    (λ h whole unbroken. let a = (c.in-Ok-archive.ensures.archives told h whole).archived in (a.0, a.1, a.3))
    record { synced = c.archive.ensures.numbers.synced; stored = c.archive.ensures.numbers.stored; closed = c.archive.ensures.numbers.closed; few = c.archive.ensures.numbers.few }

pub returns-in-Err-archive-clause-ties : goal.returns-in-Err-archive-clause-ties
returns-in-Err-archive-clause-ties g c told =
    let old = c.args.device.now in
    let mid = c.flush.new.self in
    let v = g.D.Disk.view (disk_of old) in
    let u = g.D.Disk.view (disk_of mid) in
    let new = c.archive.new.self in
    let w = g.D.Disk.view (disk_of new) in
    ties_archived old mid new v u w (g.met.D.Disk.is_true (disk_of old) told) (g.met.D.Disk.is_true (disk_of mid) told) (λ h whole. (c.flush.ensures.flushes told h whole).any_moment)
    (λ h whole. (flushed_in (committed_in h) c.args.region (family_in (option_map (λ (f : _). f.now) c.args.family)) c.in-Ok.number, (c.in-Ok.ensures.flushes told h whole).flushed.2, record { base = refl; first = λ r. refl; durable = refl; staged = refl }))
    c.flush.ensures.numbers.served
    c.flush.ensures.numbers.few
    (λ h whole. (c.archive.ensures.archives told h whole).any_moment)
    (λ h file whole is. (length h.logs, one_higher h.kept.base (numbers_of mid).next_store file.name.number (length h.logs) u w ((c.archive.ensures.archives told h whole).names file is)))
    (λ h whole unbroken. absurd (unbroken (c.in-Err-archive.ensures.broken.0 refl)))
    record { synced = c.archive.ensures.numbers.synced; stored = c.archive.ensures.numbers.stored; closed = c.archive.ensures.numbers.closed; few = c.archive.ensures.numbers.few }

pub returns-in-Ok-archive-clause-flushed : goal.returns-in-Ok-archive-clause-flushed
returns-in-Ok-archive-clause-flushed g c =
    let r = c.args.region in
    let said = c.in-Ok.ensures.numbers in
    let synced = said.synced (λ broken. cc (c.in-Ok.ensures.broken.1 broken)) in record {
      last = ap (λ (l : List ℕ). get_or l r 0) (c.archive.ensures.numbers.synced ∙ synced) ∙ sym said.number;
      stored = λ all. ap (λ (l : List ℕ). get_or l r 0) c.archive.ensures.numbers.stored ∙ said.stored all;
      above = λ all. said.above all;
    }

pub returns-in-Err-clause-nothing : goal.returns-in-Err-clause-nothing
returns-in-Err-clause-nothing g c n is =
    let r = c.args.region in
    let said = c.in-Err.ensures.numbers in
    let synced = ap (λ (l : List ℕ). get_or l r 0) (said.synced (λ broken. no_flush_fault n is (c.in-Err.ensures.broken.1 broken))) in
    record { last = synced ∙ sym (said.nothing_number n is); stored = λ all. said.stored_nothing all n is }

pub returns-in-Ok-archive-clause-flush : goal.returns-in-Ok-archive-clause-flush
returns-in-Ok-archive-clause-flush g c =
    let r = c.args.region in
    let family = family_in (option_map (λ (f : _). f.now) c.args.family) in
    let numbers = c.in-Ok.ensures.numbers in
    let after = c.archive.ensures.numbers in record {
      stores = λ whole. ap (λ (l : List ℕ). get_or l r 0) after.next_store ∙ one_more (numbers_of c.args.device.now).next_store r (numbers_of c.flush.new.self).next_store c.requires.served numbers.next_store;
      alone = λ f one. after.stored ∙ numbers.stored_of_one f one;
      flushed = λ told.
          ∥∥₁_map (c.requires.whole told) (λ x.
          let did = (c.in-Ok.ensures.flushes told x.0 x.1).flushed in
          let flushed = flushed_in (committed_in x.0) r family c.in-Ok.number in
          let left = (c.in-Ok-archive.ensures.archives told flushed did.2).archived in
          (x.0, with_logs flushed left.0, x.1, left.3, record { some = did.1; flushed = refl }));
      nothing = λ told n is. absurd (cc is);
    }

pub returns-in-Err-clause-flush : goal.returns-in-Err-clause-flush
returns-in-Err-clause-flush g c =
    let r = c.args.region in
    let numbers = c.in-Err.ensures.numbers in record {
      stores = λ whole. let still = ap (λ (l : List ℕ). get_or l r 0) numbers.next_store_still in omega (arith, still);
      alone = λ f one. numbers.stored_of_one f one;
      flushed = λ told. tt;
      nothing = λ told n is.
          ∥∥₁_map (c.requires.whole told) (λ x.
          let did = c.in-Err.ensures.flushes told x.0 x.1 in
          (x.0, x.1, did.refused (λ broken. no_flush_fault n is (c.in-Err.ensures.broken.1 broken)), (did.nothing n is).1));
    }

pub returns-in-Err-archive-clause-flush : goal.returns-in-Err-archive-clause-flush
returns-in-Err-archive-clause-flush g c =
    let numbers = c.in-Ok.ensures.numbers in record {
      stores = λ whole. absurd (whole (c.in-Err-archive.ensures.broken.0 refl));
      alone = λ f one. c.archive.ensures.numbers.stored ∙ numbers.stored_of_one f one;
      flushed = λ told. tt;
      nothing = λ told n is. absurd (no_flush_fault n is refl);
    }
