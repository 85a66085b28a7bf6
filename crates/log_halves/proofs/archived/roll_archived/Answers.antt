use Rattle.std.proofs.Common.{◌<◌, ℕ, List, length, get_or, refl, sym, subst, arith}
use Rattle.std.proofs.Math.Logic.{∥∥₁_map}
use Rattle.log_ledger.specs.History.{committed_in, closed_in}
use Rattle.log_device.specs.Whole.{disk_of, numbers_of, IsBegunAfter}
use Rattle.log_halves.proofs.Tied.{ties_committed, ties_archived, one_higher}
use Rattle.log_halves.proofs.Stored.{numbers_rolled, numbers_archived}
use Rattle.log_halves.proofs.archived.roll_archived.Goals as goal

pub returns-in-Err-clause-numbers : goal.returns-in-Err-clause-numbers
returns-in-Err-clause-numbers g c = numbers_rolled c.roll.result c.args.device.now c.roll.new.self c.roll.ensures.numbers

pub returns-in-Ok-archive-clause-numbers : goal.returns-in-Ok-archive-clause-numbers
returns-in-Ok-archive-clause-numbers g c =
    numbers_archived c.archive.result c.args.device.now c.roll.new.self c.archive.new.self
    (numbers_rolled c.roll.result c.args.device.now c.roll.new.self c.roll.ensures.numbers) c.archive.ensures.numbers c.archive.ensures.broken

pub returns-in-Err-archive-clause-numbers : goal.returns-in-Err-archive-clause-numbers
returns-in-Err-archive-clause-numbers g c =
    numbers_archived c.archive.result c.args.device.now c.roll.new.self c.archive.new.self
    (numbers_rolled c.roll.result c.args.device.now c.roll.new.self c.roll.ensures.numbers) c.archive.ensures.numbers c.archive.ensures.broken

pub returns-in-Err-clause-ties : goal.returns-in-Err-clause-ties
returns-in-Err-clause-ties g c told =
    let old = c.args.device.now in
    let mid = c.roll.new.self in
    let v = g.D.Disk.view (disk_of old) in
    let u = g.D.Disk.view (disk_of mid) in
    ties_committed old mid v u (g.met.D.Disk.is_true (disk_of old) told) (λ h whole. (11, (c.roll.ensures.rolls told h whole).any_moment))
    (λ h file whole is. (11, (c.roll.ensures.rolls told h whole).names file is))
    c.roll.ensures.numbers.few (λ h whole unbroken. (c.in-Err.ensures.rolls told h whole).refused unbroken)
    record { synced = c.roll.ensures.numbers.synced_either; stored = λ _. c.roll.ensures.numbers.stored; closed = c.roll.ensures.numbers.closed_broken }

pub archive-requires : goal.archive-requires
archive-requires g c told unbroken = ∥∥₁_map (c.requires.whole told) (λ x. (closed_in (committed_in x.0) c.in-Ok.rolled.closed, (c.in-Ok.ensures.rolls told x.0 x.1).rolled.0))

pub returns-in-Ok-archive-clause-ties : goal.returns-in-Ok-archive-clause-ties
returns-in-Ok-archive-clause-ties g c told =
    let old = c.args.device.now in
    let mid = c.roll.new.self in
    let v = g.D.Disk.view (disk_of old) in
    let u = g.D.Disk.view (disk_of mid) in
    let new = c.archive.new.self in
    let w = g.D.Disk.view (disk_of new) in
    ties_archived old mid new v u w (g.met.D.Disk.is_true (disk_of old) told) (g.met.D.Disk.is_true (disk_of mid) told) (λ h whole. (11, (c.roll.ensures.rolls told h whole).any_moment))
    (λ h whole. (closed_in (committed_in h) c.in-Ok.rolled.closed, (c.in-Ok.ensures.rolls told h whole).rolled.0, record { base = refl; first = λ r. refl; durable = refl; staged = refl }))
    (λ r is. subst (λ (l : List ℕ). 0 < get_or l r 0) (sym c.roll.ensures.numbers.next_store) is)
    c.roll.ensures.numbers.few
    (λ h whole. (c.archive.ensures.archives told h whole).any_moment)
    (λ h file whole is. (length h.logs, one_higher h.kept.base (numbers_of mid).next_store file.name.number (length h.logs) u w ((c.archive.ensures.archives told h whole).names file is)))
    (λ h whole unbroken. let a = (c.in-Ok-archive.ensures.archives told h whole).archived in (a.0, a.1, a.3))
    record { synced = c.archive.ensures.numbers.synced; stored = c.archive.ensures.numbers.stored; closed = c.archive.ensures.numbers.closed; few = c.archive.ensures.numbers.few }

pub returns-in-Err-archive-clause-ties : goal.returns-in-Err-archive-clause-ties
returns-in-Err-archive-clause-ties g c told =
    let old = c.args.device.now in
    let mid = c.roll.new.self in
    let v = g.D.Disk.view (disk_of old) in
    let u = g.D.Disk.view (disk_of mid) in
    let new = c.archive.new.self in
    let w = g.D.Disk.view (disk_of new) in
    ties_archived old mid new v u w (g.met.D.Disk.is_true (disk_of old) told) (g.met.D.Disk.is_true (disk_of mid) told) (λ h whole. (11, (c.roll.ensures.rolls told h whole).any_moment))
    (λ h whole. (closed_in (committed_in h) c.in-Ok.rolled.closed, (c.in-Ok.ensures.rolls told h whole).rolled.0, record { base = refl; first = λ r. refl; durable = refl; staged = refl }))
    (λ r is. subst (λ (l : List ℕ). 0 < get_or l r 0) (sym c.roll.ensures.numbers.next_store) is)
    c.roll.ensures.numbers.few
    (λ h whole. (c.archive.ensures.archives told h whole).any_moment)
    (λ h file whole is. (length h.logs, one_higher h.kept.base (numbers_of mid).next_store file.name.number (length h.logs) u w ((c.archive.ensures.archives told h whole).names file is)))
    (λ h whole unbroken. absurd (unbroken (c.in-Err-archive.ensures.broken.0 refl)))
    record { synced = c.archive.ensures.numbers.synced; stored = c.archive.ensures.numbers.stored; closed = c.archive.ensures.numbers.closed; few = c.archive.ensures.numbers.few }

pub returns-in-Ok-archive-clause-rolled : goal.returns-in-Ok-archive-clause-rolled
returns-in-Ok-archive-clause-rolled g c file is =
    let told = c.in-Ok.ensures.numbers.file file is in
    record { closed = told.0; entries = told.1; some = told.2; next = subst (IsBegunAfter file) (sym c.in-Ok-archive.ensures.numbers.file) (c.in-Ok.ensures.numbers.next file is) }

pub returns-in-Err-clause-none : goal.returns-in-Err-clause-none
returns-in-Err-clause-none g c file n is nothing = let told = c.in-Err.ensures.numbers.nothing file n is nothing in record { number = told.0; none = told.1 }

pub returns-in-Err-clause-empty : goal.returns-in-Err-clause-empty
returns-in-Err-clause-empty g c file is none unbroken = c.in-Err.ensures.numbers.empty file is none unbroken

pub returns-in-Ok-archive-clause-empty : goal.returns-in-Ok-archive-clause-empty
returns-in-Ok-archive-clause-empty g c file is none unbroken = let told = c.in-Ok.ensures.numbers.file file is in absurd (omega (arith, told.1, told.2, none))

pub returns-in-Err-archive-clause-empty : goal.returns-in-Err-archive-clause-empty
returns-in-Err-archive-clause-empty g c file is none unbroken = absurd (unbroken (c.in-Err-archive.ensures.broken.0 refl))
