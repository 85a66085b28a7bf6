use Rattle.std.proofs.Common.{ℕ, sym, ap, subst}
use Rattle.log_model.specs.Files.{Files, Reads}
use Rattle.chronicle_model.specs.Chronicle.{Position}
use Rattle.log_tail.specs.Found.{HasFound, IsTheCounted}
use Rattle.log_tail.proofs.Counted.{counted_log, given_so, whole_log, fewer_so, out_so, damage_told, out_told}
use Rattle.log_tail.proofs.Refused.{looked_and_read}
use Rattle.log_tail.proofs.tail.Tail.read.Goals as goal

pub returns-in-Ok-clause-reads : goal.returns-in-Ok-clause-reads
returns-in-Ok-clause-reads g c told =
    let files = (g.D.Disk.view c.args.disk.now).files in
    let found = subst (λ (n : ℕ). HasFound files n c.in_ok-found.found) (ap (λ (p : Position). p.file) c.self.view_is) (c.in_ok-found.ensures.found told) in
    let it = subst (IsTheCounted files c.args.self.now.file) c.in-Some.is found.name in
    let reads = subst (λ (f : Files). Reads f c.in-Some.name it.1.0) (sym (c.in_ok-found.ensures.looks told).files) it.1.1 in
    let log = counted_log files c.args.self.now.file c.in-Some.name it.1.0 c.in-Ok.text.entries c.in-Ok.text.ended it.0 it.1.1 (c.in-Ok.ensures.text told it.1.0 reads) in
    given_so files c.args.self.now c.in-Ok.text.entries c.in-Ok.text.ended log c.give.result c.give.new.self c.in_ok-found.found.has_higher found.higher c.give.ensures.given c.give.ensures.goes

pub returns-in-Ok-clause-looks : goal.returns-in-Ok-clause-looks
returns-in-Ok-clause-looks g c told =
    let files = (g.D.Disk.view c.args.disk.now).files in
    let found = subst (λ (n : ℕ). HasFound files n c.in_ok-found.found) (ap (λ (p : Position). p.file) c.self.view_is) (c.in_ok-found.ensures.found told) in
    let it = subst (IsTheCounted files c.args.self.now.file) c.in-Some.is found.name in
    looked_and_read (g.D.Disk.view c.args.disk.now) (g.D.Disk.view c.find_log.new.disk) (g.D.Disk.view c.read_counted.new.disk) c.in-Some.name it.1.0 (c.in_ok-found.ensures.looks told) it.1.1
    (c.in-Ok.ensures.looks told)

pub returns-in-Ok-clause-damage : goal.returns-in-Ok-clause-damage
returns-in-Ok-clause-damage g c told name at damaged =
    let files = (g.D.Disk.view c.args.disk.now).files in
    let found = subst (λ (n : ℕ). HasFound files n c.in_ok-found.found) (ap (λ (p : Position). p.file) c.self.view_is) (c.in_ok-found.ensures.found told) in
    let it = subst (IsTheCounted files c.args.self.now.file) c.in-Some.is found.name in
    let reads = subst (λ (f : Files). Reads f c.in-Some.name it.1.0) (sym (c.in_ok-found.ensures.looks told).files) it.1.1 in
    let log = counted_log files c.args.self.now.file c.in-Some.name it.1.0 c.in-Ok.text.entries c.in-Ok.text.ended it.0 it.1.1 (c.in-Ok.ensures.text told it.1.0 reads) in
    absurd (whole_log files c.args.self.now c.in-Ok.text.entries c.in-Ok.text.ended log name at damaged)

pub returns-in-Ok-clause-no_position : goal.returns-in-Ok-clause-no_position
returns-in-Ok-clause-no_position g c told =
    let files = (g.D.Disk.view c.args.disk.now).files in
    let found = subst (λ (n : ℕ). HasFound files n c.in_ok-found.found) (ap (λ (p : Position). p.file) c.self.view_is) (c.in_ok-found.ensures.found told) in
    let it = subst (IsTheCounted files c.args.self.now.file) c.in-Some.is found.name in
    let reads = subst (λ (f : Files). Reads f c.in-Some.name it.1.0) (sym (c.in_ok-found.ensures.looks told).files) it.1.1 in
    let log = counted_log files c.args.self.now.file c.in-Some.name it.1.0 c.in-Ok.text.entries c.in-Ok.text.ended it.0 it.1.1 (c.in-Ok.ensures.text told it.1.0 reads) in
    fewer_so files c.args.self.now c.in-Ok.text.entries c.in-Ok.text.ended log c.give.result c.give.ensures.refused

pub returns-in-Ok-clause-out : goal.returns-in-Ok-clause-out
returns-in-Ok-clause-out g c told =
    let files = (g.D.Disk.view c.args.disk.now).files in
    let found = subst (λ (n : ℕ). HasFound files n c.in_ok-found.found) (ap (λ (p : Position). p.file) c.self.view_is) (c.in_ok-found.ensures.found told) in
    let it = subst (IsTheCounted files c.args.self.now.file) c.in-Some.is found.name in
    let reads = subst (λ (f : Files). Reads f c.in-Some.name it.1.0) (sym (c.in_ok-found.ensures.looks told).files) it.1.1 in
    let log = counted_log files c.args.self.now.file c.in-Some.name it.1.0 c.in-Ok.text.entries c.in-Ok.text.ended it.0 it.1.1 (c.in-Ok.ensures.text told it.1.0 reads) in
    out_so files c.args.self.now c.in-Ok.text.entries c.in-Ok.text.ended log c.give.result c.give.ensures.given c.give.ensures.refused

pub returns-in-Err-clause-looks : goal.returns-in-Err-clause-looks
returns-in-Err-clause-looks g c told =
    let files = (g.D.Disk.view c.args.disk.now).files in
    let found = subst (λ (n : ℕ). HasFound files n c.in_ok-found.found) (ap (λ (p : Position). p.file) c.self.view_is) (c.in_ok-found.ensures.found told) in
    let it = subst (IsTheCounted files c.args.self.now.file) c.in-Some.is found.name in
    looked_and_read (g.D.Disk.view c.args.disk.now) (g.D.Disk.view c.find_log.new.disk) (g.D.Disk.view c.read_counted.new.disk) c.in-Some.name it.1.0 (c.in_ok-found.ensures.looks told) it.1.1
    (c.in-Err.ensures.looks told)

pub returns-in-Err-clause-damage : goal.returns-in-Err-clause-damage
returns-in-Err-clause-damage g c told =
    let files = (g.D.Disk.view c.args.disk.now).files in
    let found = subst (λ (n : ℕ). HasFound files n c.in_ok-found.found) (ap (λ (p : Position). p.file) c.self.view_is) (c.in_ok-found.ensures.found told) in
    let it = subst (IsTheCounted files c.args.self.now.file) c.in-Some.is found.name in
    let reads = subst (λ (f : Files). Reads f c.in-Some.name it.1.0) (sym (c.in_ok-found.ensures.looks told).files) it.1.1 in
    damage_told files c.args.self.now.file c.in-Some.name it.1.0 c.in-Err.e it.0 it.1.1 (c.in-Err.ensures.refused told it.1.0 reads)

pub returns-in-Err-clause-out : goal.returns-in-Err-clause-out
returns-in-Err-clause-out g c told =
    let files = (g.D.Disk.view c.args.disk.now).files in
    let found = subst (λ (n : ℕ). HasFound files n c.in_ok-found.found) (ap (λ (p : Position). p.file) c.self.view_is) (c.in_ok-found.ensures.found told) in
    let it = subst (IsTheCounted files c.args.self.now.file) c.in-Some.is found.name in
    let reads = subst (λ (f : Files). Reads f c.in-Some.name it.1.0) (sym (c.in_ok-found.ensures.looks told).files) it.1.1 in
    out_told files c.args.self.now c.in-Some.name it.1.0 c.in-Err.e it.0 it.1.1 (c.in-Err.ensures.refused told it.1.0 reads)
