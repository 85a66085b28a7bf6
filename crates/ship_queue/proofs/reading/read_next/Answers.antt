use Rattle.std.proofs.Common.{◌≡◌, ◌∙◌, sym, subst, List, rules}
use Rattle.log_model.specs.Entry.{Entry}
use Rattle.chronicle_model.specs.Chronicle.{Position}
use Rattle.log_tail.specs.Reads.{IsRead, placed_behind}
use Rattle.ship_queue.specs.Course.{HasReadOn}
use Rattle.ship_queue.proofs.ReadingLaws.{read_is, at_end, refused_again, refused_none}
use Rattle.ship_queue.proofs.reading.read_next.Goals as goal

pub returns-clause-read : goal.returns-clause-read
returns-clause-read g c told =
    let files = (g.D.Disk.view c.args.disk.now).files in
    let given : List Entry = c.in_ok-entries.entries in
    subst (λ (p : Position). HasReadOn files c.args.tail.now c.read.new.self (placed_behind p.file p.entries given)) (sym c.position-at.ensures)
    (read_is files c.args.tail.now given c.read.new.self (λ chronicle is. c.reading_goes_on.ensures files chronicle c.args.tail.now c.read.new.self given (c.in_ok-entries.ensures.reads told) is)
    (c.in_ok-entries.ensures.reads told))

pub returns-clause-last : goal.returns-clause-last
returns-clause-last g c told last =
    let files = (g.D.Disk.view c.args.disk.now).files in
    let now : Position = c.read.new.self in
    let stayed = c.has_stayed-is_last.ensures last in
    let same : c.args.tail.now ≡ now = sym c.position-at.ensures ∙ sym stayed.1 ∙ c.position-now.ensures in
    at_end files now
    (subst (λ (given : List Entry). IsRead files now given now) stayed.0 (subst (λ (p : Position). IsRead files p c.in_ok-entries.entries now) same (c.in_ok-entries.ensures.reads told)))

pub returns-clause-stays : goal.returns-clause-stays
returns-clause-stays g c last =
    let stayed = c.has_stayed-is_last.ensures last in
    sym c.position-now.ensures ∙ stayed.1 ∙ c.position-at.ensures

pub returns-in_err-entries-clause-refused : goal.returns-in_err-entries-clause-refused
returns-in_err-entries-clause-refused g c told =
    refused_again (g.D.Disk.view c.args.disk.now).files c.args.tail.now c.read.result c.from_residual.result c.in_err-entries.field-0.0 c.in_err-entries.was (search rules)
    (record { damaged = c.read.ensures.damaged told; damage = c.read.ensures.damage told; no_position = c.read.ensures.no_position told; out = c.read.ensures.out told })

pub returns-clause-refused : goal.returns-clause-refused
returns-clause-refused g c told =
    refused_none (g.D.Disk.view c.args.disk.now).files c.args.tail.now c.read.result c.in_ok-entries.entries _ c.in_ok-entries.was
    (record { damaged = c.read.ensures.damaged told; damage = c.read.ensures.damage told; no_position = c.read.ensures.no_position told; out = c.read.ensures.out told })
