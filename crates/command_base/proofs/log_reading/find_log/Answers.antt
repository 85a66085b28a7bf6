use Rattle.std.proofs.Common.{sym, ap, subst, ◌∙◌}
use Rattle.log_model.specs.Files.{Files, content}
use Rattle.command_base.specs.LogFiles.{IsDamagedLog}
use Rattle.command_base.proofs.Endings.{kept_looking}
use Rattle.command_base.proofs.Readers.{sized, both_on}
use Rattle.command_base.proofs.log_reading.find_log.Goals as goal

pub returns-in-Ok-clause-damaged : goal.returns-in-Ok-clause-damaged
returns-in-Ok-clause-damaged g c told at damaged =
    let there = sized (content (g.D.Disk.view c.args.disk.now).files c.args.name) c.in-Ok-Some.field-0-0 (sym (c.in-Ok-Some.ensures.size told) ∙ c.in-Ok-Some.field-0-is) in
    let same = (c.in-Ok-Some.ensures.looks told).files in
    c.in-Ok.ensures.damaged told there.0 (ap (λ (f : Files). content f c.args.name) same ∙ there.1) at (subst (λ (f : Files). IsDamagedLog f c.args.name at) (sym same) damaged)

pub returns-in-Err-read_there-clause-damaged : goal.returns-in-Err-read_there-clause-damaged
returns-in-Err-read_there-clause-damaged g c told at damaged =
    let there = sized (content (g.D.Disk.view c.args.disk.now).files c.args.name) c.in-Ok-Some.field-0-0 (sym (c.in-Ok-Some.ensures.size told) ∙ c.in-Ok-Some.field-0-is) in
    let same = (c.in-Ok-Some.ensures.looks told).files in
    c.in-Err-read_there.ensures.damaged told there.0 (ap (λ (f : Files). content f c.args.name) same ∙ there.1) at (subst (λ (f : Files). IsDamagedLog f c.args.name at) (sym same) damaged)

pub returns-in-Ok-clause-moments : goal.returns-in-Ok-clause-moments
returns-in-Ok-clause-moments g c told =
    let there = sized (content (g.D.Disk.view c.args.disk.now).files c.args.name) c.in-Ok-Some.field-0-0 (sym (c.in-Ok-Some.ensures.size told) ∙ c.in-Ok-Some.field-0-is) in
    both_on _ (g.D.Disk.view c.args.disk.now) (g.D.Disk.view c.size.new.self) (g.D.Disk.view c.read_there.new.disk) (c.in-Ok-Some.ensures.looks told)
    (c.read_there.ensures.looks told there.0 (ap (λ (f : Files). content f c.args.name) (c.in-Ok-Some.ensures.looks told).files ∙ there.1))

pub returns-in-Err-read_there-clause-moments : goal.returns-in-Err-read_there-clause-moments
returns-in-Err-read_there-clause-moments g c told =
    let there = sized (content (g.D.Disk.view c.args.disk.now).files c.args.name) c.in-Ok-Some.field-0-0 (sym (c.in-Ok-Some.ensures.size told) ∙ c.in-Ok-Some.field-0-is) in
    both_on _ (g.D.Disk.view c.args.disk.now) (g.D.Disk.view c.size.new.self) (g.D.Disk.view c.read_there.new.disk) (c.in-Ok-Some.ensures.looks told)
    (c.read_there.ensures.looks told there.0 (ap (λ (f : Files). content f c.args.name) (c.in-Ok-Some.ensures.looks told).files ∙ there.1))

pub returns-in-Ok-None-clause-moments : goal.returns-in-Ok-None-clause-moments
returns-in-Ok-None-clause-moments g c told = kept_looking (g.D.Disk.view c.args.disk.now) (g.D.Disk.view c.size.new.self) (c.size.ensures.looks told)

pub returns-in-Err-clause-moments : goal.returns-in-Err-clause-moments
returns-in-Err-clause-moments g c told = kept_looking (g.D.Disk.view c.args.disk.now) (g.D.Disk.view c.size.new.self) (c.size.ensures.looks told)
