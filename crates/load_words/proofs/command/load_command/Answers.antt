use Rattle.std.proofs.Common.{◌≡◌, subst, codes}
use Rattle.clap.specs.declared.builder.value_parser.ValueParser.{ValueParser}
use Rattle.load_words.specs.App.{up_to, IsOption}
use Rattle.load_words.proofs.Building.{options_added}
use Rattle.load_words.proofs.command.load_command.Goals as goal

pub returns : goal.returns
returns c =
    let handlers : c.range.result ≡ up_to 16 = rw (c.value_parser-2.ensures, c.new.ensures.start, c.new.ensures.end) at c.range.ensures in
    let regions : c.range-2.result ≡ up_to 64 = rw (c.value_parser-3.ensures, c.new-2.ensures.start, c.new-2.ensures.end) at c.range-2.ensures in
    let count : c.range-3.result ≡ up_to 10000 = rw (c.value_parser-4.ensures, c.new-3.ensures.start, c.new-3.ensures.end) at c.range-3.ensures in
    options_added c.new-command.result c.in_ok-command.command c.in_ok-command-2.command c.in_ok-command-3.command c.in_ok-command-4.command c.option-start.result c.option-handlers.result c.option-regions.result c.option-count.result
    c.new-command.ensures.app c.new-command.ensures.empty.0 c.new-command.ensures.empty.1 c.new-command.ensures.local c.new-command.ensures.negates
    c.in_ok-command.ensures (subst (λ (q : ValueParser). IsOption (codes "start") q c.option-start.result) c.value_parser.ensures c.option-start.ensures)
    c.in_ok-command-2.ensures (subst (λ (q : ValueParser). IsOption (codes "handlers") q c.option-handlers.result) handlers c.option-handlers.ensures)
    c.in_ok-command-3.ensures (subst (λ (q : ValueParser). IsOption (codes "regions") q c.option-regions.result) regions c.option-regions.ensures)
    c.in_ok-command-4.ensures (subst (λ (q : ValueParser). IsOption (codes "count") q c.option-count.result) count c.option-count.ensures)
