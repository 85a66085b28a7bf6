use Rattle.std.proofs.Common.{ap, length}
use Rattle.show_command.proofs.RegionLaws.{text_shown}
use Rattle.show_command.proofs.text.text_of.Goals as goal

pub append_parts-requires : goal.append_parts-requires
append_parts-requires c = ap length c.in_ok-lists.ensures

pub returns : goal.returns
returns c =
    text_shown c.args.entries.items c.in_ok-lists.lists.items c.new-out.result.items c.append_parts.new.out.items c.append_end.new.out.items
    c.new-out.ensures.items c.in_ok-lists.ensures c.in_ok-append_parts.ensures c.in_ok-append_end.ensures.ok
