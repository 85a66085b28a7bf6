use Rattle.std.proofs.Common.{◌∙◌}
use Rattle.region_state.specs.Versions.{seen_in}
use Rattle.mem_segments.proofs.Resuming.{all_come}
use Rattle.region_state.proofs.Regions.{same_seen}
use Rattle.region_state.proofs.scanner.Scanner.of_version.Goals as goal

pub returns : goal.returns
returns c region =
    let version = c.args.version.value in
    let from = c.args.from.now in
    let to = c.args.to.now in
    rw (c.new.ensures, c.in_ok-from.ensures, c.in_ok-to.ensures) (all_come (seen_in 0 version from to) ∙ same_seen 0 region version from to)
