use Rattle.std.proofs.Common.{◌-◌, refl, arith}
use Rattle.std.proofs.lemmas.List.Elements.{at_read}
use Rattle.region_replay.specs.declared.found.RegionFiles.{RegionFiles}
use Rattle.region_replay.specs.Dealt.{RaisesNext}
use Rattle.region_replay.proofs.dealing.raise_at.Goals as goal

pub returns : goal.returns
returns c =
    let x = c.raise_next.new.region in
    (x, refl, λ d. at_read c.args.regions.now.items (λ (y : RegionFiles). RaisesNext c.args.number y x) (c.args.region - 1) c.index_mut.result.now (omega (arith, c.requires.regions, c.requires.region.0, c.requires.region.1)) c.index_mut.ensures.value c.raise_next.ensures d)
