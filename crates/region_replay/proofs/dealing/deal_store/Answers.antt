use Rattle.std.proofs.Common.{◌-◌, refl, arith}
use Rattle.std.proofs.lemmas.Result.{on_ok_weaker}
use Rattle.std.proofs.lemmas.List.Elements.{at_read}
use Rattle.region_replay.specs.declared.found.RegionFiles.{RegionFiles}
use Rattle.region_replay.specs.Dealt.{AddsStored}
use Rattle.region_replay.proofs.dealing.deal_store.Goals as goal

pub returns : goal.returns
returns c =
    let x = c.add_stored.new.region in
    let s = c.args.store in
    on_ok_weaker c.add_stored.result
    (λ h. (x, refl, λ d. at_read c.args.regions.now.items (λ (y : RegionFiles). AddsStored s.text.cells y x) (s.name.region - 1) c.index_mut.result.now (omega (arith, c.requires.regions, c.requires.region.0, c.requires.region.1)) c.index_mut.ensures.value h d))
    c.add_stored.ensures
