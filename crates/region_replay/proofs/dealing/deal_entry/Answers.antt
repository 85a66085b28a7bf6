use Rattle.std.proofs.Common.{◌≡◌, ◌-◌, ℕ, slice_set, get_or, ap, subst, arith}
use Rattle.std.proofs.lemmas.Result.{on_ok_weaker}
use Rattle.std.proofs.lemmas.List.Elements.{at_read}
use Rattle.log_model.specs.Entry.{Entry}
use Rattle.region_replay.specs.declared.found.RegionFiles.{RegionFiles}
use Rattle.region_replay.specs.Dealt.{AddsEntry}
use Rattle.region_replay.proofs.dealing.deal_entry.Goals as goal

pub returns-clause-dealt : goal.returns-clause-dealt
returns-clause-dealt c =
    let regions = c.args.regions.now.items in
    let x = c.add_entry.new.region in
    let region : c.entry.inside.region ≡ c.args.entry.region = ap (λ (v : Entry). v.region) c.entry.view_is in
    let P : RegionFiles → Type 0 = λ y. AddsEntry c.args.entry y x in
    on_ok_weaker c.add_entry.result
    (λ h. (
      x,
      ap (λ (r : ℕ). slice_set regions (r - 1) x) region,
      λ d. subst (λ (r : ℕ). P (get_or regions (r - 1) d)) region (at_read regions P (c.entry.inside.region - 1) c.index_mut.result.now (omega (arith, c.requires, c.entry.invariant.0.region, c.entry.invariant.0.region_given)) c.index_mut.ensures.value h d),
    ))
    c.add_entry.ensures.added
