use Rattle.std.proofs.Common.{◌≡◌, ◌++◌, ◌∷◌, [], ℕ, get_or, slice_set, ap, subst, arith}
use Rattle.std.proofs.lemmas.Result.{on_ok_weaker}
use Rattle.std.proofs.lemmas.List.Elements.{at_read}
use Rattle.found_files.specs.declared.by_region.RegionEntries.{RegionEntries}
use Rattle.found_files.specs.Dealt.{entries_in}
use Rattle.found_files.proofs.by_region.add_to.Goals as goal

pub returns-clause-added : goal.returns-clause-added
returns-clause-added c =
    let lists = c.args.lists.now.items in
    let list = c.add_entry.new.list in
    let at = c.«region_of-region».result in
    let P : RegionEntries → Type 0 = λ l. entries_in list ≡ entries_in l ++ c.args.entry ∷ [] in
    on_ok_weaker c.add_entry.result
    (λ h. (
      list,
      ap (λ (r : ℕ). slice_set lists r list) c.«region_of-region».ensures.0,
      λ d. subst (λ (r : ℕ). P (get_or lists r d)) c.«region_of-region».ensures.0 (at_read lists P at c.index_mut.result.now (omega (arith, c.requires, c.«region_of-region».ensures.1)) c.index_mut.ensures.value h d),
    ))
    c.add_entry.ensures.added
