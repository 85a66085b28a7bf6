use Rattle.std.proofs.Common.{◌≡◌, ◌↔◌, List, Contains, flat_map, sym, subst}
use Rattle.std.proofs.lemmas.Result.{IfOk-weaker}
use Rattle.found_files.specs.declared.found.FoundEntry.{FoundEntry}
use Rattle.found_files.specs.Dealt.{entries_in}
use Rattle.found_files.proofs.by_region.by_region.Goals as goal

pub returns : goal.returns
returns c =
    IfOk-weaker c.join.result
    (λ all. all.items ≡ flat_map entries_in c.in_ok-lists.lists.items)
    (λ all. (x : FoundEntry) → Contains all.items x ↔ Contains c.args.entries.items x)
    (λ all is x. subst (λ (xs : List FoundEntry). Contains xs x ↔ Contains c.args.entries.items x) (sym is) (c.in_ok-lists.ensures.same x))
    c.join.ensures
