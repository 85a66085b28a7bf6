use Rattle.std.proofs.Common.{◌≡◌, ◌∙◌, ℕ, List, [], ◌∷◌, ◌++◌, sym, ap, subst}
use Rattle.std.proofs.lemmas.List.{append_assoc}
use Rattle.std.specs.Vec.Iter.{into_iter_items}
use Rattle.found_files.specs.declared.found.FoundEntry.{FoundEntry}
use Rattle.wal_split.proofs.Gathering.{Going, one_more, up_to_next, agree_next}
use Rattle.wal_split.proofs.gathered.gather.Goals as goal

pub loop-x-preserved : goal.loop-x-preserved
loop-x-preserved c =
    let ys = c.loop-x.yielded in
    let x = c.in-Some.x in
    let rest = into_iter_items c.next.new.self in
    let is : c.args.entries.items ≡ ys ++ x ∷ rest = sym c.loop-x.invariant.rest ∙ ap (λ (l : List FoundEntry). ys ++ l) c.in-Some.ensures.steps.0 in
    let more = one_more ys c.args.flushed.now c.loop-x.region c.loop-x.number x c.loop-x.found c.add.new.found c.loop-x.invariant.so_far
    (λ z has. up_to_next c.args.entries.items ys rest x z c.requires.ordered is has) (λ z has same. agree_next c.args.entries.items ys rest x z c.requires.agree is has same)
    c.is_new-is_new.ensures.valid c.is_new-is_new.result c.is_new-is_new.ensures.new c.in_ok-add.ensures in
    record {
      so_far = subst (λ (r : ℕ). Going (ys ++ x ∷ []) c.args.flushed.now r c.place_of-place.result.1 c.add.new.found.logged.items c.add.new.found.kept.items) (sym c.place_of-place.ensures.0)
          (subst (λ (n : ℕ). Going (ys ++ x ∷ []) c.args.flushed.now x.entry.region n c.add.new.found.logged.items c.add.new.found.kept.items) (sym c.place_of-place.ensures.1) more);
      rest = append_assoc ys (x ∷ []) rest ∙ sym is;
    }
