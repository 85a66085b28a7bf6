use Rattle.std.proofs.Common.{List, [], ◌∷◌, ◌++◌, length, map, sym, ap, ◌∙◌, subst, arith}
use Rattle.std.proofs.lemmas.List.{append_assoc, length-append}
use Rattle.std.specs.Vec.Iter.{into_iter_items}
use Rattle.region_replay.specs.Ready.{Found}
use Rattle.region_calls.specs.Seeds.{AreSeeds, base_of}
use Rattle.region_calls.proofs.Sown.{seeds_push, bases_push}
use Rattle.region_calls.proofs.sowing.seeds_of.Goals as goal

pub sowing-preserved : goal.sowing-preserved
sowing-preserved c =
    let ss = c.sowing.seeds.items in
    let s = c.in_ok-new.field-0 in
    let ys = c.sowing.yielded in
    let x = c.in-Some.one in
    let inv = c.sowing.invariant in
    let pushed = c.push_reserved.ensures.items in
    record {
      seeds = subst (AreSeeds c.args.handlers 1) (sym pushed) (seeds_push c.args.handlers 1 ss s _ inv.seeds (omega (arith, c.len-in-sowing.ensures, c.sowing.seeds.ok.0)) c.in_ok-new.ensures.seed);
      bases = ap (map base_of) pushed ∙ bases_push ss s ys x inv.bases (c.in_ok-new.ensures.base ∙ ap (λ (f : Found). f.base) c.one.view_is);
      count = ap length pushed ∙ omega (arith, length-append ss (s ∷ []), length-append ys (x ∷ []), inv.count);
      rest = append_assoc ys (x ∷ []) (into_iter_items c.next.new.self) ∙ ap (λ (l : List Found). ys ++ l) (sym c.in-Some.ensures.steps.0) ∙ inv.rest;
      room = omega (arith, inv.room, c.push_reserved.ensures.capacity);
    }
