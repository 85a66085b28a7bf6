use Rattle.std.proofs.Common.{◌≡◌, ◌+◌, ◌++◌, ◌∷◌, [], ◌≤◌, List, length, length-append, sym, ap, ◌∙◌, subst, arith}
use Rattle.server_model.specs.Pass.{Naming, Pass}
use Rattle.region_calls.specs.Deals.{passes_back}
use Rattle.service_trials.proofs.serving.serve.Goals as goal

one_more : (xs : List Pass) (x : Pass) → length (xs ++ x ∷ []) ≡ length xs + 1
one_more xs x = length-append xs (x ∷ [])

pub next-requires-2 : goal.next-requires-2
next-requires-2 g c =
    let place = c.in-Ok.field-0.server in
    record { of = (place, (c.in-Some.ensures.of place c.in-Ok.ensures.passes.2).0) }

pub ask-asked-requires-clause-of : goal.ask-asked-requires-clause-of
ask-asked-requires-clause-of g c =
    let place = c.in-Ok.field-0.server in
    let one = c.in-Some.ensures.of place c.in-Ok.ensures.passes.2 in
    let two = c.in-Some-next.ensures.of place one.0 in
    (one.1, two.1)

pub ask-asked-requires-clause-region : goal.ask-asked-requires-clause-region
ask-asked-requires-clause-region g c = subst (λ (n : Naming). 1 ≤ n.regions) (sym c.requires.name.name_is) c.requires.regions_there

pub put_back-requires-clause-of : goal.put_back-requires-clause-of
put_back-requires-clause-of g c =
    let place = c.in-Ok.field-0.server in
    let one = c.in-Some.ensures.of place c.in-Ok.ensures.passes.2 in
    let two = c.in-Some-next.ensures.of place one.0 in
    (place, two.0, c.ask-asked.ensures.of.0)

pub put_back-requires-clause-out : goal.put_back-requires-clause-out
put_back-requires-clause-out g c =
    let none = ap length (c.next-2.ensures.back ∙ c.next.ensures.back ∙ c.in-Ok.ensures.passes.1) in
    omega (arith, none, c.in-Some-next.ensures.some.1, c.in-Some.ensures.some.1)

pub put_back-requires-2-clause-of : goal.put_back-requires-2-clause-of
put_back-requires-2-clause-of g c =
    let place = c.in-Ok.field-0.server in
    let one = c.in-Some.ensures.of place c.in-Ok.ensures.passes.2 in
    let two = c.in-Some-next.ensures.of place one.0 in
    (place, c.put_back.ensures.of place two.0 c.ask-asked.ensures.of.0, c.ask-asked.ensures.of.1)

pub put_back-requires-2-clause-out : goal.put_back-requires-2-clause-out
put_back-requires-2-clause-out g c =
    let none = ap length (c.next-2.ensures.back ∙ c.next.ensures.back ∙ c.in-Ok.ensures.passes.1) in
    let one = ap length c.put_back.ensures.back ∙ one_more (passes_back c.next-2.new.self) _ in
    omega (arith, none, one, c.put_back.ensures.out, c.in-Some-next.ensures.some.1, c.in-Some.ensures.some.1, c.in-Ok.ensures.passes.0)

pub close-requires : goal.close-requires
close-requires g c =
    let place = c.in-Ok.field-0.server in
    let one = c.in-Some.ensures.of place c.in-Ok.ensures.passes.2 in
    let two = c.in-Some-next.ensures.of place one.0 in
    let none = ap length (c.next-2.ensures.back ∙ c.next.ensures.back ∙ c.in-Ok.ensures.passes.1) in
    let first = ap length c.put_back.ensures.back ∙ one_more (passes_back c.next-2.new.self) _ in
    let second = ap length c.put_back-2.ensures.back ∙ one_more (passes_back c.put_back.new.self) _ in
    record {
      back = record {
        of = c.put_back-2.ensures.of place (c.put_back.ensures.of place two.0 c.ask-asked.ensures.of.0) c.ask-asked.ensures.of.1;
        out = omega (arith, c.put_back-2.ensures.out, c.put_back.ensures.out, c.in-Some-next.ensures.some.1, c.in-Some.ensures.some.1, c.in-Ok.ensures.passes.0, c.requires.few, c.requires.name.handlers_are);
        back = omega (arith, none, first, second, c.requires.few, c.requires.name.handlers_are);
        seats = c.in-Ok.ensures.helpers;
      };
    }

pub into_disk-disk-requires : goal.into_disk-disk-requires
into_disk-disk-requires g c = let same = c.in-Err-close.ensures.same in rw (same.0, same.1, same.2) (close-requires g c.before.before)
