use Rattle.std.proofs.Common.{◌+◌, List, [], ◌∷◌, length, ap, subst, sym, ◌∙◌, arith, length-append}
use Rattle.server_model.specs.Pass.{Pass as ThePass}
use Rattle.handler_threads.specs.region_calls.Deals.{passes_out, passes_back}
use Rattle.handler_threads.specs.region_calls.Passes.{knows}
use Rattle.group_servers.specs.Starting.{AreUnused}
use Rattle.group_servers.proofs.Unused.{none_unused, one_more_unused}
use Rattle.group_servers.proofs.letting.all_back.Goals as goal

pub dealing-init : goal.dealing-init
dealing-init g c = record {
  few = omega (arith, c.requires.new.0);
  back = (let e = ap length c.requires.new.1 in omega (arith, e, c.requires.new.0));
  unused = subst (λ (ps : List ThePass). AreUnused ps) (sym c.requires.new.1) none_unused;
  of = λ place a. a;
}

pub next-requires : goal.next-requires
next-requires g c = record { of = (c.requires.of.0, c.dealing.invariant.of c.requires.of.0 c.requires.of.1) }

pub put_back-requires-clause-of : goal.put_back-requires-clause-of
put_back-requires-clause-of g c =
    let at = c.in-Some.ensures.of c.requires.of.0 (c.dealing.invariant.of c.requires.of.0 c.requires.of.1) in
    (c.requires.of.0, at.0, at.1)

pub put_back-requires-clause-out : goal.put_back-requires-clause-out
put_back-requires-clause-out g c =
    let same = ap length c.in-Some.ensures.back in
    omega (arith, same, c.dealing.invariant.back, c.in-Some.ensures.some.1)

pub dealing-preserved : goal.dealing-preserved
dealing-preserved g c =
    let inv = c.dealing.invariant in
    let same = ap length c.in-Some.ensures.back in
    let long = ap length c.put_back.ensures.back ∙ length-append (passes_back c.next.new.self) (knows c.in-Some.pass ∷ []) in
    record {
      few = omega (arith, c.put_back.ensures.out, c.in-Some.ensures.some.0, c.in-Some.ensures.some.1);
      back = omega (arith, long, same, inv.back, c.put_back.ensures.out, c.in-Some.ensures.some.1);
      unused = one_more_unused (passes_back c.dealing.passes) (passes_back c.next.new.self) (passes_back c.put_back.new.self) (passes_out c.dealing.passes + 1) (knows c.in-Some.pass)
          inv.unused c.in-Some.ensures.back c.put_back.ensures.back c.in-Some.ensures.some.2;
      of = λ place a. let at = c.in-Some.ensures.of place (inv.of place a) in c.put_back.ensures.of place at.0 at.1;
    }

pub returns-clause-unused : goal.returns-clause-unused
returns-clause-unused g c = subst (λ (ps : List ThePass). AreUnused ps) (sym c.next.ensures.back) c.dealing.invariant.unused

pub returns-clause-of : goal.returns-clause-of
returns-clause-of g c place are = (c.next.ensures.of place (c.dealing.invariant.of place are)).0
