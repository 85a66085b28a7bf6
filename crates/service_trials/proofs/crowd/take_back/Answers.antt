use Rattle.std.proofs.Common.{◌≡◌, ℕ, suc, List, length, replicate, All, sym, ap, subst, arith}
use Rattle.append_ring.proofs.Handing.{none_left}
use Rattle.service_trials.specs.Crew.{AreIn, IsOf}
use Rattle.service_trials.specs.declared.member.Member.{Member}
use Rattle.service_trials.proofs.crowd.take_back.Goals as goal

pub loop-member-init : goal.loop-member-init
loop-member-init g c =
    let gives = c.into_iter-member-iterator.ensures.into_iter_gives in
    let out = c.requires.out in
    record {
      back = record {
        passes = (none_left c.args.service.now.ring (replicate 16 0) 0 16 c.args.passes.now out.passes (sym out.all)).1;
        all = out.all;
        seats = out.seats;
      };
      left = subst (λ (l : List Member). All (IsOf c.args.service.now) l) (sym gives.0) c.requires.crew.1;
      count = omega (arith, ap length gives.0, c.requires.crew.0);
      len = omega (arith, gives.1, ap length gives.0);
    }

pub one_back-own-requires-clause-of : goal.one_back-own-requires-clause-of
one_back-own-requires-clause-of g c =
    (subst (λ (l : List Member). All (IsOf c.args.service.now) l) c.in-Some.ensures.steps.0 c.loop-member.invariant.left) 0 c.in-Some.member (omega arith)

pub loop-member-preserved : goal.loop-member-preserved
loop-member-preserved g c =
    let inv = c.loop-member.invariant in
    let steps = c.in-Some.ensures.steps.0 in
    let all = subst (λ (l : List Member). All (IsOf c.args.service.now) l) steps inv.left in
    record {
      back = c.one_back-own.ensures;
      left = λ k d low. all (suc k) d (omega (arith, low));
      count = omega (arith, ap length steps, inv.count);
      len = omega (arith, c.in-Some.ensures.steps.1, ap length steps, inv.len);
    }

pub returns : goal.returns
returns g c =
    let inv = c.loop-member.invariant in
    let all : c.loop-member.before ≡ 16 = omega (arith, inv.count, inv.len, c.in-None.ensures.steps.0) in
    subst (λ (n : ℕ). AreIn c.args.service.now n c.loop-member.passes c.loop-member.seats.consumers c.loop-member.seats.devices) all inv.back
