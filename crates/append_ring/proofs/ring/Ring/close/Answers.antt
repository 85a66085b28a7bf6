use Rattle.std.proofs.Common.{◌≡◌, ◌∙◌, ◌++◌, ◌∷◌, [], List, sym, ap, subst, length, append_assoc}
use Rattle.std.specs.Prelude.{Option}
use Rattle.crossbeam_queue.specs.Passes.{view}
use Rattle.append_ring.specs.declared.pass.RingKey.{RingKey}
use Rattle.append_ring.specs.Rules.{of}
use Rattle.append_ring.specs.Parts.{EachThere, IsCounted, IsEqual}
use Rattle.append_ring.proofs.Places.{each_there-front}
use Rattle.append_ring.proofs.ring.Ring.close.Goals as goal

pub unreachable-requires : goal.unreachable-requires
unreachable-requires g c =
    let P = RingKey g.row.T.Denot in
    let F = λ (p : P). p.pass.table_id ≡ c.args.self.id in
    let parts = each_there-front F c.pop.new.self.items c.in-Some.place (subst (EachThere F) c.in-Some.ensures.items c.loop-place.invariant.there) in
    subst (λ (o : Option P). EachThere F (o ∷ [])) c.in_default-place.is parts.1

pub settle-requires-clause-ring : goal.settle-requires-clause-ring
settle-requires-clause-ring g c =
    let P = RingKey g.row.T.Denot in
    let F = λ (p : P). p.pass.table_id ≡ c.args.self.id in
    let parts = each_there-front F c.pop.new.self.items c.in-Some.place (subst (EachThere F) c.in-Some.ensures.items c.loop-place.invariant.there) in
    (c.loop-place.invariant.of, (subst (λ (o : Option P). EachThere F (o ∷ [])) c.in-Some-place.is parts.1).0)

pub settle-requires-clause-count : goal.settle-requires-clause-count
settle-requires-clause-count g c =
    let P = RingKey g.row.T.Denot in
    let place = g.T.OfRegion.place in
    let F = IsCounted place (view c.args.consumer.pass).popped in
    let parts = each_there-front F c.pop.new.self.items c.in-Some.place (subst (EachThere F) c.in-Some.ensures.items c.loop-place.invariant.counts) in
    ap (λ (l : List g.row.T.Denot). length (of place c.in-Some-place.pass.region l)) c.loop-place.invariant.popped ∙ (subst (λ (o : Option P). EachThere F (o ∷ [])) c.in-Some-place.is parts.1).0

pub loop-place-preserved : goal.loop-place-preserved
loop-place-preserved g c =
    let P = RingKey g.row.T.Denot in
    let place = g.T.OfRegion.place in
    let popped = (view c.args.consumer.pass).popped in
    let i = c.loop-place.invariant in
    let left = c.pop.new.self.items in
    let o : Option P = c.in-Some.place in
    let items = c.in-Some.ensures.items in
    let F = λ (p : P). p.pass.table_id ≡ c.args.self.id in
    let there = each_there-front F left o (subst (EachThere F) items i.there) in
    let counts = each_there-front (IsCounted place popped) left o (subst (EachThere (IsCounted place popped)) items i.counts) in
    let equal = ap (λ (l : List g.row.T.Denot). of place c.in-Some-place.pass.region l) (sym i.popped) ∙ c.settle.ensures.equal in
    let done = i.later.0 in
    record {
      of = c.settle.ensures.same.0 ∙ i.of;
      popped = c.settle.ensures.same.1 ∙ i.popped;
      there = there.0;
      counts = counts.0;
      later = (
        o ∷ done,
        i.later.1 ∙ (ap (λ (l : List (Option P)). l ++ done) items ∙ append_assoc left (o ∷ []) done),
        subst (λ (x : Option P). EachThere (IsEqual place popped) (x ∷ done)) (sym c.in-Some-place.is) (equal, i.later.2),
      );
    }
