use Rattle.std.proofs.Common.{arith, ◌≡◌, ◌++◌, ◌∷◌, [], List, length, length-append, refl, sym, subst, ap, ◌∙◌}
use Rattle.log_berth.specs.declared.known.Known.{Known}
use Rattle.log_berth.specs.Words.{informed, Informs}
use Rattle.log_berth.specs.Standing.{Standing, AreBack}
use Rattle.log_berth.proofs.Steps.{merges}
use Rattle.log_berth.proofs.Joined.{InformLater, informs-same, informs-left, informs-right, informs-trans, inform_later-start, inform_later-one, are_back-front}
use Rattle.log_berth.proofs.closing.joined.Goals as goal

pub join_seat-requires : goal.join_seat-requires
join_seat-requires g c =
    let i = c.loop-seat.invariant in
    let s = c.into_seat.ensures.seat in
    let id = c.args.shared.now.table_id in
    let back = (are_back-front id c.pop.new.self.items c.in-Some.seat (subst (AreBack id) c.in-Some.ensures.items i.back)).1.0 in
    (i.of, s.0 ∙ back.0, ap (λ m. m.1) s.1, i.words, merges g.W.Ware.numbers g.W.Ware.is_broken _ _ _ _ _ i.off (ap (λ m. m.0.turn) s.1 ∙ back.1))

pub loop-seat-preserved : goal.loop-seat-preserved
loop-seat-preserved g c =
    let i = c.loop-seat.invariant in
    let s = c.into_seat.ensures.seat in
    let j = c.join_seat.ensures in
    let id = c.args.shared.now.table_id in
    let left : List Standing = c.pop.new.self.items in
    let seat : Standing = c.in-Some.seat in
    let items : c.loop-seat.seats.items ≡ left ++ seat ∷ [] = c.in-Some.ensures.items in
    let back = are_back-front id left seat (subst (AreBack id) items i.back) in
    let v : Known = c.loop-seat.me.me.0 in
    let w : Known = seat.knows in
    let u : Known = c.join_seat.new.seat.me.0 in
    let other : c.into_seat.result.me.0 ≡ w = ap (λ m. m.0) s.1 in
    let now : u ≡ informed v w = ap (λ m. m.0) j.2 ∙ ap (λ (u : Known). informed v u) other in
    let more : Informs v u = subst (Informs v) (sym now) (informs-left v w) in
    let here : Informs w u = subst (Informs w) (sym now) (informs-right v w) in
    record {
      of = j.0 ∙ i.of;
      slots = ap (λ m. m.1) j.2 ∙ i.slots;
      off = ap (λ (u : Known). u.turn) now ∙ i.off;
      words = i.words;
      parts = omega (arith, i.parts, ap (λ (u : Known). u.parts) now, c.into_seat.ensures.part, ap length items, length-append left (seat ∷ []));
      back = back.0;
      first = informs-trans c.args.me.me.0 v u i.first more;
      later = inform_later-one c.args.seats.items left seat v u (subst (λ (l : List Standing). InformLater c.args.seats.items l v) items i.later) more here;
    }

pub loop-seat-init : goal.loop-seat-init
loop-seat-init g c = record {
  of = c.requires.me.0;
  slots = c.requires.me.1;
  off = c.requires.me.2;
  words = c.requires.me.3;
  parts = refl;
  back = c.requires.back;
  first = informs-same c.args.me.me.0;
  later = inform_later-start c.args.seats.items c.args.me.me.0;
}
