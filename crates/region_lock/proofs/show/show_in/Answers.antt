use Rattle.std.proofs.Common.{◌≡◌, ◌-◌, length, ap, ◌∙◌, arith}
use Rattle.std.specs.Arc.{arc_value}
use Rattle.region_state.specs.Versions.{Shown}
use Rattle.region_lock.proofs.Shows.{shown_caught, shown_after, cut_completed}
use Rattle.region_lock.proofs.show.show_in.Goals as goal
use Rattle.region_lock.proofs.show.show_in.Goals.{then-count-len-via-then-count-len, then-count-len-via-else-count-len+then-not-catch_up}

pub returns-then-count-len-clause-shown : goal.returns-then-count-len-clause-shown
returns-then-count-len-clause-shown g c =
    let v : Shown = arc_value c.args.version in
    let point : c.point.result ≡ v.point = c.point.ensures.point ∙ ap (λ (w : Shown). w.point) c.deref.ensures in
    let count : c.point.result - c.args.first ≡ length v.cut = omega (arith, point, c.requires.point) in
    let all = cut_completed c.args.lines.now v.cut (c.point.result - c.args.first) count c.requires.cut c.requires.completed in
    elim c.then-count-len.branch [
      | then-count-len-via-then-count-len w ↦ rw w.history-is c.requires.shown
      | then-count-len-via-else-count-len+then-not-catch_up w ↦ rw w.history-is (shown_caught _ _ _ _ _ (c.point.result - c.args.first) c.requires.shown w.catch_up.ensures.region w.catch_up.ensures.later w.catch_up.ensures.front w.catch_up.ensures.within all)
    ]

pub returns-clause-shown : goal.returns-clause-shown
returns-clause-shown g c =
    let v : Shown = arc_value c.args.version in
    let point : c.point.result ≡ v.point = c.point.ensures.point ∙ ap (λ (w : Shown). w.point) c.deref.ensures in
    let count : c.point.result - c.args.first ≡ length v.cut = omega (arith, point, c.requires.point) in
    let all = cut_completed c.args.lines.now v.cut (c.point.result - c.args.first) count c.requires.cut c.requires.completed in
    shown_after c.show.result _ _ _ c.front.result.now c.args.shower.now.shown c.show.new.self.shown
    (shown_caught _ _ _ _ _ (c.point.result - c.args.first) c.requires.shown c.catch_up.ensures.region c.catch_up.ensures.later c.catch_up.ensures.front c.catch_up.ensures.within all) c.front.ensures c.show.ensures.ok c.show.ensures.err
