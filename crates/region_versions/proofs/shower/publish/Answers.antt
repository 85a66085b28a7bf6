use Rattle.std.proofs.Common.{◌≡◌, ap, ◌∙◌}
use mathlib.Core.List.{IsPrefix}
use lib.ListN.{drop}
use Rattle.left_right.specs.Sides.{view}
use Rattle.region_versions.specs.declared.slot.State.{State}
use Rattle.region_versions.specs.Shown.{cut, state_of, IsOf}
use Rattle.region_versions.proofs.Rises.{rises, after_pending, by_answer}
use Rattle.region_versions.proofs.shower.publish.Goals as goal
use Rattle.region_versions.proofs.shower.publish.Goals.{in-Ok, in-Err}

pub publish_as-requires : goal.publish_as-requires
publish_as-requires g c next is =
    let o = c.in-Ok.ensures in
    let y : state_of next ≡ state_of c.args.next = is ∙ after_pending (state_of c.append.new.self.desk.shown.value) (drop c.append.new.self.behind c.append.new.self.log.items) (drop c.args.writer.behind c.args.writer.log.items) c.args.next o.pending in
    let up : IsPrefix (cut c.append.new.self.desk.shown.value) (cut next) = rw (ap (λ (s : State). s.version.cut) y, o.desk) c.requires.later in
    let same : IsOf g.N.VersionsNaming.book g.N.VersionsNaming.region_base next = rw (ap (λ (s : State). s.seen.book) y, ap (λ (s : State). s.version.base) y, ap (λ (s : State). s.region) y) c.requires.of in
    rises g.N.VersionsNaming.book g.N.VersionsNaming.region_base c.append.new.self.desk.place.id (view c.append.new.self.desk.place) c.append.new.self.desk.shown.value next same up

pub returns : goal.returns
returns g c = elim c.match-append.branch [
  | in-Ok w ↦
      let o = w.in-Ok.ensures in
      let last = after_pending (state_of c.append.new.self.desk.shown.value) (drop c.append.new.self.behind c.append.new.self.log.items) (drop c.args.writer.behind c.args.writer.log.items) c.args.next o.pending in
      rw w.result-is (by_answer w.publish_as.result.1 _ _ _ _ _ _ w.publish_as.ensures.values w.publish_as.ensures.rule
      (λ a v r. ap (λ (s : State). s.version.cut) (v.0 ∙ last))
      (λ e v r. ap cut v.0 ∙ ap (λ d. cut d.shown.value) o.desk))
  | in-Err w ↦ rw w.result-is (ap (λ d. cut d.shown.value) w.in-Err.ensures.desk)
]
