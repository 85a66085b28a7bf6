use Rattle.std.proofs.Common.{◌≡◌, ◌-◌, ◌≤◌, List, [], length, sym, ◌∙◌, subst, arith}
use Rattle.std.specs.List.{AllPass}
use Rattle.cell_model.specs.Order.{cells_of}
use Rattle.region_model.specs.Journal.{IsPoint, visible}
use Rattle.region_model.specs.Lines.{Line, edits_in, last_in, is_completed_line}
use Rattle.region_model.proofs.VisibleLaws.{visible_all}
use Rattle.write_queue.specs.Numbers.{Numbers, completed}
use Rattle.region_state.specs.Layers.{AreLayers, taken}
use Rattle.region_state.specs.States.{State, IsReadPoint}
use Rattle.region_state.specs.Versions.{Shown, shown_at, shown_content}
use Rattle.region_state.proofs.MarkTies.{all_completed, length_take, point_within, front_le}
use Rattle.region_state.proofs.StateLaws.{mark_point, read_point_is, region_caught, shown_from}
use Rattle.region_state.proofs.state.RegionState.next_version.Goals as goal

pub catch_up-requires-clause-count : goal.catch_up-requires-clause-count
catch_up-requires-clause-count c =
    let s = c.self.inside in
    let p = c.«read_point-point».result in
    let point = subst (λ (q : Numbers). IsPoint q.last (completed q) p) c.self.invariant.numbers c.«read_point-point».ensures in
    rw (c.last_of.ensures, c.deref.ensures.value) (point_within s.base.last p s.lines.items point)

pub catch_up-requires-clause-before : goal.catch_up-requires-clause-before
catch_up-requires-clause-before c =
    let s = c.self.inside in
    let p = c.«read_point-point».result in
    let point = subst (λ (q : Numbers). IsPoint q.last (completed q) p) c.self.invariant.numbers c.«read_point-point».ensures in
    let le : taken s.lines.items s.layers.waiting ≤ length s.lines.items = omega arith in
    rw (c.last_of.ensures, c.deref.ensures.value) (front_le s.base.last p s.lines.items (taken s.lines.items s.layers.waiting) point le c.self.invariant.completed)

pub invariant_of-self : goal.invariant_of-self
invariant_of-self c =
    let s = c.self.inside in
    let p = c.«read_point-point».result in
    let layers = subst (λ (l : List Line). AreLayers s.base.content l s.layers.merged s.layers.waiting → AreLayers s.base.content l c.catch_up.new.layers.merged c.catch_up.new.layers.waiting) c.deref.ensures.value (c.catch_up.ensures.layers s.base.content) c.self.invariant.layers in
    let before = rw (c.last_of.ensures, c.deref.ensures.value) at c.catch_up.ensures.before in
    region_caught s.region s.base s.lines.items s.queue.numbers s.layers.merged c.catch_up.new.layers.merged s.layers.waiting c.catch_up.new.layers.waiting p c.self.invariant c.«read_point-point».ensures layers before

pub invariant_of-self-in_err-segments : goal.invariant_of-self-in_err-segments
invariant_of-self-in_err-segments c =
    let s = c.self.inside in
    let p = c.«read_point-point».result in
    let layers = subst (λ (l : List Line). AreLayers s.base.content l s.layers.merged s.layers.waiting → AreLayers s.base.content l c.catch_up.new.layers.merged c.catch_up.new.layers.waiting) c.deref.ensures.value (c.catch_up.ensures.layers s.base.content) c.self.invariant.layers in
    let before = rw (c.last_of.ensures, c.deref.ensures.value) at c.catch_up.ensures.before in
    region_caught s.region s.base s.lines.items s.queue.numbers s.layers.merged c.catch_up.new.layers.merged s.layers.waiting c.catch_up.new.layers.waiting p c.self.invariant c.«read_point-point».ensures layers before

pub new-requires : goal.new-requires
new-requires c =
    let s = c.self.inside in
    let p = c.«read_point-point».result in
    let layers = subst (λ (l : List Line). AreLayers s.base.content l s.layers.merged s.layers.waiting → AreLayers s.base.content l c.catch_up.new.layers.merged c.catch_up.new.layers.waiting) c.deref.ensures.value (c.catch_up.ensures.layers s.base.content) c.self.invariant.layers in
    let whole = rw (c.last_of.ensures, c.deref.ensures.value) at c.«in_ok-catch_up».ensures.ok in
    shown_from s.region s.base s.lines.items s.queue.numbers s.layers.merged c.catch_up.new.layers.merged s.layers.waiting c.catch_up.new.layers.waiting p c.«in_ok-segments».segments c.self.invariant c.«read_point-point».ensures layers whole c.«in_ok-segments».ensures

pub returns-clause-point : goal.returns-clause-point
returns-clause-point c =
    let p = c.«read_point-point».result in
    let is = c.«in_ok-new».ensures.ok ∙ c.new.ensures in
    let point = read_point_is _ _ _ _ _ _ p c.self.invariant c.«read_point-point».ensures in
    subst (λ (v : Shown). IsReadPoint c.args.self.now v.point) (sym is) (subst (λ (w : State). IsReadPoint w p) c.self.view_is point)

pub returns-clause-cells : goal.returns-clause-cells
returns-clause-cells c =
    let s = c.self.inside in
    let p = c.«read_point-point».result in
    let is = c.«in_ok-new».ensures.ok ∙ c.new.ensures in
    let point = read_point_is s.region s.base s.lines.items s.queue.numbers s.layers.merged s.layers.waiting p c.self.invariant c.«read_point-point».ensures in
    let law = sym (visible_all s.region s.base.content s.base.last p s.lines.items c.self.invariant.journal.numbers point.least) in
    subst (λ (v : Shown). cells_of (shown_content v) ≡ visible c.args.self.now.base.content (edits_in c.args.self.now.region c.args.self.now.lines) v.point [] []) (sym is)
    (subst (λ (w : State). cells_of (shown_content (shown_at s.base p s.lines.items)) ≡ visible w.base.content (edits_in w.region w.lines) p [] []) c.self.view_is law)

pub returns-clause-completed : goal.returns-clause-completed
returns-clause-completed c =
    let s = c.self.inside in
    let p = c.«read_point-point».result in
    let is = c.«in_ok-new».ensures.ok ∙ c.new.ensures in
    let at = mark_point s.region s.base s.lines.items s.queue.numbers s.layers.merged s.layers.waiting p c.self.invariant c.«read_point-point».ensures in
    subst (λ (v : Shown). AllPass is_completed_line v.cut) (sym is) (all_completed s.base.last p s.lines.items (p - s.base.last) at (omega arith))

pub returns-clause-end : goal.returns-clause-end
returns-clause-end c =
    let s = c.self.inside in
    let p = c.«read_point-point».result in
    let is = c.«in_ok-new».ensures.ok ∙ c.new.ensures in
    let at = mark_point s.region s.base s.lines.items s.queue.numbers s.layers.merged s.layers.waiting p c.self.invariant c.«read_point-point».ensures in
    let least : s.base.last ≤ p = at.least in
    let long = length_take s.lines.items (p - s.base.last) (point_within s.base.last p s.lines.items at) in
    let end : p ≡ last_in s.base (shown_at s.base p s.lines.items).cut = omega (arith, long) in
    subst (λ (v : Shown). v.point ≡ last_in v.base v.cut) (sym is) end
