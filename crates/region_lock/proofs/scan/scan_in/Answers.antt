use Rattle.std.proofs.Common.{◌≡◌, ℕ, ap, sym, ◌∙◌}
use Rattle.std.specs.Arc.{arc_value}
use Rattle.hand_register.specs.Views.{HandView}
use Rattle.region_model.specs.Journal.{visible}
use Rattle.region_model.specs.Lines.{Line, edits_in, last_in}
use Rattle.region_state.specs.Versions.{Shown}
use Rattle.region_lock.proofs.ScanLaws.{scan_ok, scan_none}
use Rattle.region_lock.proofs.scan.scan_in.Goals as goal

pub returns-in_default-clause-scans : goal.returns-in_default-clause-scans
returns-in_default-clause-scans g c n seat =
    scan_none n (g.N.VersionsNaming.region_base c.args.at.now.viewer.region) c.args.from.now c.args.to.now _ _ _ _ _ _ _ _ seat
    c.view_in.ensures.region (ap (λ (h : HandView Line). h.record.list) c.view_in.ensures.hand.0) (ap (λ (h : HandView ℕ). h.record.list) c.view_in.ensures.hand.1) c.view_in.ensures.later

pub returns-clause-scans : goal.returns-clause-scans
returns-clause-scans g c n seat =
    scan_none n (g.N.VersionsNaming.region_base c.args.at.now.viewer.region) c.args.from.now c.args.to.now _ _ _ _ _ _ _ _ seat
    c.view_in.ensures.region (ap (λ (h : HandView Line). h.record.list) c.view_in.ensures.hand.0) (ap (λ (h : HandView ℕ). h.record.list) c.view_in.ensures.hand.1) c.view_in.ensures.later

pub returns-in-Ok-cells_of-clause-scans : goal.returns-in-Ok-cells_of-clause-scans
returns-in-Ok-cells_of-clause-scans g c n seat =
    let r = c.view_in.new.at.viewer.region in
    let from = c.args.from.now in
    let to = c.args.to.now in
    let v : Shown = arc_value c.in-Ok.version in
    let base = g.N.VersionsNaming.region_base c.args.at.now.viewer.region in
    let lines = c.view_in.new.at.viewer.lines in
    let of : v.base ≡ base = c.in-Ok.ensures.version.0 in
    let cut : v.cut ≡ lines = c.in-Ok.ensures.version.1 in
    let here : c.deref-in-Ok-cells_of.result.now ≡ v = c.deref-in-Ok-cells_of.ensures in
    let point : c.point.result ≡ v.point = c.point.ensures.point ∙ ap (λ (w : Shown). w.point) here in
    let last : c.point.result ≡ last_in base lines = c.point.ensures.end ∙ (λ i. last_in (here i).base (here i).cut) ∙ (λ i. last_in (of i) (cut i)) in
    let cells : c.in-Ok-cells_of.cells ≡ visible base.content (edits_in r lines) c.point.result from to =
    c.in-Ok-cells_of.ensures r ∙ ap (λ (w : Shown). visible w.base.content (edits_in r w.cut) w.point from to) c.deref.ensures ∙ (λ i. visible (of i).content (edits_in r (cut i)) (sym point i) from to) in
    scan_ok n base from to _ _ _ _ _ _ _ _ seat c.point.result c.in-Ok-cells_of.cells
    c.view_in.ensures.region (ap (λ (h : HandView Line). h.record.list) c.view_in.ensures.hand.0) (ap (λ (h : HandView ℕ). h.record.list) c.view_in.ensures.hand.1) c.view_in.ensures.later last cells
