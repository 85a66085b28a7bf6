use Rattle.std.proofs.Common.{◌≡◌, ℕ, sym, ap, ◌∙◌}
use Rattle.std.specs.Arc.{arc_value}
use Rattle.hand_register.specs.Views.{HandView}
use Rattle.region_model.specs.Lines.{Line, last_in}
use Rattle.region_state.specs.Versions.{Shown}
use Rattle.pass_calls.proofs.region_lock_laws.ScanLaws.{scan_none}
use Rattle.region_calls.proofs.Paging.{begun_at}
use Rattle.region_calls.proofs.reading.scanner_in.Goals as goal

pub returns-in_default-clause-scans : goal.returns-in_default-clause-scans
returns-in_default-clause-scans g c n seat =
    scan_none n (g.N.VersionsNaming.region_base c.args.at.now.viewer.region) c.args.from.now c.args.to.now _ _ _ _ _ _ _ _ seat
    c.view_in.ensures.region (ap (λ (h : HandView Line). h.record.list) c.view_in.ensures.hand.0) (ap (λ (h : HandView ℕ). h.record.list) c.view_in.ensures.hand.1) c.view_in.ensures.later

pub returns-clause-scans : goal.returns-clause-scans
returns-clause-scans g c n seat =
    let v : Shown = arc_value c.in-Ok.version in
    let base = g.N.VersionsNaming.region_base c.args.at.now.viewer.region in
    let of : v.base ≡ base = c.in-Ok.ensures.version.0 in
    let cut : v.cut ≡ c.view_in.new.at.viewer.lines = c.in-Ok.ensures.version.1 in
    let here : c.deref.result.now ≡ v = c.deref.ensures in
    let point : v.point ≡ last_in base c.view_in.new.at.viewer.lines =
    ap (λ (w : Shown). w.point) (sym here) ∙ sym c.point-point.ensures.point ∙ c.point-point.ensures.end ∙ (λ i. last_in (here i).base (here i).cut) ∙ (λ i. last_in (of i) (cut i)) in
    begun_at n base c.args.from.now c.args.to.now _ _ _ _ _ _ _ _ seat v c.of_version.result
    c.view_in.ensures.region (ap (λ (h : HandView Line). h.record.list) c.view_in.ensures.hand.0) (ap (λ (h : HandView ℕ). h.record.list) c.view_in.ensures.hand.1) c.view_in.ensures.later of cut point c.of_version.ensures
