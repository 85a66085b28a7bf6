use Rattle.std.proofs.Common.{sym, ◌∙◌, ap}
use Rattle.region_versions.specs.Histories.{Beginning, head_of}
use Rattle.region_versions.proofs.Adding.{adds_moves}
use Rattle.region_versions.proofs.front.append.Goals as goal

pub compare_exchange-found-requires : goal.compare_exchange-found-requires
compare_exchange-found-requires g c =
    let h = c.requires.head ∙ ap (λ (b : Beginning). head_of (g.N.VersionsNaming.book b.region)) (sym c.front.view_is) in
    let offer = c.plain-offer.ensures in
    let pen = c.no_pen-pen.ensures in (
      ap (λ w. w.tracked) h,
      c.front.invariant.1 ∙ sym (ap (λ w. w.book) h),
      pen.0 ∙ (c.front.invariant.1 ∙ sym (ap (λ w. w.book) h)),
      offer.0,
      rw (ap (λ w. w.key) h, pen.1, offer.1, offer.3) (adds_moves c.front.inside.seen.log c.args.line.now c.front.inside.count (sym c.front.invariant.0)),
    )
