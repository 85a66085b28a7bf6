use Rattle.std.proofs.Common.{◌≡◌, ℕ, refl, ap, sym, ◌∙◌, subst}
use Rattle.region_model.specs.Journal.{Caller}
use Rattle.region_model.specs.Lines.{Line, last_in}
use Rattle.region_versions.specs.Histories.{Beginning}
use Rattle.region_lock.specs.Jobs.{IsJob}
use Rattle.region_lock.proofs.Knowns.{later_refl}
use Rattle.region_lock.proofs.log_service_laws.SeatLaws.{later_trans}
use Rattle.pass_calls.proofs.PutLaws.{drawn_from}
use Rattle.pass_calls.proofs.WatchLaws.{begun_watched, again_watched, drawn_watched}
use Rattle.pass_calls.proofs.drawing.draw.Goals as goal

pub attempt-requires-clause-service : goal.attempt-requires-clause-service
attempt-requires-clause-service g c =
    let i = c.trying.invariant in
    let region : c.trying.at.viewer.region ≡ c.args.at.now.viewer.region = ap (λ (b : Beginning). b.region) i.0.0 in
    record {
      ring = c.requires.service.ring;
      region = rw region c.requires.service.region;
      seat = i.3;
    }

pub attempt-requires-clause-job : goal.attempt-requires-clause-job
attempt-requires-clause-job g c =
    let i = c.trying.invariant in
    subst (λ (r : ℕ). IsJob r c.trying.job) (sym (ap (λ (b : Beginning). b.region) i.0.0)) i.5

pub attempt-requires-clause-caller : goal.attempt-requires-clause-caller
attempt-requires-clause-caller g c =
    let i = c.trying.invariant in
    let who : c.trying.job.caller ≡ c.args.job.caller = ap (λ (x : Line). x.caller) i.6 in
    (ap (λ (w : Caller). w.handler) who ∙ c.requires.caller.0 ∙ sym i.0.1, rw (ap (λ (w : Caller). w.call) who, i.1) c.requires.caller.1)

pub returns-in-Ok-clause-drawn : goal.returns-in-Ok-clause-drawn
returns-in-Ok-clause-drawn g c =
    let i = c.trying.invariant in
    let point = ap (λ (b : Beginning). last_in (g.N.VersionsNaming.region_base b.region) b.lines) i.0.0 in
    drawn_from _ _ c.trying.job c.args.job _ _ _ _ _ _ c.in-Ok.drawn _ point i.6 i.1 i.2 c.in-Ok.ensures.drawn

pub returns-in-Ok-clause-watched : goal.returns-in-Ok-clause-watched
returns-in-Ok-clause-watched g c = drawn_watched c.in-Ok.drawn c.args.at.now.tally.watch c.trying.at.tally.watch c.attempt.new.at.tally.watch c.trying.invariant.8 c.in-Ok.ensures.watched

pub trying-init : goal.trying-init
trying-init g c = ((refl, refl, refl), refl, refl, c.requires.service.seat, later_refl c.args.seat.now, c.requires.job, refl, refl, begun_watched c.args.at.now.tally.watch)

pub trying-preserved : goal.trying-preserved
trying-preserved g c =
    let i = c.trying.invariant in
    let tried = c.attempt.ensures in
    let back = c.in-Err.ensures.drawn in (
      (tried.same.0 ∙ i.0.0, tried.same.1 ∙ i.0.1, tried.same.2 ∙ i.0.2),
      back.0.own_same ∙ i.1,
      back.0.told_same ∙ i.2,
      c.help.ensures.seat,
      later_trans c.args.seat.now c.trying.seat c.help.new.seat i.4 (later_trans c.trying.seat c.attempt.new.seat c.help.new.seat tried.later c.help.ensures.later),
      subst (λ (r : ℕ). IsJob r c.in-Err.back) (ap (λ (b : Beginning). b.region) i.0.0) back.1.0,
      back.1.1 ∙ i.6,
      tried.unasked ∙ i.7,
      again_watched c.args.at.now.tally.watch c.trying.at.tally.watch c.attempt.new.at.tally.watch i.8 c.in-Err.ensures.watched,
    )
