use Rattle.std.proofs.Common.{◌≡◌, ℕ, sym, ap, ◌∙◌, subst}
use Rattle.server_model.specs.Pass.{Pass as ThePass, IsFresh, IsLater}
use Rattle.embedded.specs.region_calls.Passes.{knows, IsPassOf}
use Rattle.embedded.specs.Settings.{Setting}
use Rattle.embedded.specs.Sessions.{knows_in}
use Rattle.embedded_run.specs.Seats.{IsAt, known_in, pass_in}
use Rattle.embedded_run.proofs.job.SessionJobServerJob.work.Goals as goal

-- the handler has its pass
pub unreachable-requires : goal.unreachable-requires
unreachable-requires g c = subst (λ o. IsAt c.args.self.now.server.now o) (sym c.take.ensures.value ∙ c.in_default.is) c.requires.ready.there

-- which nothing was done by yet
pub new-session-requires-clause-fresh : goal.new-session-requires-clause-fresh
new-session-requires-clause-fresh g c = subst (λ o. IsFresh (known_in o).handler (known_in o)) (sym c.take.ensures.value ∙ c.in-Some.is) c.requires.ready.fresh

pub work-requires-clause-fresh : goal.work-requires-clause-fresh
work-requires-clause-fresh g c =
    subst (λ (p : ThePass). IsFresh p.handler p) (sym c.new-session.ensures.knows)
    (subst (λ o. IsFresh (known_in o).handler (known_in o)) (sym c.take.ensures.value ∙ c.in-Some.is) c.requires.ready.fresh)

-- the session stays on the server, and the pass is what the session knew
pub returns : goal.returns
returns g c =
    let had : pass_in c.args.handler.now ≡ knows c.in-Some.pass = ap known_in (sym c.take.ensures.value ∙ c.in-Some.is) in
    let set = c.work.ensures.same ∙ c.new-session.ensures.setting in
    let says = g.H.Handler.did c.args.handler.now.handler g.N.ServerNaming.name in
    let timed = subst (λ (t : ℕ). says t (knows_in c.new-session.result) (knows_in c.work.new.at) c.work.new.self) (ap (λ (s : Setting). s.time) c.new-session.ensures.setting) c.work.ensures.did in
    let begun = subst (λ (p : ThePass). says c.args.self.now.time p (knows_in c.work.new.at) c.work.new.self) (c.new-session.ensures.knows ∙ sym had) timed in
    record {
      worked = record {
        there = subst (λ (s : Setting). IsPassOf s.place c.into_pass.result) set c.into_pass.ensures.of;
        later = subst (λ (p : ThePass). IsLater p (knows c.into_pass.result)) (ap (λ (s : Setting). s.first) set ∙ sym had) c.into_pass.ensures.later;
        said = subst (λ (p : ThePass). says c.args.self.now.time (pass_in c.args.handler.now) p c.work.new.self) (sym c.into_pass.ensures.knows) begun;
      };
    }
