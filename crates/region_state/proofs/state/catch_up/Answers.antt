use Rattle.std.proofs.Common.{◌≡◌, ℕ, suc, ◌-◌, ◌<◌, ◌≤◌, Bool, length, get_or, ap, ◌∙◌, subst, arith}
use Rattle.region_state.specs.Layers.{TakesIn, taken}
use Rattle.region_state.proofs.LayerLaws.{taken_in}
use Rattle.region_state.proofs.state.catch_up.Goals as goal

pub taking-preserved : goal.taking-preserved
taking-preserved c =
    let i = c.taking.invariant in
    let lines = c.args.lines.now in
    let old = c.taking.layers in
    let x = c.«index-lines-lines».result in
    let takes = subst (λ (d : Bool). TakesIn d old c.take_in.new.self) c.is_done.ensures c.«in_ok-take_in».ensures.ok in
    let long : length old.waiting ≡ suc (length c.take_in.new.self.waiting) = ap length takes.waiting in
    let within : length old.waiting ≤ length lines = i.within in
    let few : length lines - c.waiting.result < c.args.count = c.«taking-test».true in
    let same : c.waiting.result ≡ length old.waiting = c.waiting.ensures in
    let more : c.args.count ≤ length lines = c.requires.count in
    let place : length lines - c.«waiting-in-taking».result ≡ taken lines old.waiting = ap (λ (k : ℕ). length lines - k) c.«waiting-in-taking».ensures in
    let at : x ≡ get_or lines (taken lines old.waiting) x = c.«index-lines-lines».is ∙ ap (λ (k : ℕ). get_or lines k x) place in
    let room : c.args.layers.now.room ≤ old.room = i.room in
    record {
      before = omega arith;
      within = omega arith;
      layers = λ base was. taken_in base lines x old c.take_in.new.self (omega arith) at takes (i.layers base was);
      room = omega (arith, c.«in_ok-take_in».ensures.room);
    }
