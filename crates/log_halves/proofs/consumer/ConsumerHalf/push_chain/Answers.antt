use Rattle.std.proofs.Common.{◌≡◌, ℕ, List, [], ◌∷◌, ◌++◌, sym, ap, ◌∙◌, subst, arith}
use Rattle.crossbeam_queue.specs.Passes.{view}
use Rattle.log_trucks.specs.Held.{Held}
use Rattle.log_halves.specs.Items.{appended, held_in}
use Rattle.log_halves.specs.Trucks.{AreSpelled}
use Rattle.log_halves.specs.Chains.{all_trucks, IsWholeChain, AreInOrder}
use Rattle.log_halves.proofs.Chains.{spelled_front, spelled_back}
use Rattle.log_halves.proofs.ItemLaws.{handed_in_order, tie_handed}
use Rattle.log_halves.proofs.consumer.ConsumerHalf.push_chain.Goals as goal

pub push-requires-clause-whole : goal.push-requires-clause-whole
push-requires-clause-whole g c =
    let s = c.args.self.now in
    subst IsWholeChain (sym c.replace-chain.ensures.value) (omega (arith, c.if-len-eq0.false, c.len.ensures.len), c.len.ensures.size, spelled_front s.chain (appended (held_in s.held)) s.spelled)

pub push-requires-clause-order : goal.push-requires-clause-order
push-requires-clause-order g c =
    let s = c.args.self.now in
    let pushed = (view s.chain_key.pass).pushed in
    let order = handed_in_order g.N.ServiceNaming.lasts pushed s.chain (appended (held_in s.held)) (appended (view s.consumer.pass).popped) s.tie s.follow in
    subst (λ (p : List ℕ × List Held). AreInOrder p.0 (pushed ++ p.1 ∷ [])) (λ i. (sym s.to.2 i, sym c.replace-chain.ensures.value i)) order

pub invariant_of-self : goal.invariant_of-self
invariant_of-self g c =
    let s = c.args.self.now in
    let held : List Held = appended (held_in s.held) in
    let pushed = (view s.chain_key.pass).pushed in
    let now = c.in-Ok.ensures.pushed in
    let empty : c.replace-chain.new.dest ≡ [] = c.replace-chain.ensures.after ∙ c.new.ensures in
    let more : (view c.push.new.pass.pass).pushed ≡ pushed ++ s.chain ∷ [] = ap (λ v. v.pushed) now ∙ ap (λ (l : List Held). pushed ++ l ∷ []) c.replace-chain.ensures.value in
    record {
      ring = s.ring;
      to = (c.in-Ok.ensures.same.0 ∙ s.to.0, c.in-Ok.ensures.same.1 ∙ s.to.1, ap (λ v. v.lasts) now ∙ s.to.2);
      rest = s.rest;
      tie = ap (λ (p : List (List Held)). all_trucks p ++ (c.replace-chain.new.dest ++ held)) more
          ∙ (ap (λ (l : List Held). all_trucks (pushed ++ s.chain ∷ []) ++ (l ++ held)) empty ∙ tie_handed pushed s.chain held (appended (view s.consumer.pass).popped) s.tie);
      spelled = subst (λ (l : List Held). AreSpelled (l ++ held)) (sym empty) (spelled_back s.chain held s.spelled);
      alone = s.alone;
      came = s.came;
      follow = s.follow;
    }
