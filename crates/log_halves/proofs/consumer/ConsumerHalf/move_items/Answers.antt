use Rattle.std.proofs.Common.{◌≡◌, ℕ, Bool, List, [], ◌∷◌, ◌++◌, ◌||◌, refl, sym, ap, ◌∙◌, arith, length, length-append}
use Rattle.crossbeam_queue.specs.Passes.{view}
use Rattle.log_trucks.specs.Held.{Held}
use Rattle.log_halves.specs.declared.moving.Moves.TheVariants as moves
use Rattle.log_halves.specs.Items.{appended, held_in, is_sync}
use Rattle.log_halves.specs.Moves.{Bench, HasMoved}
use Rattle.log_halves.proofs.ItemLaws.{moved_then, moved_one, moved_grows}
use Rattle.log_halves.proofs.consumer.ConsumerHalf.move_items.Goals as goal

-- each answer is no other
empty_moved : (n : ℕ) → moves.Empty ≡ moves.Moved n → ⊥
empty_moved n is = absurd (cc is)

full_moved : (n : ℕ) → moves.StageFull ≡ moves.Moved n → ⊥
full_moved n is = absurd (cc is)

moved_empty : (n : ℕ) → moves.Moved n ≡ moves.Empty → ⊥
moved_empty n is = absurd (cc is)

moved_full : (n : ℕ) → moves.Moved n ≡ moves.StageFull → ⊥
moved_full n is = absurd (cc is)

empty_full : moves.Empty ≡ moves.StageFull → ⊥
empty_full is = absurd (cc is)

pub loop-moved-preserved : goal.loop-moved-preserved
loop-moved-preserved g c =
    let a = c.args.self.now in
    let b = c.loop-moved.self in
    let d = c.put.new.self in
    let was = c.loop-moved.invariant in
    let got = c.if-not-refill.ensures.popped refl in
    let same = c.refill.ensures.same in
    let put = c.if-not-put.ensures.moved refl in
    let still = c.put.ensures.same in
    let start : Bench = record { popped = (view a.consumer.pass).popped; chain = a.chain; held = a.held; asked = a.asked; handed = (view a.chain_key.pass).pushed } in
    let here : Bench = record { popped = (view b.consumer.pass).popped; chain = b.chain; held = b.held; asked = b.asked; handed = (view b.chain_key.pass).pushed } in
    let then : Bench = record { popped = (view d.consumer.pass).popped; chain = d.chain; held = d.held; asked = d.asked; handed = (view d.chain_key.pass).pushed } in
    let one : HasMoved here then (put.0 ∷ []) =
    moved_one here then got.0 put.0 (ap (λ v. v.popped) still.0 ∙ got.1) (ap held_in (sym put.1) ∙ got.2) put.2 (put.3 ∙ ap (λ (l : List Held). l ++ appended (put.0 ∷ [])) same.0)
    (put.4 ∙ ap (λ (x : Bool). x || is_sync put.0) same.1) (ap (λ v. v.pushed) still.1 ∙ ap (λ v. v.pushed) same.2) in
    (was.0 ++ put.0 ∷ [], omega (arith, length-append was.0 (put.0 ∷ []), was.1), moved_then start here then was.0 (put.0 ∷ []) was.2 one)

pub returns-then-moved-eq0-clause-moved : goal.returns-then-moved-eq0-clause-moved
returns-then-moved-eq0-clause-moved g c n is = absurd (empty_moved n is)

pub returns-then-moved-eq0-clause-full : goal.returns-then-moved-eq0-clause-full
returns-then-moved-eq0-clause-full g c is = absurd (empty_full is)

pub returns-else-moved-eq0-clause-empty : goal.returns-else-moved-eq0-clause-empty
returns-else-moved-eq0-clause-empty g c is = absurd (moved_empty _ is)

pub returns-else-moved-eq0-clause-full : goal.returns-else-moved-eq0-clause-full
returns-else-moved-eq0-clause-full g c is = absurd (moved_full _ is)

pub returns-then-moved-eq0-2-clause-moved : goal.returns-then-moved-eq0-2-clause-moved
returns-then-moved-eq0-2-clause-moved g c n is = absurd (full_moved n is)

pub returns-then-moved-eq0-2-clause-empty : goal.returns-then-moved-eq0-2-clause-empty
returns-then-moved-eq0-2-clause-empty g c is = absurd (empty_full (sym is))

pub returns-else-moved-eq0-2-clause-empty : goal.returns-else-moved-eq0-2-clause-empty
returns-else-moved-eq0-2-clause-empty g c is = absurd (moved_empty _ is)

pub returns-else-moved-eq0-2-clause-full : goal.returns-else-moved-eq0-2-clause-full
returns-else-moved-eq0-2-clause-full g c is = absurd (moved_full _ is)

pub returns-clause-empty : goal.returns-clause-empty
returns-clause-empty g c is = absurd (moved_empty _ is)

pub returns-clause-full : goal.returns-clause-full
returns-clause-full g c is = absurd (moved_full _ is)

pub returns-then-moved-eq0-clause-grows : goal.returns-then-moved-eq0-clause-grows
returns-then-moved-eq0-clause-grows g c =
    let grows = moved_grows _ _ _ c.loop-moved.invariant.2 in
    let still = ap (λ v. length v.popped) (c.if-not-refill.ensures.empty refl).2 in
    omega (arith, grows, still)

pub returns-then-moved-eq0-2-clause-grows : goal.returns-then-moved-eq0-2-clause-grows
returns-then-moved-eq0-2-clause-grows g c =
    let grows = moved_grows _ _ _ c.loop-moved.invariant.2 in
    let got = c.if-not-refill.ensures.popped refl in
    let more = ap length got.1 ∙ length-append (view c.loop-moved.self.consumer.pass).popped got.0 in
    let still = ap (λ v. length v.popped) c.put.ensures.same.0 in
    omega (arith, grows, more, still)

pub returns-else-moved-eq0-clause-grows : goal.returns-else-moved-eq0-clause-grows
returns-else-moved-eq0-clause-grows g c =
    let grows = moved_grows _ _ _ c.loop-moved.invariant.2 in
    let still = ap (λ v. length v.popped) (c.if-not-refill.ensures.empty refl).2 in
    omega (arith, grows, still)

pub returns-else-moved-eq0-2-clause-grows : goal.returns-else-moved-eq0-2-clause-grows
returns-else-moved-eq0-2-clause-grows g c =
    let grows = moved_grows _ _ _ c.loop-moved.invariant.2 in
    let got = c.if-not-refill.ensures.popped refl in
    let more = ap length got.1 ∙ length-append (view c.loop-moved.self.consumer.pass).popped got.0 in
    let still = ap (λ v. length v.popped) c.put.ensures.same.0 in
    omega (arith, grows, more, still)
