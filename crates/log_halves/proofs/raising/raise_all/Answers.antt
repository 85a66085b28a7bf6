use Rattle.std.proofs.Common.{◌≡◌, ◌<◌, ◌+◌, ◌-◌, ℕ, List, get_or, sym, ap, ◌∙◌, subst, arith}
use Rattle.log_berth.specs.Words.{NoMore, noted}
use Rattle.log_berth.specs.declared.known.Known.{Known}
use Rattle.log_halves.proofs.Raised.{raised_below, raised_later, raised_all}
use Rattle.log_halves.proofs.raising.raise_all.Goals as goal

pub loop-word-preserved : goal.loop-word-preserved
loop-word-preserved g c =
    let was = c.loop-word.invariant in
    let numbers : List ℕ = g.W.Ware.numbers c.args.turn.now.ware in
    let seen : List ℕ = c.loop-word.seat.knows.seen in
    let i : ℕ = c.loop-word.word in
    let place : (i + 1) - 1 ≡ i = omega arith in
    let number : c.durable-number.result ≡ get_or numbers i 0 = c.durable-number.ensures ∙ ap (λ (k : ℕ). get_or numbers k 0) place in
    let now : c.raise.new.seat.knows.seen ≡ noted seen i (get_or numbers i 0) =
    ap (λ (k : Known). k.seen) c.raise.ensures.1 ∙ (λ j. noted seen (place j) (number j)) in
    record {
      berth = c.raise.ensures.0 ∙ was.berth;
      turn = ap (λ (k : Known). k.turn) c.raise.ensures.1 ∙ was.turn;
      whole = ap (λ (k : Known). k.broken) c.raise.ensures.1 ∙ was.whole;
      tally = ap (λ (k : Known). k.tally) c.raise.ensures.1 ∙ was.tally;
      later = subst (NoMore c.args.seat.now.knows.seen) (sym now) (raised_later seen numbers i was.below c.args.seat.now.knows.seen was.later);
      below = subst (λ (l : List ℕ). NoMore l numbers) (sym now) (raised_below seen numbers i was.below);
      done = subst (λ (l : List ℕ). (j : ℕ) → j < i + 1 → get_or l j 0 ≡ get_or numbers j 0) (sym now) (raised_all seen numbers i was.below was.done);
    }
