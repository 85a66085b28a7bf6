use Rattle.std.proofs.Common.{◌≡◌, ◌∙◌, ◌+◌, ◌-◌, ◌<◌, ℕ, List, arith, ap, get_or, length, length-set, get_or-set_other}
use Rattle.log_berth.proofs.Numbers.{starts_next}
use Rattle.log_berth.proofs.opening.words_of.Goals as goal

pub loop-region-preserved : goal.loop-region-preserved
loop-region-preserved g c =
    let i = c.loop-region.invariant in
    let ws = c.loop-region.words.items in
    let n : ℕ = c.loop-region.region in
    let y : ℕ = c.durable.result in
    let m : ℕ = c.args.regions in
    let numbers : List ℕ = g.W.Ware.numbers c.args.ware.now in
    let test : n < m = c.loop-region-test.true in
    let same : n + 1 - 1 ≡ n = omega arith in
    let is : y ≡ get_or numbers n 0 = c.durable.ensures ∙ ap (λ (k : ℕ). get_or numbers k 0) same in
    let low : n < length ws = omega (arith, i.wide) in
    record {
      wide = length-set ws n y ∙ i.wide;
      start = starts_next ws numbers n y low i.start is;
      fault = get_or-set_other ws n m y 0 (λ e. omega arith) ∙ i.fault;
      turn = get_or-set_other ws n (m + 1) y 0 (λ e. omega arith) ∙ i.turn;
    }
