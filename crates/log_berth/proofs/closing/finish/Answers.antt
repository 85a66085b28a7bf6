use Rattle.std.proofs.Common.{◌∷◌, ◌++◌, [], ℕ, sym, ap, ◌∙◌, arith, ◌==◌}
use Rattle.std.specs.Slots.{slots_items}
use Rattle.log_berth.proofs.Lookups.{get_or-at, take_next}
use Rattle.log_berth.proofs.closing.finish.Goals as goal

pub loop-region-preserved : goal.loop-region-preserved
loop-region-preserved g c =
    let i = c.loop-region.invariant in
    record {
      made = c.push_reserved.ensures.items ∙ (ap (λ l. l ++ c.word-number.result ∷ []) i.made ∙ sym (take_next (slots_items c.take.new.self.words) c.loop-region.region c.word-number.result c.word-number.ensures));
      room = omega (arith, i.room, c.push_reserved.ensures.capacity);
    }

pub returns-clause-broken : goal.returns-clause-broken
returns-clause-broken g c = ap (λ (k : ℕ). k == 1) (sym (get_or-at (slots_items c.args.closed.words) c.args.regions c.word-broken.result c.word-broken.ensures))
