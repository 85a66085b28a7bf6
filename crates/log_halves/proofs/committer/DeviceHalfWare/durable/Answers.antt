use Rattle.std.proofs.Common.{◌≡◌, ◌-◌, ◌+◌, ◌*◌, ℕ, ◌∙◌, sym, ap, get_or, arith}
use Rattle.log_device.specs.Whole.{numbers_of}
use Rattle.log_halves.proofs.Numbers.{told_synced, told_stored, told_closed, told_past}
use Rattle.log_halves.proofs.committer.DeviceHalfWare.durable.Goals as goal

pub returns-then-word-self : goal.returns-then-word-self
returns-then-word-self g c = let s = c.args.self.now in c.synced.ensures.number ∙ sym (told_synced s.regions (numbers_of s.device) (c.args.region - 1) (omega (arith, c.if-word-self.true)))

pub returns-then-word-self-2 : goal.returns-then-word-self-2
returns-then-word-self-2 g c = let s = c.args.self.now in c.stored.ensures.number ∙ sym (told_stored s.regions (numbers_of s.device) (c.args.region - 1) (omega (arith, c.if-word-self.false)) (omega (arith, c.if-word-self-2.true)))

pub returns-then-word-self-3 : goal.returns-then-word-self-3
returns-then-word-self-3 g c =
    let s = c.args.self.now in
    let same : ((c.args.region - 1) - s.regions) - s.regions + 1 ≡ (c.args.region - 1) - 2 * s.regions + 1 = omega arith in
    c.closed.ensures.number ∙ (ap (λ (k : ℕ). get_or (numbers_of s.device).closed k 0) (sym same) ∙ sym (told_closed s.regions (numbers_of s.device) (c.args.region - 1) (omega (arith, c.if-word-self-2.false)) (omega (arith, c.if-word-self-3.true))))

pub returns-else-word-self-3 : goal.returns-else-word-self-3
returns-else-word-self-3 g c = let s = c.args.self.now in sym (told_past s.regions (numbers_of s.device) (c.args.region - 1) (omega (arith, c.if-word-self-3.false)))
