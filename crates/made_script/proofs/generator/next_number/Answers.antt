use Rattle.std.proofs.Common.{◌≡◌, ℕ, ◌+◌, ◌*◌, ◌%◌, arith}
use Rattle.made_script.specs.Made.{next_x}
use Rattle.made_script.proofs.generator.next_number.Goals as goal

-- the remainder may be taken before the sum too
sum_of_rest : (a c : ℕ) → (a % 18446744073709551616 + c) % 18446744073709551616 ≡ (a + c) % 18446744073709551616
sum_of_rest a c = omega arith

pub returns : goal.returns
unfolding next_x
returns c = omega (arith, sum_of_rest (6364136223846793005 * c.args.x) 1442695040888963407)
