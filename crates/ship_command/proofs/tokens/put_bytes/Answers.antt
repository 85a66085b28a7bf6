use Rattle.std.proofs.Common.{ℕ, List, ◌++◌, get_or, take, rules, true, refl}
use Rattle.std.specs.List.{flat_map}
use Rattle.script_model.specs.Text.{escaped}
use Rattle.ship_command.proofs.Cuts.{cut_here, cut_then, cut_as, cut_to, parts_at}
use Rattle.ship_command.proofs.tokens.put_bytes.Goals as goal

pub returns-in_err-put_byte-clause-cut : goal.returns-in_err-put_byte-clause-cut
returns-in_err-put_byte-clause-cut g c told err =
    let bytes : List ℕ = c.args.bytes.now in
    let b : ℕ = get_or bytes c.loop-b.b-index 0 in
    let parts = parts_at escaped bytes c.loop-b.b-index b 0 c.loop-b-test.true refl in
    cut_as parts.1
    (cut_then (flat_map escaped (take c.loop-b.b-index bytes)) (escaped b ++ parts.0) (c.loop-b.invariant.so_far told)
    (cut_here (escaped b) parts.0 (cut_to (c.in_err-put_byte.ensures.cut told (refl {a = true})) (search rules))))
