use Rattle.std.proofs.Math.Logic.{∥∥₁_map}
use Rattle.std.proofs.Common.{◌≡◌, List, ℕ, ◌∷◌, [], subst, ◌↔◌, IsTrue, arith}
use Rattle.log_model.specs.declared.format.TheConstants.{OPEN_GATE}
use Rattle.store_file.proofs.Filling.{first_read}
use Rattle.store_file.proofs.read.has_open_gate.Goals as goal

pub read-requires : goal.read-requires
read-requires g c told = ∥∥₁_map (c.requires.there told) (λ r. (r.0, r.1, omega arith))

pub returns-clause-open : goal.returns-clause-open
returns-clause-open g c told bytes reads =
    let first = first_read bytes c.read.new.into c.in_ok-n.n (c.in_ok-n.ensures.bytes told bytes reads) (c.in_ok-n.ensures.count told bytes reads) in
    subst (λ (l : List ℕ). IsTrue c.is_open.result ↔ (l ≡ OPEN_GATE ∷ [])) first c.is_open.ensures
