use Rattle.std.proofs.Common.{ℕ, ap, refl, inl}
use Rattle.log_model.specs.Files.{key_of}
use Rattle.log_model.proofs.TextLaws.{one_damage}
use Rattle.command_base.specs.declared.status.Status.TheVariants.{Damaged}
use Rattle.log_model.specs.declared.damage.Damage.TheVariants.{Bytes}
use Rattle.command_base.proofs.Readers.{same_bytes}
use Rattle.command_base.proofs.log_reading.read_there.Goals as goal

pub returns-in-Ok-clause-found : goal.returns-in-Ok-clause-found
returns-in-Ok-clause-found g c told bytes reads = (bytes, reads, c.in-Ok.ensures.text told bytes reads)

pub returns-in-Ok-clause-damaged : goal.returns-in-Ok-clause-damaged
returns-in-Ok-clause-damaged g c told bytes reads at damaged =
    (same_bytes _ c.args.name at bytes reads damaged).no_text c.in-Ok.text.entries c.in-Ok.text.ended (c.in-Ok.ensures.text told bytes reads)

pub returns-in-Err-Damaged-clause-damage : goal.returns-in-Err-Damaged-clause-damage
returns-in-Err-Damaged-clause-damage g c told bytes reads =
    let h = rw c.in-Err-Damaged.field-0-is at c.in-Err-Damaged.ensures.damaged told bytes reads in
    (refl, (bytes, reads, h))

pub returns-in-Err-Damaged-clause-damaged : goal.returns-in-Err-Damaged-clause-damaged
returns-in-Err-Damaged-clause-damaged g c told bytes reads at damaged =
    let h = rw c.in-Err-Damaged.field-0-is at c.in-Err-Damaged.ensures.damaged told bytes reads in
    inl (ap (λ (n : ℕ). Damaged (Bytes c.args.name n)) (one_damage (key_of c.args.name) bytes c.in-Err-Damaged.at at h (same_bytes _ c.args.name at bytes reads damaged)))
