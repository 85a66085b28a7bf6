use Rattle.std.proofs.Common.{ap, ◌∙◌, ℕ}
use Rattle.std.specs.List.{list_any}
use Rattle.entry_frame.proofs.OwnLaws.{starts_in}
use Rattle.log_trucks.specs.Held.{Haul}
use Rattle.log_trucks.specs.Unflushed.{is_unflushed}
use Rattle.log_trucks.proofs.chain.is_left.Goals as goal

pub any_left-requires-clause-cells : goal.any_left-requires-clause-cells
any_left-requires-clause-cells c = let x = c.entry-entry.ensures.is in starts_in c.form_of-form.result c.entry-entry.result x.0 c.form_of-form.ensures x.1 x.2

pub returns : goal.returns
returns c = λ e held.
    let ref = c.entry-entry.ensures.only e held.entry (ap (λ (t : Haul). t.bytes) c.truck.view_is ∙ held.bytes) in
    c.any_left.ensures (starts_in c.form_of-form.result c.entry-entry.result e c.form_of-form.ensures held.entry ref)
    ∙ ap (λ (n : ℕ). list_any (is_unflushed c.args.accounting.now c.args.region n) e.batch.cells) (ap (λ (t : Haul). t.number) c.truck.view_is ∙ held.number)
