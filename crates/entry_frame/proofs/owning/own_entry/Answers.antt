use Rattle.std.proofs.Common.{◌≡◌, ◌∙◌, length, arith, ap, sym, subst}
use Rattle.cell_model.specs.Batch.{Batch}
use Rattle.log_model.specs.Entry.{Entry, IsEntry, frame, entry_frame}
use Rattle.log_model.proofs.FrameLaws.{length-body}
use Rattle.entry_frame.specs.Frame.{IsRefOf}
use Rattle.entry_frame.specs.declared.frame.EntryRef.{EntryRef}
use Rattle.entry_frame.proofs.owning.own_entry.Goals as goal

abbrev with_batch : EntryRef → Batch → Entry
with_batch r batch = record { region = r.region; number = r.number; time = r.time; batch = batch }

same_fields : (r : EntryRef) (e : Entry) (batch : Batch) → IsRefOf r e → batch ≡ e.batch → with_batch r batch ≡ e
same_fields r e batch ref same = λ i. record { region = ref.region i; number = ref.number i; time = ref.time i; batch = same i }

pub spell_body-requires-clause-entry : goal.spell_body-requires-clause-entry
spell_body-requires-clause-entry c = ∣ (c.requires.0, c.requires.1, c.requires.2.kind, c.requires.2.body_is) ∣₁

pub spell_body-requires-clause-within : goal.spell_body-requires-clause-within
spell_body-requires-clause-within c = omega (arith, length-body c.requires.0, c.requires.1.batch.body, ap length c.requires.2.body_is)

pub invariant_of-result : goal.invariant_of-result
invariant_of-result c =
    let e : Entry = c.requires.0 in
    let same : with_batch c.args.entry.now c.in_ok-batch.batch ≡ e = same_fields c.args.entry.now e c.in_ok-batch.batch c.requires.2 (c.in_ok-batch.ensures e c.requires.1 c.requires.2) in (
      subst IsEntry (sym same) c.requires.1,
      c.in_ok-bytes.ensures ∙ (λ i. frame (c.requires.2.kind i) (c.requires.2.body_is i)) ∙ sym (ap entry_frame same),
    )

pub returns : goal.returns
returns c = λ e is ref. same_fields c.args.entry.now e c.in_ok-batch.batch ref (c.in_ok-batch.ensures e is ref)
