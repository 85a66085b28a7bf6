use Rattle.std.proofs.Common.{rules, ◌≡◌, ◌≤◌, ℕ, List, length, slice_index, get_or, arith, sym, ap, ◌∙◌, subst}
use Rattle.std.proofs.Math.Logic.{∥∥₁_elim}
use Rattle.std.proofs.lemmas.List.{get_or_default}
use Rattle.cell_model.specs.declared.form.Form.{Form}
use Rattle.log_model.specs.Entry.{Entry, entry_form, entry_frame, body_as}
use Rattle.log_model.proofs.FrameLaws.{same_body}
use Rattle.entry_frame.specs.Frame.{IsRefOf}
use Rattle.entry_frame.specs.Spelling.{IsSpelling}
use Rattle.entry_frame.specs.Body.{form_of_kind}
use Rattle.entry_frame.proofs.BodyLaws.{form_is}
use Rattle.entry_frame.proofs.SpellingLaws.{spelling_bounds, body_behind}
use Rattle.entry_frame.proofs.bytes.EntryBytes.entry.Goals as goal

least : (items bytes : List ℕ) → IsSpelling items → bytes ≡ items → 29 ≤ length bytes
least items bytes h same = omega (arith, (spelling_bounds items h).least, ap length same)

-- the first byte tells the form
form_told : (bytes : List ℕ) (e : Entry) → bytes ≡ entry_frame e → entry_form e ≡ form_of_kind (slice_index bytes 0)
form_told bytes e is = sym (form_is (entry_form e) (slice_index bytes 0) (ap (λ (x : List ℕ). slice_index x 0) is))

first_byte : (items : List ℕ) (d : ℕ) → IsSpelling items → slice_index items 0 ≡ get_or items 0 d
first_byte items d h = get_or_default items 0 0 d (omega (arith, (spelling_bounds items h).least))

pub slice_bounds-entry_in-count : goal.slice_bounds-entry_in-count
slice_bounds-entry_in-count c = omega (arith, least c.self.inside.bytes.items c.deref.result.now c.self.invariant c.deref.ensures.value)

pub slice_bounds-entry_in-start : goal.slice_bounds-entry_in-start
slice_bounds-entry_in-start c = search (rules, least c.self.inside.bytes.items c.deref.result.now c.self.invariant c.deref.ensures.value)

pub index-requires : goal.index-requires
index-requires c = omega (arith, (spelling_bounds c.self.inside.bytes.items c.self.invariant).least)

pub unreachable-requires : goal.unreachable-requires
unreachable-requires c = ∥∥₁_elim c.self.invariant (λ a b. absurd a) (λ x.
    let fm : entry_form x.0 ≡ c.form_of_kind-form.result = form_told c.self.inside.bytes.items x.0 x.2 ∙ ap form_of_kind (first_byte c.self.inside.bytes.items c.index.result.now c.self.invariant ∙ sym c.index.ensures) ∙ sym c.form_of_kind-form.ensures.value in
    c.in-None.ensures x.0 x.1 fm (body_behind c.deref.result.now x.0 (c.deref.ensures.value ∙ x.2) ∙ ap (λ (f : Form). body_as f x.0) fm))

pub returns-clause-is : goal.returns-clause-is
returns-clause-is c = (c.in-Some.ensures.0, c.in-Some.ensures.1, c.in-Some.ensures.3)

pub returns-clause-only : goal.returns-clause-only
returns-clause-only c = λ e is same.
    let found = c.in-Some.ensures in
    let read : Entry = found.0 in
    let form : Form = c.form_of_kind-form.result in
    let fm : entry_form e ≡ form = form_told c.self.inside.bytes.items e (c.self.view_is ∙ same) ∙ ap form_of_kind (first_byte c.self.inside.bytes.items c.index.result.now c.self.invariant ∙ sym c.index.ensures) ∙ sym c.form_of_kind-form.ensures.value in
    let one : read ≡ e = same_body form read e found.1 is found.2 fm (sym found.4 ∙ body_behind c.deref.result.now e (c.deref.ensures.value ∙ (c.self.view_is ∙ same)) ∙ ap (λ (f : Form). body_as f e) fm) in
    subst (IsRefOf c.in-Some.entry) one found.3
