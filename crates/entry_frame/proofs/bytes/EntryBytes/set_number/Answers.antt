use Rattle.std.proofs.Common.{◌≡◌, ℕ, List, length, arith, sym, ap, ◌∙◌, subst}
use Rattle.entry_frame.specs.Spelling.{IsSpelling, renumbered}
use Rattle.entry_frame.proofs.SpellingLaws.{spelling_bounds, renumbered_spelling, renumbered_frame, written}
use Rattle.entry_frame.proofs.bytes.EntryBytes.set_number.Goals as goal

pub write_number-requires : goal.write_number-requires
write_number-requires c = let h = spelling_bounds c.self.inside.bytes.items c.self.invariant in omega (arith, h.least, ap length c.deref_mut.ensures.value)

pub invariant_of-self : goal.invariant_of-self
invariant_of-self c =
    let items : List ℕ = c.self.inside.bytes.items in
    let h = spelling_bounds items c.self.invariant in
    let new : c.write_number.new.bytes ≡ renumbered items c.args.number = c.write_number.ensures ∙ ap (λ (x : List ℕ). renumbered x c.args.number) c.deref_mut.ensures.value in
    subst IsSpelling (sym (written items c.write_number.new.bytes c.args.number c.self.inside.bytes.len new (omega (arith, h.least)) (sym (ap length c.deref_mut.ensures.value) ∙ c.deref_mut.ensures.len)))
    (renumbered_spelling items c.args.number c.requires.given c.requires.number c.self.invariant)

pub returns : goal.returns
returns c = λ e is.
    let items : List ℕ = c.self.inside.bytes.items in
    let h = spelling_bounds items c.self.invariant in
    let new : c.write_number.new.bytes ≡ renumbered items c.args.number = c.write_number.ensures ∙ ap (λ (x : List ℕ). renumbered x c.args.number) c.deref_mut.ensures.value in
    written items c.write_number.new.bytes c.args.number c.self.inside.bytes.len new (omega (arith, h.least)) (sym (ap length c.deref_mut.ensures.value) ∙ c.deref_mut.ensures.len)
    ∙ renumbered_frame e items c.args.number (c.self.view_is ∙ is)
