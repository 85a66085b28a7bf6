use Rattle.std.proofs.Common.{◌≡◌, ◌+◌, ℕ, max, Some, None, [], sym, ◌∙◌, ap, refl, subst, arith}
use Rattle.log_model.specs.declared.name.Name.{Name}
use Rattle.log_model.specs.Files.{content}
use Rattle.disk_fakes.specs.declared.safe_call.SafeCall.{SafeCall}
use Rattle.disk_fakes.specs.declared.safe_call.SafeCall.TheVariants.{Create, Write, Rename, Remove}
use Rattle.disk_fakes.specs.Order.{insert_here, insert_other, remove_here, remove_other}
use Rattle.disk_fakes.specs.Safe.{applied, Met, text_in, size_with}
use Rattle.disk_fakes.proofs.SafeSteps.{over_other, to_here, from_gone, moved_other, apart_of, size_written, size_same, size_none, size_empty}
use Rattle.disk_fakes.proofs.safe_call.size_step.Goals as goal

pub returns-then-is_same : goal.returns-then-is_same
returns-then-is_same c = λ arena files met.
    subst (λ (k : SafeCall). size_with (content (applied arena files k) c.args.name) c.args.reach ≡ Some c.args.reach) (sym c.in-Create.is)
    (size_empty (applied arena files (Create c.in-Create.made)) c.args.name c.args.reach (ap (content (applied arena files (Create c.in-Create.made))) (sym (c.is_same.ensures.same c.if-is_same.true)) ∙ insert_here files c.in-Create.made []))

pub returns-else-is_same : goal.returns-else-is_same
returns-else-is_same c = λ arena files met.
    subst (λ (k : SafeCall). size_with (content (applied arena files k) c.args.name) c.args.reach ≡ size_with (content files c.args.name) c.args.reach) (sym c.in-Create.is)
    (let other = c.is_same.ensures.other c.if-is_same.false in size_same (applied arena files (Create c.in-Create.made)) files c.args.name c.args.name c.args.reach (insert_other files c.in-Create.made c.args.name [] (λ same. other (sym same))))

pub returns-then-is_same-2 : goal.returns-then-is_same-2
returns-then-is_same-2 c = λ arena files met.
    let same = c.is_same-in-Write.ensures.same c.if-is_same-2.true in
    let known = subst (λ (n : Name). Met arena files (Write n c.in-Write.at c.in-Write.field-2 c.in-Write.len)) same (subst (λ (k : SafeCall). Met arena files k) c.in-Write.is met) in
    let reach : max c.args.reach (c.in-Write.at + c.in-Write.len) ≡ c.max.result = omega (arith, c.max.ensures, c.saturating_add.ensures, known.2) in
    subst (λ (k : SafeCall). size_with (content (applied arena files k) c.args.name) c.args.reach ≡ size_with (content files c.args.name) c.max.result) (sym c.in-Write.is)
    (subst (λ (n : Name). size_with (content (applied arena files (Write n c.in-Write.at c.in-Write.field-2 c.in-Write.len)) c.args.name) c.args.reach ≡ size_with (content files c.args.name) c.max.result) (sym same)
    (size_written arena files c.args.name c.in-Write.at c.in-Write.field-2 c.in-Write.len c.args.reach known ∙ ap (λ (r : ℕ). size_with (content files c.args.name) r) reach))

pub returns-else-is_same-2 : goal.returns-else-is_same-2
returns-else-is_same-2 c = λ arena files met.
    subst (λ (k : SafeCall). size_with (content (applied arena files k) c.args.name) c.args.reach ≡ size_with (content files c.args.name) c.args.reach) (sym c.in-Write.is)
    (let other = c.is_same-in-Write.ensures.other c.if-is_same-2.false in size_same (applied arena files (Write c.in-Write.written c.in-Write.at c.in-Write.field-2 c.in-Write.len)) files c.args.name c.args.name c.args.reach (over_other files c.in-Write.written c.args.name c.in-Write.at (text_in arena c.in-Write.field-2 c.in-Write.len) (content files c.in-Write.written) (λ same. other (sym same))))

pub returns-then-is_same-3 : goal.returns-then-is_same-3
returns-then-is_same-3 c = λ arena files met.
    subst (λ (k : SafeCall). size_with (content (applied arena files k) c.args.name) c.args.reach ≡ size_with (content files c.in-Rename.from) c.args.reach) (sym c.in-Rename.is)
    (let known = (subst (λ (k : SafeCall). Met arena files k) c.in-Rename.is met) in let same = c.is_same-in-Rename.ensures.same c.if-is_same-3.true in size_same (applied arena files (Rename c.in-Rename.from c.in-Rename.to)) files c.args.name c.in-Rename.from c.args.reach (ap (content (applied arena files (Rename c.in-Rename.from c.in-Rename.to))) (sym same) ∙ to_here files c.in-Rename.from c.in-Rename.to (content files c.in-Rename.from) refl known.0))

pub returns-then-is_same-4 : goal.returns-then-is_same-4
returns-then-is_same-4 c = λ arena files met.
    subst (λ (k : SafeCall). size_with (content (applied arena files k) c.args.name) c.args.reach ≡ None) (sym c.in-Rename.is)
    (let known = (subst (λ (k : SafeCall). Met arena files k) c.in-Rename.is met) in let same = c.is_same-else-is_same-3.ensures.same c.if-is_same-4.true in size_none (applied arena files (Rename c.in-Rename.from c.in-Rename.to)) c.args.name c.args.reach (ap (content (applied arena files (Rename c.in-Rename.from c.in-Rename.to))) (sym same) ∙ from_gone files c.in-Rename.from c.in-Rename.to (content files c.in-Rename.from) known.0 (apart_of arena files c.in-Rename.from c.in-Rename.to known)))

pub returns-else-is_same-4 : goal.returns-else-is_same-4
returns-else-is_same-4 c = λ arena files met.
    subst (λ (k : SafeCall). size_with (content (applied arena files k) c.args.name) c.args.reach ≡ size_with (content files c.args.name) c.args.reach) (sym c.in-Rename.is)
    (let not_to = c.is_same-in-Rename.ensures.other c.if-is_same-3.false in let not_from = c.is_same-else-is_same-3.ensures.other c.if-is_same-4.false in size_same (applied arena files (Rename c.in-Rename.from c.in-Rename.to)) files c.args.name c.args.name c.args.reach (moved_other files c.in-Rename.from c.in-Rename.to c.args.name (content files c.in-Rename.from) (λ same. not_from (sym same)) (λ same. not_to (sym same))))

pub returns-then-is_same-5 : goal.returns-then-is_same-5
returns-then-is_same-5 c = λ arena files met.
    subst (λ (k : SafeCall). size_with (content (applied arena files k) c.args.name) c.args.reach ≡ None) (sym c.in-Remove.is)
    (let same = c.is_same-in-Remove.ensures.same c.if-is_same-5.true in size_none (applied arena files (Remove c.in-Remove.gone)) c.args.name c.args.reach (ap (content (applied arena files (Remove c.in-Remove.gone))) (sym same) ∙ remove_here files c.in-Remove.gone))

pub returns-else-is_same-5 : goal.returns-else-is_same-5
returns-else-is_same-5 c = λ arena files met.
    subst (λ (k : SafeCall). size_with (content (applied arena files k) c.args.name) c.args.reach ≡ size_with (content files c.args.name) c.args.reach) (sym c.in-Remove.is)
    (let other = c.is_same-in-Remove.ensures.other c.if-is_same-5.false in size_same (applied arena files (Remove c.in-Remove.gone)) files c.args.name c.args.name c.args.reach (remove_other files c.in-Remove.gone c.args.name (λ same. other (sym same))))
