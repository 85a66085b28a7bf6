use Rattle.std.proofs.Common.{◌≡◌, ◌≢◌, List, ℕ, sym, ◌∙◌, ap, refl, subst}
use Rattle.log_model.specs.declared.name.Name.{Name}
use Rattle.log_model.specs.Files.{Files, content, Reads}
use Rattle.disk_fakes.specs.declared.safe_call.SafeCall.{SafeCall}
use Rattle.disk_fakes.specs.declared.safe_call.SafeCall.TheVariants.{Create, Write, Rename, Remove}
use Rattle.disk_fakes.specs.Safe.{applied, Met, text_in}
use Rattle.disk_fakes.proofs.SafeSteps.{over_other, to_here, byte_stays, byte_here, byte_before, byte_behind, create_byte, remove_byte, rename_byte}
use Rattle.disk_fakes.proofs.safe_call.byte_step.Goals as goal

known_met : (arena : List ℕ) (files : Files) (call known : SafeCall) → call ≡ known → Met arena files call → Met arena files known
known_met arena files call known is met = subst (λ (k : SafeCall). Met arena files k) is met

known_reads : (arena : List ℕ) (files : Files) (call known : SafeCall) (name : Name) (text : List ℕ) → call ≡ known → Reads (applied arena files call) name text → Reads (applied arena files known) name text
known_reads arena files call known name text is reads = subst (λ (k : SafeCall). Reads (applied arena files k) name text) is reads

-- the same write, of the file by its other name
named_met : (arena : List ℕ) (files : Files) (call : SafeCall) (w name : Name) (at start len : ℕ) → call ≡ Write w at start len → w ≡ name → Met arena files call → Met arena files (Write name at start len)
named_met arena files call w name at start len is same met = subst (λ (n : Name). Met arena files (Write n at start len)) same (known_met arena files call (Write w at start len) is met)

named_reads : (arena : List ℕ) (files : Files) (call : SafeCall) (w name : Name) (at start len : ℕ) (text : List ℕ) → call ≡ Write w at start len → w ≡ name → Reads (applied arena files call) name text → Reads (applied arena files (Write name at start len)) name text
named_reads arena files call w name at start len text is same reads = subst (λ (n : Name). Reads (applied arena files (Write n at start len)) name text) same (known_reads arena files call (Write w at start len) name text is reads)

pub returns-then-not-is_same : goal.returns-then-not-is_same
returns-then-not-is_same c = λ arena files text met reads lt.
    let other : c.in-Write.written ≢ c.args.name = c.is_same.ensures.other c.if-not-is_same.true in
    byte_stays arena files text c.args.place (applied arena files (Write c.in-Write.written c.in-Write.at c.in-Write.start c.in-Write.len)) c.args.name c.args.name
    (over_other files c.in-Write.written c.args.name c.in-Write.at (text_in arena c.in-Write.start c.in-Write.len) (content files c.in-Write.written) (λ same. other (sym same)))
    (known_reads arena files c.args.call (Write c.in-Write.written c.in-Write.at c.in-Write.start c.in-Write.len) c.args.name text c.in-Write.is reads) lt

pub returns-then-place-at : goal.returns-then-place-at
returns-then-place-at c = λ arena files text met reads lt.
    let same = c.is_same.ensures.same c.if-not-is_same.false in
    byte_before arena files text c.args.place c.args.name c.in-Write.at c.in-Write.start c.in-Write.len
    (named_met arena files c.args.call c.in-Write.written c.args.name c.in-Write.at c.in-Write.start c.in-Write.len c.in-Write.is same met)
    (named_reads arena files c.args.call c.in-Write.written c.args.name c.in-Write.at c.in-Write.start c.in-Write.len text c.in-Write.is same reads) c.if-place-at.true

pub returns-then-len-place : goal.returns-then-len-place
returns-then-len-place c = λ arena files text met reads lt.
    let same = c.is_same.ensures.same c.if-not-is_same.false in
    byte_behind arena files text c.args.place c.args.name c.in-Write.at c.in-Write.start c.in-Write.len
    (named_met arena files c.args.call c.in-Write.written c.args.name c.in-Write.at c.in-Write.start c.in-Write.len c.in-Write.is same met)
    (named_reads arena files c.args.call c.in-Write.written c.args.name c.in-Write.at c.in-Write.start c.in-Write.len text c.in-Write.is same reads) c.if-place-at.false c.if-len-place.true lt

pub returns-else-len-place : goal.returns-else-len-place
returns-else-len-place c = λ arena files text met reads lt.
    let same = c.is_same.ensures.same c.if-not-is_same.false in
    byte_here arena files text c.args.place c.args.name c.in-Write.at c.in-Write.start c.in-Write.len
    (named_met arena files c.args.call c.in-Write.written c.args.name c.in-Write.at c.in-Write.start c.in-Write.len c.in-Write.is same met)
    (named_reads arena files c.args.call c.in-Write.written c.args.name c.in-Write.at c.in-Write.start c.in-Write.len text c.in-Write.is same reads) c.if-place-at.false c.if-len-place.false

pub returns-then-is_same : goal.returns-then-is_same
returns-then-is_same c = λ arena files text met reads lt.
    let same : c.in-Rename.to ≡ c.args.name = c.is_same-in-Rename.ensures.same c.if-is_same.true in
    let known = known_met arena files c.args.call (Rename c.in-Rename.from c.in-Rename.to) c.in-Rename.is met in
    byte_stays arena files text c.args.place (applied arena files (Rename c.in-Rename.from c.in-Rename.to)) c.args.name c.in-Rename.from
    (ap (content (applied arena files (Rename c.in-Rename.from c.in-Rename.to))) (sym same) ∙ to_here files c.in-Rename.from c.in-Rename.to (content files c.in-Rename.from) refl known.0)
    (known_reads arena files c.args.call (Rename c.in-Rename.from c.in-Rename.to) c.args.name text c.in-Rename.is reads) lt

pub returns-else-is_same : goal.returns-else-is_same
returns-else-is_same c = λ arena files text met reads lt.
    rename_byte arena files text c.args.place c.args.name lt c.in-Rename.from c.in-Rename.to (known_met arena files c.args.call (Rename c.in-Rename.from c.in-Rename.to) c.in-Rename.is met)
    (known_reads arena files c.args.call (Rename c.in-Rename.from c.in-Rename.to) c.args.name text c.in-Rename.is reads) (c.is_same-in-Rename.ensures.other c.if-is_same.false)

pub returns-in-Create : goal.returns-in-Create
returns-in-Create c = λ arena files text met reads lt.
    create_byte arena files text c.args.place c.args.name lt c.in-Create.field-0 (known_met arena files c.args.call (Create c.in-Create.field-0) c.in-Create.is met)
    (known_reads arena files c.args.call (Create c.in-Create.field-0) c.args.name text c.in-Create.is reads)

pub returns-in-Remove : goal.returns-in-Remove
returns-in-Remove c = λ arena files text met reads lt.
    remove_byte arena files text c.args.place c.args.name lt c.in-Remove.field-0
    (known_reads arena files c.args.call (Remove c.in-Remove.field-0) c.args.name text c.in-Remove.is reads)
