use Rattle.std.proofs.Common.{◌≡◌, ◌≤◌, ◌+◌, ℕ, List, [], ◌∷◌, ◌++◌, length, drop, sym, ap, ◌∙◌, subst, arith, length-append}
use Rattle.std.proofs.lemmas.Slice.{between_to_end}
use Rattle.cell_model.specs.Order.{NumberedCell}
use Rattle.cell_model.specs.Merge.{IsRising}
use Rattle.store_file.specs.Reading.{FrontsPair, StandsUpTo}
use Rattle.store_file.proofs.Standing.{one_taken, none_there, none_behind}
use Rattle.store_file.proofs.reading.take_pair.Goals as goal

pub returns-in_default : goal.returns-in_default
returns-in_default c =
    let bytes = c.args.bytes.now in
    let f = c.args.fields in
    none_there f.form f.family.now bytes c.args.cells.now.items c.args.at f.from f.to f.count c.requires.fields c.requires.family c.requires.stands
    (subst (λ (b : List ℕ). (x : NumberedCell) (rest : List ℕ) → FrontsPair f.form f.family.now f.from f.to b x rest → ⊥) (between_to_end bytes c.args.at (length bytes) (omega arith)) c.in_default.ensures)

pub returns-then-not-is_behind : goal.returns-then-not-is_behind
returns-then-not-is_behind c =
    let bytes = c.args.bytes.now in
    let f = c.args.fields in
    let pair = subst (λ (b : List ℕ). FrontsPair f.form f.family.now f.from f.to b (c.in-Some.number, c.in-Some.cell) (drop c.in-Some.len b)) (between_to_end bytes c.args.at (length bytes) (omega arith)) c.in-Some.ensures.1 in
    none_behind f.form f.family.now bytes c.args.cells.now.items c.args.at f.from f.to f.count (c.in-Some.number, c.in-Some.cell) (drop c.in-Some.len (drop c.args.at bytes)) c.requires.fields c.requires.family c.requires.stands pair
    (λ rising. let told = c.is_behind.ensures.1 (subst IsRising (λ i. sym c.as_slice.ensures.value i ++ (c.in-Some.number, sym c.in_ok-cell.ensures i) ∷ []) rising) in cc)

pub returns : goal.returns
returns c =
    let bytes = c.args.bytes.now in
    let f = c.args.fields in
    let cells = c.args.cells.now.items in
    let e = between_to_end bytes c.args.at (length bytes) (omega arith) in
    let le = subst (λ (b : List ℕ). c.in-Some.len ≤ length b) e c.in-Some.ensures.0 in
    let pair = subst (λ (b : List ℕ). FrontsPair f.form f.family.now f.from f.to b (c.in-Some.number, c.in-Some.cell) (drop c.in-Some.len b)) e c.in-Some.ensures.1 in
    let rising = subst IsRising (λ i. c.as_slice.ensures.value i ++ (c.in-Some.number, c.in_ok-cell.ensures i) ∷ []) (c.is_behind.ensures.0 c.if-not-is_behind.false) in
    let taken = one_taken f.form f.family.now bytes cells c.args.at f.from f.to f.count c.in-Some.len (c.in-Some.number, c.in-Some.cell) c.requires.fields c.requires.family c.requires.stands le pair rising in
    let items : cells ++ (c.in-Some.number, c.in-Some.cell) ∷ [] ≡ c.push.new.self.items = (λ i. cells ++ (c.in-Some.number, sym c.in_ok-cell.ensures i) ∷ []) ∙ sym c.in_ok-push.ensures.items in
    (subst (λ (l : List NumberedCell). StandsUpTo f.form bytes l (c.args.at + c.in-Some.len)) items taken, omega (arith, ap length items, length-append cells ((c.in-Some.number, c.in-Some.cell) ∷ [])))
