use Rattle.std.proofs.Common.{rules, ◌≡◌, ◌≤◌, ◌+◌, length, arith, sym, ap, ◌∙◌, subst, drop, List, [], ◌∷◌, ℕ, Bool, false, refl}
use Rattle.std.proofs.lemmas.Bool.{eqb-true, eqb-false}
use Rattle.std.proofs.lemmas.List.{nil_from_length}
use Rattle.std.proofs.lemmas.Slice.{between_to_end}
use Rattle.cell_model.specs.Cell.{Cell, spelled_length, Fronts}
use Rattle.cell_model.specs.declared.form.Form.{Form}
use Rattle.log_model.specs.Frame.{StartsCells}
use Rattle.log_model.proofs.FrameLaws.{fronts-le, Told, told_none, told_tagged, told_untagged, told_all, no_more, same_end}
use Rattle.entry_frame.proofs.reading.cells_in.Goals as goal

pub loop-init : goal.loop-init
loop-init c = told_none c.args.form c.args.bytes.now

pub returns-in_default : goal.returns-in_default
returns-in_default c = no_more c.args.form c.args.bytes.now c.loop.rest.now [] c.loop.counter c.args.count c.in_default.field-0.at c.loop.invariant.starts c.loop-test.true c.in_default.ensures.exact

pub slice_bounds-rest-count : goal.slice_bounds-rest-count
slice_bounds-rest-count c = let f = c.in-Ok.ensures.exact in omega (arith, fronts-le c.args.form c.loop.rest.now c.in-Ok.cell f.0, f.1)

pub slice_bounds-rest-start : goal.slice_bounds-rest-start
slice_bounds-rest-start c =
    let f = c.in-Ok.ensures.exact in
    let le : c.in-Ok.len ≤ length c.loop.rest.now = omega (arith, fronts-le c.args.form c.loop.rest.now c.in-Ok.cell f.0, f.1) in
    search rules

-- one more cell is told of
told_more : (form : Form) (bytes : List ℕ) (n : ℕ) (rest : List ℕ) (untagged still : Bool) (c : Cell) → Told form bytes n rest untagged → Fronts form rest c → (c.tags ≡ [] → still ≡ untagged) → ((c.tags ≡ [] → ⊥) → still ≡ false)
    → Told form bytes (n + 1) (drop (spelled_length form c) rest) still
told_more form bytes n rest untagged still c h f none some = of_tags c.tags refl
  where
    of_tags : (tags : List ℕ) → c.tags ≡ tags → Told form bytes (n + 1) (drop (spelled_length form c) rest) still
    of_tags [] is = subst (λ (b : Bool). Told form bytes (n + 1) (drop (spelled_length form c) rest) b) (sym (none is)) (told_untagged form bytes n rest untagged c h f is)
    of_tags (t ∷ tags) is =
        let given : c.tags ≡ [] → ⊥ = λ no. omega (arith, ap length is, ap length no) in
        subst (λ (b : Bool). Told form bytes (n + 1) (drop (spelled_length form c) rest) b) (sym (some given)) (told_tagged form bytes n rest untagged c h f given)

pub loop-preserved : goal.loop-preserved
loop-preserved c =
    let f = c.in-Ok.ensures.exact in
    let tags : c.cell.inside.tags.now ≡ c.in-Ok.cell.tags = ap (λ (x : Cell). x.tags) c.cell.view_is in
    let next : Told c.args.form c.args.bytes.now (c.loop.counter + 1) (drop (spelled_length c.args.form c.in-Ok.cell) c.loop.rest.now) c.still_untagged-untagged.result =
    told_more c.args.form c.args.bytes.now c.loop.counter c.loop.rest.now c.loop.untagged c.still_untagged-untagged.result c.in-Ok.cell c.loop.invariant f.0 (λ no. c.still_untagged-untagged.ensures.none (tags ∙ no)) (λ some. c.still_untagged-untagged.ensures.some (λ no. some (sym tags ∙ no))) in
    let part = between_to_end c.loop.rest.now c.in-Ok.len (length c.loop.rest.now) (omega arith) ∙ ap (λ (n : ℕ). drop n c.loop.rest.now) f.1 in
    subst (λ (x : List ℕ). Told c.args.form c.args.bytes.now (c.loop.counter + 1) x c.still_untagged-untagged.result) (sym part) next

pub returns-then-not-is_empty : goal.returns-then-not-is_empty
returns-then-not-is_empty c =
    let n : c.loop.counter ≡ c.args.count = omega arith in
    λ t.
    let here : StartsCells c.args.form c.args.bytes.now c.args.count c.loop.rest.now = subst (λ (k : ℕ). StartsCells c.args.form c.args.bytes.now k c.loop.rest.now) n c.loop.invariant.starts in
    eqb-false (length c.loop.rest.now) 0 (sym c.is_empty.ensures ∙ c.if-not-is_empty.true) (ap length (same_end c.args.form c.args.bytes.now c.loop.rest.now [] c.args.count here t))

pub returns : goal.returns
returns c =
    let n : c.loop.counter ≡ c.args.count = omega arith in
    let none : c.loop.rest.now ≡ [] = nil_from_length c.loop.rest.now (eqb-true (length c.loop.rest.now) 0 (sym c.is_empty.ensures ∙ c.if-not-is_empty.false)) in
    told_all c.args.form c.args.bytes.now c.args.count c.loop.untagged (subst (λ (k : ℕ). Told c.args.form c.args.bytes.now k [] c.loop.untagged) n (subst (λ (x : List ℕ). Told c.args.form c.args.bytes.now c.loop.counter x c.loop.untagged) none c.loop.invariant))
