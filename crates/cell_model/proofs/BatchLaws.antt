-- A batch is plain exactly where its table has no name and its cells no tags, and its cells have its form.
use Rattle.std.specs.Prelude.{◌≡◌, ℕ, zero, suc, ◌+◌, ◌<◌, ◌≤◌, Bool, true, false, ◌&&◌, ◌==◌, List, [], ◌∷◌, ◌++◌, length, sum_by}
use Rattle.std.proofs.Common.{refl, sym, ap, ◌∙◌, subst, arith, get_or, ◌⊎◌, inl, inr}
use Rattle.std.proofs.lemmas.List.Sums.{sum_by-le-sum_by}
use Rattle.std.specs.List.{AllByRecursion}
use Rattle.std.proofs.lemmas.Bool.Decides.{nat_tests}
use Rattle.std.proofs.lemmas.List.{nil_from_length}
use Rattle.cell_model.specs.Cell.{Cell, IsCell, HasForm, spelled_length}
use Rattle.cell_model.specs.declared.form.Form.{Form}
use Rattle.cell_model.specs.declared.form.Form.TheVariants.{Plain, Tagged}
use Rattle.cell_model.specs.Batch.{Batch, batch_of, are_untagged, is_plain, form_of, batch_form, head_length, body_length, IsBatch}

both_true : (a b : Bool) → (a && b) ≡ true → (a ≡ true) × (b ≡ true)
both_true true b e = (refl, e)
both_true false b e = absurd cc

is_zero : (m : ℕ) → (m == 0) ≡ true → m ≡ 0
is_zero m e = grind (arith, nat_tests)

none_left : (x : List ℕ) → (length x == 0) ≡ true → x ≡ []
none_left x e = nil_from_length x (is_zero (length x) e)

pub untagged_all : (cs : List Cell) → are_untagged cs ≡ true → AllByRecursion (λ c. c.tags ≡ []) cs
untagged_all [] e = tt
untagged_all (c ∷ cs) e = let h = both_true (length c.tags == 0) (are_untagged cs) e in (none_left c.tags h.0, untagged_all cs h.1)

pub all_untagged : (cs : List Cell) → AllByRecursion (λ c. c.tags ≡ []) cs → are_untagged cs ≡ true
all_untagged [] h = refl
all_untagged (c ∷ cs) h = (λ i. (length (h.0 i) == 0) && are_untagged cs) ∙ all_untagged cs h.1

plain_is_true : (b : Bool) → form_of b ≡ Plain → b ≡ true
plain_is_true true e = refl
plain_is_true false e = absurd cc

pub plain_batch_of : (b : Batch) → batch_form b ≡ Plain → (b.table ≡ []) × AllByRecursion (λ c. c.tags ≡ []) b.cells
plain_batch_of b e =
    let h = both_true (length b.table == 0) (are_untagged b.cells) (plain_is_true (is_plain b) e) in
    (none_left b.table h.0, untagged_all b.cells h.1)

pub is_plain_batch : (b : Batch) → b.table ≡ [] → AllByRecursion (λ c. c.tags ≡ []) b.cells → batch_form b ≡ Plain
is_plain_batch b table cells = (λ i. form_of ((length (table i) == 0) && are_untagged b.cells)) ∙ ap form_of (all_untagged b.cells cells)

have_form : (form : Form) (cs : List Cell) → AllByRecursion IsCell cs → (form ≡ Plain → AllByRecursion (λ c. c.tags ≡ []) cs) → AllByRecursion (HasForm form) cs
have_form form [] is plain = tt
have_form form (c ∷ cs) is plain = (record { cell = is.0; plain = λ e. (plain e).0 }, have_form form cs is.1 (λ e. (plain e).1))

pub each_has_form : (b : Batch) → AllByRecursion IsCell b.cells → AllByRecursion (HasForm (batch_form b)) b.cells
each_has_form b is = have_form (batch_form b) b.cells is (λ e. (plain_batch_of b e).1)

pub each_is_cell : (form : Form) (cs : List Cell) → AllByRecursion (HasForm form) cs → AllByRecursion IsCell cs
each_is_cell form [] h = tt
each_is_cell form (c ∷ cs) h = (h.0.cell, each_is_cell form cs h.1)

pub each_is_untagged : (cs : List Cell) → AllByRecursion (HasForm Plain) cs → AllByRecursion (λ c. c.tags ≡ []) cs
each_is_untagged [] h = tt
each_is_untagged (c ∷ cs) h = (h.0.plain refl, each_is_untagged cs h.1)

-- a cell without tags has both forms
pub plain_has_form : (form : Form) (c : Cell) → HasForm Plain c → HasForm form c
plain_has_form form c h = record { cell = h.cell; plain = λ _. h.plain refl }

pub head_bounds : (form : Form) (b : Batch) → length b.table ≤ 255 → (24 ≤ head_length form b) × (head_length form b ≤ 280)
head_bounds Plain b h = (omega arith, omega arith)
head_bounds Tagged b h = (omega arith, omega arith)

-- ---- cells looked at one after the other

both_true_of : (a b : Bool) → a ≡ true → b ≡ true → (a && b) ≡ true
both_true_of a b e f = rw (e, f) refl

pub untagged_append : (cs ds : List Cell) → are_untagged cs ≡ true → are_untagged ds ≡ true → are_untagged (cs ++ ds) ≡ true
untagged_append [] ds h g = g
untagged_append (c ∷ cs) ds h g = let both = both_true (length c.tags == 0) (are_untagged cs) h in both_true_of (length c.tags == 0) (are_untagged (cs ++ ds)) both.0 (untagged_append cs ds both.1 g)

pub untagged_more : (cs : List Cell) (c : Cell) → are_untagged cs ≡ true → c.tags ≡ [] → are_untagged (cs ++ c ∷ []) ≡ true
untagged_more cs c h none = untagged_append cs (c ∷ []) h (all_untagged (c ∷ []) (none, tt))

pub untagged_at : (cs : List Cell) (i : ℕ) (d : Cell) → are_untagged cs ≡ true → i < length cs → (get_or cs i d).tags ≡ []
untagged_at [] i d h lt = absurd (omega (arith, lt))
untagged_at (c ∷ cs) zero d h lt = (untagged_all (c ∷ cs) h).0
untagged_at (c ∷ cs) (suc i) d h lt = untagged_at cs i d (both_true (length c.tags == 0) (are_untagged cs) h).1 (omega (arith, lt))

some_tagged : (b : Bool) → (b ≡ true → ⊥) → b ≡ false
some_tagged true h = absurd (h refl)
some_tagged false h = refl

pub not_untagged : (cs : List Cell) (i : ℕ) (d : Cell) → i < length cs → ((get_or cs i d).tags ≡ [] → ⊥) → are_untagged cs ≡ false
not_untagged cs i d lt some = some_tagged (are_untagged cs) (λ h. some (untagged_at cs i d h lt))

pub untagged_behind : (cs : List Cell) (c : Cell) → c.tags ≡ [] → are_untagged (cs ++ c ∷ []) ≡ are_untagged cs
untagged_behind [] c none = all_untagged (c ∷ []) (none, tt)
untagged_behind (d ∷ cs) c none = ap (λ (b : Bool). (length d.tags == 0) && b) (untagged_behind cs c none)

-- ---- the cells of a batch alone are no longer than the batch

plain_is_less : (form : Form) (c : Cell) → spelled_length Plain c ≤ spelled_length form c
plain_is_less Plain c = omega arith
plain_is_less Tagged c = omega arith

sum_is_less : (f g : Form) (cs : List Cell) → ((c : Cell) → spelled_length f c ≤ spelled_length g c) → sum_by (spelled_length f) cs ≤ sum_by (spelled_length g) cs
sum_is_less f g cs le = sum_by-le-sum_by (spelled_length f) (spelled_length g) cs le

body_in_form : (f g : Form) (b : Batch) → ((c : Cell) → spelled_length f c ≤ spelled_length g c) → head_length f (batch_of b.cells) ≤ head_length g b
    → head_length f (batch_of b.cells) + sum_by (spelled_length f) b.cells ≤ head_length g b + sum_by (spelled_length g) b.cells
body_in_form f g b le head = omega (arith, head, sum_is_less f g b.cells le)

-- a batch without the name of its table is plain where the batch is
alone_plain : (b : Batch) → batch_form b ≡ Plain → batch_form (batch_of b.cells) ≡ Plain
alone_plain b e = is_plain_batch (batch_of b.cells) refl (plain_batch_of b e).1

form_cases : (f : Form) → (f ≡ Plain) ⊎ (f ≡ Tagged)
form_cases Plain = inl refl
form_cases Tagged = inr refl

pub alone_is_less : (b : Batch) → body_length (batch_of b.cells) ≤ body_length b
alone_is_less b = elim (form_cases (batch_form b)) as (λ _. body_length (batch_of b.cells) ≤ body_length b) [
  | inl plain ↦ at (batch_form (batch_of b.cells)) (batch_form b) (alone_plain b plain) plain
  | inr tagged ↦ elim (form_cases (batch_form (batch_of b.cells))) as (λ _. body_length (batch_of b.cells) ≤ body_length b) [
    | inl first ↦ subst (λ (f : Form). head_length f (batch_of b.cells) + sum_by (spelled_length f) b.cells ≤ body_length b) (sym first)
        (subst (λ (g : Form). 24 + sum_by (spelled_length Plain) b.cells ≤ head_length g b + sum_by (spelled_length g) b.cells) (sym tagged) (body_in_form Plain Tagged b (plain_is_less Tagged) (omega arith)))
    | inr both ↦ subst (λ (f : Form). head_length f (batch_of b.cells) + sum_by (spelled_length f) b.cells ≤ body_length b) (sym both)
        (subst (λ (g : Form). 25 + sum_by (spelled_length Tagged) b.cells ≤ head_length g b + sum_by (spelled_length g) b.cells) (sym tagged) (body_in_form Tagged Tagged b (λ c. omega arith) (omega arith)))
  ]
]
  where
    at : (f g : Form) → f ≡ Plain → g ≡ Plain → head_length f (batch_of b.cells) + sum_by (spelled_length f) b.cells ≤ head_length g b + sum_by (spelled_length g) b.cells
    at Plain Plain e h = omega arith
    at Tagged g e h = absurd (cc e)
    at f Tagged e h = absurd (cc h)
