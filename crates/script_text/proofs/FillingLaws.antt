-- How long the body of an entry is, a cell at a time.
use Rattle.std.proofs.Common.{◌≡◌, ℕ, ◌+◌, ◌*◌, ◌<◌, ◌≤◌, Bool, true, false, ◌&&◌, ◌==◌, List, [], ◌∷◌, ◌++◌, length, sum_by, IsTrue, refl, sym, ap, subst, ◌∙◌, arith}
use Rattle.std.proofs.lemmas.Bool.{eqb-true}
use Rattle.std.proofs.lemmas.List.{length-append, nil_from_length}
use Rattle.std.proofs.lemmas.List.Sums.{sum_by-cons, sum_by_push}
use Rattle.cell_model.specs.Cell.{Cell, IsCell, spelled_length}
use Rattle.cell_model.specs.Batch.{Batch, batch_of, are_untagged, is_plain, form_of, head_length, body_length}
use Rattle.cell_model.specs.declared.form.Form.TheVariants.{Plain, Tagged}
use Rattle.script_model.specs.Fields.{one_more}
use Rattle.script_text.specs.State.{IsFilling}
use Rattle.cell_model.proofs.BatchLaws.{alone_is_less, untagged_all, untagged_behind}

both_true : (a b : Bool) → (a && b) ≡ true → (a ≡ true) × (b ≡ true)
both_true true b e = (refl, e)
both_true false b e = absurd cc

is_zero : (x : List ℕ) → (length x == 0) ≡ true → x ≡ []
is_zero x e = nil_from_length x (eqb-true (length x) 0 e)

-- a cell with tags after others
pub tagged_behind : (cs : List Cell) (c : Cell) → (c.tags ≡ [] → ⊥) → are_untagged (cs ++ c ∷ []) ≡ false
tagged_behind [] c some = by (length c.tags == 0) refl
  where
    by : (t : Bool) → (length c.tags == 0) ≡ t → (t && true) ≡ false
    by true e = absurd (some (is_zero c.tags e))
    by false e = refl
tagged_behind (d ∷ cs) c some = by (length d.tags == 0) (tagged_behind cs c some)
  where
    by : (t : Bool) → are_untagged (cs ++ c ∷ []) ≡ false → (t && are_untagged (cs ++ c ∷ [])) ≡ false
    by true e = e
    by false e = refl

and_true : (a : Bool) → (a && true) ≡ a
and_true true = refl
and_true false = refl

and_false : (a : Bool) → (a && false) ≡ false
and_false true = refl
and_false false = refl

-- the plain spelling of a cell without tags is two bytes shorter
pub plain_sum : (cs : List Cell) → are_untagged cs ≡ true → sum_by (spelled_length Plain) cs + 2 * length cs ≡ sum_by (spelled_length Tagged) cs
plain_sum [] e = omega arith
plain_sum (c ∷ cs) e =
    let none : length c.tags ≡ 0 = ap length (untagged_all (c ∷ cs) e).0 in
    omega (arith, none, sum_by-cons (spelled_length Plain) c cs, sum_by-cons (spelled_length Tagged) c cs, plain_sum cs (both_true (length c.tags == 0) (are_untagged cs) e).1)

in_form : (b : Batch) (plain : Bool) → is_plain b ≡ plain → body_length b ≡ head_length (form_of plain) b + sum_by (spelled_length (form_of plain)) b.cells
in_form b plain e = ap (λ (t : Bool). head_length (form_of t) b + sum_by (spelled_length (form_of t)) b.cells) e

pub plain_body : (b : Batch) → is_plain b ≡ true → body_length b + 2 * length b.cells ≡ 24 + sum_by (spelled_length Tagged) b.cells
plain_body b e = omega (arith, in_form b true e, plain_sum b.cells (both_true (length b.table == 0) (are_untagged b.cells) e).1)

pub tagged_body : (b : Batch) → is_plain b ≡ false → body_length b ≡ 25 + length b.table + sum_by (spelled_length Tagged) b.cells
tagged_body b e = in_form b false e

-- the tagged spellings are hardly longer than the body
pub tagged_below : (b : Batch) → sum_by (spelled_length Tagged) b.cells ≤ body_length b + 2 * length b.cells
tagged_below b = by (is_plain b) refl
  where
    by : (t : Bool) → is_plain b ≡ t → sum_by (spelled_length Tagged) b.cells ≤ body_length b + 2 * length b.cells
    by true e = omega (arith, plain_body b e)
    by false e = omega (arith, tagged_body b e)

-- how far the numbers go
pub filling_below : (b : Batch) (tagged_len : ℕ) (untagged : Bool) → IsFilling b tagged_len untagged → tagged_len ≤ 1050624
filling_below b tagged_len untagged is = omega (arith, is.len_is, is.count_below, is.body_below, tagged_below b)

pub cell_below : (c : Cell) → IsCell c → spelled_length Tagged c ≤ 135315
cell_below c is = omega (arith, is.row, is.family, is.qualifier, is.value, is.tags)

-- one more cell
pub more_tagged : (b : Batch) (c : Cell) → sum_by (spelled_length Tagged) (one_more b c).cells ≡ sum_by (spelled_length Tagged) b.cells + spelled_length Tagged c
more_tagged b c = sum_by_push (spelled_length Tagged) b.cells c

pub more_cells : (b : Batch) (c : Cell) → length (one_more b c).cells ≡ length b.cells + 1
more_cells b c = length-append b.cells (c ∷ [])

pub plain_len : (b v : Batch) (c : Cell) (tagged_len more count : ℕ) (untagged : Bool) → IsFilling b tagged_len untagged → b ≡ v → is_plain (one_more v c) ≡ true
    → more ≡ spelled_length Tagged c → count ≡ length b.cells → 24 + (tagged_len + more) ≡ body_length (one_more v c) + 2 * (count + 1)
plain_len b v c tagged_len more count untagged is same plain len n =
    subst (λ (w : Batch). is_plain (one_more w c) ≡ true → 24 + (tagged_len + more) ≡ body_length (one_more w c) + 2 * (count + 1)) same
    (λ e. omega (arith, plain_body (one_more b c) e, more_tagged b c, more_cells b c, is.len_is, len, n)) plain

untagged_flag : (cs : List Cell) (c : Cell) (t : Bool) → ((IsTrue t → c.tags ≡ []) × (c.tags ≡ [] → IsTrue t)) → (are_untagged cs && t) ≡ are_untagged (cs ++ c ∷ [])
untagged_flag cs c true h = and_true (are_untagged cs) ∙ sym (untagged_behind cs c (h.0 refl))
untagged_flag cs c false h = and_false (are_untagged cs) ∙ sym (tagged_behind cs c (λ none. let e : false ≡ true = h.1 none in cc))

pub filled : (b v : Batch) (c : Cell) (cells : List Cell) (tags : List ℕ) (tagged_len more : ℕ) (untagged t : Bool) → IsFilling b tagged_len untagged → b ≡ v → length v.cells < 1024
    → body_length (one_more v c) ≤ 1048576 → more ≡ spelled_length Tagged c → tags ≡ c.tags → ((IsTrue t → tags ≡ []) × (tags ≡ [] → IsTrue t)) → cells ≡ b.cells ++ c ∷ []
    → IsFilling (record { table = b.table; cells = cells }) (tagged_len + more) (untagged && t)
filled b v c cells tags tagged_len more untagged t is same few room len told flag at =
    let count : length b.cells < 1024 = rw same few in
    let below : body_length (one_more b c) ≤ 1048576 = rw same room in
    subst (λ (cs : List Cell). IsFilling (record { table = b.table; cells = cs }) (tagged_len + more) (untagged && t)) (sym at) (record {
      len_is = omega (arith, is.len_is, len, more_tagged b c);
      untagged_is = ap (λ (u : Bool). u && t) is.untagged_is ∙ untagged_flag b.cells c t (rw told at flag);
      table_below = is.table_below;
      count_below = omega (arith, count, more_cells b c);
      body_below = below;
    })

-- the cells alone have no longer body
pub alone_below : (table : List ℕ) (cells : List Cell) → body_length (record { table = table; cells = cells }) ≤ 1048576 → body_length (batch_of cells) ≤ 1048576
alone_below table cells le = omega (arith, le, alone_is_less (record { table = table; cells = cells }))

pub ruleset plain_laws = (tagged_behind, untagged_behind)
