-- What is read after the three numbers of an entry's body.
use Rattle.std.proofs.Common.{◌≡◌, true, false, ℕ, ◌+◌, ◌-◌, ◌≤◌, List, [], ◌++◌, length, drop, slice_index, slice_range, refl, sym, ap, subst, ◌∙◌, arith, length-append}
use Rattle.std.specs.List.{AllByRecursion}
use Rattle.std.proofs.lemmas.List.{append-nil, nil_from_length}
use Rattle.cell_model.specs.Cell.{Cell, HasForm, number_at}
use Rattle.cell_model.specs.declared.form.Form.{Form}
use Rattle.cell_model.specs.declared.form.Form.TheVariants.{Plain, Tagged}
use Rattle.cell_model.specs.Batch.{Batch, batch_of, are_untagged, batch_form, head_length}
use Rattle.cell_model.proofs.CellLaws.{length-part}
use Rattle.cell_model.proofs.BatchLaws.{each_has_form, each_is_untagged, is_plain_batch, plain_batch_of, untagged_all, all_untagged, head_bounds}
use Rattle.log_model.specs.Entry.{Entry, IsEntry, kind_of, entry_form, body_as, body}
use Rattle.log_model.proofs.FrameLaws.{HasTable as TheTable, HasRest, same_front, fields_of_body, length-body_as}
use Rattle.entry_frame.specs.Body.{form_of_kind, IsCounted, HasTable, IsBatchIn}

-- the form of a frame's cells is its entry's
pub form_is : (form : Form) (kind : ℕ) → kind ≡ kind_of form → form_of_kind kind ≡ form
form_is Plain kind is = ap form_of_kind is
form_is Tagged kind is = ap form_of_kind is

is_not_both : (f : Form) → f ≡ Plain → f ≡ Tagged → ⊥
is_not_both Plain p t = let kinds : 1 ≡ 3 = ap kind_of t in omega (arith, kinds)
is_not_both Tagged p t = let kinds : 3 ≡ 1 = ap kind_of p in omega (arith, kinds)

is_tagged : (f : Form) → (f ≡ Plain → ⊥) → f ≡ Tagged
is_tagged Plain not = absurd (not refl)
is_tagged Tagged not = refl

-- counted cells are one list
same_counted : (form : Form) (bytes : List ℕ) (at : ℕ) (cs ds : List Cell) → IsCounted form bytes at cs → IsCounted form bytes at ds → cs ≡ ds
same_counted form bytes at cs ds h g =
    let count : length cs ≡ length ds = sym h.told ∙ g.told in
    let more = same_front form cs ds [] [] h.each g.each (omega (arith, count)) (ap (λ (x : List ℕ). x ++ []) (sym h.cells ∙ g.cells)) in
    let none : more.0 ≡ [] = nil_from_length more.0 (omega (arith, count, length-append cs more.0, ap length more.1)) in
    sym (append-nil cs) ∙ ap (λ (x : List Cell). cs ++ x) (sym none) ∙ sym more.1

pub plain_read : (bytes : List ℕ) (cs : List Cell) → 24 ≤ length bytes → IsCounted Plain bytes 20 cs → IsBatchIn Plain bytes (batch_of cs)
plain_read bytes cs le h = record {
  form_is = is_plain_batch (batch_of cs) refl (each_is_untagged cs h.each);
  given = h.given;
  count = h.count;
  each = h.each;
  table = omega arith;
  within = omega (arith, le);
  named = refl;
  told = h.told;
  cells = h.cells;
}

pub tagged_read : (bytes : List ℕ) (len : ℕ) (cs : List Cell) → slice_index bytes 20 ≡ len → len ≤ 255 → 21 + len + 4 ≤ length bytes → IsCounted Tagged bytes (21 + len) cs → (len ≡ 0 → are_untagged cs ≡ false)
    → IsBatchIn Tagged bytes (record { table = slice_range bytes 21 (21 + len); cells = cs })
tagged_read bytes len cs byte short le h some = record {
  form_is = is_tagged (batch_form b) not_plain;
  given = h.given;
  count = h.count;
  each = h.each;
  table = omega (arith, size, short);
  within = omega (arith, size, le);
  named = (byte ∙ sym size, ap (λ (n : ℕ). slice_range bytes 21 (21 + n)) size);
  told = ap (λ (n : ℕ). number_at n 4 bytes) (omega (arith, size)) ∙ h.told;
  cells = ap (λ (n : ℕ). drop n bytes) (omega (arith, size)) ∙ h.cells;
}
  where
    b : Batch
    b = record { table = slice_range bytes 21 (21 + len); cells = cs }

    size : length (slice_range bytes 21 (21 + len)) ≡ len
    size = omega (arith, length-part 21 (21 + len) bytes (omega (arith, le)))

    not_plain : batch_form b ≡ Plain → ⊥
    not_plain plain =
        let p = plain_batch_of b plain in
        let zero : len ≡ 0 = sym size ∙ ap length p.0 in
        cc (all_untagged cs p.1, some zero)

-- a tagged body with neither a table's name nor tags is no batch's
pub no_tagged : (bytes : List ℕ) (cs : List Cell) (b : Batch) → slice_index bytes 20 ≡ 0 → IsCounted Tagged bytes 21 cs → are_untagged cs ≡ true → IsBatchIn Tagged bytes b → ⊥
no_tagged bytes cs b byte h none is = is_not_both (batch_form b) (is_plain_batch b table (untagged_all b.cells (ap are_untagged same ∙ none))) is.form_is
  where
    size : length b.table ≡ 0
    size = sym is.named.0 ∙ byte

    table : b.table ≡ []
    table = nil_from_length b.table size

    at : 21 ≡ head_length Tagged b - 4
    at = omega (arith, size)

    head : 25 ≡ head_length Tagged b
    head = omega (arith, size)

    same : b.cells ≡ cs
    same = same_counted Tagged bytes 21 b.cells cs (record {
      given = is.given;
      count = is.count;
      each = is.each;
      told = ap (λ (n : ℕ). number_at n 4 bytes) at ∙ is.told;
      cells = ap (λ (n : ℕ). drop n bytes) head ∙ is.cells;
    }) h

from_table : (form : Form) (bytes table : List ℕ) → TheTable form bytes table → HasTable form bytes table
from_table Plain bytes table h = h
from_table Tagged bytes table h = h

to_table : (form : Form) (bytes table : List ℕ) → HasTable form bytes table → TheTable form bytes table
to_table Plain bytes table h = h
to_table Tagged bytes table h = h

-- what is read after the three numbers is the rest of the body
pub rest_of : (form : Form) (bytes : List ℕ) (b : Batch) → IsBatchIn form bytes b → HasRest form bytes b
rest_of form bytes b is = record { table = to_table form bytes b.table is.named; count = is.told; cells = is.cells }

-- an entry's own body is read so
pub own_body : (form : Form) (bytes : List ℕ) (e : Entry) → IsEntry e → entry_form e ≡ form → bytes ≡ body_as form e → IsBatchIn form bytes e.batch
own_body form bytes e is fm same = record {
  form_is = fm;
  given = is.batch.given;
  count = is.batch.count;
  each = subst (λ (f : Form). AllByRecursion (HasForm f) e.batch.cells) fm (each_has_form e.batch is.batch.each);
  table = is.batch.table;
  within = omega (arith, length-body_as form e, ap length same);
  named = from_table form bytes e.batch.table rest.table;
  told = rest.count;
  cells = rest.cells;
}
  where
    rest : HasRest form bytes e.batch
    rest = (fields_of_body form bytes e is (λ p. (plain_batch_of e.batch (fm ∙ p)).0) same).rest

-- it has a length
pub record IsLong (bytes : List ℕ) : Type 0 where
  pub least : 24 ≤ length bytes
  pub most : length bytes ≤ 1048576

pub own_length : (form : Form) (bytes : List ℕ) (e : Entry) → IsEntry e → entry_form e ≡ form → bytes ≡ body_as form e → IsLong bytes
own_length form bytes e is fm same =
    let len : length bytes ≡ length (body e) = ap length (same ∙ ap (λ (f : Form). body_as f e) (sym fm)) in
    record {
      least = omega (arith, len, length-body_as (entry_form e) e, (head_bounds (entry_form e) e.batch is.batch.table).0);
      most = omega (arith, len, length-body_as (entry_form e) e, is.batch.body);
    }
