-- What stands after an open gate is a store's text, or is damaged.
use Rattle.std.specs.Prelude.{◌≡◌, ℕ, ◌+◌, ◌<◌, ◌≤◌, ◌^◌, List, [], ◌∷◌, ◌++◌, length, drop, slice_index, None, Err}
use Rattle.std.proofs.Common.{refl, sym, ap, ◌∙◌, subst, arith}
use Rattle.std.proofs.lemmas.List.{append-nil, take-append-drop, length-drop, drop_all}
use Rattle.std.proofs.lemmas.List.Folds.{drop_split}
use Rattle.std.specs.List.{AllByRecursion}
use Rattle.byteorder.specs.Endian.{big_bytes}
use Rattle.cell_model.specs.Cell.{HasForm, number_at}
use Rattle.cell_model.specs.declared.form.Form.{Form}
use Rattle.cell_model.specs.declared.form.Form.TheVariants.{Plain, Tagged}
use Rattle.cell_model.specs.Order.{NumberedCell}
use Rattle.cell_model.proofs.CellLaws.{IsBytes, number_part_4, number_part_8, byte_part}
use Rattle.log_model.specs.StoreText.{Store, IsStoredCell, IsStore, IsThere, IsPair, IsStoreText, magic, word_of, scope_text, family_in, numbers_in, form_at, count_in, store_text, pairs_text, field_fault, IsStoreDamaged}
use Rattle.log_model.specs.StoreText.IsStoreDamaged.{Pair, Behind}
use Rattle.file_base.specs.declared.error.ReadRefusal.{ReadRefusal}
use Rattle.file_base.specs.declared.error.ReadRefusal.TheVariants as refusals
use Rattle.file_base.specs.Refusal.{IfDamaged}
use Rattle.store_file.specs.Reading.{TellsScope, IsHead, AreFields, StandsUpTo, LacksPair}
use Rattle.store_file.proofs.Standing.{place_of}

pub told_family : (form : Form) (bytes : List ℕ) (scope : ℕ) (family : List ℕ) → TellsScope form bytes scope family → family ≡ family_in form bytes
told_family Plain bytes scope family h = h.1
told_family Tagged bytes scope family h = h.2

stored : (form : Form) (s : Store) (bytes : List ℕ) (cells : List NumberedCell) (count : ℕ) → AreFields form bytes s.from s.to count → s.family ≡ family_in form bytes
    → AllByRecursion (IsPair form (family_in form bytes) (number_at (numbers_in form bytes) 8 bytes) (number_at (numbers_in form bytes + 8) 8 bytes)) cells → AllByRecursion (IsStoredCell s) cells
stored form s bytes [] count fields of h = tt
stored form s bytes (x ∷ xs) count fields of h = (
  record {
    cell = h.0.cell.cell;
    family = λ some. h.0.family_is (λ none. some (of ∙ none)) ∙ sym of;
    from = omega (arith, fields.from_is, h.0.low);
    to = omega (arith, fields.to_is, h.0.high);
  },
  stored form s bytes xs count fields of h.1,
)

formed : (form : Form) (family : List ℕ) (from to : ℕ) (cells : List NumberedCell) → AllByRecursion (IsPair form family from to) cells → AllByRecursion (λ x. HasForm form x.1) cells
formed form family from to [] h = tt
formed form family from to (x ∷ xs) h = (h.0.cell, formed form family from to xs h.1)

word_bytes : (form : Form) → big_bytes 4 (word_of form) ≡ magic form
unfolding number_at
word_bytes Plain = refl
word_bytes Tagged = refl

-- the scope and the family stand in front of the two sequence ids
scope_part : (form : Form) (bytes : List ℕ) (s : Store) → numbers_in form bytes + 24 ≤ length bytes → TellsScope form bytes s.scope s.family → drop 9 bytes ≡ scope_text form s ++ drop (numbers_in form bytes) bytes
scope_part Plain bytes s le h = refl
scope_part Tagged bytes s le h =
    byte_part 9 bytes (omega (arith, le)) ∙ (λ i. sym h.0 i ∷ drop 10 bytes)
    ∙ ap (λ (x : List ℕ). s.scope ∷ x) (byte_part 10 bytes (omega (arith, le)) ∙ (λ i. sym h.1 i ∷ drop 11 bytes)
    ∙ ap (λ (x : List ℕ). length s.family ∷ x) (drop_split bytes 11 (11 + slice_index bytes 10) (omega arith) ∙ (λ i. sym h.2 i ++ drop (11 + slice_index bytes 10) bytes)))

-- counted cells that stand up to the end of the bytes make a store's text
pub text_from : (form : Form) (s : Store) (count at : ℕ) (bytes : List ℕ) → IsBytes bytes → s.region < 2 ^ 32 → IsThere bytes → IsHead form s.region bytes s.scope s.family → AreFields form bytes s.from s.to count
    → StandsUpTo form bytes s.cells at → length s.cells ≡ count → length bytes ≤ at → IsStoreText s.region bytes s
unfolding store_text
text_from form s count at bytes fits small there head fields stands counted end =
    let n : ℕ = numbers_in form bytes in
    let le : n + 24 ≤ length bytes = fields.whole in
    let rest : drop (n + 24) bytes ≡ pairs_text form s.cells = stands.stands.is ∙ ap (λ (t : List ℕ). pairs_text form s.cells ++ t) (drop_all at bytes end) ∙ append-nil (pairs_text form s.cells) in
    let nine : 9 ≤ n = at_nine form bytes in
    let number : number_at (n + 16) 8 bytes ≡ length s.cells = sym fields.count_is ∙ sym counted in
    let behind : drop (n + 16 + 8) bytes ≡ pairs_text form s.cells = ap (λ (k : ℕ). drop k bytes) (omega arith) ∙ rest in
    let d16 : drop (n + 16) bytes ≡ big_bytes 8 (length s.cells) ++ pairs_text form s.cells = number_part_8 (n + 16) bytes fits (omega (arith, le)) ∙ (λ i. big_bytes 8 (number i) ++ behind i) in
    let d8 : drop (n + 8) bytes ≡ big_bytes 8 s.to ++ (big_bytes 8 (length s.cells) ++ pairs_text form s.cells) = number_part_8 (n + 8) bytes fits (omega (arith, le)) ∙ ap (λ (k : ℕ). big_bytes 8 (number_at (n + 8) 8 bytes) ++ drop k bytes) (omega arith) ∙ (λ i. big_bytes 8 (sym fields.to_is i) ++ d16 i) in
    let d0 : drop n bytes ≡ big_bytes 8 s.from ++ (big_bytes 8 s.to ++ (big_bytes 8 (length s.cells) ++ pairs_text form s.cells)) = number_part_8 n bytes fits (omega (arith, le)) ∙ (λ i. big_bytes 8 (sym fields.from_is i) ++ d8 i) in
    let tail : List ℕ = big_bytes 8 s.from ++ (big_bytes 8 s.to ++ (big_bytes 8 (length s.cells) ++ pairs_text form s.cells)) in
    let d9 : drop 9 bytes ≡ scope_text form s ++ tail = scope_part form bytes s le head.told ∙ ap (λ (x : List ℕ). scope_text form s ++ x) d0 in
    let d5 : drop 5 bytes ≡ big_bytes 4 s.region ++ (scope_text form s ++ tail) = number_part_4 5 bytes fits (omega (arith, le, nine)) ∙ (λ i. big_bytes 4 (head.region_is i) ++ d9 i) in
    let d1 : drop 1 bytes ≡ magic form ++ (big_bytes 4 s.region ++ (scope_text form s ++ tail)) = number_part_4 1 bytes fits (omega (arith, le, nine)) ∙ (λ i. (ap (big_bytes 4) head.word ∙ word_bytes form) i ++ d5 i) in
    record {
      store = record {
        region = small;
        scope = head.scope_limit;
        family = head.short;
        whole = head.whole;
        from = fields.given;
        to = fields.order;
        limit = fields.limit;
        each = stored form s bytes s.cells count fields (told_family form bytes s.scope s.family head.told) stands.stands.each;
        rising = stands.stands.rising;
      };
      region = refl;
      form = form;
      fits = record {
        scope = plain_scope form bytes s head.told;
        family = plain_family form bytes s head.told;
        each = formed form (family_in form bytes) (number_at n 8 bytes) (number_at (n + 8) 8 bytes) s.cells stands.stands.each;
      };
      is = sym (take-append-drop 1 bytes) ∙ (λ i. there.1 i ++ d1 i);
    }
  where
    at_nine : (form : Form) (bytes : List ℕ) → 9 ≤ numbers_in form bytes
    at_nine Plain bytes = omega arith
    at_nine Tagged bytes = omega arith

    plain_scope : (form : Form) (bytes : List ℕ) (s : Store) → TellsScope form bytes s.scope s.family → form ≡ Plain → s.scope ≡ 0
    plain_scope Plain bytes s h e = h.0
    plain_scope Tagged bytes s h e = absurd (not_plain e)
      where
        not_plain : Tagged ≡ Plain → ⊥
        not_plain e = let n : 11 + slice_index bytes 10 ≡ 9 = ap (λ (f : Form). numbers_in f bytes) e in omega (arith, n)

    plain_family : (form : Form) (bytes : List ℕ) (s : Store) → TellsScope form bytes s.scope s.family → form ≡ Plain → s.family ≡ []
    plain_family Plain bytes s h e = h.1
    plain_family Tagged bytes s h e = absurd (not_plain e)
      where
        not_plain : Tagged ≡ Plain → ⊥
        not_plain e = let n : 11 + slice_index bytes 10 ≡ 9 = ap (λ (f : Form). numbers_in f bytes) e in omega (arith, n)

pub lacks_pair : (T U : Type 0) (form : Form) (r from to count : ℕ) (bytes : List ℕ) (e : ReadRefusal) → IsThere bytes → field_fault r bytes ≡ None → form_at bytes ≡ form → AreFields form bytes from to count
    → IfDamaged {T = T} (Err e) (λ at. LacksPair form bytes at) → IfDamaged {T = U} (Err e) (λ at. IsStoreDamaged r bytes at)
lacks_pair T U form r from to count bytes refusals.Memory there right is fields h = tt
lacks_pair T U form r from to count bytes refusals.DiskFault there right is fields h = tt
lacks_pair T U form r from to count bytes (refusals.Damaged at) there right is fields h =
    let same : LacksPair (form_at bytes) bytes at = subst (λ (f : Form). LacksPair f bytes at) (sym is) h in
    let whole : numbers_in (form_at bytes) bytes + 24 ≤ length bytes = subst (λ (f : Form). numbers_in f bytes + 24 ≤ length bytes) (sym is) fields.whole in
    Pair there right same.cells (drop at bytes) same.stands.stands same.fewer same.none (place_of (form_at bytes) bytes same.cells at whole same.stands)

pub has_more : (form : Form) (r from to count at : ℕ) (bytes : List ℕ) (cells : List NumberedCell) → IsThere bytes → field_fault r bytes ≡ None → form_at bytes ≡ form → AreFields form bytes from to count
    → StandsUpTo form bytes cells at → length cells ≡ count → at < length bytes → IsStoreDamaged r bytes at
has_more form r from to count at bytes cells there right is fields s counted lt =
    let same : StandsUpTo (form_at bytes) bytes cells at = subst (λ (f : Form). StandsUpTo f bytes cells at) (sym is) s in
    let whole : numbers_in (form_at bytes) bytes + 24 ≤ length bytes = subst (λ (f : Form). numbers_in f bytes + 24 ≤ length bytes) (sym is) fields.whole in
    let all : length cells ≡ count_in (form_at bytes) bytes = subst (λ (f : Form). length cells ≡ count_in f bytes) (sym is) (counted ∙ fields.count_is) in
    Behind there right cells (drop at bytes) same.stands all (omega (arith, lt, length-drop at bytes)) (place_of (form_at bytes) bytes cells at whole same)

-- ---- what is written for a store is its text

each_tagged : (s : Store) (xs : List NumberedCell) → AllByRecursion (IsStoredCell s) xs → AllByRecursion (λ x. HasForm Tagged x.1) xs
each_tagged s [] each = tt
each_tagged s (x ∷ xs) each = (record { cell = each.0.cell; plain = λ is. absurd (cc is) }, each_tagged s xs each.1)

pub tagged_text : (s : Store) → IsStore s → IsStoreText s.region (store_text Tagged s) s
tagged_text s is = record {
  store = is;
  region = refl;
  form = Tagged;
  fits = record { scope = λ plain. absurd (cc plain); family = λ plain. absurd (cc plain); each = each_tagged s s.cells is.each };
  is = refl;
}
