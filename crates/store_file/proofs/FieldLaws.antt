-- The table of a store's fields, by the word after the gate.
use Rattle.std.specs.Prelude.{◌≡◌, ◌≢◌, ℕ, ◌+◌, ◌<◌, ◌≤◌, ◌^◌, List, [], length, slice_index, slice_range, Some, None}
use Rattle.std.proofs.Common.{refl, sym, ◌∙◌, arith}
use Rattle.std.proofs.lemmas.Bool.Decides.{nat_tests}
use Rattle.cell_model.specs.Cell.{number_at, first_fault}
use Rattle.cell_model.specs.declared.form.Form.{Form}
use Rattle.cell_model.specs.declared.form.Form.TheVariants.{Plain, Tagged}
use Rattle.log_model.specs.StoreText.{form_at, numbers_in, field_fault}
use Rattle.log_model.proofs.StoreFields.{code_of, fault_in, form_is, field_fault_as, word_is}
use Rattle.cell_model.proofs.CellLaws.{length-part}
use Rattle.std.proofs.lemmas.List.{nil_from_length}
use Rattle.store_file.specs.Reading.{AreNumbers, number_faults, numbers_fault, AreRead}

pub plain_fault : (r : ℕ) (bytes : List ℕ) → number_at 1 4 bytes ≡ code_of Plain
    → field_fault r bytes ≡ fault_in Plain (length bytes) (number_at 1 4 bytes) (code_of Plain) (number_at 5 4 bytes) r (slice_index bytes 9) (slice_index bytes 10) 9 (number_at 9 8 bytes) (number_at 17 8 bytes)
plain_fault r bytes word = field_fault_as Plain r bytes (form_is Plain bytes word)

pub tagged_fault : (r : ℕ) (bytes : List ℕ) → number_at 1 4 bytes ≡ code_of Tagged
    → field_fault r bytes ≡ fault_in Tagged (length bytes) (number_at 1 4 bytes) (code_of Tagged) (number_at 5 4 bytes) r (slice_index bytes 9) (slice_index bytes 10) (11 + slice_index bytes 10) (number_at (11 + slice_index bytes 10) 8 bytes)
    (number_at (11 + slice_index bytes 10 + 8) 8 bytes)
tagged_fault r bytes word = field_fault_as Tagged r bytes (form_is Tagged bytes word)

first_line : (form : Form) (n word m region r scope family at from to : ℕ) → n < 5 → fault_in form n word m region r scope family at from to ≡ Some 1
first_line form n word m region r scope family at from to lt = grind (arith, nat_tests)

other_word : (form : Form) (n word m region r scope family at from to : ℕ) → word ≢ m → fault_in form n word m region r scope family at from to ≡ Some 1
other_word form n word m region r scope family at from to other = grind (arith, nat_tests)

pub short_fault : (r : ℕ) (bytes : List ℕ) → length bytes < 5 → field_fault r bytes ≡ Some 1
short_fault r bytes lt = field_fault_as (form_at bytes) r bytes refl
    ∙ first_line (form_at bytes) (length bytes) (number_at 1 4 bytes) (code_of (form_at bytes)) (number_at 5 4 bytes) r (slice_index bytes 9) (slice_index bytes 10) (numbers_in (form_at bytes) bytes) (number_at (numbers_in (form_at bytes) bytes) 8 bytes)
    (number_at (numbers_in (form_at bytes) bytes + 8) 8 bytes) lt

not_code : (f : Form) (w : ℕ) → w ≢ code_of Plain → w ≢ code_of Tagged → w ≢ code_of f
not_code Plain w a b = a
not_code Tagged w a b = b

pub word_fault : (r : ℕ) (bytes : List ℕ) → number_at 1 4 bytes ≢ code_of Plain → number_at 1 4 bytes ≢ code_of Tagged → field_fault r bytes ≡ Some 1
word_fault r bytes a b = field_fault_as (form_at bytes) r bytes refl
    ∙ other_word (form_at bytes) (length bytes) (number_at 1 4 bytes) (code_of (form_at bytes)) (number_at 5 4 bytes) r (slice_index bytes 9) (slice_index bytes 10) (numbers_in (form_at bytes) bytes) (number_at (numbers_in (form_at bytes) bytes) 8 bytes)
    (number_at (numbers_in (form_at bytes) bytes + 8) 8 bytes) (not_code (form_at bytes) (number_at 1 4 bytes) a b)

-- where the fields in front of the two sequence ids are right, the first fault is one of those
front_plain : (n word m region r scope family at from to : ℕ) → word ≡ m → region ≡ r → 9 ≤ n → fault_in Plain n word m region r scope family at from to ≡ first_fault (number_faults n at from to)
front_plain n word m region r scope family at from to w g nine = grind (arith, nat_tests)

front_tagged : (n word m region r scope family at from to : ℕ) → word ≡ m → region ≡ r → 11 + family ≤ n → scope ≤ 1 → family ≤ 127 → (scope ≡ 1 → family ≡ 0) → fault_in Tagged n word m region r scope family at from to ≡ first_fault (number_faults n at from to)
front_tagged n word m region r scope family at from to w g long s f one = grind (arith, nat_tests)

pub plain_numbers : (r : ℕ) (bytes : List ℕ) → number_at 1 4 bytes ≡ code_of Plain → number_at 5 4 bytes ≡ r → 9 ≤ length bytes → field_fault r bytes ≡ numbers_fault bytes 9
plain_numbers r bytes word region nine =
    plain_fault r bytes word ∙ front_plain (length bytes) (number_at 1 4 bytes) (code_of Plain) (number_at 5 4 bytes) r (slice_index bytes 9) (slice_index bytes 10) 9 (number_at 9 8 bytes) (number_at 17 8 bytes) word region nine

pub tagged_numbers : (r : ℕ) (bytes : List ℕ) → number_at 1 4 bytes ≡ code_of Tagged → number_at 5 4 bytes ≡ r → slice_index bytes 9 ≤ 1 → slice_index bytes 10 ≤ 127 → (slice_index bytes 9 ≡ 1 → slice_index bytes 10 ≡ 0) → 11 + slice_index bytes 10 ≤ length bytes
    → field_fault r bytes ≡ numbers_fault bytes (11 + slice_index bytes 10)
tagged_numbers r bytes word region scope family one long =
    tagged_fault r bytes word
    ∙ front_tagged (length bytes) (number_at 1 4 bytes) (code_of Tagged) (number_at 5 4 bytes) r (slice_index bytes 9) (slice_index bytes 10) (11 + slice_index bytes 10) (number_at (11 + slice_index bytes 10) 8 bytes) (number_at (11 + slice_index bytes 10 + 8) 8 bytes)
    word region long scope family one

no_number_fault : (n at from to : ℕ) → 1 ≤ from → from ≤ to → to < 2 ^ 48 → at + 24 ≤ n → first_fault (number_faults n at from to) ≡ None
no_number_fault n at from to given order limit long = grind (arith, nat_tests)

right_numbers : (bytes : List ℕ) (at from to count : ℕ) → AreNumbers bytes at from to count → numbers_fault bytes at ≡ None
right_numbers bytes at from to count h =
    no_number_fault (length bytes) at (number_at at 8 bytes) (number_at (at + 8) 8 bytes) (omega (arith, h.given, h.from_is)) (omega (arith, h.order, h.from_is, h.to_is)) (omega (arith, h.limit, h.to_is)) h.whole

-- what was read without a fault
pub plain_right : (r : ℕ) (bytes : List ℕ) (from to count : ℕ) → number_at 1 4 bytes ≡ code_of Plain → number_at 5 4 bytes ≡ r → 9 ≤ length bytes → AreNumbers bytes 9 from to count → AreRead Plain r bytes 0 [] 9 from to count
plain_right r bytes from to count word region nine h = record {
  right = plain_numbers r bytes word region nine ∙ right_numbers bytes 9 from to count h;
  head = record { form_is = form_is Plain bytes word; word = word ∙ sym (word_is Plain); region_is = region; told = (refl, refl); scope_limit = omega arith; short = omega arith; whole = λ _. refl };
  place = refl;
  fields = h;
}

pub tagged_right : (r : ℕ) (bytes : List ℕ) (from to count : ℕ) → number_at 1 4 bytes ≡ code_of Tagged → number_at 5 4 bytes ≡ r → slice_index bytes 9 ≤ 1 → slice_index bytes 10 ≤ 127 → (slice_index bytes 9 ≡ 1 → slice_index bytes 10 ≡ 0) → 11 + slice_index bytes 10 ≤ length bytes
    → AreNumbers bytes (11 + slice_index bytes 10) from to count → AreRead Tagged r bytes (slice_index bytes 9) (slice_range bytes 11 (11 + slice_index bytes 10)) (11 + slice_index bytes 10) from to count
tagged_right r bytes from to count word region scope family one long h = record {
  right = tagged_numbers r bytes word region scope family one long ∙ right_numbers bytes (11 + slice_index bytes 10) from to count h;
  head = record {
    form_is = form_is Tagged bytes word;
    word = word ∙ sym (word_is Tagged);
    region_is = region;
    told = (refl, size, refl);
    scope_limit = scope;
    short = omega (arith, size, family);
    whole = λ is. nil_from_length (slice_range bytes 11 (11 + slice_index bytes 10)) (size ∙ one is);
  };
  place = refl;
  fields = h;
}
  where
    size : length (slice_range bytes 11 (11 + slice_index bytes 10)) ≡ slice_index bytes 10
    size = omega (arith, length-part 11 (11 + slice_index bytes 10) bytes long)
