-- The table of a store's fields, over plain numbers.
use Rattle.std.specs.Prelude.{◌≡◌, ℕ, ◌+◌, ◌-◌, ◌<◌, ◌≤◌, ◌^◌, Bool, true, false, not, ◌&&◌, ◌||◌, ◌==◌, nat_lt, nat_le, if◌then◌else◌, List, [], ◌∷◌, ◌++◌, length, slice_index, Option, None}
use Rattle.std.proofs.Common.{refl, sym, ap, ◌∙◌, arith}
use Rattle.std.proofs.lemmas.Bool.Decides.{nat_tests}
use Rattle.cell_model.specs.Cell.{number_at, first_fault}
use Rattle.cell_model.specs.declared.form.Form.{Form}
use Rattle.cell_model.specs.declared.form.Form.TheVariants.{Plain, Tagged}
use Rattle.log_model.specs.StoreText.{magic, word_of, form_at, numbers_in, scope_faults, field_fault}

-- the number after the gate
abbrev pub code_of : Form → ℕ
code_of Plain = 0x48575331
code_of Tagged = 0x48575332

pub word_is : (form : Form) → word_of form ≡ code_of form
unfolding number_at
word_is Plain = refl
word_is Tagged = refl

-- the first fault of n bytes with these numbers in their fields
abbrev pub fault_in : (form : Form) (n word magic region r scope family at from to : ℕ) → Option ℕ
fault_in form n word magic region r scope family at from to = first_fault (
    (nat_lt n 5 || not (word == magic), 1)
    ∷ (nat_lt n 9 || not (region == r), 5)
    ∷ (scope_faults form n scope family
    ++ ((nat_lt n (at + 8) || from == 0 || (nat_le (at + 16) n && nat_lt to from), at)
    ∷ (nat_lt n (at + 16) || nat_lt (2 ^ 48 - 1) to, at + 8)
    ∷ (nat_lt n (at + 24), at + 16)
    ∷ []))
    )

pub field_fault_as : (form : Form) (r : ℕ) (bytes : List ℕ) → form_at bytes ≡ form
    → field_fault r bytes ≡ fault_in form (length bytes) (number_at 1 4 bytes) (code_of form) (number_at 5 4 bytes) r (slice_index bytes 9) (slice_index bytes 10) (numbers_in form bytes) (number_at (numbers_in form bytes) 8 bytes) (number_at (numbers_in form bytes + 8) 8 bytes)
unfolding field_fault
field_fault_as form r bytes is =
    (λ i. fault_in (is i) (length bytes) (number_at 1 4 bytes) (word_of (is i)) (number_at 5 4 bytes) r (slice_index bytes 9) (slice_index bytes 10) (numbers_in (is i) bytes) (number_at (numbers_in (is i) bytes) 8 bytes) (number_at (numbers_in (is i) bytes + 8) 8 bytes))
    ∙ ap (λ (m : ℕ). fault_in form (length bytes) (number_at 1 4 bytes) m (number_at 5 4 bytes) r (slice_index bytes 9) (slice_index bytes 10) (numbers_in form bytes) (number_at (numbers_in form bytes) 8 bytes) (number_at (numbers_in form bytes + 8) 8 bytes)) (word_is form)

-- what the numbers of a right store's fields are like
pub record AreRight (form : Form) (n word region r scope family at from to : ℕ) : Type 0 where
  pub word_is : word ≡ code_of form
  pub region_is : region ≡ r
  pub scope_is : form ≡ Tagged → scope ≤ 1
  pub family_is : form ≡ Tagged → family ≤ 127
  pub whole : form ≡ Tagged → scope ≡ 1 → family ≡ 0
  pub behind : form ≡ Tagged → 11 + family ≤ n
  pub given : 1 ≤ from
  pub order : from ≤ to
  pub limit : to < 2 ^ 48
  pub long : at + 24 ≤ n
  pub nine : 9 ≤ n

no_fault_plain : (n word m region r at from to : ℕ) → word ≡ m → region ≡ r → 9 ≤ n → 1 ≤ from → from ≤ to → to < 2 ^ 48 → at + 24 ≤ n → fault_in Plain n word m region r 0 0 at from to ≡ None
no_fault_plain n word m region r at from to w g nine f o l whole = grind (arith, nat_tests)

no_fault_tagged : (n word m region r scope family at from to : ℕ) → word ≡ m → region ≡ r → 11 + family ≤ n → scope ≤ 1 → family ≤ 127 → (scope ≡ 1 → family ≡ 0) → 1 ≤ from → from ≤ to → to < 2 ^ 48 → at + 24 ≤ n
    → fault_in Tagged n word m region r scope family at from to ≡ None
no_fault_tagged n word m region r scope family at from to w g long s fam one f o l whole = grind (arith, nat_tests)

pub no_fault : (form : Form) (n word region r scope family at from to : ℕ) → AreRight form n word region r scope family at from to → fault_in form n word (code_of form) region r scope family at from to ≡ None
no_fault Plain n word region r scope family at from to h = no_fault_plain n word (code_of Plain) region r at from to h.word_is h.region_is h.nine h.given h.order h.limit h.long
no_fault Tagged n word region r scope family at from to h =
    no_fault_tagged n word (code_of Tagged) region r scope family at from to h.word_is h.region_is (h.behind refl) (h.scope_is refl) (h.family_is refl) (h.whole refl) h.given h.order h.limit h.long

told_form : (word m : ℕ) (form : Form) → m ≡ code_of Tagged → word ≡ code_of form → (if word == m then Tagged else Plain) ≡ form
told_form word m Plain is w = grind (arith, nat_tests)
told_form word m Tagged is w = grind (arith, nat_tests)

-- the number after the gate tells the form
pub form_is : (form : Form) (bytes : List ℕ) → number_at 1 4 bytes ≡ code_of form → form_at bytes ≡ form
unfolding form_at
form_is form bytes word = told_form (number_at 1 4 bytes) (word_of Tagged) form (word_is Tagged) word
