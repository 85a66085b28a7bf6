-- A printed token, a printed number and a kind's name are words, and each is of one value.
use Rattle.std.proofs.Common.{◌≡◌, ◌≢◌, ℕ, suc, ◌+◌, ◌*◌, ◌/◌, ◌%◌, ◌<◌, ◌^◌, ◌==◌, Bool, true, false, IsTrue, if◌then◌else◌, List, [], ◌∷◌, ◌++◌, Option, Some, None, refl, sym, ap, ◌∙◌, append-nil, arith}
use Rattle.std.specs.List.{flat_map}
use Rattle.std.specs.Fmt.{decimal}
use Rattle.std.proofs.lemmas.Fmt.{decimal_by_steps}
use Rattle.std.proofs.lemmas.Bool.Decides.{nat_tests}
use Rattle.cell_model.specs.Cell.{is_kind}
use Rattle.script_model.specs.Text.{is_plain, escaped, upper_hex, hex_of, with_byte, with_hex, unescaped, token_of, printed}
use Rattle.script_model.specs.Fields.{code_of}
use Rattle.script_model.specs.Report.{kind_name}
use Rattle.kv_cell.specs.Laws.{AreBytes}
use Rattle.report_text.proofs.WordLaws.{is_within, is_word}

-- ---- words

pub word-append : (w v : List ℕ) → is_word w ≡ true → is_word v ≡ true → is_word (w ++ v) ≡ true
word-append [] v hw hv = hv
word-append (x ∷ w) v hw hv = grind (arith, word-append w v)

pub decimal_word : (n : ℕ) → n < 2 ^ 64 → is_word (decimal n) ≡ true
decimal_word = decimal_by_steps (λ n ds. is_word ds ≡ true) (λ n h. grind (arith, nat_tests)) (λ n ds h is. word-append ds ((48 + n % 10) ∷ []) is (grind (arith, nat_tests)))

hex_word : (n : ℕ) → is_within (upper_hex n) ≡ true
hex_word n = grind (arith, nat_tests)

escaped_word : (b : ℕ) → is_word (escaped b) ≡ true
escaped_word b = grind (arith, nat_tests, hex_word)

escapes_word : (bs : List ℕ) → is_word (flat_map escaped bs) ≡ true
escapes_word [] = refl
escapes_word (b ∷ bs) = word-append (escaped b) (flat_map escaped bs) (escaped_word b) (escapes_word bs)

pub printed_word : (bs : List ℕ) → is_word (printed bs) ≡ true
printed_word [] = refl
printed_word (b ∷ []) = grind (arith, nat_tests, escaped_word)
printed_word (b ∷ c ∷ bs) = escapes_word (b ∷ c ∷ bs)

pub kind_word : (k : ℕ) → is_word (kind_name k) ≡ true
kind_word k = grind (arith, nat_tests)

-- ---- one value

pub kind_back : (k : ℕ) → IsTrue (is_kind k) → code_of (kind_name k) ≡ k
kind_back k h = grind (arith, nat_tests)

hex_back : (n : ℕ) → n < 16 → hex_of (upper_hex n) ≡ Some n
hex_back n h = grind (arith, nat_tests)

plain_back : (b : ℕ) (rest : List ℕ) → is_plain b ≡ true → unescaped (b ∷ rest) ≡ with_byte b (unescaped rest)
plain_back b [] e = rw e refl
plain_back b (c ∷ []) e = rw e refl
plain_back b (c ∷ d ∷ rest) e =
    let other : (b == 37) ≡ false = grind (arith, nat_tests) in
    ap (λ (t : Bool). if t then with_hex (hex_of c) (hex_of d) (unescaped rest) else (if is_plain b then with_byte b (unescaped (c ∷ d ∷ rest)) else None)) other
    ∙ ap (λ (t : Bool). if t then with_byte b (unescaped (c ∷ d ∷ rest)) else None) e

hex_pair : (b : ℕ) (rest : List ℕ) → b < 256 → unescaped (37 ∷ upper_hex (b / 16) ∷ upper_hex (b % 16) ∷ rest) ≡ with_byte b (unescaped rest)
hex_pair b rest h =
    let high : hex_of (upper_hex (b / 16)) ≡ Some (b / 16) = hex_back (b / 16) (omega arith) in
    let low : hex_of (upper_hex (b % 16)) ≡ Some (b % 16) = hex_back (b % 16) (omega arith) in
    let sum : 16 * (b / 16) + b % 16 ≡ b = omega arith in
    ap (λ (x : Option ℕ). with_hex x (hex_of (upper_hex (b % 16))) (unescaped rest)) high
    ∙ ap (λ (x : Option ℕ). with_hex (Some (b / 16)) x (unescaped rest)) low
    ∙ ap (λ (x : ℕ). with_byte x (unescaped rest)) sum

escape_back : (b : ℕ) (rest : List ℕ) → b < 256 → unescaped (escaped b ++ rest) ≡ with_byte b (unescaped rest)
escape_back b rest h = by_test (is_plain b) refl
  where
    by_test : (t : Bool) → is_plain b ≡ t → unescaped ((if t then b ∷ [] else 37 ∷ upper_hex (b / 16) ∷ upper_hex (b % 16) ∷ []) ++ rest) ≡ with_byte b (unescaped rest)
    by_test true e = plain_back b rest e
    by_test false e = hex_pair b rest h

escapes_back : (bs : List ℕ) → AreBytes bs → unescaped (flat_map escaped bs) ≡ Some bs
escapes_back [] h = refl
escapes_back (b ∷ bs) h = escape_back b (flat_map escaped bs) (h 0) ∙ ap (with_byte b) (escapes_back bs (λ i. h (suc i)))

-- a text of one escape or more is a token by its escapes, but for `-` alone
token_by_escapes : (x : ℕ) (w : List ℕ) → (x ≡ 45 → w ≢ []) → token_of (x ∷ w) ≡ unescaped (x ∷ w)
token_by_escapes x [] h =
    let no : x ≢ 45 = λ e. h e refl in
    let other : (x == 45) ≡ false = grind (arith, nat_tests) in
    ap (λ (t : Bool). if t then Some [] else unescaped (x ∷ [])) other
token_by_escapes x (y ∷ w) h = refl

escapes_are_token : (b : ℕ) (w : List ℕ) → (b ≡ 45 → w ≢ []) → token_of (escaped b ++ w) ≡ unescaped (escaped b ++ w)
escapes_are_token b w h = by_test (is_plain b)
  where
    by_test : (t : Bool) → token_of ((if t then b ∷ [] else 37 ∷ upper_hex (b / 16) ∷ upper_hex (b % 16) ∷ []) ++ w) ≡ unescaped ((if t then b ∷ [] else 37 ∷ upper_hex (b / 16) ∷ upper_hex (b % 16) ∷ []) ++ w)
    by_test true = token_by_escapes b w h
    by_test false = refl

escaped_given : (b : ℕ) (w : List ℕ) → escaped b ++ w ≢ []
escaped_given b w = by_test (is_plain b)
  where
    by_test : (t : Bool) → (if t then b ∷ [] else 37 ∷ upper_hex (b / 16) ∷ upper_hex (b % 16) ∷ []) ++ w ≢ []
    by_test true e = let no : ⊥ = cc in no
    by_test false e = let no : ⊥ = cc in no

one_back : (b : ℕ) (t : Bool) → b < 256 → (b == 45) ≡ t → token_of (if t then 37 ∷ 50 ∷ 68 ∷ [] else escaped b) ≡ Some (b ∷ [])
one_back b true h e =
    let same : 45 ≡ b = grind (arith, nat_tests) in
    ap (λ (x : ℕ). Some (x ∷ [])) same
one_back b false h e =
    let no : b ≢ 45 = grind (arith, nat_tests) in
    let whole : escaped b ++ [] ≡ escaped b = append-nil (escaped b) in
    ap token_of (sym whole) ∙ escapes_are_token b [] (λ same. absurd (no same)) ∙ escape_back b [] h

-- a printed token stands for its bytes
pub token_back : (bs : List ℕ) → AreBytes bs → token_of (printed bs) ≡ Some bs
token_back [] h = refl
token_back (b ∷ []) h = one_back b (b == 45) (h 0) refl
token_back (b ∷ c ∷ bs) h = escapes_are_token b (flat_map escaped (c ∷ bs)) (λ e. escaped_given c (flat_map escaped bs)) ∙ escapes_back (b ∷ c ∷ bs) h
