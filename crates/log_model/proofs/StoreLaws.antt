-- A store's text is damaged nowhere.
use Rattle.std.specs.Prelude.{◌≡◌, ◌≢◌, ℕ, ◌+◌, ◌<◌, ◌≤◌, ◌^◌, List, [], ◌∷◌, ◌++◌, length, drop, slice_index, slice_range, None}
use Rattle.std.proofs.Common.{refl, sym, ap, ◌∙◌, subst, arith, append_assoc, length-append}
use Rattle.std.proofs.lemmas.List.{length-drop}
use Rattle.std.proofs.lemmas.List.Concat.{flat_map-append}
use Rattle.std.specs.List.{AllByRecursion}
use Rattle.byteorder.specs.Endian.{big_bytes}
use Rattle.cell_model.specs.Cell.{HasForm, spelled, number_at}
use Rattle.cell_model.specs.declared.form.Form.{Form}
use Rattle.cell_model.specs.declared.form.Form.TheVariants.{Plain, Tagged}
use Rattle.cell_model.specs.Order.{NumberedCell}
use Rattle.cell_model.specs.Merge.{IsRising}
use Rattle.cell_model.proofs.CellLaws.{number_is, byte_is, part_is, after, same_rest}
use Rattle.log_model.specs.StoreText.{Store, IsStoredCell, IsStore, FitsForm, IsStoreText, magic, scope_text, store_text, pairs_text, form_at, family_in, numbers_in, count_in, field_fault, IsPair, StandsAs, StandsCells, IsStoreDamaged}
use Rattle.log_model.specs.StoreText.IsStoreDamaged.{Field, Pair, Behind}
use Rattle.log_model.proofs.StoreFields.{code_of, field_fault_as, no_fault, form_is}
use Rattle.log_model.proofs.Rises.{rising_front}

-- where the two sequence ids stand
abbrev place_of : Form → Store → ℕ
place_of Plain s = 9
place_of Tagged s = 11 + length s.family

-- what the bytes say of scope and family
record SaysScope (form : Form) (bytes : List ℕ) (s : Store) : Type 0 where
  pub at : numbers_in form bytes ≡ place_of form s
  pub family : family_in form bytes ≡ s.family
  pub scope : form ≡ Tagged → slice_index bytes 9 ≡ s.scope
  pub size : form ≡ Tagged → slice_index bytes 10 ≡ length s.family

says_scope : (form : Form) (bytes x : List ℕ) (s : Store) → (form ≡ Plain → s.family ≡ []) → drop 9 bytes ≡ scope_text form s ++ x → SaysScope form bytes s × (drop (place_of form s) bytes ≡ x)
says_scope Plain bytes x s plain d9 = (record { at = refl; family = sym (plain refl); scope = λ e. absurd cc; size = λ e. absurd cc }, d9)
says_scope Tagged bytes x s plain d9 =
    let f : ℕ = length s.family in
    let d10 : drop 10 bytes ≡ f ∷ (s.family ++ x) = after 9 1 10 bytes (s.scope ∷ []) (f ∷ (s.family ++ x)) d9 refl refl in
    let d11 : drop 11 bytes ≡ s.family ++ x = after 10 1 11 bytes (f ∷ []) (s.family ++ x) d10 refl refl in
    let size : slice_index bytes 10 ≡ f = byte_is 10 f bytes (s.family ++ x) d10 in (
      record {
        at = ap (λ (n : ℕ). 11 + n) size;
        family = (λ i. slice_range bytes 11 (11 + size i)) ∙ part_is 11 (11 + f) bytes s.family x d11 (omega arith);
        scope = λ _. byte_is 9 s.scope bytes (f ∷ (s.family ++ x)) d9;
        size = λ _. size;
      },
      after 11 f (11 + f) bytes s.family x d11 refl refl,
    )

-- what the fields of a store's text say
record Says (form : Form) (r : ℕ) (bytes : List ℕ) (s : Store) : Type 0 where
  pub form_is : form_at bytes ≡ form
  pub right : field_fault r bytes ≡ None
  pub family : family_in form bytes ≡ s.family
  pub from : number_at (numbers_in form bytes) 8 bytes ≡ s.from
  pub to : number_at (numbers_in form bytes + 8) 8 bytes ≡ s.to
  pub count : count_in form bytes ≡ length s.cells
  pub pairs : drop (numbers_in form bytes + 24) bytes ≡ pairs_text form s.cells

-- each pair has a byte
longer : (form : Form) (cells : List NumberedCell) → length cells ≤ length (pairs_text form cells)
longer form [] = omega arith
longer form (x ∷ xs) = omega (arith, length-append (big_bytes 8 x.0 ++ spelled form x.1) (pairs_text form xs), length-append (big_bytes 8 x.0) (spelled form x.1), longer form xs)

magic_word : (form : Form) (x : List ℕ) → magic form ++ x ≡ big_bytes 4 (code_of form) ++ x
magic_word Plain x = refl
magic_word Tagged x = refl

no_family : (x : List ℕ) → x ≡ [] → length x ≡ 0
no_family x e = ap length e

says : (form : Form) (r : ℕ) (bytes : List ℕ) (s : Store) → length bytes < 2 ^ 64 → IsStore s → FitsForm form s → s.region ≡ r → bytes ≡ store_text form s → Says form r bytes s
unfolding store_text
says form r bytes s small store fits region_is is =
    let pairs : List ℕ = pairs_text form s.cells in
    let x16 : List ℕ = big_bytes 8 (length s.cells) ++ pairs in
    let x8 : List ℕ = big_bytes 8 s.to ++ x16 in
    let x0 : List ℕ = big_bytes 8 s.from ++ x8 in
    let d1 : drop 1 bytes ≡ big_bytes 4 (code_of form) ++ (big_bytes 4 s.region ++ (scope_text form s ++ x0)) = ap (drop 1) is ∙ magic_word form (big_bytes 4 s.region ++ (scope_text form s ++ x0)) in
    let d5 : drop 5 bytes ≡ big_bytes 4 s.region ++ (scope_text form s ++ x0) = after 1 4 5 bytes (big_bytes 4 (code_of form)) (big_bytes 4 s.region ++ (scope_text form s ++ x0)) d1 refl refl in
    let d9 : drop 9 bytes ≡ scope_text form s ++ x0 = after 5 4 9 bytes (big_bytes 4 s.region) (scope_text form s ++ x0) d5 refl refl in
    let scoped = says_scope form bytes x0 s fits.family d9 in
    let at : ℕ = numbers_in form bytes in
    let e0 : drop at bytes ≡ x0 = ap (λ (n : ℕ). drop n bytes) scoped.0.at ∙ scoped.1 in
    let e8 : drop (at + 8) bytes ≡ x8 = after at 8 (at + 8) bytes (big_bytes 8 s.from) x8 e0 refl refl in
    let e16 : drop (at + 16) bytes ≡ x16 = after (at + 8) 8 (at + 16) bytes (big_bytes 8 s.to) x16 e8 refl (omega arith) in
    let e24 : drop (at + 24) bytes ≡ pairs = after (at + 16) 8 (at + 24) bytes (big_bytes 8 (length s.cells)) pairs e16 refl (omega arith) in
    let long : at + 24 + length pairs ≡ length bytes = omega (arith, length-drop (at + 16) bytes, ap length e16) in
    let word = number_is 4 1 (code_of form) bytes _ d1 (small_code form) in
    let region = number_is 4 5 s.region bytes _ d5 (omega (arith, store.region)) in
    let from = number_is 8 at s.from bytes x8 e0 (omega (arith, store.to, store.limit)) in
    let to = number_is 8 (at + 8) s.to bytes x16 e8 (omega (arith, store.limit)) in
    let count = number_is 8 (at + 16) (length s.cells) bytes pairs e16 (omega (arith, small, long, longer form s.cells)) in
    let told = form_is form bytes word in
    record {
      form_is = told;
      right = field_fault_as form r bytes told ∙ no_fault form (length bytes) (number_at 1 4 bytes) (number_at 5 4 bytes) r (slice_index bytes 9) (slice_index bytes 10) at (number_at at 8 bytes) (number_at (at + 8) 8 bytes) (record {
        word_is = word;
        region_is = region ∙ region_is;
        scope_is = λ e. omega (arith, scoped.0.scope e, store.scope);
        family_is = λ e. omega (arith, scoped.0.size e, store.family);
        whole = λ e one. scoped.0.size e ∙ no_family s.family (store.whole (sym (scoped.0.scope e) ∙ one));
        behind = λ e. omega (arith, behind_family form bytes s e scoped.0 long);
        given = omega (arith, from, store.from);
        order = omega (arith, from, to, store.to);
        limit = omega (arith, to, store.limit);
        long = omega (arith, long);
        nine = omega (arith, long, at_least form bytes);
      });
      family = scoped.0.family;
      from = from;
      to = to;
      count = count;
      pairs = e24;
    }
  where
    small_code : (f : Form) → code_of f < 256 ^ 4
    small_code Plain = omega arith
    small_code Tagged = omega arith

    at_least : (f : Form) (b : List ℕ) → 9 ≤ numbers_in f b
    at_least Plain b = omega arith
    at_least Tagged b = omega arith

    behind_family : (f : Form) (b : List ℕ) (t : Store) → f ≡ Tagged → SaysScope f b t → numbers_in f b + 24 + length (pairs_text f t.cells) ≡ length b → 11 + slice_index b 10 ≤ length b
    behind_family Plain b t e scoped long = absurd cc
    behind_family Tagged b t e scoped long = omega (arith, long)

-- a cell of this form with a sequence id in range
pub record IsOne (form : Form) (x : NumberedCell) : Type 0 where
  pub cell : HasForm form x.1
  pub number : x.0 < 2 ^ 48

-- what follows the first pair is what follows it in each reading
pub same_pair : (form : Form) (x y : NumberedCell) (a b : List ℕ) → IsOne form x → IsOne form y → (big_bytes 8 x.0 ++ spelled form x.1) ++ a ≡ (big_bytes 8 y.0 ++ spelled form y.1) ++ b → (x ≡ y) × (a ≡ b)
same_pair form x y a b hx hy e =
    let same : big_bytes 8 x.0 ++ (spelled form x.1 ++ a) ≡ big_bytes 8 y.0 ++ (spelled form y.1 ++ b) = sym (append_assoc (big_bytes 8 x.0) (spelled form x.1) a) ∙ e ∙ append_assoc (big_bytes 8 y.0) (spelled form y.1) b in
    let number : x.0 ≡ y.0 = sym (number_is 8 0 x.0 (big_bytes 8 x.0 ++ (spelled form x.1 ++ a)) (spelled form x.1 ++ a) refl (omega (arith, hx.number)))
    ∙ number_is 8 0 y.0 (big_bytes 8 x.0 ++ (spelled form x.1 ++ a)) (spelled form y.1 ++ b) same (omega (arith, hy.number)) in
    let rest : spelled form x.1 ++ a ≡ spelled form y.1 ++ b = ap (drop 8) same in
    let cell = same_rest form x.1 y.1 a b hx.cell hy.cell rest in
    ((λ i. (number i, cell.0 i)), cell.1)

-- cells that stand at the front of a store's pairs are the first of its cells
pub record Begins (form : Form) (cells all : List NumberedCell) (rest : List ℕ) : Type 0 where
  pub others : List NumberedCell
  pub is : all ≡ cells ++ others
  pub rest_is : rest ≡ pairs_text form others

begins : (form : Form) (cells all : List NumberedCell) (rest : List ℕ) → AllByRecursion (IsOne form) cells → AllByRecursion (IsOne form) all → length cells ≤ length all → pairs_text form cells ++ rest ≡ pairs_text form all → Begins form cells all rest
begins form [] all rest h g le e = record { others = all; is = refl; rest_is = e }
begins form (x ∷ xs) [] rest h g le e = absurd (omega (arith, le))
begins form (x ∷ xs) (y ∷ ys) rest h g le e =
    let pair = same_pair form x y (pairs_text form xs ++ rest) (pairs_text form ys) h.0 g.0 (sym (append_assoc (big_bytes 8 x.0 ++ spelled form x.1) (pairs_text form xs) rest) ∙ e) in
    let more = begins form xs ys rest h.1 g.1 (omega (arith, le)) pair.1 in
    record { others = more.others; is = λ i. sym pair.0 i ∷ more.is i; rest_is = more.rest_is }

stored_ones : (form : Form) (s : Store) (cells : List NumberedCell) → s.to < 2 ^ 48 → AllByRecursion (IsStoredCell s) cells → AllByRecursion (λ x. HasForm form x.1) cells → AllByRecursion (IsOne form) cells
stored_ones form s [] limit h fits = tt
stored_ones form s (x ∷ xs) limit h fits = (record { cell = fits.0; number = omega (arith, h.0.to, limit) }, stored_ones form s xs limit h.1 fits.1)

pub standing_ones : (form : Form) (family : List ℕ) (from to : ℕ) (cells : List NumberedCell) → to < 2 ^ 48 → AllByRecursion (IsPair form family from to) cells → AllByRecursion (IsOne form) cells
standing_ones form family from to [] limit h = tt
standing_ones form family from to (x ∷ xs) limit h = (record { cell = h.0.cell; number = omega (arith, h.0.high, limit) }, standing_ones form family from to xs limit h.1)

-- those that stand at the front of a store's text are the first of its cells
first_cells : (form : Form) (r : ℕ) (bytes rest : List ℕ) (s : Store) (cells : List NumberedCell) → IsStore s → FitsForm form s → Says form r bytes s → StandsAs form bytes cells rest → length cells ≤ length s.cells → Begins form cells s.cells rest
first_cells form r bytes rest s cells store fits said stands le =
    begins form cells s.cells rest (standing_ones form (family_in form bytes) (number_at (numbers_in form bytes) 8 bytes) (number_at (numbers_in form bytes + 8) 8 bytes) cells (omega (arith, said.to, store.limit)) stands.each)
    (stored_ones form s s.cells store.limit store.each fits.each) le
    (sym stands.is ∙ said.pairs)

first_stored : (form : Form) (family : List ℕ) (from to : ℕ) (s : Store) (xs ys : List NumberedCell) → family ≡ s.family → from ≡ s.from → to ≡ s.to → AllByRecursion (IsStoredCell s) (xs ++ ys) → AllByRecursion (λ x. HasForm form x.1) (xs ++ ys)
    → AllByRecursion (IsPair form family from to) xs
first_stored form family from to s [] ys g f t h fits = tt
first_stored form family from to s (x ∷ xs) ys g f t h fits =
    (record { cell = fits.0; family_is = λ some. h.0.family (λ none. some (g ∙ none)) ∙ sym g; low = omega (arith, f, h.0.from); high = omega (arith, t, h.0.to) }, first_stored form family from to s xs ys g f t h.1 fits.1)

-- the first of a store's cells stand there
stands_first : (form : Form) (r : ℕ) (bytes : List ℕ) (s : Store) (xs ys : List NumberedCell) → IsStore s → FitsForm form s → Says form r bytes s → s.cells ≡ xs ++ ys → StandsAs form bytes xs (pairs_text form ys)
stands_first form r bytes s xs ys store fits said is = record {
  is = said.pairs ∙ ap (pairs_text form) is ∙ flat_map-append (λ (x : NumberedCell). big_bytes 8 x.0 ++ spelled form x.1) xs ys;
  each = first_stored form (family_in form bytes) (number_at (numbers_in form bytes) 8 bytes) (number_at (numbers_in form bytes + 8) 8 bytes) s xs ys said.family said.from said.to (subst (AllByRecursion (IsStoredCell s)) is store.each)
      (subst (AllByRecursion (λ (x : NumberedCell). HasForm form x.1)) is fits.each);
  rising = rising_front xs ys (subst IsRising is store.rising);
}

-- a further one stands after them
next_stands : (form : Form) (r : ℕ) (bytes : List ℕ) (s : Store) (cells others : List NumberedCell) → IsStore s → FitsForm form s → Says form r bytes s → s.cells ≡ cells ++ others → length cells < length s.cells
    → ((next : NumberedCell) (more : List ℕ) → StandsAs form bytes (cells ++ next ∷ []) more → ⊥) → ⊥
next_stands form r bytes s cells [] store fits said is lt none = omega (arith, lt, ap length is, length-append cells [])
next_stands form r bytes s cells (x ∷ xs) store fits said is lt none =
    none x (pairs_text form xs) (stands_first form r bytes s (cells ++ x ∷ []) xs store fits said (is ∙ sym (append_assoc cells (x ∷ []) xs)))

-- none is left behind all
none_left : (form : Form) (rest : List ℕ) (cells all others : List NumberedCell) → all ≡ cells ++ others → rest ≡ pairs_text form others → length cells ≡ length all → 0 < length rest → ⊥
none_left form rest cells all [] is rest_is same more = omega (arith, more, ap length rest_is)
none_left form rest cells all (x ∷ xs) is rest_is same more = omega (arith, same, ap length is, length-append cells (x ∷ xs))

pair_right : (form : Form) (r : ℕ) (bytes rest : List ℕ) (s : Store) (cells : List NumberedCell) → IsStore s → FitsForm form s → Says form r bytes s → StandsAs form bytes cells rest → length cells < count_in form bytes
    → ((next : NumberedCell) (more : List ℕ) → StandsAs form bytes (cells ++ next ∷ []) more → ⊥) → ⊥
pair_right form r bytes rest s cells store fits said stands fewer none =
    let lt : length cells < length s.cells = omega (arith, fewer, said.count) in
    let first = first_cells form r bytes rest s cells store fits said stands (omega (arith, lt)) in
    next_stands form r bytes s cells first.others store fits said first.is lt none

behind_right : (form : Form) (r : ℕ) (bytes rest : List ℕ) (s : Store) (cells : List NumberedCell) → IsStore s → FitsForm form s → Says form r bytes s → StandsAs form bytes cells rest → length cells ≡ count_in form bytes → 0 < length rest → ⊥
behind_right form r bytes rest s cells store fits said stands counted more =
    let all : length cells ≡ length s.cells = counted ∙ said.count in
    let first = first_cells form r bytes rest s cells store fits said stands (omega (arith, all)) in
    none_left form rest cells s.cells first.others first.is first.rest_is all more

pub not_damaged : (r : ℕ) (bytes : List ℕ) (s : Store) (at : ℕ) → length bytes < 2 ^ 64 → IsStoreText r bytes s → IsStoreDamaged r bytes at → ⊥
not_damaged r bytes s at small h (Field there wrong) = let right : field_fault r bytes ≡ None = (says h.form r bytes s small h.store h.fits h.region h.is).right in absurd cc
not_damaged r bytes s at small h (Pair there right cells rest stands fewer none place) =
    let said = says h.form r bytes s small h.store h.fits h.region h.is in
    subst (λ (f : Form). StandsAs f bytes cells rest → length cells < count_in f bytes → ((next : NumberedCell) (more : List ℕ) → StandsAs f bytes (cells ++ next ∷ []) more → ⊥) → ⊥)
    (sym said.form_is) (pair_right h.form r bytes rest s cells h.store h.fits said) stands fewer none
not_damaged r bytes s at small h (Behind there right cells rest stands counted more place) =
    let said = says h.form r bytes s small h.store h.fits h.region h.is in
    subst (λ (f : Form). StandsAs f bytes cells rest → length cells ≡ count_in f bytes → 0 < length rest → ⊥)
    (sym said.form_is) (behind_right h.form r bytes rest s cells h.store h.fits said) stands counted more
