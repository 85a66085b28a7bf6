-- What is damaged of a store is damaged at one place.
use Rattle.std.specs.Prelude.{◌≡◌, ℕ, ◌+◌, ◌<◌, ◌^◌, List, [], ◌∷◌, ◌++◌, length, slice_index, Some, None}
use Rattle.std.proofs.Common.{refl, sym, ap, ◌∙◌, subst, arith, append_assoc, length-append}
use Rattle.std.proofs.lemmas.Bool.Decides.{nat_tests}
use Rattle.std.proofs.lemmas.List.Concat.{flat_map-append}
use Rattle.std.specs.List.{AllByRecursion}
use Rattle.byteorder.specs.Endian.{big_bytes}
use Rattle.cell_model.specs.Cell.{spelled, number_at}
use Rattle.cell_model.specs.declared.form.Form.{Form}
use Rattle.cell_model.specs.declared.form.Form.TheVariants.{Plain, Tagged}
use Rattle.cell_model.specs.Order.{NumberedCell}
use Rattle.log_model.specs.StoreText.{pairs_text, form_at, family_in, numbers_in, count_in, place_in, field_fault, IsPair, StandsAs, IsStoreDamaged}
use Rattle.log_model.specs.StoreText.IsStoreDamaged.{Field, Pair, Behind}
use Rattle.store_file.specs.Reading.{NoneIsNext}
use Rattle.log_model.proofs.StoreFields.{field_fault_as, code_of, fault_in}
use Rattle.log_model.proofs.Rises.{rising_front}
use Rattle.log_model.proofs.StoreLaws.{IsOne, same_pair, standing_ones}

abbrev pair_text : Form → NumberedCell → List ℕ
pair_text form x = big_bytes 8 x.0 ++ spelled form x.1

-- one list begins the other
data Sides (xs ys : List NumberedCell) : Type 0 where
  Same : xs ≡ ys → Sides xs ys
  Left : (z : NumberedCell) (zs : List NumberedCell) → ys ≡ xs ++ z ∷ zs → Sides xs ys
  Right : (z : NumberedCell) (zs : List NumberedCell) → xs ≡ ys ++ z ∷ zs → Sides xs ys

behind : (x y : NumberedCell) (xs ys : List NumberedCell) → x ≡ y → Sides xs ys → Sides (x ∷ xs) (y ∷ ys)
behind x y xs ys e (Same s) = Same (λ i. e i ∷ s i)
behind x y xs ys e (Left z zs is) = Left z zs (λ i. sym e i ∷ is i)
behind x y xs ys e (Right z zs is) = Right z zs (λ i. e i ∷ is i)

sides : (form : Form) (xs ys : List NumberedCell) (a b : List ℕ) → AllByRecursion (IsOne form) xs → AllByRecursion (IsOne form) ys → pairs_text form xs ++ a ≡ pairs_text form ys ++ b → Sides xs ys
sides form [] [] a b h g e = Same refl
sides form [] (y ∷ ys) a b h g e = Left y ys refl
sides form (x ∷ xs) [] a b h g e = Right x xs refl
sides form (x ∷ xs) (y ∷ ys) a b h g e =
    let pair = same_pair form x y (pairs_text form xs ++ a) (pairs_text form ys ++ b) h.0 g.0 (sym (append_assoc (pair_text form x) (pairs_text form xs) a) ∙ e ∙ append_assoc (pair_text form y) (pairs_text form ys) b) in
    behind x y xs ys pair.0 (sides form xs ys a b h.1 g.1 pair.1)

all_front : (P : NumberedCell → Type 0) (xs ys : List NumberedCell) → AllByRecursion P (xs ++ ys) → AllByRecursion P xs
all_front P [] ys h = tt
all_front P (x ∷ xs) ys h = (h.0, all_front P xs ys h.1)

-- the first of the cells that stand there stand there
cut_stands : (form : Form) (bytes : List ℕ) (xs zs : List NumberedCell) (b : List ℕ) → StandsAs form bytes (xs ++ zs) b → StandsAs form bytes xs (pairs_text form zs ++ b)
cut_stands form bytes xs zs b h = record {
  is = h.is ∙ ap (λ (l : List ℕ). l ++ b) (flat_map-append (λ (x : NumberedCell). big_bytes 8 x.0 ++ spelled form x.1) xs zs) ∙ append_assoc (pairs_text form xs) (pairs_text form zs) b;
  each = all_front (IsPair form (family_in form bytes) (number_at (numbers_in form bytes) 8 bytes) (number_at (numbers_in form bytes + 8) 8 bytes)) xs zs h.each;
  rising = rising_front xs zs h.rising;
}

next_there : (form : Form) (bytes : List ℕ) (xs ys : List NumberedCell) (z : NumberedCell) (zs : List NumberedCell) (b : List ℕ) → ys ≡ xs ++ z ∷ zs → StandsAs form bytes ys b → NoneIsNext form bytes xs → ⊥
next_there form bytes xs ys z zs b is stands none =
    none z (pairs_text form zs ++ b) (cut_stands form bytes (xs ++ z ∷ []) zs b (subst (λ (l : List NumberedCell). StandsAs form bytes l b) (is ∙ sym (append_assoc xs (z ∷ []) zs)) stands))

limit_of : (form : Form) (n word magic region r scope family at from to : ℕ) → fault_in form n word magic region r scope family at from to ≡ None → to < 2 ^ 48
limit_of Plain n word magic region r scope family at from to none = grind (arith, nat_tests)
limit_of Tagged n word magic region r scope family at from to none = grind (arith, nat_tests)

limit : (form : Form) (r : ℕ) (bytes : List ℕ) → form_at bytes ≡ form → field_fault r bytes ≡ None → number_at (numbers_in form bytes + 8) 8 bytes < 2 ^ 48
limit form r bytes is none = limit_of form (length bytes) (number_at 1 4 bytes) (code_of form) (number_at 5 4 bytes) r (slice_index bytes 9) (slice_index bytes 10) (numbers_in form bytes) (number_at (numbers_in form bytes) 8 bytes)
    (number_at (numbers_in form bytes + 8) 8 bytes) (sym (field_fault_as form r bytes is) ∙ none)

both_stand : (form : Form) (r : ℕ) (bytes : List ℕ) (xs ys : List NumberedCell) (a b : List ℕ) → form_at bytes ≡ form → field_fault r bytes ≡ None → StandsAs form bytes xs a → StandsAs form bytes ys b → Sides xs ys
both_stand form r bytes xs ys a b is right sx sy =
    let to = limit form r bytes is right in
    let low : ℕ = number_at (numbers_in form bytes) 8 bytes in
    let high : ℕ = number_at (numbers_in form bytes + 8) 8 bytes in
    sides form xs ys a b (standing_ones form (family_in form bytes) low high xs to sx.each) (standing_ones form (family_in form bytes) low high ys to sy.each) (sym sx.is ∙ sy.is)

ends_alike : (form : Form) (bytes : List ℕ) (xs ys : List NumberedCell) (m n : ℕ) → xs ≡ ys → m ≡ place_in form bytes xs → n ≡ place_in form bytes ys → m ≡ n
ends_alike form bytes xs ys m n same hm hn = hm ∙ ap (place_in form bytes) same ∙ sym hn

longer : (xs ys : List NumberedCell) (z : NumberedCell) (zs : List NumberedCell) → ys ≡ xs ++ z ∷ zs → length xs < length ys
longer xs ys z zs is = omega (arith, ap length is, length-append xs (z ∷ zs))

two_pairs : (form : Form) (bytes : List ℕ) (xs ys : List NumberedCell) (a b : List ℕ) → Sides xs ys → StandsAs form bytes xs a → StandsAs form bytes ys b → NoneIsNext form bytes xs → NoneIsNext form bytes ys → xs ≡ ys
two_pairs form bytes xs ys a b (Same s) sx sy nx ny = s
two_pairs form bytes xs ys a b (Left z zs is) sx sy nx ny = absurd (next_there form bytes xs ys z zs b is sy nx)
two_pairs form bytes xs ys a b (Right z zs is) sx sy nx ny = absurd (next_there form bytes ys xs z zs a is sx ny)

-- no further pair stands after fewer than are counted, and as many stand elsewhere
not_both : (form : Form) (bytes : List ℕ) (n : ℕ) (xs ys : List NumberedCell) (b : List ℕ) → Sides xs ys → StandsAs form bytes ys b → NoneIsNext form bytes xs → length xs < n → length ys ≡ n → ⊥
not_both form bytes n xs ys b (Same s) sy nx lt all = omega (arith, lt, all, ap length s)
not_both form bytes n xs ys b (Left z zs is) sy nx lt all = next_there form bytes xs ys z zs b is sy nx
not_both form bytes n xs ys b (Right z zs is) sy nx lt all = omega (arith, lt, all, longer ys xs z zs is)

as_many : (n : ℕ) (xs ys : List NumberedCell) → Sides xs ys → length xs ≡ n → length ys ≡ n → xs ≡ ys
as_many n xs ys (Same s) hx hy = s
as_many n xs ys (Left z zs is) hx hy = absurd (omega (arith, hx, hy, longer xs ys z zs is))
as_many n xs ys (Right z zs is) hx hy = absurd (omega (arith, hx, hy, longer ys xs z zs is))

pub one_place : (r : ℕ) (bytes : List ℕ) (m n : ℕ) → IsStoreDamaged r bytes m → IsStoreDamaged r bytes n → m ≡ n
one_place r bytes m n (Field there wrong) (Field also worse) = let same : Some m ≡ Some n = sym wrong ∙ worse in cc (same)
one_place r bytes m n (Field there wrong) (Pair also right ys b sy fewer none place) = absurd (cc (wrong, right))
one_place r bytes m n (Field there wrong) (Behind also right ys b sy counted more place) = absurd (cc (wrong, right))
one_place r bytes m n (Pair there right xs a sx fewer none place) (Field also wrong) = absurd (cc (wrong, right))
one_place r bytes m n (Behind there right xs a sx counted more place) (Field also wrong) = absurd (cc (wrong, right))
one_place r bytes m n (Pair there right xs a sx fewer none place) (Pair also _ ys b sy fewer2 none2 place2) =
    ends_alike (form_at bytes) bytes xs ys m n (two_pairs (form_at bytes) bytes xs ys a b (both_stand (form_at bytes) r bytes xs ys a b refl right sx sy) sx sy none none2) place place2
one_place r bytes m n (Pair there right xs a sx fewer none place) (Behind also _ ys b sy counted more place2) =
    absurd (not_both (form_at bytes) bytes (count_in (form_at bytes) bytes) xs ys b (both_stand (form_at bytes) r bytes xs ys a b refl right sx sy) sy none fewer counted)
one_place r bytes m n (Behind there right xs a sx counted more place) (Pair also _ ys b sy fewer none place2) =
    absurd (not_both (form_at bytes) bytes (count_in (form_at bytes) bytes) ys xs a (both_stand (form_at bytes) r bytes ys xs b a refl right sy sx) sx none fewer counted)
one_place r bytes m n (Behind there right xs a sx counted more place) (Behind also _ ys b sy counted2 more2 place2) =
    ends_alike (form_at bytes) bytes xs ys m n (as_many (count_in (form_at bytes) bytes) xs ys (both_stand (form_at bytes) r bytes xs ys a b refl right sx sy) counted counted2) place place2
