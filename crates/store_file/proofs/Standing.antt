-- Pairs that stand after the fields, one after the other.
use Rattle.std.specs.Prelude.{◌≡◌, ℕ, ◌+◌, ◌≤◌, List, [], ◌∷◌, ◌++◌, length, drop}
use Rattle.std.proofs.Common.{refl, sym, ap, ◌∙◌, subst, arith, append_assoc, length-append}
use Rattle.std.proofs.lemmas.List.{append-nil, drop_at, drop-drop, length-drop}
use Rattle.std.proofs.lemmas.List.Concat.{flat_map-append}
use Rattle.std.specs.List.{AllByRecursion}
use Rattle.byteorder.specs.Endian.{big_bytes}
use Rattle.cell_model.specs.Cell.{spelled, number_at}
use Rattle.cell_model.specs.declared.form.Form.{Form}
use Rattle.cell_model.specs.Order.{NumberedCell}
use Rattle.cell_model.specs.Merge.{IsRising}
use Rattle.log_model.specs.StoreText.{IsPair, StandsAs, family_in, numbers_in, pairs_text}
use Rattle.store_file.specs.Reading.{AreFields, FrontsPair, StandsUpTo, NoneIsNext}
use Rattle.store_file.proofs.Pairs.{one_pair}

abbrev pair_text : Form → NumberedCell → List ℕ
pair_text form x = big_bytes 8 x.0 ++ spelled form x.1

all_last : (P : NumberedCell → Type 0) (xs : List NumberedCell) (x : NumberedCell) → AllByRecursion P (xs ++ x ∷ []) → P x
all_last P [] x h = h.0
all_last P (y ∷ ys) x h = all_last P ys x h.1

all_push : (P : NumberedCell → Type 0) (xs : List NumberedCell) (x : NumberedCell) → AllByRecursion P xs → P x → AllByRecursion P (xs ++ x ∷ [])
all_push P [] x h is = (is, tt)
all_push P (y ∷ ys) x h is = (h.0, all_push P ys x h.1 is)

one_more : (form : Form) (cells : List NumberedCell) (x : NumberedCell) (rest : List ℕ) → pairs_text form (cells ++ x ∷ []) ++ rest ≡ pairs_text form cells ++ (pair_text form x ++ rest)
one_more form cells x rest =
    ap (λ (t : List ℕ). t ++ rest) (flat_map-append (pair_text form) cells (x ∷ []) ∙ ap (λ (t : List ℕ). pairs_text form cells ++ t) (append-nil (pair_text form x)))
    ∙ append_assoc (pairs_text form cells) (pair_text form x) rest

-- where the last of them ends
pub place_of : (form : Form) (bytes : List ℕ) (cells : List NumberedCell) (at : ℕ) → numbers_in form bytes + 24 ≤ length bytes → StandsUpTo form bytes cells at → at ≡ numbers_in form bytes + 24 + length (pairs_text form cells)
place_of form bytes cells at le s = omega (arith, s.within, le, ap length s.stands.is, length-append (pairs_text form cells) (drop at bytes), length-drop (numbers_in form bytes + 24) bytes, length-drop at bytes)

-- a pair at that place is one more, if its cell is behind them
pub one_taken : (form : Form) (family bytes : List ℕ) (cells : List NumberedCell) (at from to count k : ℕ) (x : NumberedCell) → AreFields form bytes from to count → family ≡ family_in form bytes → StandsUpTo form bytes cells at
    → k ≤ length (drop at bytes) → FrontsPair form family from to (drop at bytes) x (drop k (drop at bytes)) → IsRising (cells ++ x ∷ []) → StandsUpTo form bytes (cells ++ x ∷ []) (at + k)
one_taken form family bytes cells at from to count k x fields of s le pair rising = record {
  within = omega (arith, le, s.within, length-drop at bytes);
  stands = record {
    is = s.stands.is ∙ ap (λ (t : List ℕ). pairs_text form cells ++ t) pair.is ∙ sym (one_more form cells x (drop k (drop at bytes))) ∙ ap (λ (t : List ℕ). pairs_text form (cells ++ x ∷ []) ++ t) (drop-drop k at bytes);
    each = all_push (IsPair form (family_in form bytes) (number_at (numbers_in form bytes) 8 bytes) (number_at (numbers_in form bytes + 8) 8 bytes)) cells x s.stands.each (record { cell = pair.cell; family_is = λ some. pair.family_is (λ none. some (sym of ∙ none)) ∙ of; low = omega (arith, fields.from_is, pair.from_le); high = omega (arith, fields.to_is, pair.to_le) });
    rising = rising;
  };
}

-- the next one is a pair at that place
next_fronts : (form : Form) (family bytes : List ℕ) (cells : List NumberedCell) (at from to count : ℕ) (x : NumberedCell) (rest : List ℕ)
    → AreFields form bytes from to count → family ≡ family_in form bytes → StandsUpTo form bytes cells at → StandsAs form bytes (cells ++ x ∷ []) rest → FrontsPair form family from to (drop at bytes) x rest
next_fronts form family bytes cells at from to count x rest fields of s next =
    let last = all_last (IsPair form (family_in form bytes) (number_at (numbers_in form bytes) 8 bytes) (number_at (numbers_in form bytes + 8) 8 bytes)) cells x next.each in
    let same : pairs_text form cells ++ drop at bytes ≡ pairs_text form cells ++ (pair_text form x ++ rest) = sym s.stands.is ∙ next.is ∙ one_more form cells x rest in
    record {
      cell = last.cell;
      family_is = λ some. last.family_is (λ none. some (of ∙ none)) ∙ sym of;
      from_le = omega (arith, fields.from_is, last.low);
      to_le = omega (arith, fields.to_is, last.high);
      is = sym (drop_at (pairs_text form cells) (drop at bytes) (length (pairs_text form cells)) refl) ∙ ap (drop (length (pairs_text form cells))) same
          ∙ drop_at (pairs_text form cells) (pair_text form x ++ rest) (length (pairs_text form cells)) refl;
    }

-- no pair is there, so none is next
pub none_there : (form : Form) (family bytes : List ℕ) (cells : List NumberedCell) (at from to count : ℕ) → AreFields form bytes from to count → family ≡ family_in form bytes → StandsUpTo form bytes cells at
    → ((x : NumberedCell) (rest : List ℕ) → FrontsPair form family from to (drop at bytes) x rest → ⊥) → NoneIsNext form bytes cells
none_there form family bytes cells at from to count fields of s none next more stands = none next more (next_fronts form family bytes cells at from to count next more fields of s stands)

-- the pair that is there isn't after them, so none is next
pub none_behind : (form : Form) (family bytes : List ℕ) (cells : List NumberedCell) (at from to count : ℕ) (x : NumberedCell) (rest : List ℕ) → AreFields form bytes from to count → family ≡ family_in form bytes → StandsUpTo form bytes cells at
    → FrontsPair form family from to (drop at bytes) x rest → (IsRising (cells ++ x ∷ []) → ⊥) → NoneIsNext form bytes cells
none_behind form family bytes cells at from to count x rest fields of s pair apart next more stands =
    let same : next ≡ x = one_pair form family from to (drop at bytes) next x more rest fields.limit (next_fronts form family bytes cells at from to count next more fields of s stands) pair in
    apart (subst (λ (y : NumberedCell). IsRising (cells ++ y ∷ [])) same stands.rising)
