-- A sequence id and a cell at the front of bytes.
use Rattle.std.specs.Prelude.{◌≡◌, ◌≢◌, ℕ, ◌+◌, ◌<◌, ◌≤◌, ◌^◌, List, [], ◌++◌, length, drop}
use Rattle.std.proofs.Common.{refl, sym, ap, ◌∙◌, arith, append_assoc, length-append}
use Rattle.std.proofs.lemmas.List.{length-drop}
use Rattle.byteorder.specs.Endian.{big_bytes}
use Rattle.cell_model.specs.Cell.{Cell, spelled, spelled_length, Fronts, number_at}
use Rattle.cell_model.specs.declared.form.Form.{Form}
use Rattle.cell_model.specs.Order.{NumberedCell}
use Rattle.cell_model.proofs.CellLaws.{IsBytes, number_part_8, number_is, one_front, after, length-spelled}
use Rattle.store_file.specs.Reading.{FrontsPair}

parts : (form : Form) (family : List ℕ) (from to : ℕ) (bytes : List ℕ) (x : NumberedCell) (rest : List ℕ) → FrontsPair form family from to bytes x rest → bytes ≡ big_bytes 8 x.0 ++ (spelled form x.1 ++ rest)
parts form family from to bytes x rest p = p.is ∙ append_assoc (big_bytes 8 x.0) (spelled form x.1) rest

pub number_of : (form : Form) (family : List ℕ) (from to : ℕ) (bytes : List ℕ) (x : NumberedCell) (rest : List ℕ) → to < 2 ^ 64 → FrontsPair form family from to bytes x rest → number_at 0 8 bytes ≡ x.0
number_of form family from to bytes x rest small p = number_is 8 0 x.0 bytes (spelled form x.1 ++ rest) (parts form family from to bytes x rest p) (omega (arith, p.to_le, small))

pub cell_of : (form : Form) (family : List ℕ) (from to : ℕ) (bytes : List ℕ) (x : NumberedCell) (rest : List ℕ) → FrontsPair form family from to bytes x rest → Fronts form (drop 8 bytes) x.1
cell_of form family from to bytes x rest p = record { cell = p.cell; rest = rest; is = ap (drop 8) (parts form family from to bytes x rest p) }

-- two pairs at one front are one
pub one_pair : (form : Form) (family : List ℕ) (from to : ℕ) (bytes : List ℕ) (x y : NumberedCell) (rest more : List ℕ) → to < 2 ^ 48 → FrontsPair form family from to bytes x rest → FrontsPair form family from to bytes y more → x ≡ y
one_pair form family from to bytes x y rest more small p q =
    let number : x.0 ≡ y.0 = sym (number_of form family from to bytes x rest (omega arith) p) ∙ number_of form family from to bytes y more (omega arith) q in
    let cell : x.1 ≡ y.1 = one_front form (drop 8 bytes) x.1 y.1 (cell_of form family from to bytes x rest p) (cell_of form family from to bytes y more q) in
    λ i. (number i, cell i)

pub pair_from : (form : Form) (family : List ℕ) (from to : ℕ) (bytes : List ℕ) (n : ℕ) (c : Cell) (k : ℕ) → IsBytes bytes → 8 ≤ length bytes → n ≡ number_at 0 8 bytes → from ≤ n → n ≤ to → Fronts form (drop 8 bytes) c → (family ≢ [] → c.family ≡ family) → k ≡ spelled_length form c
    → (8 + k ≤ length bytes) × FrontsPair form family from to bytes (n, c) (drop (8 + k) bytes)
pair_from form family from to bytes n c k fits le number low high fronts of len =
    let wide : length (spelled form c) ≡ k = length-spelled form c ∙ sym len in
    let rest : drop (8 + k) bytes ≡ fronts.rest = after 8 k (8 + k) bytes (spelled form c) fronts.rest fronts.is wide refl in
    let part : length (drop 8 bytes) ≡ length (spelled form c ++ fronts.rest) = ap length fronts.is in (
      omega (arith, part, length-append (spelled form c) fronts.rest, length-drop 8 bytes, wide, le),
      record {
        cell = fronts.cell;
        family_is = of;
        from_le = low;
        to_le = high;
        is = number_part_8 0 bytes fits le ∙ (λ i. big_bytes 8 (sym number i) ++ fronts.is i) ∙ sym (append_assoc (big_bytes 8 n) (spelled form c) fronts.rest)
            ∙ ap (λ (r : List ℕ). (big_bytes 8 n ++ spelled form c) ++ r) (sym rest);
      },
    )
