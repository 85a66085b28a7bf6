-- Cells that are looked at one after the other where they stand.
use Rattle.std.proofs.Common.{◌≡◌, ℕ, zero, suc, ◌+◌, ◌<◌, List, [], ◌∷◌, ◌++◌, length, drop, Bool, true, false, refl, sym, ap, ◌∙◌, arith, subst}
use Rattle.std.specs.Prelude.{◌||◌}
use Rattle.std.specs.List.{flat_map, list_any, AllByRecursion}
use Rattle.std.proofs.lemmas.List.{append_assoc}
use Rattle.cell_model.specs.Cell.{Cell, HasForm, spelled, spelled_length, Fronts}
use Rattle.cell_model.specs.declared.form.Form.{Form}
use Rattle.cell_model.proofs.CellLaws.{one_front}
use Rattle.entry_frame.proofs.OwnLaws.{copy_next}

-- of the cells that stand in the bytes none of so many passes the test, and the others stand in the rest
abbrev pub Walked : (Cell → Bool) → Form → List ℕ → ℕ → List ℕ → ℕ → Type 0
Walked p form bytes count rest n = (cs : List Cell) → length cs ≡ count → AllByRecursion (HasForm form) cs → bytes ≡ flat_map (spelled form) cs ++ []
    → (rest ≡ flat_map (spelled form) (drop n cs) ++ []) × (list_any p cs ≡ list_any p (drop n cs))

-- the next one is the first of the others
pub any_next : (p : Cell → Bool) (form : Form) (cs : List Cell) (n : ℕ) (d : Cell) (rest : List ℕ) → n < length cs → AllByRecursion (HasForm form) cs → rest ≡ flat_map (spelled form) (drop n cs) ++ [] → Fronts form rest d
    → list_any p (drop n cs) ≡ (p d || list_any p (drop (suc n) cs))
any_next p form [] n d rest lt all same f = absurd (omega arith)
any_next p form (c ∷ cs) zero d rest lt all same f =
    let here : rest ≡ spelled form c ++ (flat_map (spelled form) cs ++ []) = same ∙ append_assoc (spelled form c) (flat_map (spelled form) cs) [] in
    let one : d ≡ c = one_front form rest d c f (record { cell = all.0; rest = flat_map (spelled form) cs ++ []; is = here }) in
    ap (λ (x : Cell). p x || list_any p cs) (sym one)
any_next p form (c ∷ cs) (suc n) d rest lt all same f = any_next p form cs n d rest (omega arith) all.1 same f

pub walked_more : (p : Cell → Bool) (form : Form) (bytes : List ℕ) (count : ℕ) (rest : List ℕ) (n : ℕ) (d : Cell) → Walked p form bytes count rest n → n < count → Fronts form rest d → p d ≡ false
    → Walked p form bytes count (drop (spelled_length form d) rest) (n + 1)
walked_more p form bytes count rest n d h lt f passes = λ cs size all is.
    let now = h cs size all is in
    let one : suc n ≡ n + 1 = omega arith in
    let below : n < length cs = omega (arith, lt, size) in (
      (copy_next form cs n d rest below all now.0 f).1 ∙ ap (λ (k : ℕ). flat_map (spelled form) (drop k cs) ++ []) one,
      now.1 ∙ any_next p form cs n d rest below all now.0 f ∙ ap (λ (b : Bool). b || list_any p (drop (suc n) cs)) passes ∙ ap (λ (k : ℕ). list_any p (drop k cs)) one,
    )

pub walked_found : (p : Cell → Bool) (form : Form) (bytes : List ℕ) (count : ℕ) (rest : List ℕ) (n : ℕ) (d : Cell) → Walked p form bytes count rest n → n < count → Fronts form rest d → p d ≡ true
    → (cs : List Cell) → length cs ≡ count → AllByRecursion (HasForm form) cs → bytes ≡ flat_map (spelled form) cs ++ [] → true ≡ list_any p cs
walked_found p form bytes count rest n d h lt f passes cs size all is =
    let now = h cs size all is in
    sym (now.1 ∙ any_next p form cs n d rest (omega (arith, lt, size)) all now.0 f ∙ ap (λ (b : Bool). b || list_any p (drop (suc n) cs)) passes)

any_none : (p : Cell → Bool) (cs : List Cell) → list_any p (drop (length cs) cs) ≡ false
any_none p [] = refl
any_none p (c ∷ cs) = any_none p cs

pub walked_all : (p : Cell → Bool) (form : Form) (bytes : List ℕ) (count : ℕ) (rest : List ℕ) (n : ℕ) → Walked p form bytes count rest n → n ≡ count
    → (cs : List Cell) → length cs ≡ count → AllByRecursion (HasForm form) cs → bytes ≡ flat_map (spelled form) cs ++ [] → false ≡ list_any p cs
walked_all p form bytes count rest n h end cs size all is = sym ((h cs size all is).1 ∙ ap (λ (k : ℕ). list_any p (drop k cs)) (end ∙ sym size) ∙ any_none p cs)
