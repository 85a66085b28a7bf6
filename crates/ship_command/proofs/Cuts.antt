-- A sink that failed within a text has a beginning of it.
use Rattle.std.proofs.Common.{◌≡◌, ℕ, zero, suc, ◌<◌, List, [], ◌∷◌, ◌++◌, length, take, get_or, codes, refl, sym, ap, ◌∙◌, append_assoc, append-nil, arith}
use Rattle.std.specs.Fmt.{decimal}
use Rattle.std.specs.List.{flat_map}
use Rattle.cell_model.specs.Cell.{Cell}
use Rattle.script_model.specs.Report.{cell_line, kind_name}
use Rattle.script_model.specs.Outputs.{table_line}
use Rattle.script_model.specs.Text.{printed}
use Rattle.report_text.specs.Texts.{columns_text, stamp_text, tags_text}
use Rattle.report_text.proofs.LineLaws.{cell_appended}
use Rattle.chronicle_model.specs.Chronicle.{Placed, Position}
use Rattle.command_base.specs.Prints.{Prints}
use Rattle.ship_command.specs.Sinks.{ship_line, position_line, IsCutIn}

-- more was to come
pub cut_here : {now before : List ℕ} (text more : List ℕ) → IsCutIn now before text → IsCutIn now before (text ++ more)
cut_here {now} {before} text more c = record {
  rest = c.rest ++ more;
  is = sym (append_assoc before text more) ∙ ap (λ (l : List ℕ). l ++ more) c.is ∙ append_assoc now c.rest more;
}

-- something came before
pub cut_then : {now before mid : List ℕ} (first text : List ℕ) → mid ≡ before ++ first → IsCutIn now mid text → IsCutIn now before (first ++ text)
cut_then {now} {before} {mid} first text went c = record {
  rest = c.rest;
  is = sym (append_assoc before first text) ∙ ap (λ (l : List ℕ). l ++ text) (sym went) ∙ c.is;
}

-- what was held was to go first
pub cut_held : {now before held text : List ℕ} → IsCutIn now before held → IsCutIn now (before ++ held) text
cut_held {now} {before} {held} {text} c = record {
  rest = c.rest ++ text;
  is = ap (λ (l : List ℕ). l ++ text) c.is ∙ append_assoc now c.rest text;
}

-- the same text
pub cut_as : {now before text other : List ℕ} → text ≡ other → IsCutIn now before text → IsCutIn now before other
cut_as {now} {before} {text} {other} same c = record { rest = c.rest; is = ap (λ (l : List ℕ). before ++ l) (sym same) ∙ c.is }

-- the same, where the first text is to be found
pub cut_to : {now before text other : List ℕ} → IsCutIn now before text → text ≡ other → IsCutIn now before other
cut_to {now} {before} {text} {other} c same = cut_as same c

pub cut_from : {now before mid text : List ℕ} → mid ≡ before → IsCutIn now mid text → IsCutIn now before text
cut_from {now} {before} {mid} {text} same c = record { rest = c.rest; is = ap (λ (l : List ℕ). l ++ text) (sym same) ∙ c.is }

pub cut_of : {before now text : List ℕ} {cut : Type 0} → Prints before now text cut → IsCutIn now before text
cut_of {before} {now} {text} p = record {
  rest = p.begins.0;
  is = ap (λ (l : List ℕ). before ++ l) p.begins.1 ∙ sym (append_assoc before p.front p.begins.0) ∙ ap (λ (l : List ℕ). l ++ p.begins.0) (sym p.is);
}

-- nothing was held before
pub cut_begun : {now before held text : List ℕ} → held ≡ [] → IsCutIn now (before ++ held) text → IsCutIn now before text
cut_begun {now} {before} {held} {text} none c = record {
  rest = c.rest;
  is = ap (λ (l : List ℕ). l ++ text) (sym (append-nil before) ∙ ap (λ (l : List ℕ). before ++ l) (sym none)) ∙ c.is;
}

-- what is held, last
pub cut_sent : {now took held before text : List ℕ} → took ++ held ≡ before ++ text → IsCutIn now took held → IsCutIn now before text
cut_sent {now} {took} {held} {before} {text} went c = record { rest = c.rest; is = sym went ∙ c.is }

-- two texts, one after the other
pub went_on : (before first text : List ℕ) {mid now : List ℕ} → mid ≡ before ++ first → now ≡ mid ++ text → now ≡ before ++ (first ++ text)
went_on before first text a b = b ∙ ap (λ (l : List ℕ). l ++ text) a ∙ append_assoc before first text

-- ---- texts

-- of a list of parts, at one of them: something comes after it
pub parts_at : {A : Type 0} → (f : A → List ℕ) (xs : List A) (j : ℕ) (x none : A) → j < length xs → x ≡ get_or xs j none
    → (rest : List ℕ) × (flat_map f (take j xs) ++ (f x ++ rest) ≡ flat_map f xs)
parts_at f [] j x none lt is = absurd (omega (arith, lt))
parts_at f (y ∷ ys) zero x none lt is = (flat_map f ys, ap (λ z. f z ++ flat_map f ys) is)
parts_at f (y ∷ ys) (suc j) x none lt is =
    let more = parts_at f ys j x none (omega (arith, lt)) is in
    (more.0, append_assoc (f y) (flat_map f (take j ys)) (f x ++ more.0) ∙ ap (λ (l : List ℕ). f y ++ l) more.1)

pub columns_is : (row family qualifier : List ℕ) → (32 ∷ printed row) ++ ((32 ∷ printed family) ++ (32 ∷ printed qualifier)) ≡ columns_text row family qualifier
unfolding columns_text
columns_is row family qualifier = refl

pub stamp_is : (ts kind : ℕ) (value : List ℕ) → (32 ∷ decimal ts) ++ ((32 ∷ []) ++ (kind_name kind ++ (32 ∷ printed value))) ≡ stamp_text ts kind value
unfolding stamp_text
stamp_is ts kind value = refl

pub tags_is : (tags : List ℕ) → (tags ≡ [] → ⊥) → 32 ∷ printed tags ≡ tags_text tags
tags_is [] some = absurd (some refl)
tags_is (b ∷ bs) some = refl

grouped : (a b c d e : List ℕ) → a ++ (b ++ (c ++ (d ++ e))) ≡ (((a ++ b) ++ c) ++ d) ++ e
grouped a b c d e = simp append_assoc

pub cell_is : (n : ℕ) (x : Cell) → (codes "cell " ++ decimal n) ++ (columns_text x.row x.family x.qualifier ++ (stamp_text x.ts x.kind x.value ++ (tags_text x.tags ++ codes "\n"))) ≡ cell_line (n, x)
cell_is n x =
    let head : List ℕ = codes "cell " ++ decimal n in
    let columns : List ℕ = columns_text x.row x.family x.qualifier in
    let stamp : List ℕ = stamp_text x.ts x.kind x.value in
    let tags : List ℕ = tags_text x.tags in
    grouped head columns stamp tags (codes "\n")
    ∙ cell_appended n x [] head (head ++ columns) ((head ++ columns) ++ stamp) (((head ++ columns) ++ stamp) ++ tags) ((((head ++ columns) ++ stamp) ++ tags) ++ codes "\n") refl refl refl refl refl

pub head_is : (x : Placed)
    → (codes "ship " ++ (decimal x.file ++ (32 ∷ decimal x.place))) ++ ((32 ∷ (decimal x.entry.region ++ (32 ∷ decimal x.entry.number))) ++ ((32 ∷ (decimal x.entry.time ++ (32 ∷ decimal (length x.entry.batch.cells)))) ++ codes "\n"))
    ≡ ship_line x
unfolding ship_line
head_is x = simp append_assoc

pub table_is : (name : List ℕ) → (name ≡ [] → ⊥) → codes "table " ++ (printed name ++ codes "\n") ≡ table_line name
table_is [] some = absurd (some refl)
table_is (b ∷ bs) some = simp append_assoc

pub position_is : (q : Position) → (codes "position " ++ (decimal q.file ++ (32 ∷ decimal q.entries))) ++ codes "\n" ≡ position_line q
unfolding position_line
position_is q = simp append_assoc
