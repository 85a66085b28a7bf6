-- What a reader at a journal's point sees is what stands before that point.
use Rattle.std.proofs.Common.{◌≡◌, ℕ, ◌+◌, ◌<◌, List, [], ◌∷◌, ◌++◌, length, filter, Contains, refl, sym, ap, ◌∙◌, arith, inl, inr}
use Rattle.std.proofs.lemmas.List.{take_all, take_at}
use Rattle.cell_model.specs.Order.{cells_of}
use Rattle.region_model.specs.Journal.{Base, Edit, Follows, last_of, cut_at, visible, is_in_range, is_done, put_edits}
use Rattle.region_model.proofs.VisibleLaws.{cut_by_count}
use Rattle.serial_history.proofs.Lists.{Pairs, first_or_later, not_in_none}

front_follows : (last : ℕ) (old rest : List Edit) → Follows last (old ++ rest) → Follows last old
front_follows last [] rest f = tt
front_follows last (e ∷ old) rest f = (f.0, front_follows (last + 1) old rest f.1)

-- A reader at the last of the first edits sees of all edits what it sees of these alone.
pub same_view : (base : Base) (old rest : List Edit) (from to : List ℕ) → Follows base.last (old ++ rest)
    → visible base.content (old ++ rest) (last_of base.last old) from to ≡ visible base.content old (last_of base.last old) from to
same_view base old rest from to f =
    let long : cut_at (last_of base.last old) (old ++ rest) ≡ old = cut_by_count base.last (length old) (last_of base.last old) (old ++ rest) f refl ∙ take_at old rest (length old) refl in
    let short : cut_at (last_of base.last old) old ≡ old =
    cut_by_count base.last (length old) (last_of base.last old) old (front_follows base.last old rest f) refl ∙ take_all (length old) old (omega arith) in
    ap (λ (es : List Edit). filter (is_in_range from to) (cells_of (put_edits base.content (filter (λ e. is_done e.outcome) es)))) (long ∙ sym short)

-- the number of the edit after the first ones
pub next_number : (last : ℕ) (old : List Edit) (e : Edit) (rest : List Edit) → Follows last (old ++ e ∷ rest) → e.entry.number ≡ last_of last old + 1
next_number last [] e rest f = omega (arith, f.0)
next_number last (d ∷ old) e rest f = omega (arith, next_number (last + 1) old e rest f.1)

pub above_base : (last : ℕ) (es : List Edit) (e : Edit) → Follows last es → Contains es e → last < e.entry.number
above_base last [] e f is = absurd (not_in_none e is)
above_base last (d ∷ es) e f is = elim (first_or_later d es e is) [
  | inl same ↦ let here : d.entry.number ≡ e.entry.number = ap (λ (x : Edit). x.entry.number) same in omega (arith, here, f.0)
  | inr later ↦ omega (arith, above_base (last + 1) es e f.1 later)
]

pub rising : (last : ℕ) (es : List Edit) → Follows last es → Pairs (λ (d e : Edit). d.entry.number < e.entry.number) es
rising last [] f = tt
rising last (d ∷ es) f = ((λ e is. omega (arith, f.0, above_base (last + 1) es e f.1 is)), rising (last + 1) es f.1)
