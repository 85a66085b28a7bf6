-- The cells of a chain's trucks, taken one truck after the other.
use Rattle.std.proofs.Common.{◌≡◌, ℕ, List, [], ◌∷◌, ◌++◌, ap, ◌∙◌}
use Rattle.std.specs.Prelude.{◌&&◌, filter}
use Rattle.std.specs.List.{flat_map}
use Rattle.std.proofs.lemmas.List.{append_assoc}
use Rattle.cell_model.specs.Order.{NumberedCell}
use Rattle.cell_model.specs.Merge.{at_number}
use Rattle.log_model.specs.Entry.{Entry}
use Rattle.seq_accounting.specs.Accounts.{Accounts, is_for}
use Rattle.log_trucks.specs.Held.{Held, IsHeld, AreHeld}
use Rattle.log_trucks.specs.Unflushed.{is_unflushed, unflushed_cells}

abbrev pub numbered : Accounts → ℕ → List ℕ → List Entry → List NumberedCell
numbered a r family es = flat_map (λ e. at_number e.number (unflushed_cells a r family e)) es

-- of what is held these cells are taken, and those of the entries that are left stand after them
abbrev pub AreTaken : Accounts → ℕ → List ℕ → List Held → List NumberedCell → List Held → Type 0
AreTaken a r family held cells left = (es : List Entry) → AreHeld held es → (ds : List Entry) × AreHeld left ds × (cells ++ numbered a r family ds ≡ numbered a r family es)

-- the first of those that are left is taken too
pub taken_more : (a : Accounts) (r : ℕ) (family : List ℕ) (all : List Held) (cells new : List NumberedCell) (h : Held) (rest : List Held) → AreTaken a r family all cells (h ∷ rest)
    → ((e : Entry) → IsHeld h e → new ≡ cells ++ at_number h.number (filter (λ c. is_for family c.family && is_unflushed a r h.number c) e.batch.cells))
    → AreTaken a r family all new rest
taken_more a r family all cells new h rest taken more es held = let t = taken es held in next t.0 t.1 t.2
  where
    next : (ds : List Entry) → AreHeld (h ∷ rest) ds → cells ++ numbered a r family ds ≡ numbered a r family es → (xs : List Entry) × AreHeld rest xs × (new ++ numbered a r family xs ≡ numbered a r family es)
    next [] none same = absurd none
    next (d ∷ ds) is same =
        let here : new ≡ cells ++ at_number d.number (unflushed_cells a r family d) = more d is.0 ∙ ap (λ (n : ℕ). cells ++ at_number n (filter (λ c. is_for family c.family && is_unflushed a r n c) d.batch.cells)) is.0.number in
        (ds, is.1, ap (λ (l : List NumberedCell). l ++ numbered a r family ds) here ∙ append_assoc cells (at_number d.number (unflushed_cells a r family d)) (numbered a r family ds) ∙ same)
