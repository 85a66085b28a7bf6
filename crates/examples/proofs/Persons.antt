-- A person's cell.
use Rattle.std.proofs.Common.{◌≡◌, ℕ, ◌∙◌, Bool, true, cond, Some, List, [], ◌∷◌, ap}
use Rattle.std.specs.FinMap.{get, insert, empty, get-insert}
use Rattle.std.specs.Ordering.{eq_by_cmp}
use Rattle.std.proofs.lemmas.Cmp.{eq_by_cmp_equiv}
use Rattle.cell_model.specs.Cell.{Cell}
use Rattle.cell_model.specs.Order.{Content, VersionKey, Payload, version_cmp, version_of, payload_of, put_cells}
use Rattle.cell_model.proofs.OrderLaws.{version_cmp_total}
use Rattle.log_model.specs.Entry.{Entry}
use Rattle.log_model.specs.Recovered.{Puts}

itself : (v : VersionKey) (p : Payload) (m : Content) → get (insert m v p) v ≡ Some p
itself v p m = get-insert version_cmp_total m v p v ∙ ap (λ (b : Bool). cond b (Some p) (get m v)) ((eq_by_cmp_equiv version_cmp_total).refl v)

-- an entry of one cell puts it
pub one_cell_puts : (e : Entry) (n : ℕ) (c : Cell) → e.batch.cells ≡ c ∷ [] → e.number ≡ n → Puts e (version_of (n, c)) (payload_of c)
one_cell_puts e n c cells number =
    let v : VersionKey = version_of (n, c) in
    ap (λ (cs : List Cell). get (put_cells empty e.number cs) v) cells
    ∙ ap (λ (k : ℕ). get (put_cells empty k (c ∷ [])) v) number
    ∙ itself v (payload_of c) empty
