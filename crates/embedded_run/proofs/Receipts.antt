-- A receipted edit is in each image.
use Rattle.std.proofs.Common.{◌≡◌, ℕ, zero, suc, ◌+◌, ◌≤◌, Bool, true, leb, cond, Some, List, [], ◌∷◌, map, Contains, refl, sym, ap, ◌∙◌, subst, arith, inl, inr}
use Rattle.std.proofs.lemmas.Bool.{cases_Bool}
use Rattle.std.specs.List.{range_with_len}
use Rattle.std.proofs.Math.Logic.{∥∥₁_map}
use Rattle.std.specs.FinMap.{get, empty}
use Rattle.cell_model.specs.Join.{or_else}
use Rattle.cell_model.specs.Order.{Content, VersionKey, Payload, put_cells}
use Rattle.cell_model.proofs.JoinLaws.{get-put_cells}
use Rattle.log_model.specs.Files.{Files}
use Rattle.log_model.specs.Recovered.{IsRecovered, Puts}
use Rattle.recovery_laws.proofs.Contents.{puts_number}
use Rattle.disk_images.specs.Crash.{DiskView, IsImageNow}
use Rattle.region_model.specs.Journal.{Edit, Follows, put_edits, cut_at}
use Rattle.server_model.specs.Pass.{Pass, Naming}
use Rattle.server_model.proofs.JournalLaws.{filter_kept}
use Rattle.server_model.specs.Closing.{Region, IsClosedRegion, Survives}
use Rattle.run_model.proofs.KeepsFound.{later_edits}
use Rattle.run_model.proofs.Lists.{mapped, range_has}
use Rattle.embedded.specs.region_calls.Wordings.{region_of}
use Rattle.embedded.specs.region_calls.declared.closed.ClosedRegion.{ClosedRegion}
use Rattle.embedded_run.specs.Receipts.{KeepsReceipts}

-- the numbers of a journal's edits are above its base's last one
above : (last : ℕ) (es : List Edit) (e : Edit) → Follows last es → Contains es e → last + 1 ≤ e.entry.number
above last [] e f is = absurd (omega (arith, is.1))
above last (d ∷ es) e f (zero, lt, same) = omega (arith, f.0, ap (λ (x : Edit). x.entry.number) same)
above last (d ∷ es) e f (suc k, lt, same) = omega (arith, above (last + 1) es e f.1 (k, omega (arith, lt), same))

-- what an edit up to p puts stays
pub puts_stay : (last : ℕ) (es : List Edit) (m : Content) (p : ℕ) (e : Edit) (v : VersionKey) (x : Payload) → Follows last es → Contains es e → e.entry.number ≤ p → Puts e.entry v x
    → get (put_edits m (cut_at p es)) v ≡ Some x
puts_stay last [] m p e v x f is low puts = absurd (omega (arith, is.1))
puts_stay last (d ∷ es) m p e v x f (zero, lt, same) low puts =
    let here : get (put_cells empty d.entry.number d.entry.batch.cells) v ≡ Some x = subst (λ (y : Edit). Puts y.entry v x) (sym same) puts in
    let number : v.number ≡ e.entry.number = puts_number e.entry v x puts in
    let within : leb d.entry.number p ≡ true = grind (arith, low, same) in
    ap (λ b. get (put_edits m (cond b (d ∷ cut_at p es) (cut_at p es))) v) within
    ∙ later_edits (last + 1) es (put_cells m d.entry.number d.entry.batch.cells) p v f.1 (omega (arith, number, f.0, ap (λ (y : Edit). y.entry.number) same))
    ∙ get-put_cells m d.entry.number d.entry.batch.cells v
    ∙ ap (λ o. or_else o (get m v)) here
puts_stay last (d ∷ es) m p e v x f (suc k, lt, same) low puts = elim (cases_Bool (leb d.entry.number p)) [
  | inl is_so ↦ ap (λ b. get (put_edits m (cond b (d ∷ cut_at p es) (cut_at p es))) v) is_so
      ∙ puts_stay (last + 1) es (put_cells m d.entry.number d.entry.batch.cells) p e v x f.1 (k, omega (arith, lt), same) low puts
  | inr not_so ↦ ap (λ b. get (put_edits m (cond b (d ∷ cut_at p es) (cut_at p es))) v) not_so ∙ puts_stay (last + 1) es m p e v x f.1 (k, omega (arith, lt), same) low puts
]

-- an edit that a pass knows to be synced, of a region that survives
pub receipt_kept : (left : DiskView) (broken : Bool) (name : Naming) (r : ℕ) (passes : List Pass) (x : Region) → IsClosedRegion name r passes x → Survives left broken r x
    → (p : Pass) (e : Edit) → Contains passes p → Contains (p.known r).own e → e.entry.number ≤ (p.known r).synced
    → (J : Files) (v : VersionKey) (y : Payload) → IsImageNow left J → Puts e.entry v y → IsRecovered J r v y
receipt_kept left broken name r passes x closed survives p e there own low J v y image puts =
    let at = survives.images J image in
    let among : Contains x.edits e = filter_kept _ x.edits e (subst (λ l. Contains l e) (closed.own p there) own) in
    (at.1.content v y).0 (puts_stay x.base.last x.edits x.base.content at.0 e v y closed.journal.numbers among (omega (arith, low, closed.synced_seen p there, at.2)) puts)

-- of a server that is closed
pub receipts_closed : (left : DiskView) (broken : Bool) (name : Naming) (passes : List Pass) (cs : List ClosedRegion)
    → map (λ (x : ClosedRegion). x.region) cs ≡ range_with_len 1 name.regions
    → ((x : ClosedRegion) → Contains cs x → IsClosedRegion name x.region passes (region_of x))
    → ((x : ClosedRegion) → Contains cs x → ∥ Survives left broken x.region (region_of x) ∥₁) → KeepsReceipts left name.regions passes
receipts_closed left broken name passes cs numbers journals survives p r e there low high own synced J v y image puts =
    let m = mapped (λ (x : ClosedRegion). x.region) cs r (subst (λ l. Contains l r) (sym numbers) (range_has name.regions 1 r low (omega (arith, high)))) in
    let own_there : Contains (p.known m.0.region).own e = subst (λ (k : ℕ). Contains (p.known k).own e) (sym m.2) own in
    let synced_there : e.entry.number ≤ (p.known m.0.region).synced = subst (λ (k : ℕ). e.entry.number ≤ (p.known k).synced) (sym m.2) synced in
    ∥∥₁_map (survives m.0 m.1) (λ s. subst (λ (k : ℕ). IsRecovered J k v y) m.2
    (receipt_kept left broken name m.0.region passes (region_of m.0) (journals m.0 m.1) s p e there own_there synced_there J v y image puts))

-- of one that could not be closed
pub receipts_left : (left : DiskView) (name : Naming) (passes : List Pass)
    → ((r : ℕ) → 1 ≤ r → r ≤ name.regions → ∥ ((x : Region) × IsClosedRegion name r passes x × Survives left true r x) ∥₁) → KeepsReceipts left name.regions passes
receipts_left left name passes regions p r e there low high own synced J v y image puts =
    ∥∥₁_map (regions r low high) (λ x. receipt_kept left true name r passes x.0 x.1 x.2 p e there own synced J v y image puts)
