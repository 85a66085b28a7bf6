-- What writing the cut of a region leaves of what is kept, in the ledger's words.
use Rattle.std.proofs.Common.{◌≡◌, ◌+◌, ◌<◌, ◌≤◌, ◌^◌, ℕ, List, [], get_or, set, length, Option, refl, sym, ap, ◌∙◌, subst, arith}
use Rattle.cell_model.specs.declared.form.Form.TheVariants.{Tagged}
use Rattle.log_model.specs.StoreText.{IsStore, store_text}
use Rattle.cell_model.specs.Order.{NumberedCell}
use Rattle.disk_images.specs.Crash.{DiskView, Throughout, OnlyAt}
use Rattle.disk_images.specs.Calls.{IsTrueDisk}
use Rattle.disk_images.specs.OneFile.{Touches, IsDurableFile}
use Rattle.disk_images.proofs.Moments.{weaker}
use Rattle.recovery_laws.specs.Kept.{IsCut, lasts}
use Rattle.file_base.specs.declared.error.FileRefusal.TheVariants as refusals
use Rattle.flush_snapshot.specs.Cut.{IsWithin, cut_store, ordered_cells}
use Rattle.store_file.specs.Whole.{IsWholeOrNot}
use Rattle.log_file.specs.Open.{OpenLog}
use Rattle.log_ledger.specs.Numbers.{Numbers}
use Rattle.log_ledger.specs.Counted.{IsCounted, PutsCut}
use Rattle.log_ledger.specs.History.{History, flushed_in}
use Rattle.log_device.specs.Bears.{Bears}
use Rattle.log_device.specs.Keeps.{Keeps, store_name}
use Rattle.log_device.proofs.Bearing.{bears_store}
use Rattle.log_device.specs.Leaves.{Leaves}
use Rattle.log_device.proofs.Calls.{flush_leaves}
use Rattle.log_device.proofs.Cut.{is_cut}
use Rattle.log_device.proofs.Stored.{store_moments, store_kept}

pub all_committed : (b : Numbers) (r : ℕ) → b.synced ≡ b.drawn → get_or b.drawn r 0 ≤ get_or b.synced r 0
all_committed b r is = let same = ap (λ (l : List ℕ). get_or l r 0) is in omega (arith, same)

-- a cut goes from the number after the flushed one to the last one
pub cut_range : (n to a b : ℕ) → n ≡ a → to ≡ b → a < b → to < 2 ^ 48 → (1 ≤ n + 1) × (n + 1 ≤ to) × (to < 2 ^ 48)
cut_range n to a b n_is to_is low limit = (omega arith, omega (arith, n_is, to_is, low), limit)

pub cut_within : (n to a b : ℕ) (cells : List NumberedCell) → n ≡ a → to ≡ b → IsWithin (a + 1) b cells → IsWithin (n + 1) to cells
cut_within n to a b cells n_is to_is within = subst (λ (p : ℕ × ℕ). IsWithin (p.0 + 1) p.1 cells) (λ i. (sym n_is i, sym to_is i)) within

pub disk_fault_apart : refusals.DiskFault ≡ refusals.Memory → ⊥
disk_fault_apart is = absurd (cc is)

module _ (file : OpenLog) (u w : DiskView) (h : History) (b : Numbers) (keeps : Keeps file u h b.next_store) (counted : IsCounted b h) (sound : IsTrueDisk u) (r : ℕ) (family : List ℕ) (cells : List NumberedCell)
    (none : h.kept.staged ≡ []) (puts : PutsCut h.kept r family (get_or b.drawn r 0) cells) (served : 0 < get_or b.next_store r 0) (from to number : ℕ) (to_is : to ≡ get_or b.drawn r 0) (number_is : number ≡ get_or b.next_store r 0) where
  -- it is the region's last number
  pub is_last : to ≡ lasts h.kept.first h.kept.durable r
  is_last = to_is ∙ counted.drawn r served ∙ ap (λ es. lasts (lasts h.kept.first h.kept.durable) es r) none

  low : (f : List ℕ) → h.kept.flushed r f ≤ to
  low f = omega (arith, is_last, keeps.orderly.low r f)

  its_cut : IsCut h.kept r family to (cut_store (store_name r (get_or b.next_store r 0)) family from to cells)
  its_cut = is_cut h.kept r family to from (get_or b.next_store r 0) cells low (subst (λ (n : ℕ). PutsCut h.kept r family n cells) (sym to_is) puts)

  logged : to ≤ lasts h.kept.first h.kept.durable r
  logged = omega (arith, is_last)

  module _ (is_store : IsStore (cut_store (store_name r number) family from to cells)) where
    abbrev pub Storing : ℕ → DiskView → Type 0
    Storing m v = Throughout (OnlyAt (store_name r m) (IsWholeOrNot (store_text Tagged (cut_store (store_name r m) family from to cells))) u) (7 + length (ordered_cells cells)) u v

    pub stored_leaves : Storing number w → (bound : ℕ) × Throughout (Leaves b.stored b.closed u.files []) bound u w
    stored_leaves over = (
      7 + length (ordered_cells cells),
      flush_leaves file u h b keeps counted sound r family to (7 + length (ordered_cells cells)) w (λ f of. low f) logged
          (store_moments file u w h b.next_store keeps sound r family to (cut_store (store_name r (get_or b.next_store r 0)) family from to cells) (7 + length (ordered_cells cells)) served its_cut is_store logged
          (subst (λ (m : ℕ). Storing m w) number_is over)),
    )

    pub stored_kept : (after : List ℕ) → after ≡ set b.next_store r (get_or b.next_store r 0 + 1) → Storing number w → Touches (store_name r number) u w
        → IsDurableFile w (store_name r number) (store_text Tagged (cut_store (store_name r number) family from to cells)) → Keeps file w (flushed_in h r family to) after
    stored_kept after is over touches file_is =
        subst (λ (ns : List ℕ). Keeps file w (flushed_in h r family to) ns) (sym is)
        (store_kept file u w h b.next_store keeps sound r family to (cut_store (store_name r (get_or b.next_store r 0)) family from to cells) (7 + length (ordered_cells cells)) served its_cut is_store logged
        (subst (λ (m : ℕ). Storing m w) number_is over) (subst (λ (m : ℕ). Touches (store_name r m) u w) number_is touches)
        (subst (λ (m : ℕ). IsDurableFile w (store_name r m) (store_text Tagged (cut_store (store_name r m) family from to cells))) number_is file_is))

-- the names while a store is written
pub store_names_of : (file : OpenLog) (u w : DiskView) (h : History) (ns : List ℕ) → Keeps file u h ns → (r number : ℕ) → 0 < get_or ns r 0 → number ≡ get_or ns r 0 → (Q : Option (List ℕ) → Type 0) → (by : ℕ)
    → Throughout (OnlyAt (store_name r number) Q u) by u w → (bound : ℕ) × Throughout (Bears h.kept.base ns file.name.number) bound u w
store_names_of file u w h ns keeps r number served is Q by over = (
  by,
  weaker (OnlyAt (store_name r number) Q u) (Bears h.kept.base ns file.name.number) by u w
      (λ J only. bears_store h.kept.base ns file.name.number (store_name r number) only.base J refl (keeps.served r served) (omega (arith, is)) only.elsewhere (keeps.names only.base only.was)) over,
)
