-- A cut's cells in order are cells of the cut, so they make a store.
use Rattle.std.proofs.Common.{arith, ◌≡◌, ◌≢◌, ℕ, ◌≤◌, ◌<◌, ◌^◌, List, [], ◌∷◌, length, map, refl, sym, subst}
use Rattle.std.specs.declared.cmp.Ordering.TheVariants.{Less, Equal, Greater}
use Rattle.std.specs.List.{AllByRecursion}
use Rattle.std.specs.FinMap.{put, insert, empty, entries, entries-insert}
use Rattle.std.specs.FinMap.Entries.{by_order}
use Rattle.cell_model.specs.Cell.{IsCell}
use Rattle.cell_model.specs.Order.{VersionKey, version_cmp, Payload, payload_of, Content, NumberedCell, version_of, cell_of}
use Rattle.cell_model.specs.Merge.{put_numbered}
use Rattle.cell_model.proofs.OrderLaws.{version_cmp_total, version_cmp_exact, entries-empty}
use Rattle.log_model.specs.declared.name.Name.{Name}
use Rattle.log_model.specs.StoreText.{Store, IsStoredCell, IsStore}
use Rattle.mem_segments.proofs.Contents.{rising-cells_of}
use Rattle.flush_snapshot.specs.Cut.{ordered_cells, cut_store, IsWithin, AreOf}

module _ (P : NumberedCell → Type 0) where
  abbrev EachEntry : List (VersionKey × Payload) → Type 0
  EachEntry es = AllByRecursion (λ e. P (cell_of e)) es

  each_put : (x : NumberedCell) (es : List (VersionKey × Payload)) → P x → EachEntry es → EachEntry (put version_cmp (version_of x) (payload_of x.1) es)
  each_put x [] here each = (here, tt)
  each_put x (e ∷ es) here each =
      let k = version_of x in
      let v = payload_of x.1 in
      elim (version_cmp k e.0) as (λ r. version_cmp k e.0 ≡ r → EachEntry (by_order r ((k, v) ∷ e ∷ es) ((e.0, v) ∷ es) (e ∷ put version_cmp k v es))) [
        | Less ↦ λ p. (here, each)
        | Equal ↦ λ p. (subst (λ (j : VersionKey). P (cell_of (j, v))) (version_cmp_exact k e.0 p) here, each.1)
        | Greater ↦ λ p. (each.0, each_put x es here each.1)
      ] refl

  each_insert : (m : Content) (x : NumberedCell) → P x → EachEntry (entries m) → EachEntry (entries (insert m (version_of x) (payload_of x.1)))
  each_insert m x here each = subst EachEntry (sym (entries-insert version_cmp_total m (version_of x) (payload_of x.1))) (each_put x (entries m) here each)

  each_numbered : (m : Content) (xs : List NumberedCell) → EachEntry (entries m) → AllByRecursion P xs → EachEntry (entries (put_numbered m xs))
  each_numbered m [] each more = each
  each_numbered m (x ∷ xs) each more = each_numbered (insert m (version_of x) (payload_of x.1)) xs (each_insert m x more.0 each) more.1

  each_cell : (es : List (VersionKey × Payload)) → EachEntry es → AllByRecursion P (map cell_of es)
  each_cell [] each = tt
  each_cell (e ∷ es) each = (each.0, each_cell es each.1)

  -- what holds of each cell of a cut holds of its cells in order
  pub each_ordered : (cut : List NumberedCell) → AllByRecursion P cut → AllByRecursion P (ordered_cells cut)
  each_ordered cut each = each_cell (entries (put_numbered empty cut)) (each_numbered empty cut (subst EachEntry (sym entries-empty) tt) each)

each_stored : (s : Store) (xs : List NumberedCell) → AllByRecursion (λ x. IsCell x.1) xs → IsWithin s.from s.to xs → AreOf s.family xs → AllByRecursion (IsStoredCell s) xs
each_stored s [] cells range of = tt
each_stored s (x ∷ xs) cells range of = (record { cell = cells.0; family = of.0; from = range.0.0; to = range.0.1 }, each_stored s xs cells.1 range.1 of.1)

pub cut_is_store : (name : Name) (family : List ℕ) (from to : ℕ) (cut : List NumberedCell) → name.region < 2 ^ 32 → length family ≤ 127 → AreOf family cut → (1 ≤ from) × (from ≤ to) × (to < 2 ^ 48) → IsWithin from to cut → AllByRecursion (λ x. IsCell x.1) cut
    → IsStore (cut_store name family from to cut)
cut_is_store name family from to cut region short of range within cells = record {
  region = region;
  scope = omega arith;
  family = short;
  whole = λ one. absurd (omega (arith, one));
  from = range.0;
  to = range.1;
  limit = range.2;
  each = each_stored (cut_store name family from to cut) (ordered_cells cut) (each_ordered (λ x. IsCell x.1) cut cells) (each_ordered (λ x. (from ≤ x.0) × (x.0 ≤ to)) cut within) (each_ordered (λ x. family ≢ [] → x.1.family ≡ family) cut of);
  rising = rising-cells_of (put_numbered empty cut);
}
