-- The store that takes the place of a region's others, as it is begun and filled.
use Rattle.std.proofs.Common.{◌≡◌, inl, inr, ℕ, ◌+◌, Bool, cond, List, [], ◌∷◌, filter, length, refl, sym, ap, ◌∙◌, subst, arith}
use Rattle.std.specs.List.{AllByRecursion}
use Rattle.std.proofs.lemmas.Bool.{cases_Bool}
use Rattle.cell_model.specs.declared.form.Form.TheVariants.{Tagged}
use Rattle.cell_model.specs.Order.{VersionKey, NumberedCell}
use Rattle.mask_model.specs.Masked.{shown, is_shown}
use Rattle.log_model.specs.declared.name.Name.{Name}
use Rattle.log_model.specs.StoreText.{Store, IsStore, IsStoredCell, store_text}
use Rattle.mem_segments.proofs.Ranges.{rising-filter}
use Rattle.disk_images.specs.Crash.{DiskView, Throughout, OnlyAt}
use Rattle.recovery_laws.specs.Kept.{IsNotThere}
use Rattle.store_file.specs.Open.{OpenStore, IsNew, store_of}
use Rattle.store_file.specs.Whole.{IsWholeOrNot}
use Rattle.flush_snapshot.proofs.Moments.{committed_moments}
use Rattle.store_compact.specs.Plan.{whole_store}

-- of cells that each have P, each that passes has
each_passed : (P : NumberedCell → Type 0) (p : NumberedCell → Bool) (xs : List NumberedCell) → AllByRecursion P xs → AllByRecursion P (filter p xs)
each_passed P p [] each = tt
each_passed P p (x ∷ xs) each = elim (cases_Bool (p x)) as (λ _. AllByRecursion P (filter p (x ∷ xs))) [
  | inl is ↦ subst (λ (b : Bool). AllByRecursion P (cond b (x ∷ filter p xs) (filter p xs))) (sym is) (each.0, each_passed P p xs each.1)
  | inr not ↦ subst (λ (b : Bool). AllByRecursion P (cond b (x ∷ filter p xs) (filter p xs))) (sym not) (each_passed P p xs each.1)
]

same_each : (s t : Store) (xs : List NumberedCell) → s.family ≡ t.family → s.from ≡ t.from → s.to ≡ t.to → AllByRecursion (IsStoredCell s) xs → AllByRecursion (IsStoredCell t) xs
same_each s t [] family from to each = tt
same_each s t (x ∷ xs) family from to each = (
  record {
    cell = each.0.cell;
    family = λ some. each.0.family (λ none. some (sym family ∙ none)) ∙ family;
    from = (let low = each.0.from in omega (arith, low, from));
    to = (let high = each.0.to in omega (arith, high, to));
  },
  same_each s t xs family from to each.1,
)

-- whether a cell is shown is told by its version
abbrev bare : VersionKey → NumberedCell
bare v = (v.number, record { row = v.key.row; family = v.key.family; qualifier = v.key.qualifier; ts = v.key.ts; kind = v.key.kind; value = []; tags = [] })

-- those of a store's cells that are shown make a store
pub shown_store : (name : Name) (from to : ℕ) (rows : List NumberedCell) → IsStore (whole_store name from to rows) → IsStore (whole_store name from to (shown rows))
shown_store name from to rows is = record {
  region = is.region;
  scope = is.scope;
  family = is.family;
  whole = is.whole;
  from = is.from;
  to = is.to;
  limit = is.limit;
  each = same_each (whole_store name from to rows) (whole_store name from to (shown rows)) (shown rows) refl refl refl (each_passed (IsStoredCell (whole_store name from to rows)) (is_shown rows) rows is.each);
  rising = rising-filter (λ v. is_shown rows (bare v)) rows is.rising;
}

-- as it was begun
pub begun_store : (o : OpenStore) (name : Name) (from to : ℕ) (count : ℕ) (rows : List NumberedCell) → IsNew name 1 [] from to count o → store_of o rows ≡ whole_store name from to rows
begun_store o name from to count rows new = λ i. record { region = ap (λ (n : Name). n.region) new.name_is i; scope = new.scope_is i; family = new.family_is i; from = new.from_is i; to = new.to_is i; cells = rows }

pub whole_moments : (o : OpenStore) (name : Name) (from to count : ℕ) (rows : List NumberedCell) (u v w : DiskView) → IsNew name 1 [] from to count o → Throughout (OnlyAt name IsNotThere u) 3 u v
    → Throughout (OnlyAt o.name (IsWholeOrNot (store_text Tagged (store_of o rows))) v) (length rows + 4) v w
    → Throughout (OnlyAt name (IsWholeOrNot (store_text Tagged (whole_store name from to rows))) u) (3 + (length rows + 4)) u w
whole_moments o name from to count rows u v w new first second =
    committed_moments name (store_text Tagged (whole_store name from to rows)) 3 (length rows + 4) u v w first
    (subst (λ (s : Store). Throughout (OnlyAt name (IsWholeOrNot (store_text Tagged s)) v) (length rows + 4) v w) (begun_store o name from to count rows new)
    (subst (λ (n : Name). Throughout (OnlyAt n (IsWholeOrNot (store_text Tagged (store_of o rows))) v) (length rows + 4) v w) new.name_is second))
