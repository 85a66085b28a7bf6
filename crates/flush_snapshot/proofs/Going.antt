-- How far a store file is filled.
use Rattle.std.proofs.Common.{◌≡◌, ℕ, ◌+◌, ◌≤◌, List, [], ◌∷◌, ◌++◌, length, take, refl, sym, ◌∙◌, subst}
use Rattle.cell_model.specs.Order.{NumberedCell}
use Rattle.log_model.specs.declared.name.Name.{Name}
use Rattle.disk_images.specs.Crash.{DiskView, Throughout, OnlyAt}
use Rattle.disk_images.specs.OneFile.{Touches}
use Rattle.disk_images.proofs.Moments.{more_time}
use Rattle.disk_images.proofs.Torn.{then_only}
use Rattle.recovery_laws.specs.Kept.{IsNotThere}
use Rattle.store_file.specs.Open.{OpenStore, IsAlike, IsFilling}
use Rattle.store_file.proofs.Writing.{still_shut}

-- so many of the rows are put in, by at most as many calls
pub record Going (told : Type 0) (begun o : OpenStore) (first now : DiskView) (rows : List NumberedCell) (count : ℕ) : Type 0 where
  pub alike : IsAlike begun o
  pub filling : told → IsFilling o now (take count rows)
  pub moments : told → Throughout (OnlyAt begun.name IsNotThere first) count first now
  pub touches : told → Touches begun.name first now

take_none : (rows : List NumberedCell) → take 0 rows ≡ []
take_none [] = refl
take_none (x ∷ xs) = refl

touches_none : (name : Name) (v : DiskView) → Touches name v v
touches_none name v = record { others = λ m other. refl; gone = λ m h. h; formerly = λ n m h. h }

touches_on : (name : Name) (u v w : DiskView) → Touches name u v → Touches name v w → Touches name u w
touches_on name u v w first second = record {
  others = λ m other. second.others m other ∙ first.others m other;
  gone = λ m h. first.gone m (second.gone m h);
  formerly = λ n m h. first.formerly n m (second.formerly n m h);
}

pub none_filled : (told : Type 0) (o : OpenStore) (v : DiskView) (rows : List NumberedCell) → (told → IsFilling o v []) → Going told o o v v rows 0
none_filled told o v rows begun = record {
  alike = record { name = refl; scope = refl; family = refl; from = refl; to = refl; count = refl };
  filling = λ is_told. subst (λ (l : List NumberedCell). IsFilling o v l) (sym (take_none rows)) (begun is_told);
  moments = λ is_told. still_shut o v 0 [] (begun is_told);
  touches = λ is_told. touches_none o.name v;
}

module _ (told : Type 0) (begun o next : OpenStore) (first v w : DiskView) (rows : List NumberedCell) (count : ℕ) (so_far : Going told begun o first v rows count)
    (shut : told → Throughout (OnlyAt o.name IsNotThere v) 1 v w) where
  pub one_call_more : told → Throughout (OnlyAt begun.name IsNotThere first) (count + 1) first w
  one_call_more is_told =
      then_only begun.name IsNotThere count 1 first v w (so_far.moments is_told) (subst (λ (n : Name). Throughout (OnlyAt n IsNotThere v) 1 v w) so_far.alike.name (shut is_told))

  pub within_rows : count + 1 ≤ length rows → told → Throughout (OnlyAt begun.name IsNotThere first) (length rows) first w
  within_rows le is_told = more_time (OnlyAt begun.name IsNotThere first) (count + 1) (length rows) first w le (one_call_more is_told)

  pub one_row_more : (x : NumberedCell) → take (count + 1) rows ≡ take count rows ++ x ∷ [] → IsAlike o next → (told → IsFilling next w (take count rows ++ x ∷ [])) → (told → Touches o.name v w)
      → Going told begun next first w rows (count + 1)
  one_row_more x is same filling touches = record {
    alike = record { name = same.name ∙ so_far.alike.name; scope = same.scope ∙ so_far.alike.scope; family = same.family ∙ so_far.alike.family; from = same.from ∙ so_far.alike.from; to = same.to ∙ so_far.alike.to; count = same.count ∙ so_far.alike.count };
    filling = λ is_told. subst (λ (l : List NumberedCell). IsFilling next w l) (sym is) (filling is_told);
    moments = one_call_more;
    touches = λ is_told. touches_on begun.name first v w (so_far.touches is_told) (subst (λ (n : Name). Touches n v w) so_far.alike.name (touches is_told));
  }
