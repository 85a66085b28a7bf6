-- The segments of stores, one after the other and by halves.
use Rattle.std.proofs.Common.{◌≡◌, ℕ, ◌≤◌, List, [], ◌∷◌, ◌++◌, map, length, take, drop, get_or, sym, ap, ◌∙◌, subst, arith}
use Rattle.std.specs.Prelude.{slice_range}
use Rattle.std.specs.FinMap.{empty}
use Rattle.std.specs.List.{AllByRecursion}
use Rattle.std.proofs.lemmas.List.{map-append, take-append-drop, flat_map_more}
use Rattle.std.proofs.lemmas.Slice.{between_to_end}
use Rattle.cell_model.specs.Cell.{IsCell}
use Rattle.cell_model.specs.Order.{Content, NumberedCell}
use Rattle.cell_model.specs.Join.{joined}
use Rattle.cell_model.specs.Merge.{put_numbered}
use Rattle.cell_model.proofs.JoinLaws.{joined-one, joined-append}
use Rattle.cell_model.proofs.MergeLaws.{put_numbered-halves}
use Rattle.found_files.specs.declared.found.FoundStore.{FoundStore}
use Rattle.region_replay.specs.Dealt.{cells_of}
use Rattle.region_replay.proofs.Finding.{all_append}

module _ {A : Type 0} (f : A → Content) where
  -- one store more
  pub one_more : (parts all : List A) (part : A) (ss : List FoundStore) (x : FoundStore) → all ≡ parts ++ part ∷ [] → f part ≡ put_numbered empty x.text.cells
      → joined (map f parts) ≡ put_numbered empty (cells_of ss) → joined (map f all) ≡ put_numbered empty (cells_of (ss ++ x ∷ []))
  one_more parts all part ss x is own so_far =
      ap (λ (l : List A). joined (map f l)) is
      ∙ ap joined (map-append f parts (part ∷ []))
      ∙ joined-append (map f parts) (f part ∷ [])
      ∙ (λ i. joined (so_far i ∷ (joined-one (f part) ∙ own) i ∷ []))
      ∙ sym (put_numbered-halves (cells_of ss) x.text.cells)
      ∙ ap (put_numbered empty) (flat_map_more (λ (y : FoundStore). y.text.cells) [] ss x)

  pub one_alone : (parts : List A) (x : A) → length parts ≡ 1 → x ≡ get_or parts 0 x → f x ≡ joined (map f parts)
  one_alone [] x one is = absurd (omega (arith, one))
  one_alone (y ∷ []) x one is = ap f is ∙ sym (joined-one (f y))
  one_alone (y ∷ z ∷ zs) x one is = absurd (omega (arith, one))

  pub both_halves : (half : ℕ) (parts : List A) (first second : Content) → half ≤ length parts → first ≡ joined (map f (take half parts))
      → second ≡ joined (map f (slice_range parts half (length parts))) → joined (first ∷ second ∷ []) ≡ joined (map f parts)
  both_halves half parts first second le is_first is_second =
      (λ i. joined (is_first i ∷ (is_second ∙ ap (λ (l : List A). joined (map f l)) (between_to_end parts half (length parts) (omega arith))) i ∷ []))
      ∙ sym (joined-append (map f (take half parts)) (map f (drop half parts)))
      ∙ ap joined (sym (map-append f (take half parts) (drop half parts)))
      ∙ ap (λ (l : List A). joined (map f l)) (take-append-drop half parts)

pub all_more : (ss : List FoundStore) (x : FoundStore) → AllByRecursion (λ c. IsCell c.1) (cells_of ss) → AllByRecursion (λ c. IsCell c.1) x.text.cells → AllByRecursion (λ c. IsCell c.1) (cells_of (ss ++ x ∷ []))
all_more ss x so_far own = subst (λ (l : List NumberedCell). AllByRecursion (λ c. IsCell c.1) l) (flat_map_more (λ (y : FoundStore). y.text.cells) [] ss x)
    (all_append (λ c. IsCell c.1) (cells_of ss) x.text.cells so_far own)
