-- A numbered cell after others that are in order.
use Rattle.std.specs.Prelude.{◌≡◌, Bool, true, false, ◌&&◌, T, List, [], ◌∷◌, ◌++◌, map, IsTrue, ◌↔◌}
use Rattle.std.proofs.Common.{refl, sym, ◌∙◌, subst, ◌==◌}
use Rattle.std.specs.declared.cmp.Ordering.{Ordering}
use Rattle.std.specs.declared.cmp.Ordering.TheVariants.{Less, Equal, Greater}
use Rattle.std.specs.Ordering.{is_lt, ordering_index}
use Rattle.std.specs.FinMap.Entries.{below_all}
use Rattle.cell_model.specs.Order.{VersionKey, version_cmp, NumberedCell, version_of, numbered_cmp}
use Rattle.cell_model.specs.Merge.{entry_of, IsRising}
use Rattle.cell_model.proofs.OrderLaws.{version_cmp_total}

both : (a b : Bool) → T a → T b → T (a && b)
both true b p q = q
both false b p q = p

first : (a b : Bool) → T (a && b) → T a
first true b p = tt
first false b p = p

second : (a b : Bool) → T (a && b) → T b
second true b p = p
second false b p = absurd p

less : (o : Ordering) → T (is_lt o) → o ≡ Less
less Less p = refl
less Equal p = absurd p
less Greater p = absurd p

is_less : (j k : VersionKey) → version_cmp j k ≡ Less → T (is_lt (version_cmp j k))
is_less j k e = subst (λ r. T (is_lt r)) (sym e) tt

abbrev below : VersionKey → List NumberedCell → Bool
below k xs = below_all version_cmp k (map entry_of xs)

-- what is below the last one is below one after it
below_more : (k : VersionKey) (xs : List NumberedCell) (l y : NumberedCell) → numbered_cmp l y ≡ Less → T (below k (xs ++ l ∷ [])) → T (below k ((xs ++ l ∷ []) ++ y ∷ []))
below_more k [] l y p h = both _ _ (first _ _ h) (both _ _ (is_less k (version_of y) (version_cmp_total.trans k (version_of l) (version_of y) (less _ (first _ _ h)) p)) tt)
below_more k (x ∷ xs) l y p h = both _ _ (first _ _ h) (below_more k xs l y p (second _ _ h))

rising_more : (xs : List NumberedCell) (l y : NumberedCell) → numbered_cmp l y ≡ Less → IsRising (xs ++ l ∷ []) → IsRising ((xs ++ l ∷ []) ++ y ∷ [])
rising_more [] l y p h = both _ _ (both _ _ (is_less (version_of l) (version_of y) p) tt) tt
rising_more (x ∷ xs) l y p h = both _ _ (below_more (version_of x) xs l y p (first _ _ h)) (rising_more xs l y p (second _ _ h))

last_less : (xs : List NumberedCell) (l y : NumberedCell) → IsRising ((xs ++ l ∷ []) ++ y ∷ []) → numbered_cmp l y ≡ Less
last_less [] l y h = less _ (first _ _ (first _ _ h))
last_less (x ∷ xs) l y h = last_less xs l y (second _ _ h)

tells_less : (b : Bool) (o : Ordering) → b ≡ (ordering_index o == 0) → IsTrue b ↔ (o ≡ Less)
tells_less b Less is = (λ _. refl, λ _. is)
tells_less b Equal is = (λ t. absurd (cc), λ e. absurd (cc))
tells_less b Greater is = (λ t. absurd (cc), λ e. absurd (cc))

-- one is behind all exactly where it is behind the last
pub behind_last : (b : Bool) (o : Ordering) (cells xs : List NumberedCell) (l y : NumberedCell)
    → b ≡ (ordering_index o == 0) → o ≡ numbered_cmp l y → cells ≡ xs ++ l ∷ [] → IsRising cells → IsTrue b ↔ IsRising (cells ++ y ∷ [])
behind_last b o cells xs l y told compared is rising =
    let tells = tells_less b o told in (
      λ t. subst (λ (zs : List NumberedCell). IsRising (zs ++ y ∷ [])) (sym is) (rising_more xs l y (sym compared ∙ tells.0 t) (subst IsRising is rising)),
      λ h. tells.1 (compared ∙ last_less xs l y (subst (λ (zs : List NumberedCell). IsRising (zs ++ y ∷ [])) is h)),
    )

below_front : (k : VersionKey) (xs ys : List NumberedCell) → T (below k (xs ++ ys)) → T (below k xs)
below_front k [] ys h = tt
below_front k (x ∷ xs) ys h = both _ _ (first _ _ h) (below_front k xs ys (second _ _ h))

pub rising_front : (xs ys : List NumberedCell) → IsRising (xs ++ ys) → IsRising xs
rising_front [] ys h = tt
rising_front (x ∷ xs) ys h = both _ _ (below_front (version_of x) xs ys (first _ _ h)) (rising_front xs ys (second _ _ h))
