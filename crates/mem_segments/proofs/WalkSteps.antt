-- A step of a walk over several lists.
use Rattle.std.specs.Prelude.{◌≡◌, cond, List, [], ◌∷◌, map, Option, Some, None}
use Rattle.std.proofs.Common.{refl, sym, ap, subst, ◌∙◌}
use Rattle.std.specs.declared.cmp.Ordering.{Ordering}
use Rattle.std.specs.declared.cmp.Ordering.TheVariants.{Less, Equal, Greater}
use Rattle.std.specs.Ordering.{is_eq, ordering_reverse}
use Rattle.std.proofs.lemmas.Cmp.{alike_right, tied_itself}
use Rattle.cell_model.specs.Order.{NumberedCell, version_of, numbered_cmp}
use Rattle.cell_model.specs.Merge.{by_turn, merge_into, merged}
use Rattle.cell_model.proofs.OrderLaws.{version_cmp_total}
use Rattle.mem_segments.specs.Walk.{merged_all, head_of, lesser, least_of, past}

same_some : {A : Type 0} (x y : A) → Some x ≡ Some y → x ≡ y
same_some x y e = cc

reversed : (x y : NumberedCell) (r : Ordering) → numbered_cmp x y ≡ r → numbered_cmp y x ≡ ordering_reverse r
reversed x y r e = version_cmp_total.antisymm (version_of y) (version_of x) ∙ ap ordering_reverse e

-- ---- lists whose heads all come later are left as they are

-- a comes before it, where it is there
abbrev pub Precedes : NumberedCell → Option NumberedCell → Type 0
Precedes a None = Unit {0}
Precedes a (Some x) = numbered_cmp a x ≡ Less

precedes_both : (a : NumberedCell) (o p : Option NumberedCell) → Precedes a (lesser o p) → Precedes a o × Precedes a p
precedes_both a None p h = (tt, h)
precedes_both a (Some x) None h = (h, tt)
precedes_both a (Some x) (Some y) h =
    elim (numbered_cmp x y) as (λ r. numbered_cmp x y ≡ r → Precedes a (by_turn r (Some x) (Some y) (Some y)) → Precedes a (Some x) × Precedes a (Some y)) [
      | Less ↦ λ e h. (h, version_cmp_total.trans (version_of a) (version_of x) (version_of y) h e)
      | Equal ↦ λ e h. (alike_right version_cmp_total (version_of x) (version_of y) (version_of a) e ∙ h, h)
      | Greater ↦ λ e h. (version_cmp_total.trans (version_of a) (version_of y) (version_of x) h (reversed x y Greater e), h)
    ] refl h

pub past_later : (a : NumberedCell) (xs : List NumberedCell) → Precedes a (head_of xs) → past a xs ≡ xs
past_later a [] h = refl
past_later a (x ∷ xs) h = ap (λ r. cond (is_eq r) xs (x ∷ xs)) (reversed a x Less h)

pub all_later : (a : NumberedCell) (xss : List (List NumberedCell)) → Precedes a (least_of xss) → map (past a) xss ≡ xss
all_later a [] h = refl
all_later a (xs ∷ xss) h =
    let p = precedes_both a (head_of xs) (least_of xss) h in
    λ i. past_later a xs p.0 i ∷ all_later a xss p.1 i

-- ---- the end

none_least : (o p : Option NumberedCell) → lesser o p ≡ None → (o ≡ None) × (p ≡ None)
none_least None p e = (refl, e)
none_least (Some x) None e = absurd cc
none_least (Some x) (Some y) e =
    elim (numbered_cmp x y) as (λ r. by_turn r (Some x) (Some y) (Some y) ≡ None → (Some x ≡ None) × (Some y ≡ None)) [
      | Less ↦ λ e. absurd cc
      | Equal ↦ λ e. absurd cc
      | Greater ↦ λ e. absurd cc
    ] e

no_head : (xs : List NumberedCell) → head_of xs ≡ None → xs ≡ []
no_head [] e = refl
no_head (x ∷ xs) e = absurd cc

pub nothing_left : (xss : List (List NumberedCell)) → least_of xss ≡ None → merged_all xss ≡ []
nothing_left [] e = refl
nothing_left (xs ∷ xss) e =
    let n = none_least (head_of xs) (least_of xss) e in
    (λ i. merged (no_head xs n.0 i) (nothing_left xss n.1 i))

-- ---- one more

-- a list's head against the least of the others
turn : (r : Ordering) (a : NumberedCell) (as' : List NumberedCell) (y x : NumberedCell) (xss : List (List NumberedCell)) → numbered_cmp a y ≡ r → least_of xss ≡ Some y
    → merged_all xss ≡ y ∷ merged_all (map (past y) xss) → by_turn r (Some a) (Some y) (Some y) ≡ Some x
    → merged (a ∷ as') (merged_all xss) ≡ x ∷ merged (past x (a ∷ as')) (merged_all (map (past x) xss))
turn Less a as' y x xss c l ih e =
    let next = merged_all (map (past y) xss) in
    let here : merged (a ∷ as') (merged_all xss) ≡ a ∷ merged as' (merged_all xss) =
    ap (merged (a ∷ as')) ih ∙ ap (λ r. by_turn r (a ∷ merged as' (y ∷ next)) (y ∷ merged as' next) (y ∷ merge_into a (merged as') next)) c ∙ ap (λ (ys : List NumberedCell). a ∷ merged as' ys) (sym ih) in
    let tied : past a (a ∷ as') ≡ as' = ap (λ r. cond (is_eq r) as' (a ∷ as')) (tied_itself version_cmp_total (version_of a)) in
    let later : map (past a) xss ≡ xss = all_later a xss (subst (Precedes a) (sym l) c) in
    let same : a ≡ x = same_some a x e in
    subst (λ (z : NumberedCell). merged (a ∷ as') (merged_all xss) ≡ z ∷ merged (past z (a ∷ as')) (merged_all (map (past z) xss))) same
    (here ∙ (λ i. a ∷ merged (sym tied i) (merged_all (sym later i))))
turn Equal a as' y x xss c l ih e =
    let next = merged_all (map (past y) xss) in
    let here : merged (a ∷ as') (merged_all xss) ≡ y ∷ merged as' next =
    ap (merged (a ∷ as')) ih ∙ ap (λ r. by_turn r (a ∷ merged as' (y ∷ next)) (y ∷ merged as' next) (y ∷ merge_into a (merged as') next)) c in
    let tied : past y (a ∷ as') ≡ as' = ap (λ r. cond (is_eq r) as' (a ∷ as')) c in
    let same : y ≡ x = same_some y x e in
    subst (λ (z : NumberedCell). merged (a ∷ as') (merged_all xss) ≡ z ∷ merged (past z (a ∷ as')) (merged_all (map (past z) xss))) same
    (here ∙ (λ i. y ∷ merged (sym tied i) next))
turn Greater a as' y x xss c l ih e =
    let next = merged_all (map (past y) xss) in
    let here : merged (a ∷ as') (merged_all xss) ≡ y ∷ merged (a ∷ as') next =
    ap (merged (a ∷ as')) ih ∙ ap (λ r. by_turn r (a ∷ merged as' (y ∷ next)) (y ∷ merged as' next) (y ∷ merge_into a (merged as') next)) c in
    let left : past y (a ∷ as') ≡ a ∷ as' = ap (λ r. cond (is_eq r) as' (a ∷ as')) c in
    let same : y ≡ x = same_some y x e in
    subst (λ (z : NumberedCell). merged (a ∷ as') (merged_all xss) ≡ z ∷ merged (past z (a ∷ as')) (merged_all (map (past z) xss))) same
    (here ∙ (λ i. y ∷ merged (sym left i) next))

-- the others have an end, or a least head
one_list : (o : Option NumberedCell) (xs : List NumberedCell) (x : NumberedCell) (xss : List (List NumberedCell)) → least_of xss ≡ o
    → ((y : NumberedCell) → least_of xss ≡ Some y → merged_all xss ≡ y ∷ merged_all (map (past y) xss)) → lesser (head_of xs) o ≡ Some x
    → merged xs (merged_all xss) ≡ x ∷ merged (past x xs) (merged_all (map (past x) xss))
one_list o [] x xss l next e = next x (l ∙ e)
one_list None (a ∷ as') x xss l next e =
    let end : merged_all xss ≡ [] = nothing_left xss l in
    let later : map (past a) xss ≡ xss = all_later a xss (subst (Precedes a) (sym l) tt) in
    let tied : past a (a ∷ as') ≡ as' = ap (λ r. cond (is_eq r) as' (a ∷ as')) (tied_itself version_cmp_total (version_of a)) in
    let same : a ≡ x = same_some a x e in
    subst (λ (z : NumberedCell). merged (a ∷ as') (merged_all xss) ≡ z ∷ merged (past z (a ∷ as')) (merged_all (map (past z) xss))) same
    (ap (merged (a ∷ as')) end ∙ ap (λ (ys : List NumberedCell). a ∷ merged as' ys) (sym end) ∙ (λ i. a ∷ merged (sym tied i) (merged_all (sym later i))))
one_list (Some y) (a ∷ as') x xss l next e = turn (numbered_cmp a y) a as' y x xss refl l (next y l) e

-- the walk gives the least head, and goes on past all that tie with it
pub one_more : (xss : List (List NumberedCell)) (x : NumberedCell) → least_of xss ≡ Some x → merged_all xss ≡ x ∷ merged_all (map (past x) xss)
one_more [] x e = absurd cc
one_more (xs ∷ xss) x e = one_list (least_of xss) xs x xss refl (one_more xss) e
