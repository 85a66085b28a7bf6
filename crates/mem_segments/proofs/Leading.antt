-- A list more before lists that have a leader.
use Rattle.std.specs.Prelude.{◌≡◌, ◌↔◌, Bool, not, ◌<◌, ◌-◌, ℕ, zero, suc, true, false, IsTrue, cond, List, [], ◌∷◌, map, drop, length, get_or, Option, Some, None}
use Rattle.std.proofs.Math.Seq.{drop-cons}
use Rattle.std.proofs.Math.ListN.{set}
use Rattle.std.proofs.Common.{refl, sym, ap, subst, ◌∙◌, arith, Bor}
use Rattle.std.specs.declared.cmp.Ordering.TheVariants.{Less}
use Rattle.std.specs.Ordering.{is_eq}
use Rattle.std.specs.Option.{is_some}
use Rattle.std.proofs.lemmas.Cmp.{tied_itself}
use Rattle.cell_model.specs.Order.{NumberedCell, version_of, numbered_cmp}
use Rattle.cell_model.specs.Merge.{by_turn}
use Rattle.cell_model.proofs.OrderLaws.{version_cmp_total}
use Rattle.mem_segments.specs.Walk.{merged_all, head_of, lesser, least_of, past}
use Rattle.mem_segments.specs.Leader.{past_at, Leads, IsLed}
use Rattle.mem_segments.specs.declared.merge_iter.Leader.{Leader}
use Rattle.mem_segments.proofs.WalkSteps.{Precedes, all_later, nothing_left, one_more}

some_is : {A : Type 0} (x y : A) → Some x ≡ Some y → x ≡ y
some_is x y e = cc

from_itself : (n : ℕ) → n - n ≡ 0
from_itself n = omega arith

-- its head comes before theirs: past it goes this list alone
first_alone : (a : NumberedCell) (xs : List NumberedCell) (after : List (List NumberedCell)) → Some a ≡ head_of xs → Precedes a (least_of after)
    → map (past a) (xs ∷ after) ≡ drop 1 xs ∷ after
first_alone a [] after h p = absurd cc
first_alone a (x ∷ xs) after h p =
    let same : a ≡ x = some_is a x h in
    let tied : past a (x ∷ xs) ≡ xs = ap (λ r. cond (is_eq r) xs (x ∷ xs)) (ap (λ (y : NumberedCell). numbered_cmp x y) same ∙ tied_itself version_cmp_total (version_of x)) in
    λ i. tied i ∷ all_later a after p i

pub first_leads : (place : ℕ) (row : Bor NumberedCell) (xs : List NumberedCell) (after : List (List NumberedCell)) → Some row.now ≡ head_of xs → Precedes row.now (least_of after)
    → lesser (head_of xs) (least_of after) ≡ Some row.now → Leads place (xs ∷ after) (record { row = row; place = place; is_alone = true })
first_leads place row xs after h p l = record {
  least = l;
  from = omega arith;
  within = omega arith;
  alone = λ t. first_alone row.now xs after h p ∙ ap (λ n. past_at n (xs ∷ after)) (sym (from_itself place));
}

one_head : (a : NumberedCell) (xs : List NumberedCell) (after : List (List NumberedCell)) → Some a ≡ head_of xs → least_of after ≡ None → lesser (head_of xs) (least_of after) ≡ Some a
one_head a xs after h l = (λ i. lesser (sym h i) (l i))

lesser_head : (a b : NumberedCell) (xs : List NumberedCell) (after : List (List NumberedCell)) → Some a ≡ head_of xs → least_of after ≡ Some b → numbered_cmp a b ≡ Less
    → lesser (head_of xs) (least_of after) ≡ Some a
lesser_head a b xs after h l e = (λ i. lesser (sym h i) (l i)) ∙ ap (λ r. by_turn r (Some a) (Some b) (Some b)) e

-- none of the lists after it has a head
pub first_of_all : (place : ℕ) (row : Bor NumberedCell) (xs : List NumberedCell) (after : List (List NumberedCell)) → Some row.now ≡ head_of xs → least_of after ≡ None
    → Leads place (xs ∷ after) (record { row = row; place = place; is_alone = true })
first_of_all place row xs after h l = first_leads place row xs after h (subst (Precedes row.now) (sym l) tt) (one_head row.now xs after h l)

-- its head comes before the leader of those after it
pub first_of_both : (place : ℕ) (row : Bor NumberedCell) (later : Leader) (xs : List NumberedCell) (after : List (List NumberedCell)) → Some row.now ≡ head_of xs
    → Leads (suc place) after later → numbered_cmp row.now later.row.now ≡ Less → Leads place (xs ∷ after) (record { row = row; place = place; is_alone = true })
first_of_both place row later xs after h led e =
    first_leads place row xs after h (subst (Precedes row.now) (sym led.least) e) (lesser_head row.now later.row.now xs after h led.least e)

-- what leads from a place on leads the whole from there
pub one_before : (n : ℕ) (lists : List (List NumberedCell)) (xs : List NumberedCell) (leader : Option Leader) → n < length lists → xs ≡ get_or lists n xs
    → IsLed n (xs ∷ drop (suc n) lists) leader → IsLed n (drop n lists) leader
one_before n lists xs leader w g led = subst (λ (l : List (List NumberedCell)). IsLed n l leader) (sym (drop-cons lists n xs w ∙ ap (λ (ys : List NumberedCell). ys ∷ drop (suc n) lists) (sym g))) led

no_less : (n : ℕ) → n - 0 ≡ n
no_less n = omega arith

-- this list, which stands at the place, past its head, as it is set there
set_past : (n : ℕ) (lists : List (List NumberedCell)) (xs : List NumberedCell) → n < length lists → xs ≡ get_or lists n xs → set lists n (drop 1 xs) ≡ past_at n lists
set_past n [] xs w g = absurd (omega arith)
set_past zero (ys ∷ lists) xs w g = λ i. drop 1 (g i) ∷ lists
set_past (suc n) (ys ∷ lists) xs w g = λ i. ys ∷ set_past n lists xs (omega arith) g i

-- past the leader that is alone, as its list is set there
pub alone_goes : (lists : List (List NumberedCell)) (leader : Leader) (xs : List NumberedCell) → Leads 0 lists leader → IsTrue leader.is_alone → xs ≡ get_or lists leader.place xs
    → set lists leader.place (drop 1 xs) ≡ map (past leader.row.now) lists
alone_goes lists leader xs led t g =
    set_past leader.place lists xs (subst (λ n. n < length lists) (no_less leader.place) led.within) g
    ∙ ap (λ n. past_at n lists) (sym (no_less leader.place)) ∙ sym (led.alone t)

-- nothing is to come exactly where no list leads
pub done_is : (lists : List (List NumberedCell)) (xs : List NumberedCell) (leader : Option Leader) (b : Bool) → xs ≡ merged_all lists → IsLed 0 lists leader → is_some leader ≡ not b
    → IsTrue b ↔ (xs ≡ [])
done_is lists xs None true v l e = ((λ t. v ∙ nothing_left lists l), (λ n. refl))
done_is lists xs None false v l e = absurd cc
done_is lists xs (Some leader) true v l e = absurd cc
done_is lists xs (Some leader) false v l e = ((λ t. absurd cc), (λ n. let more = sym n ∙ v ∙ one_more lists leader.row.now l.least in absurd cc))
