-- Each region is taken from its own group's list.
use Rattle.std.proofs.Common.{◌≡◌, ◌≢◌, ◌⊎◌, ℕ, zero, suc, ◌+◌, ◌<◌, ◌≤◌, ◌==◌, Bool, true, false, cond, List, [], ◌∷◌, length, Option, Some, None, IfSome, IfNone, slice_get, refl, sym, ap, subst, ◌∙◌, arith, inl, inr}
use Rattle.std.specs.Global.{Vec}
use Rattle.std.proofs.lemmas.Bool.{eq-eqb, ne_eqb}
use Rattle.groups_model.specs.Groups.{group_of}
use Rattle.group_lists.specs.declared.lists.GroupList.{GroupList}
use Rattle.group_lists.specs.Choosing.{IsTakenFrom, IsTakenAt, AreChosen, items_at}
use Rattle.group_lists.specs.Lists.{at_group}

below_or_not : (a b : ℕ) → (a < b) ⊎ (b ≤ a)
below_or_not zero zero = inr (omega arith)
below_or_not zero (suc b) = inl (omega arith)
below_or_not (suc a) zero = inr (omega arith)
below_or_not (suc a) (suc b) = elim (below_or_not a b) [ inl h ↦ inl (omega arith) | inr h ↦ inr (omega arith) ]

cond_same : {A : Type 0} (b : Bool) (x : A) → cond b x x ≡ x
cond_same true x = refl
cond_same false x = refl

module _ {T : Type 0} where
  get_beyond : (xs : List T) (k : ℕ) → length xs ≤ k → slice_get xs k ≡ None
  get_beyond [] k low = refl
  get_beyond (x ∷ xs) zero low = absurd (omega (arith, low))
  get_beyond (x ∷ xs) (suc k) low = get_beyond xs k (omega (arith, low))

  -- what was taken up to the lists' length was taken
  pub taken_up : (groups group n : ℕ) (old from new : List T) → length old ≡ n → length from ≡ n → length new ≡ n
      → ((k : ℕ) → k < n → slice_get new k ≡ cond (group_of groups (k + 1) == group) (slice_get from k) (slice_get old k))
      → IsTakenFrom groups group old from new
  taken_up groups group n old from new a b c done k =
      elim (below_or_not k n) [
        | inl low ↦ done k low
        | inr high ↦ get_beyond new k (omega (arith, c, high)) ∙ sym (cond_same (group_of groups (k + 1) == group) None)
            ∙ ap (λ (x : Option T). cond (group_of groups (k + 1) == group) x None) (sym (get_beyond from k (omega (arith, b, high))))
            ∙ ap (λ (x : Option T). cond (group_of groups (k + 1) == group) (slice_get from k) x) (sym (get_beyond old k (omega (arith, a, high))))
      ]

  -- at one more place
  pub taken_more : (groups group place : ℕ) (old from mid_old mid_from new : List T)
      → ((k : ℕ) → k < place → slice_get mid_old k ≡ cond (group_of groups (k + 1) == group) (slice_get from k) (slice_get old k))
      → ((k : ℕ) → place ≤ k → (slice_get mid_old k ≡ slice_get old k) × (slice_get mid_from k ≡ slice_get from k))
      → slice_get new place ≡ cond (group_of groups (place + 1) == group) (slice_get mid_from place) (slice_get mid_old place)
      → ((k : ℕ) → k ≢ place → slice_get new k ≡ slice_get mid_old k)
      → (k : ℕ) → k < place + 1 → slice_get new k ≡ cond (group_of groups (k + 1) == group) (slice_get from k) (slice_get old k)
  taken_more groups group place old from mid_old mid_from new done rest here others k low =
      elim (below_or_not k place) [
        | inl before ↦ others k (λ e. absurd (omega (arith, e, before))) ∙ done k before
        | inr at ↦
            let same : k ≡ place = omega (arith, at, low) in
            let now = rest place (omega arith) in
            ap (λ (n : ℕ). slice_get new n) same ∙ here
            ∙ ap (λ (x : Option T). cond (group_of groups (place + 1) == group) x (slice_get mid_old place)) now.1
            ∙ ap (λ (x : Option T). cond (group_of groups (place + 1) == group) (slice_get from place) x) now.0
            ∙ ap (λ (n : ℕ). cond (group_of groups (n + 1) == group) (slice_get from n) (slice_get old n)) (sym same)
      ]

  -- a region of another group stays
  stays : (groups group k : ℕ) (old : List T) (from : Option (Option (Vec T))) (new : List T) → IsTakenAt groups group old from new
      → group_of groups (k + 1) ≢ group → slice_get new k ≡ slice_get old k
  stays groups group k old None new taken other = ap (λ (l : List T). slice_get l k) taken
  stays groups group k old (Some None) new taken other = absurd taken
  stays groups group k old (Some (Some from)) new taken other =
      taken k ∙ ap (λ (b : Bool). cond b (slice_get from.items k) (slice_get old k)) (ne_eqb (group_of groups (k + 1)) group other)

  -- one of this group is that from here
  comes : (groups group k : ℕ) (old : List T) (from : Option (Option (Vec T))) (new : List T) → IsTakenAt groups group old from new
      → group_of groups (k + 1) ≡ group → IfSome (items_at from) (λ xs. slice_get new k ≡ slice_get xs k)
  comes groups group k old None new taken same = tt
  comes groups group k old (Some None) new taken same = absurd taken
  comes groups group k old (Some (Some from)) new taken same =
      taken k ∙ ap (λ (b : Bool). cond b (slice_get from.items k) (slice_get old k)) (eq-eqb (group_of groups (k + 1)) group same)

  later : (xs : Option (List T)) (k : ℕ) (a b : Option T) → b ≡ a → IfSome xs (λ xs. a ≡ slice_get xs k) → IfSome xs (λ xs. b ≡ slice_get xs k)
  later None k a b same is = tt
  later (Some xs) k a b same is = same ∙ is

  -- what was taken is there
  there : (groups group : ℕ) (old : List T) (from : Option (Option (Vec T))) (new : List T) → IsTakenAt groups group old from new → from ≢ Some None
  there groups group old None new taken = λ e. absurd (cc e)
  there groups group old (Some None) new taken = absurd taken
  there groups group old (Some (Some from)) new taken = λ e. absurd (cc e)

-- after all three each one is its own group's
module _ {T : Type 0} (groups : ℕ) (lists : GroupList (Option (Vec T))) (first : Vec T) (c1 c2 c3 : List T) (is : lists.first ≡ Some first)
    (a : IsTakenAt groups 2 first.items lists.second c1) (b : IsTakenAt groups 3 c1 lists.third c2) (c : IsTakenAt groups 4 c2 lists.fourth c3) where
  by_group : (k g : ℕ) → group_of groups (k + 1) ≡ g → IfSome (items_at (at_group lists g)) (λ xs. slice_get c3 k ≡ slice_get xs k)
  by_group k zero at = tt
  by_group k (suc zero) at =
      subst (λ (o : Option (Vec T)). IfSome (items_at (Some o)) (λ xs. slice_get c3 k ≡ slice_get xs k)) (sym is)
      (stays groups 4 k c2 lists.fourth c3 c (λ e. absurd (omega (arith, e, at))) ∙ stays groups 3 k c1 lists.third c2 b (λ e. absurd (omega (arith, e, at)))
      ∙ stays groups 2 k first.items lists.second c1 a (λ e. absurd (omega (arith, e, at))))
  by_group k (suc (suc zero)) at =
      later (items_at lists.second) k (slice_get c1 k) (slice_get c3 k)
      (stays groups 4 k c2 lists.fourth c3 c (λ e. absurd (omega (arith, e, at))) ∙ stays groups 3 k c1 lists.third c2 b (λ e. absurd (omega (arith, e, at))))
      (comes groups 2 k first.items lists.second c1 a at)
  by_group k (suc (suc (suc zero))) at =
      later (items_at lists.third) k (slice_get c2 k) (slice_get c3 k) (stays groups 4 k c2 lists.fourth c3 c (λ e. absurd (omega (arith, e, at))))
      (comes groups 3 k c1 lists.third c2 b at)
  by_group k (suc (suc (suc (suc zero)))) at = comes groups 4 k c2 lists.fourth c3 c at
  by_group k (suc (suc (suc (suc (suc n))))) at = tt

  all_there : (k : ℕ) → at_group lists k ≢ Some None
  all_there zero = λ e. absurd (cc e)
  all_there (suc zero) = λ e. absurd (cc (e, is))
  all_there (suc (suc zero)) = there groups 2 first.items lists.second c1 a
  all_there (suc (suc (suc zero))) = there groups 3 c1 lists.third c2 b
  all_there (suc (suc (suc (suc zero)))) = there groups 4 c2 lists.fourth c3 c
  all_there (suc (suc (suc (suc (suc n))))) = λ e. absurd (cc e)

  pub chosen_all : length c3 ≡ length first.items → AreChosen groups lists c3
  chosen_all long = record {
    there = all_there;
    count = subst (λ (o : Option (Vec T)). IfSome o (λ xs. length c3 ≡ length xs.items)) (sym is) long;
    each = λ k. by_group k (group_of groups (k + 1)) refl;
  }

pub none_always : {A : Type 0} (P : Type 0) (r : Option A) → P → IfNone r P
none_always P None is = is
none_always P (Some x) is = tt
