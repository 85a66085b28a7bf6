-- From the ring into chains, and from there into the ring of chains.
use Rattle.std.proofs.Common.{◌≡◌, ◌⊎◌, inl, inr, ℕ, ◌+◌, ◌<◌, ◌≤◌, ◌==◌, Bool, true, false, cond, List, [], ◌∷◌, ◌++◌, ◌||◌, length, Option, Some, None, refl, sym, ap, ◌∙◌, subst, arith, append_assoc, length-append}
use Rattle.std.specs.Prelude.{if◌then◌else◌, is_some}
use Rattle.std.proofs.lemmas.List.{append-nil}
use Rattle.append_ring.specs.declared.knows.Knows.{Knows}
use Rattle.append_ring.specs.Rules.{base_of, of, end_of, Follows}
use Rattle.std.specs.Global.{Box}
use Rattle.log_trucks.specs.Held.{Held, Haul, held_of}
use Rattle.log_halves.specs.declared.item.Item.{Item}
use Rattle.log_halves.specs.declared.item.Item.TheVariants as items
use Rattle.log_halves.specs.Items.{region_of, number_of, IsWholeItem, appended, is_sync, asks, held_in}
use Rattle.log_halves.specs.Trucks.{AreSpelled, FollowFrom, onward, come_to}
use Rattle.log_halves.specs.Chains.{all_trucks, AreInOrder}
use Rattle.log_halves.specs.Order.{all_append, follow_front}
use Rattle.log_halves.specs.Moves.{Bench, HasMoved, WasEmpty}
use Rattle.log_halves.proofs.Chains.{follow_both}

pub appended_append : (xs ys : List Item) → appended (xs ++ ys) ≡ appended xs ++ appended ys
appended_append [] ys = refl
appended_append (items.Append truck ∷ xs) ys = ap (λ (l : List Held). held_of truck.value ∷ l) (appended_append xs ys)
appended_append (items.Sync region number ∷ xs) ys = appended_append xs ys

pub item_spelled : (x : Item) → IsWholeItem x → AreSpelled (appended (x ∷ []))
item_spelled (items.Append truck) w = (w.0, tt)
item_spelled (items.Sync region number) w = tt

ends_by : (b : Bool) (n k : ℕ) (truck : Box Haul) (ys : List Item) → truck.value.number ≡ n → end_of number_of (if b then n else k) ys ≡ end_of number_of k (cond b (items.Append truck ∷ ys) ys)
ends_by true n k truck ys is = ap (λ (m : ℕ). end_of number_of m ys) (sym is)
ends_by false n k truck ys is = refl

skips : (b : Bool) (k r n : ℕ) (ys : List Item) → end_of number_of k ys ≡ end_of number_of k (cond b (items.Sync r n ∷ ys) ys)
skips true k r n ys = refl
skips false k r n ys = refl

-- the last number of a region among the trucks is the last drawn one among the items
pub same_end : (last : ℕ → ℕ) (xs : List Item) (r : ℕ) → come_to last (appended xs) r ≡ end_of number_of (last r) (of region_of r xs)
same_end last [] r = refl
same_end last (items.Append truck ∷ xs) r =
    same_end (onward last (held_of truck.value)) xs r ∙ ends_by (truck.value.region == r) truck.value.number (last r) truck (of region_of r xs) refl
same_end last (items.Sync region number ∷ xs) r = same_end last xs r ∙ skips (region == r) (last r) region number (of region_of r xs)

-- one more item popped goes on from those before
pub item_follows : (lasts : List ℕ) (popped : List Item) (x : Item) → FollowFrom lasts (appended popped) → 0 < region_of x → region_of x ≤ length lasts
    → Follows number_of (end_of number_of (base_of lasts (region_of x)) (of region_of (region_of x) popped)) x → FollowFrom lasts (appended (popped ++ x ∷ []))
item_follows lasts popped (items.Append truck) f low high next =
    subst (FollowFrom lasts) (sym (appended_append popped (items.Append truck ∷ [])))
    (follow_both (length lasts) (base_of lasts) (appended popped) (held_of truck.value ∷ []) f
    (((omega (arith, low), high), next ∙ ap (λ (k : ℕ). k + 1) (sym (same_end (base_of lasts) popped truck.value.region))), tt))
item_follows lasts popped (items.Sync region number) f low high next =
    subst (FollowFrom lasts) (sym (appended_append popped (items.Sync region number ∷ []) ∙ append-nil (appended popped))) f

pub tie_popped : (ps chain : List Held) (popped : List Item) (x : Item) → ps ++ (chain ++ []) ≡ appended popped → ps ++ (chain ++ appended (x ∷ [])) ≡ appended (popped ++ x ∷ [])
tie_popped ps chain popped x tie =
    sym (append_assoc ps chain (appended (x ∷ [])))
    ∙ (ap (λ (l : List Held). l ++ appended (x ∷ [])) (ap (λ (l : List Held). ps ++ l) (sym (append-nil chain)) ∙ tie) ∙ sym (appended_append popped (x ∷ [])))

pub all_with : (pushed : List (List Held)) (chain : List Held) → all_trucks (pushed ++ chain ∷ []) ≡ all_trucks pushed ++ chain
all_with pushed chain = all_append pushed (chain ∷ []) ∙ ap (λ (l : List Held). all_trucks pushed ++ l) (append-nil chain)

pub tie_handed : (pushed : List (List Held)) (chain held all : List Held) → all_trucks pushed ++ (chain ++ held) ≡ all → all_trucks (pushed ++ chain ∷ []) ++ ([] ++ held) ≡ all
tie_handed pushed chain held all tie = ap (λ (l : List Held). l ++ held) (all_with pushed chain) ∙ (append_assoc (all_trucks pushed) chain held ∙ tie)

pub handed_in_order : (lasts : List ℕ) (pushed : List (List Held)) (chain held all : List Held) → all_trucks pushed ++ (chain ++ held) ≡ all → FollowFrom lasts all → AreInOrder lasts (pushed ++ chain ∷ [])
handed_in_order lasts pushed chain held all tie f =
    subst (FollowFrom lasts) (sym (all_with pushed chain))
    (follow_front (length lasts) (base_of lasts) (all_trucks pushed ++ chain) held (subst (FollowFrom lasts) (sym tie ∙ sym (append_assoc (all_trucks pushed) chain held)) f))

pub no_some : {A : Type 0} (o : Option A) → is_some o ≡ false → o ≡ None
no_some None is = refl
no_some (Some a) is = absurd (cc is)

-- ---- what was moved

asks_append : (a : Bool) (xs ys : List Item) → ((a || asks xs) || asks ys) ≡ (a || asks (xs ++ ys))
asks_append true xs ys = refl
asks_append false [] ys = refl
asks_append false (x ∷ xs) ys = or_assoc (is_sync x) (asks xs) (asks ys) ∙ ap (λ (b : Bool). is_sync x || b) (asks_append false xs ys)
  where
    or_assoc : (p q r : Bool) → ((p || q) || r) ≡ (p || (q || r))
    or_assoc true q r = refl
    or_assoc false q r = refl

pub moved_then : (a b c : Bench) (xs ys : List Item) → HasMoved a b xs → HasMoved b c ys → HasMoved a c (xs ++ ys)
moved_then a b c xs ys f g = record {
  more = f.more ++ g.more;
  popped = g.popped ∙ (ap (λ (l : List Item). l ++ g.more) f.popped ∙ append_assoc a.popped f.more g.more);
  in_turn = sym (append_assoc (held_in a.held) f.more g.more) ∙ (ap (λ (l : List Item). l ++ g.more) f.in_turn ∙ (append_assoc xs (held_in b.held) g.more ∙ (ap (λ (l : List Item). xs ++ l) g.in_turn ∙ sym (append_assoc xs ys (held_in c.held)))));
  chain = g.chain ∙ (ap (λ (l : List Held). l ++ appended ys) f.chain ∙ (append_assoc a.chain (appended xs) (appended ys) ∙ ap (λ (l : List Held). a.chain ++ l) (sym (appended_append xs ys))));
  asked = g.asked ∙ (ap (λ (x : Bool). x || asks ys) f.asked ∙ asks_append a.asked xs ys);
  handed = g.handed ∙ f.handed;
}

-- an item is taken out of the ring where none is held, and is moved
pub moved_one : (a b : Bench) (more : List Item) (x : Item) → b.popped ≡ a.popped ++ more → held_in (Some x) ≡ held_in a.held ++ more → b.held ≡ None → b.chain ≡ a.chain ++ appended (x ∷ [])
    → b.asked ≡ (a.asked || is_sync x) → b.handed ≡ a.handed → HasMoved a b (x ∷ [])
moved_one a b more x popped held none chain asked handed = record {
  more = more;
  popped = popped;
  in_turn = sym held ∙ ap (λ (o : Option Item). x ∷ held_in o) (sym none);
  chain = chain;
  asked = asked ∙ ap (λ (y : Bool). a.asked || y) (or_none (is_sync x));
  handed = handed;
}
  where
    or_none : (y : Bool) → y ≡ (y || false)
    or_none true = refl
    or_none false = refl

-- how many were popped by a move of so many items, where one may be held before it and one after it
pub moved_count : (a b : Bench) (xs : List Item) → HasMoved a b xs → length a.popped + (length xs + length (held_in b.held)) ≡ length b.popped + length (held_in a.held)
moved_count a b xs m =
    let more = ap length m.popped ∙ length-append a.popped m.more in
    let turn = sym (length-append (held_in a.held) m.more) ∙ (ap length m.in_turn ∙ length-append xs (held_in b.held)) in
    omega (arith, more, turn)

pub moved_grows : (a b : Bench) (xs : List Item) → HasMoved a b xs → length a.popped ≤ length b.popped
moved_grows a b xs m = let more = ap length m.popped ∙ length-append a.popped m.more in omega (arith, more)

pub held_few : (o : Option Item) → length (held_in o) ≤ 1
held_few None = omega arith
held_few (Some x) = omega arith

-- the ring was empty at a moment or 1,024 items were moved, and nothing was popped since then
pub moved_since : (a b c d : Knows Item) → length a.popped ≤ length b.popped → d ≡ c → WasEmpty c ⊎ (length b.popped + 1023 ≤ length c.popped) → WasEmpty d ⊎ (length a.popped + 1023 ≤ length d.popped)
moved_since a b c d grows same (inl empty) = inl (subst WasEmpty (sym same) empty)
moved_since a b c d grows same (inr many) = let popped = ap (λ (v : Knows Item). length v.popped) same in inr (omega (arith, grows, many, popped))
