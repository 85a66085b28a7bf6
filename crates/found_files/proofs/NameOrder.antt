-- The order of names, and the first damaged file.
use Rattle.std.proofs.Common.{◌≡◌, ◌≢◌, ◌⊎◌, inl, inr, ℕ, ◌<◌, Bool, true, false, ◌&&◌, List, [], ◌∷◌, ◌++◌, map, take, drop, length, get_or, Contains, None, refl, sym, ap, ◌∙◌, subst, arith}
use Rattle.std.specs.Prelude.{T, AllPairs}
use Rattle.std.specs.declared.cmp.Ordering.{Ordering}
use Rattle.std.specs.declared.cmp.Ordering.TheVariants.{Less, Equal, Greater}
use Rattle.std.specs.Ordering.{is_lt, ordering_reverse}
use Rattle.std.specs.FinMap.{get, keys, entries, entries_sorted, is_sorted}
use Rattle.std.specs.FinMap.Entries.{below_all}
use Rattle.std.proofs.lemmas.Cmp.{tied_itself}
use Rattle.std.proofs.lemmas.List.{get_or-take, length-take, get_or_default}
use Rattle.std.proofs.lemmas.List.Kept.{AllPairs-cons}
use Rattle.std.proofs.lemmas.List.Elements.{Contains-append_cases, Contains-push_cases, Contains-get_or}
use Rattle.log_model.specs.declared.name.Name.{Name}
use Rattle.log_model.specs.declared.name.NameKind.TheVariants as kinds
use Rattle.log_model.specs.Files.{Files, name_cmp, IsPresent}
use Rattle.log_model.specs.Damage.{HasDamage, IsDamagedFile, IsFirstDamage}
use Rattle.log_model.specs.Damage.HasDamage.{Logged, Stored}
use Rattle.log_model.proofs.NameLaws.{name_cmp_total}
use Rattle.disk_images.proofs.Settled.{among_names}
use Rattle.found_files.specs.Checked.{AreWhole}

abbrev Pair : Type 0
Pair = Name × List ℕ

first : (a b : Bool) → T (a && b) → T a
first true b p = tt
first false b p = p

second : (a b : Bool) → T (a && b) → T b
second true b p = p
second false b p = absurd p

less : (o : Ordering) → T (is_lt o) → o ≡ Less
less Less p = refl
less Equal p = absurd p
less Greater p = absurd p

none_in : {A : Type 0} (x : A) → Contains [] x → ⊥
none_in x h = omega (arith, h.1)

first_or_later : {A : Type 0} (x : A) (xs : List A) (y : A) → Contains (x ∷ xs) y → (x ≡ y) ⊎ Contains xs y
first_or_later x xs y h = elim (Contains-append_cases (x ∷ []) xs y h) as (λ _. (x ≡ y) ⊎ Contains xs y) [
  | inl here ↦ elim (Contains-push_cases [] x y here) as (λ _. (x ≡ y) ⊎ Contains xs y) [ inl none ↦ absurd (none_in y none) | inr is ↦ inl is ]
  | inr later ↦ inr later
]

below_each : (k : Name) (es : List Pair) → T (below_all name_cmp k es) → (m : Name) → Contains (map (λ (e : Pair). e.0) es) m → name_cmp k m ≡ Less
below_each k [] below m has = absurd (none_in m has)
below_each k (e ∷ es) below m has = elim (first_or_later e.0 (map (λ (x : Pair). x.0) es) m has) as (λ _. name_cmp k m ≡ Less) [
  | inl is ↦ subst (λ (n : Name). name_cmp k n ≡ Less) is (less (name_cmp k e.0) (first _ _ below))
  | inr later ↦ below_each k es (second _ _ below) m later
]

some_name : Name
some_name = record { kind = kinds.Log; region = 0; number = 0 }

-- a name is below those after it
behind : (es : List Pair) → T (is_sorted name_cmp es) → (before after : List Name) (name : Name) → map (λ (e : Pair). e.0) es ≡ before ++ name ∷ after → (m : Name) → Contains after m → name_cmp name m ≡ Less
behind [] sorted before after name is m has = absurd (no_list before is)
  where
    no_list : (bs : List Name) → [] ≡ bs ++ name ∷ after → ⊥
    no_list [] e = absurd (omega (arith, ap length e))
    no_list (b ∷ bs) e = absurd (omega (arith, ap length e))
behind (e ∷ es) sorted [] after name is m has =
    let head : e.0 ≡ name = ap (λ (l : List Name). get_or l 0 some_name) is in
    let tail : map (λ (x : Pair). x.0) es ≡ after = ap (λ (l : List Name). drop 1 l) is in
    subst (λ (n : Name). name_cmp n m ≡ Less) head (below_each e.0 es (first _ _ sorted) m (subst (λ (l : List Name). Contains l m) (sym tail) has))
behind (e ∷ es) sorted (b ∷ bs) after name is m has =
    let tail : map (λ (x : Pair). x.0) es ≡ bs ++ name ∷ after = ap (λ (l : List Name). drop 1 l) is in
    behind es (second _ _ sorted) bs after name tail m has

pub there : (files : Files) (m : Name) (at : ℕ) → IsDamagedFile files m at → IsPresent files m
there files m at (inl bad) = bad.0
there files m at (inr (good, damage)) = λ none. held damage none
  where
    held : HasDamage files m at → get files m ≡ None → ⊥
    held (Logged bytes is kind damaged) none = absurd (cc (sym none ∙ is))
    held (Stored bytes is kind damaged) none = absurd (cc (sym none ∙ is))

pub by_order : (files : Files) (before after : List Name) (name : Name) (at : ℕ) → keys files ≡ before ++ name ∷ after → AreWhole files before → IsDamagedFile files name at → IsFirstDamage files name at
by_order files before after name at is whole damaged = record { here = damaged; first = lower }
  where
    lower : (other : Name) (place : ℕ) → IsDamagedFile files other place → name_cmp other name ≢ Less
    lower other place hurt lt =
        let has : Contains (before ++ name ∷ after) other = subst (λ (l : List Name). Contains l other) is (among_names files other (there files other place hurt)) in
        elim (Contains-append_cases before (name ∷ after) other has) as (λ _. ⊥) [
          | inl earlier ↦ absurd (whole other place earlier hurt)
          | inr rest ↦ elim (first_or_later name after other rest) as (λ _. ⊥) [
            | inl same ↦ absurd (cc (sym lt ∙ ap (λ (n : Name). name_cmp n name) (sym same) ∙ tied_itself name_cmp_total name))
            | inr later ↦ absurd (cc (sym lt ∙ name_cmp_total.antisymm other name ∙ ap ordering_reverse (behind (entries files) (entries_sorted files) before after name is other later)))
          ]
        ]

rise_of : (es : List Pair) → T (is_sorted name_cmp es) → AllPairs (λ a b. name_cmp a b ≡ Less) (map (λ (e : Pair). e.0) es)
rise_of [] sorted = λ i j d fewer lt. absurd (omega (arith, lt))
rise_of (e ∷ es) sorted =
    let names : List Name = map (λ (x : Pair). x.0) es in
    AllPairs-cons (λ a b. name_cmp a b ≡ Less) e.0 names (λ k d lt. below_each e.0 es (first _ _ sorted) (get_or names k d) (Contains-get_or names k d lt)) (rise_of es (second _ _ sorted))

-- the names of files rise
pub names_rise : (files : Files) → AllPairs (λ a b. name_cmp a b ≡ Less) (keys files)
names_rise files = rise_of (entries files) (entries_sorted files)

-- a name is above those before it
pub below_this : (files : Files) (names : List Name) (i : ℕ) (d : Name) → names ≡ keys files → i < length names → (m : Name) → Contains (take i names) m → name_cmp m (get_or names i d) ≡ Less
below_this files names i d is lt m has =
    let early : has.0 < i = omega (arith, has.1, length-take i names) in
    let rise : AllPairs (λ a b. name_cmp a b ≡ Less) names = subst (λ (l : List Name). AllPairs (λ a b. name_cmp a b ≡ Less) l) (sym is) (names_rise files) in
    let here : get_or names has.0 d ≡ m = get_or_default names has.0 d m (omega (arith, early, lt)) ∙ sym (get_or-take i names has.0 m early) ∙ has.2 in
    subst (λ (n : Name). name_cmp n (get_or names i d) ≡ Less) here (rise has.0 i d early lt)
