-- Trucks and the entries that they keep.
use Rattle.std.proofs.Common.{◌≡◌, ◌⊎◌, inl, inr, List, [], ◌∷◌, Contains, sym, ap, ◌∙◌, arith}
use Rattle.std.proofs.lemmas.List.Elements.{Contains-append_left, Contains-append_right, Contains-append_cases, Contains-push, Contains-push_cases}
use Rattle.log_model.specs.Entry.{Entry}
use Rattle.log_trucks.specs.Held.{Held, AreHeld}
use Rattle.recovery_laws.proofs.Lists.{none_in, first_or_later}

pub none_at : {A : Type 0} (x : A) → Contains [] x → ⊥
none_at x h = omega (arith, h.1)

pub at_first : {A : Type 0} (x : A) (xs : List A) → Contains (x ∷ xs) x
at_first x xs = Contains-append_left (x ∷ []) xs x (Contains-push [] x)

pub at_later : {A : Type 0} (x : A) (xs : List A) (y : A) → Contains xs y → Contains (x ∷ xs) y
at_later x xs y h = Contains-append_right (x ∷ []) xs y h

pub at_either : {A : Type 0} (x : A) (xs : List A) (y : A) → Contains (x ∷ xs) y → (x ≡ y) ⊎ Contains xs y
at_either x xs y h = elim (Contains-append_cases (x ∷ []) xs y h) [
  | inl first ↦ elim (Contains-push_cases [] x y first) [ inl none ↦ absurd (none_at y none) | inr is ↦ inl is ]
  | inr later ↦ inr later
]

-- the truck of an entry
pub truck_of : (chain : List Held) (es : List Entry) → AreHeld chain es → (e : Entry) → Contains es e → (x : Held) × Contains chain x × (x.number ≡ e.number)
truck_of [] [] held e h = absurd (none_in e h)
truck_of [] (d ∷ es) held e h = absurd held
truck_of (x ∷ xs) [] held e h = absurd (none_in e h)
truck_of (x ∷ xs) (d ∷ es) held e h = elim (first_or_later d es e h) [
  | inl is ↦ (x, at_first x xs, held.0.number ∙ ap (λ (y : Entry). y.number) is)
  | inr later ↦ let t = truck_of xs es held.1 e later in (t.0, at_later x xs t.0 t.1, t.2)
]

-- the entry of a truck
pub entry_in : (chain : List Held) (es : List Entry) → AreHeld chain es → (x : Held) → Contains chain x → (e : Entry) × Contains es e × (x.number ≡ e.number)
entry_in [] es held x h = absurd (none_at x h)
entry_in (y ∷ ys) [] held x h = absurd held
entry_in (y ∷ ys) (e ∷ es) held x h = elim (at_either y ys x h) [
  | inl is ↦ (e, at_first e es, sym (ap (λ (z : Held). z.number) is) ∙ held.0.number)
  | inr later ↦ let t = entry_in ys es held.1 x later in (t.0, at_later e es t.0 t.1, t.2)
]
