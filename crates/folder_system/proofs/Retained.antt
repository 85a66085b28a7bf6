-- What `retain` keeps was there.
use Rattle.std.proofs.Common.{Bool, true, false, List, [], ◌∷◌, Contains, sym, subst}
use Rattle.std.specs.List.{All, items_where_true}
use Rattle.std.specs.List.Retain.{IsFiltered}
use Rattle.std.proofs.lemmas.List.Elements.{All-nil, All-cons, All-head, All-tail, All-contains, All-contains_itself}

kept_of : {X : Type 0} (P : X → Type 0) (bs : List Bool) (xs : List X) → All P xs → All P (items_where_true bs xs)
kept_of P [] xs all = All-nil P
kept_of P (b ∷ bs) [] all = All-nil P
kept_of P (true ∷ bs) (x ∷ xs) all = All-cons P x (items_where_true bs xs) (All-head P x xs all) (kept_of P bs xs (All-tail P x xs all))
kept_of P (false ∷ bs) (x ∷ xs) all = kept_of P bs xs (All-tail P x xs all)

pub kept_there : {X F : Type 0} (R : F → X → Bool → F → Type 0) (f : F) (xs ys : List X) → IsFiltered R f xs ys → (x : X) → Contains ys x → Contains xs x
kept_there R f xs ys k x has = All-contains (Contains xs) ys x (subst (All (Contains xs)) (sym k.4) (kept_of (Contains xs) k.0 xs (All-contains_itself xs))) has
