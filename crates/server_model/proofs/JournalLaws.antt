-- Beginnings of lists and of journals.
use Rattle.std.proofs.Common.{slice_index_or, ◌≡◌, ℕ, suc, ◌+◌, ◌<◌, ◌≤◌, Bool, true, false, cond, ◌==◌, nat_le, List, [], ◌∷◌, ◌++◌, length, filter, Contains, AllPairs, refl, sym, ap, ◌∙◌, subst, arith, inl, inr, append_assoc, append-nil}
use Rattle.std.specs.List.{AllByRecursion}
use Rattle.std.proofs.lemmas.Bool.{le-leb, lt-leb, eq-eqb}
use Rattle.std.proofs.lemmas.List.Elements.{All-from_recursion, All-contains, All-contains_itself, All-filter, Contains-append_left, Contains-append_right, Contains-append_cases, Contains-get_or}
use Rattle.std.proofs.lemmas.List.Kept.{AllPairs-cons}
use Rattle.cell_model.specs.Order.{cells_of}
use Rattle.region_model.specs.Journal.{Base, Edit, Follows, last_of, cut_at, visible, is_in_range, is_done, put_edits}
use Rattle.cell_model.specs.Lists.{IsPrefix}
use Rattle.server_model.specs.Pass.{handled}
use Rattle.server_model.specs.Closing.{Pairs}

-- ---- beginnings

pub prefix_here : {A : Type 0} → (xs : List A) → IsPrefix xs xs
prefix_here xs = ([], sym (append-nil xs))

pub prefix_trans : {A : Type 0} → (xs ys zs : List A) → IsPrefix xs ys → IsPrefix ys zs → IsPrefix xs zs
prefix_trans xs ys zs p q = (p.0 ++ q.0, q.1 ∙ ap (λ l. l ++ q.0) p.1 ∙ append_assoc xs p.0 q.0)

pub prefix_contains : {A : Type 0} → (xs ys : List A) (x : A) → IsPrefix xs ys → Contains xs x → Contains ys x
prefix_contains xs ys x p is = subst (λ l. Contains l x) (sym p.1) (Contains-append_left xs p.0 x is)

pub prefix_length : {A : Type 0} → (xs ys : List A) → IsPrefix xs ys → length xs ≤ length ys
prefix_length xs ys p = subst (λ l. length xs ≤ length l) (sym p.1) (longer xs p.0)
  where
    longer : {A : Type 0} → (xs zs : List A) → length xs ≤ length (xs ++ zs)
    longer [] zs = omega arith
    longer (x ∷ xs) zs = omega (arith, longer xs zs)

-- ---- what a filter keeps

pub filter_kept : {A : Type 0} → (p : A → Bool) (xs : List A) (x : A) → Contains (filter p xs) x → Contains xs x
filter_kept p xs x is = All-contains (Contains xs) (filter p xs) x (All-filter p (Contains xs) xs (All-contains_itself xs)) is

keeps : {A : Type 0} → (p : A → Bool) (xs : List A) → AllByRecursion (λ x. p x ≡ true → Contains (filter p xs) x) xs
keeps p [] = tt
keeps {A} p (x ∷ xs) = (head, more xs (keeps p xs))
  where
    head : p x ≡ true → Contains (filter p (x ∷ xs)) x
    head e = subst (λ b. Contains (cond b (x ∷ filter p xs) (filter p xs)) x) (sym e) (0, omega arith, refl)

    grown : (b : Bool) (y : A) (l : List A) → Contains l y → Contains (cond b (x ∷ l) l) y
    grown true y l is = Contains-append_right (x ∷ []) l y is
    grown false y l is = is

    more : (ys : List A) → AllByRecursion (λ y. p y ≡ true → Contains (filter p xs) y) ys → AllByRecursion (λ y. p y ≡ true → Contains (filter p (x ∷ xs)) y) ys
    more [] h = tt
    more (y ∷ ys) h = ((λ e. grown (p x) y (filter p xs) (h.0 e)), more ys h.1)

pub filter_has : {A : Type 0} → (p : A → Bool) (xs : List A) (x : A) → Contains xs x → p x ≡ true → Contains (filter p xs) x
filter_has p xs x is = All-contains (λ y. p y ≡ true → Contains (filter p xs) y) xs x (All-from_recursion _ xs (keeps p xs)) is

pub handled_has : (h : ℕ) (edits : List Edit) (e : Edit) → Contains edits e → e.caller.handler ≡ h → Contains (handled h edits) e
handled_has h edits e is same = filter_has (λ (d : Edit). d.caller.handler == h) edits e is (eq-eqb e.caller.handler h same)

pub handled_kept : (h : ℕ) (edits : List Edit) (e : Edit) → Contains (handled h edits) e → Contains edits e
handled_kept h edits e is = filter_kept (λ (d : Edit). d.caller.handler == h) edits e is

-- ---- a journal cut at a point

beyond : (last p : ℕ) (es : List Edit) → Follows last es → p ≤ last → cut_at p es ≡ []
beyond last p [] f le = refl
beyond last p (e ∷ es) f le =
    let no : nat_le e.entry.number p ≡ false = lt-leb e.entry.number p (omega (arith, f.0, le)) in
    ap (λ b. cond b (e ∷ cut_at p es) (cut_at p es)) no ∙ beyond (last + 1) p es f.1 (omega (arith, le))

pub cut_front : (last : ℕ) (xs ys : List Edit) → Follows last (xs ++ ys) → cut_at (last_of last xs) (xs ++ ys) ≡ xs
cut_front last [] ys f = beyond last (last + 0) ys f (omega arith)
cut_front last (x ∷ xs) ys f =
    let yes : nat_le x.entry.number (last + suc (length xs)) ≡ true = le-leb x.entry.number (last + suc (length xs)) (omega (arith, f.0)) in
    let at : last + 1 + length xs ≡ last + suc (length xs) = omega arith in
    ap (λ b. cond b (x ∷ cut_at (last + suc (length xs)) (xs ++ ys)) (cut_at (last + suc (length xs)) (xs ++ ys))) yes
    ∙ ap (λ l. x ∷ l) (subst (λ p. cut_at p (xs ++ ys) ≡ xs) at (cut_front (last + 1) xs ys f.1))

front_follows : (last : ℕ) (xs ys : List Edit) → Follows last (xs ++ ys) → Follows last xs
front_follows last [] ys f = tt
front_follows last (x ∷ xs) ys f = (f.0, front_follows (last + 1) xs ys f.1)

-- A reader at the last edit of a beginning sees what a reader of the whole journal sees there.
pub same_view : (base : Base) (xs edits : List Edit) (from to : List ℕ) → Follows base.last edits → IsPrefix xs edits
    → visible base.content xs (last_of base.last xs) from to ≡ visible base.content edits (last_of base.last xs) from to
same_view base xs edits from to f p =
    let whole : Follows base.last (xs ++ p.0) = subst (Follows base.last) p.1 f in
    let alone : Follows base.last (xs ++ []) = subst (Follows base.last) (sym (append-nil xs)) (front_follows base.last xs p.0 whole) in
    let short : cut_at (last_of base.last xs) xs ≡ xs = ap (cut_at (last_of base.last xs)) (sym (append-nil xs)) ∙ cut_front base.last xs [] alone in
    let long : cut_at (last_of base.last xs) edits ≡ xs = ap (cut_at (last_of base.last xs)) p.1 ∙ cut_front base.last xs p.0 whole in
    ap (λ (es : List Edit). filter (is_in_range from to) (cells_of (put_edits base.content (filter (λ e. is_done e.outcome) es)))) (short ∙ sym long)

-- ---- each two of a list, by recursion

pub pairs_all : {A : Type 0} → (R : A → A → Type 0) (xs : List A) → Pairs R xs → AllPairs R xs
pairs_all R [] h = λ i j d lt le. absurd (omega arith)
pairs_all R (x ∷ xs) h = AllPairs-cons R x xs (λ k d lt. h.0 _ (at xs k d lt)) (pairs_all R xs h.1)
  where
    at : {A : Type 0} → (xs : List A) (k : ℕ) (d : A) → k < length xs → Contains xs (slice_index_or xs k d)
    at xs k d lt = Contains-get_or xs k d lt

pub contains_cons : {A : Type 0} → (x : A) (xs : List A) (y : A) → Contains xs y → Contains (x ∷ xs) y
contains_cons x xs y is = Contains-append_right (x ∷ []) xs y is

pub pairs_append : {A : Type 0} → (R : A → A → Type 0) (xs ys : List A) → Pairs R xs → Pairs R ys → ((x y : A) → Contains xs x → Contains ys y → R x y) → Pairs R (xs ++ ys)
pairs_append R [] ys h k cross = k
pairs_append {A} R (x ∷ xs) ys h k cross = (both, pairs_append R xs ys h.1 k (λ a b is it. cross a b (contains_cons x xs a is) it))
  where
    both : (y : A) → Contains (xs ++ ys) y → R x y
    both y is = elim (Contains-append_cases xs ys y is) [ inl l ↦ h.0 y l | inr r ↦ cross x y (0, omega arith, refl) r ]
