-- The trucks of a chain that stay, taken one after the other.
use Rattle.std.proofs.Common.{◌≡◌, ℕ, List, [], ◌∷◌, ◌++◌, reverse, refl, sym, ap, subst, ◌∙◌, Bool, true, false, arith}
use Rattle.std.specs.Prelude.{filter, cond}
use Rattle.std.proofs.lemmas.List.{append_assoc, append-nil, reverse-append}
use Rattle.log_model.specs.Entry.{Entry}
use Rattle.seq_accounting.specs.Accounts.{Accounts}
use Rattle.log_trucks.specs.Held.{Held, IsHeld, AreHeld}
use Rattle.log_trucks.specs.Unflushed.{has_unflushed}

-- of all trucks these are left to be looked at, and these stay, the last one first
abbrev pub AreKept : Accounts → ℕ → List Held → List Held → List Held → Type 0
AreKept a r all left kept = (es : List Entry) → AreHeld all es
    → (ds : List Entry) × (ks : List Entry) × AreHeld left ds × AreHeld kept ks × (reverse ks ++ filter (has_unflushed a r) ds ≡ filter (has_unflushed a r) es)

pub kept_none : (a : Accounts) (r : ℕ) (all : List Held) → AreKept a r all all []
kept_none a r all es held = (es, [], held, tt, refl)

reverse_cons : {A : Type 0} (x : A) (xs : List A) → reverse (x ∷ xs) ≡ reverse xs ++ x ∷ []
reverse_cons x xs = reverse-append (x ∷ []) xs

held_append : (xs ys : List Held) (ds es : List Entry) → AreHeld xs ds → AreHeld ys es → AreHeld (xs ++ ys) (ds ++ es)
held_append [] ys [] es xd ye = ye
held_append [] ys (d ∷ ds) es xd ye = absurd xd
held_append (x ∷ xs) ys [] es xd ye = absurd xd
held_append (x ∷ xs) ys (d ∷ ds) es xd ye = (xd.0, held_append xs ys ds es xd.1 ye)

held_reverse : (xs : List Held) (ds : List Entry) → AreHeld xs ds → AreHeld (reverse xs) (reverse ds)
held_reverse [] [] held = tt
held_reverse [] (d ∷ ds) held = absurd held
held_reverse (x ∷ xs) [] held = absurd held
held_reverse (x ∷ xs) (d ∷ ds) held = subst (λ (l : List Held). AreHeld l (reverse (d ∷ ds))) (sym (reverse_cons x xs))
    (subst (AreHeld (reverse xs ++ x ∷ [])) (sym (reverse_cons d ds)) (held_append (reverse xs) (x ∷ []) (reverse ds) (d ∷ []) (held_reverse xs ds held.1) (held.0, tt)))

-- the next one stays where a cell of it isn't flushed
pub kept_more : (a : Accounts) (r : ℕ) (all : List Held) (h : Held) (rest kept : List Held) → AreKept a r all (h ∷ rest) kept
    → ((e : Entry) → IsHeld h e → true ≡ has_unflushed a r e) → AreKept a r all rest (h ∷ kept)
kept_more a r all h rest kept are stays es held = let t = are es held in next t.0 t.1 t.2 t.3 t.4
  where
    next : (ds ks : List Entry) → AreHeld (h ∷ rest) ds → AreHeld kept ks → reverse ks ++ filter (has_unflushed a r) ds ≡ filter (has_unflushed a r) es
        → (xs : List Entry) × (ys : List Entry) × AreHeld rest xs × AreHeld (h ∷ kept) ys × (reverse ys ++ filter (has_unflushed a r) xs ≡ filter (has_unflushed a r) es)
    next [] ks none also same = absurd none
    next (d ∷ ds) ks is also same = (
      ds,
      d ∷ ks,
      is.1,
      (is.0, also),
      ap (λ (l : List Entry). l ++ filter (has_unflushed a r) ds) (reverse_cons d ks)
          ∙ append_assoc (reverse ks) (d ∷ []) (filter (has_unflushed a r) ds)
          ∙ ap (λ (b : Bool). reverse ks ++ cond b (d ∷ filter (has_unflushed a r) ds) (filter (has_unflushed a r) ds)) (stays d is.0) ∙ same,
    )

-- and goes where each is
pub kept_less : (a : Accounts) (r : ℕ) (all : List Held) (h : Held) (rest kept : List Held) → AreKept a r all (h ∷ rest) kept
    → ((e : Entry) → IsHeld h e → false ≡ has_unflushed a r e) → AreKept a r all rest kept
kept_less a r all h rest kept are goes es held = let t = are es held in next t.0 t.1 t.2 t.3 t.4
  where
    next : (ds ks : List Entry) → AreHeld (h ∷ rest) ds → AreHeld kept ks → reverse ks ++ filter (has_unflushed a r) ds ≡ filter (has_unflushed a r) es
        → (xs : List Entry) × (ys : List Entry) × AreHeld rest xs × AreHeld kept ys × (reverse ys ++ filter (has_unflushed a r) xs ≡ filter (has_unflushed a r) es)
    next [] ks none also same = absurd none
    next (d ∷ ds) ks is also same = (
      ds,
      ks,
      is.1,
      also,
      ap (λ (b : Bool). reverse ks ++ cond b (d ∷ filter (has_unflushed a r) ds) (filter (has_unflushed a r) ds)) (goes d is.0) ∙ same,
    )

pub kept_all : (a : Accounts) (r : ℕ) (all left kept : List Held) → AreKept a r all left kept → left ≡ [] → (es : List Entry) → AreHeld all es → AreHeld (reverse kept) (filter (has_unflushed a r) es)
kept_all a r all left kept are none es held = let t = are es held in last t.0 t.1 (subst (λ (l : List Held). AreHeld l t.0) none t.2) t.3 t.4
  where
    last : (ds ks : List Entry) → AreHeld [] ds → AreHeld kept ks → reverse ks ++ filter (has_unflushed a r) ds ≡ filter (has_unflushed a r) es → AreHeld (reverse kept) (filter (has_unflushed a r) es)
    last [] ks none also same = subst (AreHeld (reverse kept)) (sym (append-nil (reverse ks)) ∙ same) (held_reverse kept ks also)
    last (d ∷ ds) ks some also same = absurd some
