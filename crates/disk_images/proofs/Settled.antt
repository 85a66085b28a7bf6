-- What is settled once all files were synced.
use Rattle.std.proofs.Common.{◌≡◌, ◌≢◌, ◌⊎◌, inl, inr, ℕ, Bool, true, false, cond, List, [], ◌∷◌, map, Contains, Option, Some, None, is_some, refl, sym, ap, ◌∙◌, subst, arith}
use Rattle.std.specs.FinMap.{keys, entries, get-entries, find}
use Rattle.std.specs.Ordering.{eq_by_cmp, is_eq}
use Rattle.std.specs.declared.cmp.Ordering.{Ordering}
use Rattle.std.specs.declared.cmp.Ordering.TheVariants.{Less, Equal, Greater}
use Rattle.std.proofs.lemmas.Bool.{cases_Bool}
use Rattle.std.proofs.lemmas.Cmp.{eq_by_cmp_equiv}
use Rattle.std.proofs.lemmas.List.Elements.{Contains-append_left, Contains-append_right, Contains-append_cases, Contains-push, Contains-push_cases}
use Rattle.log_model.specs.declared.name.Name.{Name}
use Rattle.log_model.specs.Files.{Files, content, name_cmp, IsPresent, Reads}
use Rattle.log_model.proofs.NameLaws.{name_cmp_total, name_cmp_exact}
use Rattle.disk_images.specs.Crash.{DiskView, IsImageNow}
use Rattle.disk_images.specs.Settled.{IsSettled}
use Rattle.disk_images.specs.Settled.{Watches, AreStanding}

first_or_later : {A : Type 0} (x : A) (xs : List A) (a : A) → Contains (x ∷ xs) a → (x ≡ a) ⊎ Contains xs a
first_or_later x xs a h = elim (Contains-append_cases (x ∷ []) xs a h) as (λ _. (x ≡ a) ⊎ Contains xs a) [
  | inl first ↦ elim (Contains-push_cases [] x a first) as (λ _. (x ≡ a) ⊎ Contains xs a) [ inl none ↦ absurd (omega (arith, none.1)) | inr is ↦ inl is ]
  | inr later ↦ inr later
]

ties : (m : Name) → eq_by_cmp name_cmp m m ≡ true
ties m = (eq_by_cmp_equiv name_cmp_total).refl m

find_key : (es : List (Name × List ℕ)) (m : Name) → Contains (map (λ e. e.0) es) m → find name_cmp m es ≢ None
find_key [] m has none = omega (arith, has.1)
find_key (e ∷ es) m has none = elim (cases_Bool (eq_by_cmp name_cmp m e.0)) as (λ _. ⊥) [
  | inl is ↦ let some : find name_cmp m (e ∷ es) ≡ Some e.1 = ap (λ (b : Bool). cond b (Some e.1) (find name_cmp m es)) is in absurd (cc (sym some ∙ none))
  | inr other ↦ elim (first_or_later e.0 (map (λ x. x.0) es) m has) as (λ _. ⊥) [
    | inl is ↦ absurd (cc (sym (subst (λ (n : Name). eq_by_cmp name_cmp m n ≡ true) (sym is) (ties m)) ∙ other))
    | inr later ↦ find_key es m later (sym (ap (λ (b : Bool). cond b (Some e.1) (find name_cmp m es)) other) ∙ none)
  ]
]

-- a name among those of the files is there
pub there_of : (files : Files) (m : Name) → Contains (keys files) m → IsPresent files m
there_of files m has none = find_key (entries files) m has (sym (get-entries files m) ∙ none)

is_equal : (r : Ordering) → is_eq r ≡ true → r ≡ Equal
is_equal Less is = absurd (cc is)
is_equal Equal is = refl
is_equal Greater is = absurd (cc is)

key_found : (es : List (Name × List ℕ)) (m : Name) → find name_cmp m es ≢ None → Contains (map (λ e. e.0) es) m
key_found [] m there = absurd (there refl)
key_found (e ∷ es) m there = elim (cases_Bool (eq_by_cmp name_cmp m e.0)) as (λ _. Contains (map (λ e. e.0) (e ∷ es)) m) [
  | inl is ↦ subst (λ (n : Name). Contains (e.0 ∷ map (λ e. e.0) es) n) (sym (name_cmp_exact m e.0 (is_equal (name_cmp m e.0) is))) (Contains-append_left (e.0 ∷ []) (map (λ e. e.0) es) e.0 (Contains-push [] e.0))
  | inr other ↦ Contains-append_right (e.0 ∷ []) (map (λ e. e.0) es) m (key_found es m (λ none. there (ap (λ (b : Bool). cond b (Some e.1) (find name_cmp m es)) other ∙ none)))
]

-- and what is there is among them
pub among_names : (files : Files) (m : Name) → IsPresent files m → Contains (keys files) m
among_names files m there = key_found (entries files) m (λ none. there (get-entries files m ∙ none))

option_cases : {A : Type 0} (o : Option A) → (o ≡ None) ⊎ ((a : A) × (o ≡ Some a))
option_cases None = inl refl
option_cases (Some a) = inr (a, refl)

pub present_cases : (files : Files) (m : Name) → (content files m ≡ None) ⊎ ((c : List ℕ) × Reads files m c)
present_cases files m = option_cases (content files m)

-- a name among those of the files reads as some bytes
pub read_of : (files : Files) (m : Name) → Contains (keys files) m → (c : List ℕ) × Reads files m c
read_of files m has = elim (present_cases files m) as (λ _. (c : List ℕ) × Reads files m c) [ inl none ↦ absurd (there_of files m has none) | inr some ↦ some ]

none_of : (o : Option (List ℕ)) → is_some o ≡ false → o ≡ None
none_of None is = refl
none_of (Some c) is = absurd cc

-- where the names are settled and each file but old logs stands
pub settled : (v w : DiskView) → ((J : Files) (m : Name) → IsImageNow v J → is_some (content J m) ≡ is_some (content v.files m)) → ((m : Name) → ¬ v.gone m) → ((n m : Name) → ¬ v.formerly n m)
    → (by : ℕ) → Watches by v w → ((J : Files) → IsImageNow w J → IsImageNow v J) → AreStanding w (keys v.files) → IsSettled w
settled v w pinned none_gone none_former by watches shrinks standing = record {
  stands = λ J m now other. elim (present_cases v.files m) as (λ _. content J m ≡ content w.files m) [
    | inl none ↦ none_of (content J m) (pinned J m (shrinks J now) ∙ ap is_some none) ∙ sym (ap (λ (f : Files). content f m) watches.files ∙ none)
    | inr some ↦ standing m (among_names v.files m (λ none. absurd (cc (sym none ∙ some.1)))) other J now
  ];
  none_gone = λ m gone. none_gone m (watches.gone m gone);
  none_former = λ n m former. none_former n m (watches.formerly n m former);
}
