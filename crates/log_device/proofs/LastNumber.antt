-- The greatest number among the names of a disk is that of the logs that are there.
use Rattle.std.proofs.Common.{◌≡◌, ◌≢◌, inl, inr, ℕ, ◌≤◌, ◌^◌, Bool, true, cond, List, [], ◌∷◌, map, Contains, Some, None, sym, ap, ◌∙◌, subst, arith}
use Rattle.std.specs.FinMap.{keys, entries, get-entries, find}
use Rattle.std.specs.Ordering.{eq_by_cmp}
use Rattle.std.proofs.lemmas.Bool.{cases_Bool}
use Rattle.std.proofs.lemmas.Cmp.{eq_by_cmp_equiv}
use Rattle.log_model.specs.declared.name.Name.{Name}
use Rattle.log_model.specs.Files.{Files, name_cmp, IsPresent}
use Rattle.log_model.specs.Recovered.{IsGreatest}
use Rattle.log_model.proofs.NameLaws.{name_cmp_total}
use Rattle.log_device.specs.Opened.{IsLastNumber, log_number}
use Rattle.log_device.proofs.Lists.{first_or_later}
use Rattle.log_device.proofs.Starting.{HasLog, among_names, number_low}

ties : (m : Name) → eq_by_cmp name_cmp m m ≡ true
ties m = (eq_by_cmp_equiv name_cmp_total).refl m

find_key : (es : List (Name × List ℕ)) (m : Name) → Contains (map (λ e. e.0) es) m → find name_cmp m es ≢ None
find_key [] m has none = omega (arith, has.1)
find_key (e ∷ es) m has none = elim (cases_Bool (eq_by_cmp name_cmp m e.0)) as (λ _. ⊥) [
  | inl is ↦ let some : find name_cmp m (e ∷ es) ≡ Some e.1 = ap (λ (b : Bool). cond b (Some e.1) (find name_cmp m es)) is in absurd (cc (sym some ∙ none))
  | inr other ↦ elim (first_or_later e.0 (map (λ x. x.0) es) m has) as (λ _. ⊥) [
    | inl is ↦ absurd (cc (sym (subst (λ (n : Name). eq_by_cmp name_cmp m n ≡ true) (sym is) (ties m)) ∙ other))
    | inr later ↦ find_key es m later (sym (ap (λ (b : Bool). cond b (Some e.1) (find name_cmp m es)) other) ∙ none)
  ]
]

there_of : (files : Files) (m : Name) → Contains (keys files) m → IsPresent files m
there_of files m has none = find_key (entries files) m has (sym (get-entries files m) ∙ none)

below : {P Q : ℕ → Type 0} {m n : ℕ} → ((k : ℕ) → P k → Q k) → IsGreatest P m → IsGreatest Q n → m ≤ n
below each a b = elim a.reached as (λ _. _) [ inl is ↦ b.bound _ (each _ is) | inr none ↦ omega (arith, none) ]

pub last_of_names : (files : Files) (a b : ℕ) → IsGreatest (HasLog (keys files)) a → IsLastNumber files b → a ≡ b
last_of_names files a b names last =
    let up : a ≤ b = below (λ k has. (has.0, there_of files has.0 has.1, has.2)) names last in
    let down : b ≤ a = below (λ k has. (has.0, among_names files has.0 has.1, has.2)) last names in
    omega (arith, up, down)

pub last_low : (files : Files) (b : ℕ) → ((m : Name) → IsPresent files m → m.number ≤ 2 ^ 63) → IsLastNumber files b → b ≤ 2 ^ 63
last_low files b small last = elim last.reached as (λ _. b ≤ 2 ^ 63) [
  | inl has ↦ omega (arith, small has.0 has.1, number_low has.0, has.2)
  | inr none ↦ omega (arith, none)
]

pub names_low : (files : Files) (a limit : ℕ) → IsGreatest (HasLog (keys files)) a → ((m : Name) → IsPresent files m → log_number m ≤ limit) → a ≤ limit
names_low files a limit names low = elim names.reached as (λ _. a ≤ limit) [
  | inl has ↦ omega (arith, low has.0 (there_of files has.0 has.1), has.2)
  | inr none ↦ omega (arith, none)
]
