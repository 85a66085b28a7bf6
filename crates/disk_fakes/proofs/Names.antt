-- Files by their names.
use Rattle.std.proofs.Common.{inl, inr, ◌≢◌, subst, ◌≡◌, ℕ, Bool, true, false, cond, List, [], ◌∷◌, Option, Some, None, Vec, vec_len, refl, sym, ◌∙◌, ap}
use Rattle.std.specs.declared.cmp.Ordering.{Ordering}
use Rattle.std.specs.declared.alloc.Global.{Global}
use Rattle.std.proofs.lemmas.Bool.{cases_Bool}
use Rattle.std.specs.declared.cmp.Ordering.TheVariants.{Less}
use Rattle.std.specs.BTreeMap as tree
use Rattle.std.specs.BTreeMap.{BTreeMap, is_at}
use Rattle.std.specs.Map.{lookup}
use Rattle.std.specs.Option.{option_map, option_copied}
use Rattle.std.specs.Borrow.{Bor}
use Rattle.std.specs.List.Sorted.{IsStrictlySortedBy}
use Rattle.std.specs.List.{AllByRecursion, AllZip, each_same}
use Rattle.std.specs.Prelude.{map as map_list}
use Rattle.std.proofs.lemmas.List.{nil_from_length}
use Rattle.std.specs.FinMap.Entries.{by_order}
use Rattle.std.specs.FinMap as map
use Rattle.std.specs.FinMap.{find, get-from_entries}
use Rattle.log_model.specs.declared.name.Name.{Name}
use Rattle.log_model.specs.Files.{SameBut}
use Rattle.log_model.specs.Files.{name_cmp}
use Rattle.log_model.proofs.NameLaws.{name_cmp_total, name_cmp_exact}
use Rattle.disk_fakes.specs.Order.{order, order_same, is_equal}
use Rattle.disk_fakes.specs.Table.{with_bytes}

pick : (b : Bool) (v : Vec ℕ Global) (rest : Option (List ℕ)) (o : Option (Vec ℕ Global)) → rest ≡ option_map (λ w. w.items) o → cond b (Some v.items) rest ≡ option_map (λ w. w.items) (cond b (Some v) o)
pick true v rest o is = refl
pick false v rest o is = is

find_name : (es : List (Name × Vec ℕ Global)) (q : Name) → find name_cmp q (with_bytes es) ≡ option_map (λ v. v.items) (lookup (is_at (name_cmp q)) es)
find_name [] q = refl
find_name (e ∷ es) q = pick (is_at (name_cmp q) e.0) e.1 _ _ (find_name es q)

-- what is under a name
pub content_in : (m : BTreeMap Name (Vec ℕ Global)) (q : Name) → map.get (map.from_entries {R = name_cmp} (with_bytes m.entries)) q ≡ option_map (λ v. v.items) (tree.get order m q)
content_in m q = get-from_entries name_cmp_total (with_bytes m.entries) q ∙ find_name m.entries q ∙ ap (λ (cmp : Name → Name → Ordering). option_map (λ v. v.items) (tree.get cmp m q)) (sym order_same)

pub content_at : (m n : BTreeMap Name (Vec ℕ Global)) (q : Name) → tree.get order n q ≡ tree.get order m q → map.get (map.from_entries {R = name_cmp} (with_bytes n.entries)) q ≡ map.get (map.from_entries {R = name_cmp} (with_bytes m.entries)) q
content_at m n q same = content_in n q ∙ ap (option_map (λ v. v.items)) same ∙ sym (content_in m q)

-- names that differ don't compare alike
pub other_name : (k q : Name) → q ≢ k → is_at (order k) q ≡ false
other_name k q other = elim (cases_Bool (is_at (order k) q)) as (λ _. is_at (order k) q ≡ false) [
  | inl same ↦ absurd (other (sym (name_cmp_exact k q (is_equal (name_cmp k q) (ap (λ (cmp : Name → Name → Ordering). is_at (cmp k) q) (sym order_same) ∙ same)))))
  | inr not_same ↦ not_same
]

-- entries that are those of before but at one name
pub updated : (m n : BTreeMap Name (Vec ℕ Global)) (k : Name) (w : Option (Vec ℕ Global)) → ((q : Name) → is_at (order k) q ≡ false → tree.get order n q ≡ tree.get order m q)
    → SameBut k (map.from_entries {R = name_cmp} (with_bytes m.entries)) (map.from_entries {R = name_cmp} (with_bytes n.entries))
updated m n k w others q other = content_at m n q (others q (other_name k q other))

pub shown : (o : Option (Bor (Vec ℕ Global))) → option_map (λ v. v.items) (option_copied o) ≡ option_map (λ v. v.now.items) o
shown None = refl
shown (Some v) = refl

pub there_now : (n : BTreeMap Name (Vec ℕ Global)) (q : Name) (v : Vec ℕ Global) → tree.get order n q ≡ Some v → map.get (map.from_entries {R = name_cmp} (with_bytes n.entries)) q ≡ Some v.items
there_now n q v is = content_in n q ∙ ap (option_map (λ v. v.items)) is

pub none_now : (n : BTreeMap Name (Vec ℕ Global)) (q : Name) → tree.get order n q ≡ None → map.get (map.from_entries {R = name_cmp} (with_bytes n.entries)) q ≡ None
none_now n q is = content_in n q ∙ ap (option_map (λ v. v.items)) is

-- the bytes that a file is said to have are those that it has
pub bytes_there : (m : BTreeMap Name (Vec ℕ Global)) (q : Name) (v : Vec ℕ Global) (c : List ℕ) → tree.get order m q ≡ Some v → map.get (map.from_entries {R = name_cmp} (with_bytes m.entries)) q ≡ Some c → v.items ≡ c
bytes_there m q v c is reads = let one = there_now m q v is in cc (one, reads)

empty_entries : map.entries (map.empty {X = List ℕ} {R = name_cmp}) ≡ []
empty_entries = nil_from_length _ (sym (map.len-entries map.empty) ∙ map.len-empty name_cmp (List ℕ))

put_front : (k : Name) (c : List ℕ) (es : List (Name × List ℕ)) → AllByRecursion (λ y. name_cmp k y ≡ Less) (map_list (λ e. e.0) es) → map.put name_cmp k c es ≡ (k, c) ∷ es
put_front k c [] all = refl
put_front k c (e ∷ es) all = ap (λ (o : Ordering). by_order o ((k, c) ∷ e ∷ es) ((e.0, c) ∷ es) (e ∷ map.put name_cmp k c es)) all.0

entries_in_order : (es : List (Name × List ℕ)) → IsStrictlySortedBy name_cmp (map_list (λ e. e.0) es) → map.entries (map.from_entries {R = name_cmp} es) ≡ es
unfolding IsStrictlySortedBy
entries_in_order [] sorted = empty_entries
entries_in_order (e ∷ es) sorted =
    map.entries-insert name_cmp_total (map.from_entries {R = name_cmp} es) e.0 e.1 ∙ ap (map.put name_cmp e.0 e.1) (entries_in_order es sorted.1) ∙ put_front e.0 e.1 es sorted.0

same_keys : (es : List (Name × Vec ℕ Global)) → map_list (λ e. e.0) (with_bytes es) ≡ map_list (λ e. e.0) es
same_keys [] = refl
same_keys (e ∷ es) = ap (λ (l : List Name). e.0 ∷ l) (same_keys es)

pub keys_in : (m : BTreeMap Name (Vec ℕ Global)) → tree.IsOrdered order m → tree.keys m ≡ map.keys (map.from_entries {R = name_cmp} (with_bytes m.entries))
keys_in m ordered =
    let by_name = subst (λ (cmp : Name → Name → Ordering). IsStrictlySortedBy cmp (tree.keys m)) order_same ordered in
    let sorted = subst (λ (l : List Name). IsStrictlySortedBy name_cmp l) (sym (same_keys m.entries)) by_name in
    sym (ap (map_list (λ (e : Name × List ℕ). e.0)) (entries_in_order (with_bytes m.entries) sorted) ∙ same_keys m.entries)

-- a copy of files has the same bytes under the same names
pub same_bytes : (es fs : List (Name × Vec ℕ Global)) → AllZip (λ p q. (q.0 ≡ p.0) × (AllZip (λ (x y : ℕ). y ≡ x) p.1.items q.1.items × (vec_len q.1 ≡ vec_len p.1))) es fs → with_bytes fs ≡ with_bytes es
same_bytes [] [] same = refl
same_bytes [] (f ∷ fs) same = absurd same
same_bytes (e ∷ es) [] same = absurd same
same_bytes (e ∷ es) (f ∷ fs) same =
    let name : f.0 ≡ e.0 = same.0.0 in
    let bytes : f.1.items ≡ e.1.items = each_same e.1.items f.1.items same.0.1.0 in
    let first : (f.0, f.1.items) ≡ (e.0, e.1.items) = λ i. (name i, bytes i) in
    λ i. first i ∷ same_bytes es fs same.1 i
