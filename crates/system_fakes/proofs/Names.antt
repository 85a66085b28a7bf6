-- A table's names are those that its maps have.
use Rattle.std.proofs.Common.{◌≡◌, ◌≢◌, inl, inr, ℕ, Bool, true, false, cond, List, [], ◌∷◌, ◌++◌, map as map_list, Option, Some, None, Vec, zero, suc, ◌<◌, length, get_or, arith, refl, sym, ◌∙◌, ap, subst}
use Rattle.std.specs.declared.cmp.Ordering.{Ordering}
use Rattle.std.specs.declared.cmp.Ordering.TheVariants.{Less}
use Rattle.std.specs.declared.alloc.Global.{Global}
use Rattle.std.proofs.lemmas.Bool.{cases_Bool}
use Rattle.std.proofs.lemmas.List.{nil_from_length}
use Rattle.std.specs.BTreeMap as tree
use Rattle.std.specs.BTreeMap.{BTreeMap, is_at}
use Rattle.std.specs.Map.{lookup}
use Rattle.std.specs.List.{AllByRecursion, AllZip, each_same}
use Rattle.std.specs.Prelude.{vec_len}
use Rattle.std.specs.List.Sorted.{IsStrictlySortedBy}
use Rattle.std.specs.FinMap as map
use Rattle.std.specs.FinMap.{find, get, insert, remove, get-from_entries}
use Rattle.std.specs.FinMap.Entries.{by_order}
use Rattle.log_model.specs.declared.name.Name.{Name}
use Rattle.log_model.specs.Files.{name_cmp}
use Rattle.log_model.proofs.NameLaws.{name_cmp_total, name_cmp_exact}
use Rattle.folder_system.specs.System.{Folder}
use Rattle.system_fakes.specs.Order.{order, order_same, is_equal, name_cases, insert_here, insert_other, remove_here, remove_other, same_folder}
use Rattle.system_fakes.specs.Table.{folder_in}
use Rattle.system_fakes.specs.Texts.{texts_in}
use Rattle.system_fakes.specs.Held.{Held}

find_name : (es : List (Name × ℕ)) (q : Name) → find name_cmp q es ≡ lookup (is_at (name_cmp q)) es
find_name [] q = refl
find_name (e ∷ es) q = ap (cond (is_at (name_cmp q) e.0) (Some e.1)) (find_name es q)

-- what a name leads to
pub get_in : (m : BTreeMap Name ℕ) (q : Name) → get (folder_in m) q ≡ tree.get order m q
get_in m q = get-from_entries name_cmp_total m.entries q ∙ find_name m.entries q ∙ ap (λ (cmp : Name → Name → Ordering). tree.get cmp m q) (sym order_same)

-- names that differ don't compare alike
other_name : (k q : Name) → q ≢ k → is_at (order k) q ≡ false
other_name k q other = elim (cases_Bool (is_at (order k) q)) as (λ _. is_at (order k) q ≡ false) [
  | inl same ↦ absurd (other (sym (name_cmp_exact k q (is_equal (name_cmp k q) (ap (λ (cmp : Name → Name → Ordering). is_at (cmp k) q) (sym order_same) ∙ same)))))
  | inr not_same ↦ not_same
]

pub inserted : (m n : BTreeMap Name ℕ) (k : Name) (i : ℕ) → tree.get order n k ≡ Some i → ((q : Name) → is_at (order k) q ≡ false → tree.get order n q ≡ tree.get order m q) → folder_in n ≡ insert (folder_in m) k i
inserted m n k i here others = same_folder (folder_in n) (insert (folder_in m) k i) (λ q. elim (name_cases q k) as (λ _. get (folder_in n) q ≡ get (insert (folder_in m) k i) q) [
  | inl same ↦ ap (get (folder_in n)) same ∙ get_in n k ∙ here ∙ sym (insert_here (folder_in m) k i) ∙ ap (get (insert (folder_in m) k i)) (sym same)
  | inr other ↦ get_in n q ∙ others q (other_name k q other) ∙ sym (get_in m q) ∙ sym (insert_other (folder_in m) k q i other)
])

pub removed : (m n : BTreeMap Name ℕ) (k : Name) → tree.get order n k ≡ None → ((q : Name) → is_at (order k) q ≡ false → tree.get order n q ≡ tree.get order m q) → folder_in n ≡ remove (folder_in m) k
removed m n k here others = same_folder (folder_in n) (remove (folder_in m) k) (λ q. elim (name_cases q k) as (λ _. get (folder_in n) q ≡ get (remove (folder_in m) k) q) [
  | inl same ↦ ap (get (folder_in n)) same ∙ get_in n k ∙ here ∙ sym (remove_here (folder_in m) k) ∙ ap (get (remove (folder_in m) k)) (sym same)
  | inr other ↦ get_in n q ∙ others q (other_name k q other) ∙ sym (get_in m q) ∙ sym (remove_other (folder_in m) k q other)
])

-- a name that is put first, and then taken from its former place
pub swapped : (D : Folder) (from to : Name) (i : ℕ) → get D from ≡ Some i → get D to ≡ None → remove (insert D to i) from ≡ insert (remove D from) to i
swapped D from to i was free =
    let apart : to ≢ from = λ same. let one = ap (get D) same ∙ was in absurd (cc (one, free)) in
    same_folder (remove (insert D to i) from) (insert (remove D from) to i) (λ q. elim (name_cases q to) as (λ _. get (remove (insert D to i) from) q ≡ get (insert (remove D from) to i) q) [
      | inl same ↦ remove_other (insert D to i) from q (λ is. apart (sym same ∙ is)) ∙ ap (get (insert D to i)) same ∙ insert_here D to i ∙ sym (insert_here (remove D from) to i) ∙ ap (get (insert (remove D from) to i)) (sym same)
      | inr other ↦ elim (name_cases q from) as (λ _. get (remove (insert D to i) from) q ≡ get (insert (remove D from) to i) q) [
        | inl same ↦ ap (get (remove (insert D to i) from)) same ∙ remove_here (insert D to i) from ∙ sym (remove_here D from) ∙ ap (get (remove D from)) (sym same) ∙ sym (insert_other (remove D from) to q i other)
        | inr neither ↦ remove_other (insert D to i) from q neither ∙ insert_other D to q i other ∙ sym (remove_other D from q neither) ∙ sym (insert_other (remove D from) to q i other)
      ]
    ])

-- equal in each part
pub held_same : (g h : Held) → g.folder ≡ h.folder → g.parts ≡ h.parts → g.files ≡ h.files → g.doubtful ≡ h.doubtful → g ≡ h
held_same g h folder parts files doubtful = λ i. record { folder = folder i; parts = parts i; files = files i; doubtful = doubtful i }

pub index_text : (l : List (Vec ℕ Global)) (i : ℕ) (w : Vec ℕ Global) → i < length l → w ≡ get_or l i w → w.items ≡ get_or (texts_in l) i []
index_text [] i w lt is = absurd (omega (arith, lt))
index_text (v ∷ l) zero w lt is = ap (λ (u : Vec ℕ Global). u.items) is
index_text (v ∷ l) (suc i) w lt is = index_text l i w (omega (arith, lt)) is

pub pushed : (l : List (Vec ℕ Global)) (v : Vec ℕ Global) → v.items ≡ [] → map_list (λ (w : Vec ℕ Global). w.items) (l ++ v ∷ []) ≡ map_list (λ (w : Vec ℕ Global). w.items) l ++ [] ∷ []
pushed [] v empty = ap (λ (c : List ℕ). c ∷ []) empty
pushed (w ∷ l) v empty = ap (λ (cs : List (List ℕ)). w.items ∷ cs) (pushed l v empty)

empty_entries : map.entries (map.empty {X = ℕ} {R = name_cmp}) ≡ []
empty_entries = nil_from_length _ (sym (map.len-entries map.empty) ∙ map.len-empty name_cmp ℕ)

put_front : (k : Name) (i : ℕ) (es : List (Name × ℕ)) → AllByRecursion (λ y. name_cmp k y ≡ Less) (map_list (λ e. e.0) es) → map.put name_cmp k i es ≡ (k, i) ∷ es
put_front k i [] all = refl
put_front k i (e ∷ es) all = ap (λ (o : Ordering). by_order o ((k, i) ∷ e ∷ es) ((e.0, i) ∷ es) (e ∷ map.put name_cmp k i es)) all.0

entries_in_order : (es : List (Name × ℕ)) → IsStrictlySortedBy name_cmp (map_list (λ e. e.0) es) → map.entries (map.from_entries {R = name_cmp} es) ≡ es
unfolding IsStrictlySortedBy
entries_in_order [] sorted = empty_entries
entries_in_order (e ∷ es) sorted =
    map.entries-insert name_cmp_total (map.from_entries {R = name_cmp} es) e.0 e.1 ∙ ap (map.put name_cmp e.0 e.1) (entries_in_order es sorted.1) ∙ put_front e.0 e.1 es sorted.0

pub keys_in : (m : BTreeMap Name ℕ) → tree.IsOrdered order m → tree.keys m ≡ map.keys (folder_in m)
keys_in m ordered =
    let by_name = subst (λ (cmp : Name → Name → Ordering). IsStrictlySortedBy cmp (tree.keys m)) order_same ordered in
    sym (ap (map_list (λ (e : Name × ℕ). e.0)) (entries_in_order m.entries by_name))

pub same_pairs : (es fs : List (Name × ℕ)) → AllZip (λ p q. (q.0 ≡ p.0) × (q.1 ≡ p.1)) es fs → fs ≡ es
same_pairs [] [] same = refl
same_pairs [] (f ∷ fs) same = absurd same
same_pairs (e ∷ es) [] same = absurd same
same_pairs (e ∷ es) (f ∷ fs) same =
    let name : f.0 ≡ e.0 = same.0.0 in
    let inode : f.1 ≡ e.1 = same.0.1 in
    let first : (f.0, f.1) ≡ (e.0, e.1) = λ i. (name i, inode i) in
    λ i. first i ∷ same_pairs es fs same.1 i

pub same_texts : (es fs : List (Vec ℕ Global)) → AllZip (λ v w. AllZip (λ (x y : ℕ). y ≡ x) v.items w.items × (vec_len w ≡ vec_len v)) es fs → texts_in fs ≡ texts_in es
same_texts [] [] same = refl
same_texts [] (f ∷ fs) same = absurd same
same_texts (e ∷ es) [] same = absurd same
same_texts (e ∷ es) (f ∷ fs) same =
    let bytes : f.items ≡ e.items = each_same e.items f.items same.0.0 in
    λ i. bytes i ∷ same_texts es fs same.1 i
