-- Names are told apart by their order, and what insert and remove leave.
use Rattle.std.proofs.Common.{◌≡◌, ◌≢◌, ◌⊎◌, inl, inr, ℕ, Bool, true, false, cond, List, Option, Some, None, refl, ◌∙◌, ap, if◌then◌else◌, ◌==◌}
use Rattle.std.specs.declared.cmp.Ordering.{Ordering}
use Rattle.std.specs.declared.cmp.Ordering.TheVariants.{Less, Equal, Greater}
use Rattle.std.specs.Cmp.{eq_by_cmp_equiv}
use Rattle.std.specs.Ordering.{eq_by_cmp, is_eq}
use Rattle.std.proofs.lemmas.Bool.{cases_Bool}
use Rattle.std.specs.FinMap as map
use Rattle.std.specs.FinMap.{FinMap, get, insert, remove, get-insert, get-remove, same_map}
use Rattle.std.specs.Coded.{Coded, code_by, coded×, coded_ℕ}
use Rattle.log_model.specs.declared.name.Name.{Name}
use Rattle.log_model.specs.declared.name.NameKind.{NameKind}
use Rattle.log_model.specs.declared.name.NameKind.TheVariants.{Log, Old, Store, Edits}
use Rattle.log_model.specs.Files.{rank_of, name_cmp}
use Rattle.log_model.specs.contracts.name.NameOrd.TheImpl.{cmp-value}
use Rattle.log_model.proofs.NameLaws.{name_cmp_total, name_cmp_exact}
use Rattle.folder_system.specs.System.{Folder}

abbrev pub kind_of : ℕ → NameKind
kind_of n = if n == 0 then Log else if n == 1 then Old else if n == 2 then Store else Edits

kind_back : (k : NameKind) → kind_of (rank_of k) ≡ k
kind_back Log = refl
kind_back Old = refl
kind_back Store = refl
kind_back Edits = refl

abbrev pub named : ℕ × (ℕ × ℕ) → Name
named p = record { kind = kind_of p.0; region = p.1.0; number = p.1.1 }

pub back : (a : Name) → named (rank_of a.kind, (a.region, a.number)) ≡ a
back a = λ i. record { kind = kind_back a.kind i; region = a.region; number = a.number }

pub is_equal : (r : Ordering) → is_eq r ≡ true → r ≡ Equal
is_equal Less is = absurd (cc is)
is_equal Equal is = refl
is_equal Greater is = absurd (cc is)

-- the derived order is that of the definitions
abbrev pub order : Name → Name → Ordering
order = cmp-value.it

abbrev made : NameKind → ℕ → ℕ → Name
made k r n = record { kind = k; region = r; number = n }

parts_order : (k j : NameKind) (r s n m : ℕ) → order (made k r n) (made j s m) ≡ name_cmp (made k r n) (made j s m)
parts_order Log Log r s n m = refl
parts_order Log Old r s n m = refl
parts_order Log Store r s n m = refl
parts_order Log Edits r s n m = refl
parts_order Old Log r s n m = refl
parts_order Old Old r s n m = refl
parts_order Old Store r s n m = refl
parts_order Old Edits r s n m = refl
parts_order Store Log r s n m = refl
parts_order Store Old r s n m = refl
parts_order Store Store r s n m = refl
parts_order Store Edits r s n m = refl
parts_order Edits Log r s n m = refl
parts_order Edits Old r s n m = refl
parts_order Edits Store r s n m = refl
parts_order Edits Edits r s n m = refl

pub order_same : order ≡ name_cmp
order_same = λ i a b. parts_order a.kind b.kind a.region b.region a.number b.number i

pub same_name : (q k : Name) → eq_by_cmp name_cmp q k ≡ true → q ≡ k
same_name q k is = name_cmp_exact q k (is_equal (name_cmp q k) is)

one_name : (k : Name) → eq_by_cmp name_cmp k k ≡ true
one_name k = (eq_by_cmp_equiv name_cmp_total).refl k

pub one_of : (q k : Name) → q ≡ k → eq_by_cmp name_cmp q k ≡ true
one_of q k is = ap (λ (x : Name). eq_by_cmp name_cmp x k) is ∙ one_name k

not_one : (q k : Name) → q ≢ k → eq_by_cmp name_cmp q k ≡ false
not_one q k other = elim (cases_Bool (eq_by_cmp name_cmp q k)) as (λ _. eq_by_cmp name_cmp q k ≡ false) [
  | inl same ↦ absurd (other (same_name q k same))
  | inr not_same ↦ not_same
]

pub name_cases : (q k : Name) → (q ≡ k) ⊎ (q ≢ k)
name_cases q k = elim (cases_Bool (eq_by_cmp name_cmp q k)) as (λ _. (q ≡ k) ⊎ (q ≢ k)) [
  | inl same ↦ inl (same_name q k same)
  | inr not_same ↦ inr (λ is. let one : eq_by_cmp name_cmp q k ≡ true = ap (λ (x : Name). eq_by_cmp name_cmp x k) is ∙ one_name k in absurd (cc (one, not_same)))
]

pub insert_here : (D : Folder) (k : Name) (i : ℕ) → get (insert D k i) k ≡ Some i
insert_here D k i = get-insert name_cmp_total D k i k ∙ ap (λ (b : Bool). cond b (Some i) (get D k)) (one_name k)

pub insert_other : (D : Folder) (k q : Name) (i : ℕ) → q ≢ k → get (insert D k i) q ≡ get D q
insert_other D k q i other = get-insert name_cmp_total D k i q ∙ ap (λ (b : Bool). cond b (Some i) (get D q)) (not_one q k other)

pub remove_here : (D : Folder) (k : Name) → get (remove D k) k ≡ None
remove_here D k = get-remove name_cmp_total D k k ∙ ap (λ (b : Bool). cond b None (get D k)) (one_name k)

pub remove_other : (D : Folder) (k q : Name) → q ≢ k → get (remove D k) q ≡ get D q
remove_other D k q other = get-remove name_cmp_total D k q ∙ ap (λ (b : Bool). cond b None (get D q)) (not_one q k other)

-- folders that answer alike are one
pub same_folder : (D E : Folder) → ((m : Name) → get D m ≡ get E m) → D ≡ E
same_folder D E same = same_map name_cmp_total name_cmp_exact D E same

abbrev pub coded_name : Coded Name
coded_name = code_by (ℕ × (ℕ × ℕ)) (coded× coded_ℕ (coded× coded_ℕ coded_ℕ)) (λ n. (rank_of n.kind, (n.region, n.number))) named back

abbrev pub coded_folder : Coded Folder
coded_folder = map.code coded_name coded_ℕ
