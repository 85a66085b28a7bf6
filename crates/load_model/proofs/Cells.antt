-- How many cells puts leave, and contents that hold the same.
use Rattle.std.proofs.Common.{◌≡◌, ℕ, suc, ◌+◌, ◌≤◌, true, false, cond, List, [], ◌∷◌, length, Contains, Option, Some, None, is_some, refl, sym, ap, ◌∙◌, arith, inl, inr}
use Rattle.std.specs.FinMap.{get, get-empty, insert, len, empty, get-insert, len-insert, len-empty}
use Rattle.std.specs.Ordering.{eq_by_cmp, is_eq}
use Rattle.std.specs.declared.cmp.Ordering.{Ordering}
use Rattle.std.specs.declared.cmp.Ordering.TheVariants.{Less, Equal, Greater}
use Rattle.std.proofs.lemmas.Bool.{cases_Bool}
use Rattle.cell_model.specs.Cell.{Cell}
use Rattle.cell_model.specs.Order.{VersionKey, Payload, Content, version_cmp, key_of, payload_of, put_cells}
use Rattle.cell_model.proofs.OrderLaws.{version_cmp_total, version_cmp_exact}
use Rattle.cell_model.proofs.JoinLaws.{same_content}
use Rattle.log_model.specs.Recovered.{IsContent}
use Rattle.region_model.specs.Journal.{Edit, Follows, put_edits}
use Rattle.server_model.proofs.JournalLaws.{contains_cons}

-- ---- the same cells

same_option : {X : Type 0} (o u : Option X) → ((x : X) → o ≡ Some x → u ≡ Some x) → ((x : X) → u ≡ Some x → o ≡ Some x) → o ≡ u
same_option None None there back = refl
same_option None (Some x) there back = back x refl
same_option (Some x) u there back = sym (there x refl)

pub one_content : (held : VersionKey → Payload → Type 0) (m n : Content) → IsContent held m → IsContent held n → m ≡ n
one_content held m n a b = same_content m n (λ v. same_option (get m v) (get n v) (λ p is. (b v p).1 ((a v p).0 is)) (λ p is. (a v p).1 ((b v p).0 is)))

pub holds_nothing : (held : VersionKey → Payload → Type 0) → ((v : VersionKey) (p : Payload) → held v p → ⊥) → IsContent held empty
holds_nothing held none v p = ((λ is. let no : None ≡ Some p = sym (get-empty version_cmp v) ∙ is in absurd cc), (λ is. absurd (none v p is)))

-- ---- how many

is_equal : (o : Ordering) → is_eq o ≡ true → o ≡ Equal
is_equal Less e = absurd cc
is_equal Equal e = refl
is_equal Greater e = absurd cc

-- all versions have numbers up to this one
abbrev pub AreUpTo : ℕ → Content → Type 0
AreUpTo last m = (v : VersionKey) (p : Payload) → get m v ≡ Some p → v.number ≤ last

not_some : {X : Type 0} (o : Option X) → ((x : X) → o ≡ Some x → ⊥) → is_some o ≡ false
not_some None none = refl
not_some (Some x) none = absurd (none x refl)

put_up_to : (last : ℕ) (m : Content) (k : VersionKey) (w : Payload) → AreUpTo last m → k.number ≡ last + 1 → AreUpTo (last + 1) (insert m k w)
put_up_to last m k w low next v p is = elim (cases_Bool (eq_by_cmp version_cmp v k)) [
  | inl same ↦ omega (arith, ap (λ (q : VersionKey). q.number) (version_cmp_exact v k (is_equal (version_cmp v k) same)), next)
  | inr other ↦
      let there : get m v ≡ Some p = sym (ap (λ b. cond b (Some w) (get m v)) other) ∙ sym (get-insert version_cmp_total m k w v) ∙ is in
      omega (arith, low v p there)
]

one_more : (last : ℕ) (m : Content) (k : VersionKey) (w : Payload) → AreUpTo last m → k.number ≡ last + 1 → len (insert m k w) ≡ len m + 1
one_more last m k w low next =
    len-insert version_cmp_total m k w
    ∙ ap (λ b. cond b (len m) (len m + 1)) (not_some (get m k) (λ p is. omega (arith, low k p is, next)))

-- edits of one cell each, numbered without gaps
edits_counted : (last : ℕ) (m : Content) (es : List Edit) → Follows last es → ((e : Edit) → Contains es e → length e.entry.batch.cells ≡ 1) → AreUpTo last m
    → len (put_edits m es) ≡ len m + length es
edits_counted last m [] follows one low = omega arith
edits_counted last m (e ∷ es) follows one low =
    go e.entry.batch.cells (one e (0, omega arith, refl)) refl (λ grown up. edits_counted (last + 1) grown es follows.1 (λ d there. one d (contains_cons e es d there)) up)
  where
    go : (cells : List Cell) → length cells ≡ 1 → cells ≡ e.entry.batch.cells → ((grown : Content) → AreUpTo (last + 1) grown → len (put_edits grown es) ≡ len grown + length es)
        → len (put_edits (put_cells m e.entry.number e.entry.batch.cells) es) ≡ len m + suc (length es)
    go [] single is rest = absurd (omega (arith, single))
    go (c ∷ []) single is rest =
        let k : VersionKey = record { key = key_of c; number = e.entry.number } in
        let next : k.number ≡ last + 1 = follows.0 in
        let grown : Content = insert m k (payload_of c) in
        let counted : len (put_edits grown es) ≡ len grown + length es = rest grown (put_up_to last m k (payload_of c) low next) in
        let here : len (put_edits (put_cells m e.entry.number e.entry.batch.cells) es) ≡ len (put_edits grown es) = ap (λ cs. len (put_edits (put_cells m e.entry.number cs) es)) (sym is) in
        let more : len grown ≡ len m + 1 = one_more last m k (payload_of c) low next in
        omega (arith, here, counted, more)
    go (c ∷ d ∷ cs) single is rest = absurd (omega (arith, single))

pub cells_counted : (es : List Edit) → Follows 0 es → ((e : Edit) → Contains es e → length e.entry.batch.cells ≡ 1) → len (put_edits empty es) ≡ length es
cells_counted es follows one =
    let whole : len (put_edits empty es) ≡ len (empty {X = Payload} {R = version_cmp}) + length es =
    edits_counted 0 empty es follows one (λ v p is. let no : None ≡ Some p = sym (get-empty version_cmp v) ∙ is in absurd cc) in
    omega (arith, whole, len-empty version_cmp Payload)
