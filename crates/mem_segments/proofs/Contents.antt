-- A content and its list give each other back, and cells in order put what they are.
use Rattle.std.specs.Prelude.{◌≡◌, ℕ, Bool, true, false, ◌&&◌, T, List, [], ◌∷◌, map, length}
use Rattle.std.proofs.Common.{refl, sym, ap, subst, ◌∙◌}
use Rattle.std.specs.declared.cmp.Ordering.{Ordering}
use Rattle.std.specs.declared.cmp.Ordering.TheVariants.{Less, Equal, Greater}
use Rattle.std.specs.Ordering.{is_lt}
use Rattle.std.specs.FinMap.{is_sorted, entries, entries_sorted, from_sorted, empty, len, get-from_sorted, get-entries}
use Rattle.cell_model.specs.Order.{VersionKey, version_cmp, Payload, Content, NumberedCell, cell_of, cells_of, numbered_cmp}
use Rattle.cell_model.specs.Join.{joined}
use Rattle.cell_model.specs.Merge.{entry_of, IsRising, content_of, put_numbered, merged, by_turn, merge_into}
use Rattle.cell_model.proofs.JoinLaws.{same_content}
use Rattle.cell_model.proofs.MergeLaws.{content-none, content-one, content-merged, rising-one, put_numbered-halves, len-content_of}

pub first : (a b : Bool) → T (a && b) → T a
first true b p = tt
first false b p = p

pub second : (a b : Bool) → T (a && b) → T b
second true b p = p
second false b p = absurd p

pub both : (a b : Bool) → T a → T b → T (a && b)
both true b p q = q
both false b p q = p

pub less : (o : Ordering) → T (is_lt o) → o ≡ Less
less Less p = refl
less Equal p = absurd p
less Greater p = absurd p

entries-cells : (es : List (VersionKey × Payload)) → map entry_of (map cell_of es) ≡ es
entries-cells [] = refl
entries-cells (e ∷ es) = λ i. e ∷ entries-cells es i

pub rising-cells_of : (m : Content) → IsRising (cells_of m)
rising-cells_of m = subst (λ (es : List (VersionKey × Payload)). T (is_sorted version_cmp es)) (sym (entries-cells (entries m))) (entries_sorted m)

pub content_of-cells_of : (m : Content) → content_of (cells_of m) ≡ m
content_of-cells_of m = ap from_sorted (entries-cells (entries m)) ∙ same_content _ _ (λ q. get-from_sorted version_cmp (entries m) q (entries_sorted m) ∙ sym (get-entries m q))

merged_one : (x : NumberedCell) (xs : List NumberedCell) → IsRising (x ∷ xs) → merged (x ∷ []) xs ≡ x ∷ xs
merged_one x [] g = refl
merged_one x (y ∷ ys) g =
    let on = merged [] in
    ap (λ r. by_turn r (x ∷ on (y ∷ ys)) (y ∷ on ys) (y ∷ merge_into x on ys)) (less (numbered_cmp x y) (first _ _ (first _ _ g)))

-- cells in order put what they are
pub rising_content : (xs : List NumberedCell) → IsRising xs → content_of xs ≡ put_numbered empty xs
rising_content [] g = content-none
rising_content (x ∷ xs) g =
    ap content_of (sym (merged_one x xs g)) ∙ content-merged (x ∷ []) xs (rising-one x) (second _ _ g)
    ∙ (λ i. joined (content-one x i ∷ rising_content xs (second _ _ g) i ∷ [])) ∙ sym (put_numbered-halves (x ∷ []) xs)

pub len_is : (n : ℕ) (ys xs : List NumberedCell) (m : Content) → n ≡ length ys → ys ≡ xs → IsRising xs → content_of xs ≡ m → n ≡ len m
len_is n ys xs m e l g v = e ∙ ap length l ∙ sym (len-content_of xs g) ∙ ap (λ (x : Content). len x) v
