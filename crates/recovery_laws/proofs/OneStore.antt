-- A store's text is that of one store.
use Rattle.std.proofs.Common.{◌≡◌, ℕ, ◌<◌, ◌^◌, List, [], ◌∷◌, ◌++◌, length, take, drop, get_or, refl, sym, ap, subst, ◌∙◌, arith, append_assoc}
use Rattle.std.specs.List.{AllByRecursion}
use Rattle.std.proofs.lemmas.List.{take_at, drop_at}
use Rattle.byteorder.specs.Endian.{big_bytes}
use Rattle.cell_model.specs.Cell.{HasForm, spelled}
use Rattle.cell_model.specs.declared.form.Form.{Form}
use Rattle.cell_model.specs.declared.form.Form.TheVariants.{Plain, Tagged}
use Rattle.cell_model.specs.Order.{NumberedCell}
use Rattle.cell_model.proofs.CellLaws.{number_is, same_rest}
use Rattle.log_model.specs.StoreText.{Store, IsStoredCell, FitsForm, IsStoreText, scope_text, store_text, pairs_text}

-- numbers at one front are one
same_number : (x y : ℕ) (a b : List ℕ) → x < 2 ^ 48 → y < 2 ^ 48 → big_bytes 8 x ++ a ≡ big_bytes 8 y ++ b → x ≡ y
same_number x y a b lx ly same =
    sym (number_is 8 0 x (big_bytes 8 x ++ a) a refl (omega (arith, lx))) ∙ number_is 8 0 y (big_bytes 8 x ++ a) b same (omega (arith, ly))

one_pairs : (form : Form) (s t : Store) (xs ys : List NumberedCell) → s.to < 2 ^ 48 → t.to < 2 ^ 48 → AllByRecursion (IsStoredCell s) xs → AllByRecursion (IsStoredCell t) ys
    → AllByRecursion (λ x. HasForm form x.1) xs → AllByRecursion (λ x. HasForm form x.1) ys → pairs_text form xs ≡ pairs_text form ys → xs ≡ ys
one_pairs form s t [] [] ls lt hs ht fs ft same = refl
one_pairs form s t [] (y ∷ ys) ls lt hs ht fs ft same = let h : 0 ≡ length (pairs_text form (y ∷ ys)) = ap length same in absurd (omega (arith, h))
one_pairs form s t (x ∷ xs) [] ls lt hs ht fs ft same = let h : length (pairs_text form (x ∷ xs)) ≡ 0 = ap length same in absurd (omega (arith, h))
one_pairs form s t (x ∷ xs) (y ∷ ys) ls lt hs ht fs ft same =
    let e : big_bytes 8 x.0 ++ (spelled form x.1 ++ pairs_text form xs) ≡ big_bytes 8 y.0 ++ (spelled form y.1 ++ pairs_text form ys) =
    sym (append_assoc (big_bytes 8 x.0) (spelled form x.1) (pairs_text form xs)) ∙ same ∙ append_assoc (big_bytes 8 y.0) (spelled form y.1) (pairs_text form ys) in
    let number : x.0 ≡ y.0 = same_number x.0 y.0 (spelled form x.1 ++ pairs_text form xs) (spelled form y.1 ++ pairs_text form ys) (omega (arith, hs.0.to, ls)) (omega (arith, ht.0.to, lt)) e in
    let rest : spelled form x.1 ++ pairs_text form xs ≡ spelled form y.1 ++ pairs_text form ys = ap (drop 8) e in
    let cell = same_rest form x.1 y.1 (pairs_text form xs) (pairs_text form ys) fs.0 ft.0 rest in
    let more = one_pairs form s t xs ys ls lt hs.1 ht.1 fs.1 ft.1 cell.1 in
    λ i. (number i, cell.0 i) ∷ more i

-- the fifth byte tells the form
same_form : (f g : Form) (s t : Store) → store_text f s ≡ store_text g t → f ≡ g
unfolding store_text
same_form Plain Plain s t e = refl
same_form Plain Tagged s t e = let h : 49 ≡ 50 = ap (λ (l : List ℕ). get_or l 4 0) e in absurd (omega (arith, h))
same_form Tagged Plain s t e = let h : 50 ≡ 49 = ap (λ (l : List ℕ). get_or l 4 0) e in absurd (omega (arith, h))
same_form Tagged Tagged s t e = refl

record SameScope (s t : Store) (x y : List ℕ) : Type 0 where
  pub scope : s.scope ≡ t.scope
  pub family : s.family ≡ t.family
  pub rest : x ≡ y

same_scope : (form : Form) (s t : Store) (x y : List ℕ) → FitsForm form s → FitsForm form t → scope_text form s ++ x ≡ scope_text form t ++ y → SameScope s t x y
same_scope Plain s t x y fs ft e = record { scope = fs.scope refl ∙ sym (ft.scope refl); family = fs.family refl ∙ sym (ft.family refl); rest = e }
same_scope Tagged s t x y fs ft e =
    let size : length s.family ≡ length t.family = ap (λ (l : List ℕ). get_or l 1 0) e in
    let behind : s.family ++ x ≡ t.family ++ y = ap (drop 2) e in
    record {
      scope = ap (λ (l : List ℕ). get_or l 0 0) e;
      family = sym (take_at s.family x (length s.family) refl) ∙ ap (take (length s.family)) behind ∙ take_at t.family y (length s.family) (sym size);
      rest = sym (drop_at s.family x (length s.family) refl) ∙ ap (drop (length s.family)) behind ∙ drop_at t.family y (length s.family) (sym size);
    }

one_of_form : (form : Form) (r : ℕ) (bytes : List ℕ) (s t : Store) → IsStoreText r bytes s → IsStoreText r bytes t → FitsForm form s → FitsForm form t → store_text form s ≡ store_text form t → s ≡ t
unfolding store_text
one_of_form form r bytes s t hs ht fs ft same =
    let xs : List ℕ = big_bytes 8 s.to ++ (big_bytes 8 (length s.cells) ++ pairs_text form s.cells) in
    let xt : List ℕ = big_bytes 8 t.to ++ (big_bytes 8 (length t.cells) ++ pairs_text form t.cells) in
    let region : s.region ≡ t.region = hs.region ∙ sym ht.region in
    let scoped = same_scope form s t (big_bytes 8 s.from ++ xs) (big_bytes 8 t.from ++ xt) fs ft (behind_word form s t same) in
    let from : s.from ≡ t.from = same_number s.from t.from xs xt (omega (arith, hs.store.to, hs.store.limit)) (omega (arith, ht.store.to, ht.store.limit)) scoped.rest in
    let to : s.to ≡ t.to = same_number s.to t.to (big_bytes 8 (length s.cells) ++ pairs_text form s.cells) (big_bytes 8 (length t.cells) ++ pairs_text form t.cells) hs.store.limit ht.store.limit (ap (drop 8) scoped.rest) in
    let cells : s.cells ≡ t.cells = one_pairs form s t s.cells t.cells hs.store.limit ht.store.limit hs.store.each ht.store.each fs.each ft.each (ap (drop 24) scoped.rest) in
    λ i. record { region = region i; scope = scoped.scope i; family = scoped.family i; from = from i; to = to i; cells = cells i }
  where
    behind_word : (f : Form) (a b : Store) → store_text f a ≡ store_text f b
        → scope_text f a ++ (big_bytes 8 a.from ++ (big_bytes 8 a.to ++ (big_bytes 8 (length a.cells) ++ pairs_text f a.cells))) ≡ scope_text f b ++ (big_bytes 8 b.from ++ (big_bytes 8 b.to ++ (big_bytes 8 (length b.cells) ++ pairs_text f b.cells)))
    behind_word Plain a b e = ap (drop 9) e
    behind_word Tagged a b e = ap (drop 9) e

pub one_store : (r : ℕ) (bytes : List ℕ) (s t : Store) → IsStoreText r bytes s → IsStoreText r bytes t → s ≡ t
one_store r bytes s t hs ht =
    let same : store_text hs.form s ≡ store_text ht.form t = sym hs.is ∙ ht.is in
    let form : ht.form ≡ hs.form = sym (same_form hs.form ht.form s t same) in
    one_of_form hs.form r bytes s t hs ht hs.fits (subst (λ (f : Form). FitsForm f t) form ht.fits) (same ∙ ap (λ (f : Form). store_text f t) form)
