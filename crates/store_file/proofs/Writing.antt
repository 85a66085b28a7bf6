-- How a store file that is written goes on.
use Rattle.std.proofs.Common.{◌≡◌, ℕ, ◌+◌, List, [], ◌∷◌, ◌++◌, length, sym, ap, ◌∙◌, subst, arith, append_assoc, append-nil, length-append}
use Rattle.std.proofs.lemmas.List.Concat.{flat_map-append}
use Rattle.byteorder.specs.Endian.{big_bytes}
use Rattle.cell_model.specs.Cell.{spelled}
use Rattle.cell_model.specs.declared.form.Form.TheVariants.{Tagged}
use Rattle.cell_model.specs.Order.{NumberedCell}
use Rattle.log_model.specs.declared.name.Name.{Name}
use Rattle.log_model.specs.StoreText.{pairs_text, store_text}
use Rattle.disk_images.specs.Crash.{DiskView, Throughout, OnlyAt}
use Rattle.disk_images.specs.OneFile.{IsDurableFile}
use Rattle.disk_images.specs.Gate.{IsFilled, IsFronted}
use Rattle.disk_images.proofs.Moments.{more_time}
use Rattle.disk_images.proofs.Torn.{then_only}
use Rattle.recovery_laws.specs.Kept.{IsNotThere}
use Rattle.store_file.specs.Open.{OpenStore, IsAlike, IsFilling, store_of, fields_text}
use Rattle.store_file.specs.Whole.{IsWholeOrNot}
use Rattle.store_file.proofs.Stores.{begun_filled, shut_still, shut_moments, or_whole}

joined_left : (x a b s c d e : List ℕ) → (((((x ++ a) ++ b) ++ s) ++ c) ++ d) ++ e ≡ x ++ (a ++ (b ++ (s ++ (c ++ (d ++ e)))))
joined_left x a b s c d e = simp append_assoc

-- pieces of a text, one after the other
joined_fields : (a b s c d e f : List ℕ) → (a ++ (b ++ (s ++ (c ++ (d ++ e))))) ++ f ≡ a ++ (b ++ (s ++ (c ++ (d ++ (e ++ f)))))
joined_fields a b s c d e f = simp append_assoc

-- the fields of a store
abbrev pub fields_of : OpenStore → List ℕ
fields_of o = fields_text o.name.region o.scope o.family o.from o.to o.count

same_fields : (o now : OpenStore) → IsAlike o now → fields_of now ≡ fields_of o
same_fields o now same = λ i. fields_text (ap (λ (n : Name). n.region) same.name i) (same.scope i) (same.family i) (same.from i) (same.to i) (same.count i)

pub appended_fields : (x0 x1 x2 x3 x4 x5 x6 family : List ℕ) (region scope from to count : ℕ) → x1 ≡ x0 ++ (72 ∷ 87 ∷ 83 ∷ 50 ∷ []) → x2 ≡ x1 ++ big_bytes 4 region → x3 ≡ x2 ++ (scope ∷ (length family ∷ family)) → x4 ≡ x3 ++ big_bytes 8 from
    → x5 ≡ x4 ++ big_bytes 8 to → x6 ≡ x5 ++ big_bytes 8 count → x6 ≡ x0 ++ fields_text region scope family from to count
unfolding fields_text
appended_fields x0 x1 x2 x3 x4 x5 x6 family region scope from to count e1 e2 e3 e4 e5 e6 =
    let all : x6 ≡ (((((x0 ++ (72 ∷ 87 ∷ 83 ∷ 50 ∷ [])) ++ big_bytes 4 region) ++ (scope ∷ (length family ∷ family))) ++ big_bytes 8 from) ++ big_bytes 8 to) ++ big_bytes 8 count = cc in
    all ∙ joined_left x0 (72 ∷ 87 ∷ 83 ∷ 50 ∷ []) (big_bytes 4 region) (scope ∷ (length family ∷ family)) (big_bytes 8 from) (big_bytes 8 to) (big_bytes 8 count)

pub begun_filling : (o : OpenStore) (w : DiskView) → IsDurableFile w o.name (0 ∷ []) → o.at ≡ 1 → o.bytes ≡ fields_of o → o.filled ≡ 0 → IsFilling o w []
begun_filling o w file at bytes none = record {
  written = [];
  file = begun_filled o.name w file;
  at = at;
  text = bytes ∙ sym (append-nil (fields_of o));
  filled = none;
}

-- what waited is written
pub written_filling : (o now : OpenStore) (v w : DiskView) (bytes : List ℕ) (cells : List NumberedCell) → IsAlike o now → bytes ≡ o.bytes
    → ((front text : List ℕ) → IsFilled v o.name front text → o.at ≡ length text → IsFilled w o.name front (text ++ bytes))
    → now.at ≡ o.at + length bytes → now.bytes ≡ [] → now.filled ≡ o.filled → IsFilling o v cells → IsFilling now w cells
written_filling o now v w bytes cells same is on at none filled was = record {
  written = was.written ++ bytes;
  file = subst (λ (n : Name). IsFilled w n (0 ∷ []) (0 ∷ (was.written ++ bytes))) (sym same.name) (on (0 ∷ []) (0 ∷ was.written) was.file was.at);
  at = omega (arith, at, was.at, length-append was.written bytes);
  text = ap (λ (l : List ℕ). (was.written ++ bytes) ++ l) none ∙ append-nil (was.written ++ bytes) ∙ ap (λ (l : List ℕ). was.written ++ l) is ∙ was.text ∙ ap (λ (l : List ℕ). l ++ pairs_text Tagged cells) (sym (same_fields o now same));
  filled = filled ∙ was.filled;
}

-- a cell is put in
one_pair : (cells : List NumberedCell) (x : NumberedCell) → pairs_text Tagged (cells ++ x ∷ []) ≡ pairs_text Tagged cells ++ (big_bytes 8 x.0 ++ spelled Tagged x.1)
one_pair cells x =
    flat_map-append (λ (y : NumberedCell). big_bytes 8 y.0 ++ spelled Tagged y.1) cells (x ∷ []) ∙ ap (λ (l : List ℕ). pairs_text Tagged cells ++ l) (append-nil (big_bytes 8 x.0 ++ spelled Tagged x.1))

pub put_filling : (o now : OpenStore) (v : DiskView) (cells : List NumberedCell) (x : NumberedCell) → IsAlike o now → now.at ≡ o.at
    → now.bytes ≡ o.bytes ++ (big_bytes 8 x.0 ++ spelled Tagged x.1) → now.filled ≡ o.filled + 1 → IsFilling o v cells → IsFilling now v (cells ++ x ∷ [])
put_filling o now v cells x same at bytes filled was = record {
  written = was.written;
  file = subst (λ (n : Name). IsFilled v n (0 ∷ []) (0 ∷ was.written)) (sym same.name) was.file;
  at = at ∙ was.at;
  text = ap (λ (l : List ℕ). was.written ++ l) bytes ∙ sym (append_assoc was.written o.bytes (big_bytes 8 x.0 ++ spelled Tagged x.1)) ∙ ap (λ (l : List ℕ). l ++ (big_bytes 8 x.0 ++ spelled Tagged x.1)) was.text
      ∙ append_assoc (fields_of o) (pairs_text Tagged cells) (big_bytes 8 x.0 ++ spelled Tagged x.1) ∙ ap (λ (l : List ℕ). fields_of o ++ l) (sym (one_pair cells x)) ∙ ap (λ (l : List ℕ). l ++ pairs_text Tagged (cells ++ x ∷ [])) (sym (same_fields o now same));
  filled = omega (arith, filled, was.filled, length-append cells (x ∷ []));
}

-- nothing is written
pub still_shut : (o : OpenStore) (v : DiskView) (m : ℕ) (cells : List NumberedCell) → IsFilling o v cells → Throughout (OnlyAt o.name IsNotThere v) m v v
still_shut o v m cells was = shut_still o.name (0 ∷ was.written) m v was.file

-- what is said of each moment of a write
abbrev pub ShutMoments : OpenStore → DiskView → DiskView → Type 0
ShutMoments o v w = (cells : List NumberedCell) → IsFilling o v cells → Throughout (OnlyAt o.name IsNotThere v) 1 v w

pub write_moments : (o : OpenStore) (v w : DiskView) → ((front text : List ℕ) → IsFilled v o.name front text → o.at ≡ length text → Throughout (OnlyAt o.name (IsFronted front) v) 1 v w) → ShutMoments o v w
write_moments o v w over cells was = shut_moments o.name 1 v w (over (0 ∷ []) (0 ∷ was.written) was.file was.at)

text_of : (o : OpenStore) (cells : List NumberedCell) → store_text Tagged (store_of o cells) ≡ 165 ∷ (fields_text o.name.region o.scope o.family o.from o.to (length cells) ++ pairs_text Tagged cells)
unfolding store_text fields_text
text_of o cells =
    ap (λ (l : List ℕ). 165 ∷ l) (sym (joined_fields (72 ∷ 87 ∷ 83 ∷ 50 ∷ []) (big_bytes 4 o.name.region) (o.scope ∷ (length o.family ∷ o.family)) (big_bytes 8 o.from) (big_bytes 8 o.to) (big_bytes 8 (length cells)) (pairs_text Tagged cells)))

-- all is written
whole_text : (o : OpenStore) (v : DiskView) (cells : List NumberedCell) → length cells ≡ o.count → o.bytes ≡ [] → (was : IsFilling o v cells) → 165 ∷ was.written ≡ store_text Tagged (store_of o cells)
whole_text o v cells count none was =
    ap (λ (l : List ℕ). 165 ∷ l) (sym (append-nil was.written) ∙ ap (λ (l : List ℕ). was.written ++ l) (sym none) ∙ was.text ∙ ap (λ (n : ℕ). fields_text o.name.region o.scope o.family o.from o.to n ++ pairs_text Tagged cells) (sym count)) ∙ sym (text_of o cells)

pub same_store : (o now : OpenStore) (cells : List NumberedCell) → IsAlike o now → store_of now cells ≡ store_of o cells
same_store o now cells same = λ i. record { region = ap (λ (n : Name). n.region) same.name i; scope = same.scope i; family = same.family i; from = same.from i; to = same.to i; cells = cells }

module _ (o now : OpenStore) (name : Name) (u v w : DiskView) (same : IsAlike o now) (named : name ≡ o.name) (none : now.bytes ≡ []) where
  pub written_file : (cells : List NumberedCell) → (was : IsFilling now v cells) → IsFilled v name (0 ∷ []) (0 ∷ was.written)
  written_file cells was = subst (λ (n : Name). IsFilled v n (0 ∷ []) (0 ∷ was.written)) (same.name ∙ sym named) was.file

  module _ (cells : List NumberedCell) (count : length cells ≡ o.count) (was : IsFilling now v cells) where
    text_is : 165 ∷ was.written ≡ store_text Tagged (store_of o cells)
    text_is = whole_text now v cells (count ∙ sym same.count) none was ∙ ap (store_text Tagged) (same_store o now cells same)

    pub stored_whole : ((behind : List ℕ) → IsFilled v name (0 ∷ []) (0 ∷ behind) → IsDurableFile w name (165 ∷ behind)) → IsDurableFile w o.name (store_text Tagged (store_of o cells))
    stored_whole on = subst (λ (n : Name). IsDurableFile w n (store_text Tagged (store_of o cells))) named (subst (λ (text : List ℕ). IsDurableFile w name text) text_is (on was.written (written_file cells was)))

    pub moments_whole : Throughout (OnlyAt o.name IsNotThere u) 1 u v → ((behind : List ℕ) → IsFilled v name (0 ∷ []) (0 ∷ behind) → Throughout (OnlyAt name (IsWholeOrNot (165 ∷ behind)) v) 3 v w)
        → Throughout (OnlyAt o.name (IsWholeOrNot (store_text Tagged (store_of o cells))) u) 4 u w
    moments_whole first second =
        let text : List ℕ = store_text Tagged (store_of o cells) in
        then_only o.name (IsWholeOrNot text) 1 3 u v w (or_whole o.name text 1 u v first)
        (subst (λ (n : Name). Throughout (OnlyAt n (IsWholeOrNot text) v) 3 v w) named (subst (λ (t : List ℕ). Throughout (OnlyAt name (IsWholeOrNot t) v) 3 v w) text_is (second was.written (written_file cells was))))

-- no byte more is written
pub moments_none : (o : OpenStore) (text : List ℕ) (u v : DiskView) → Throughout (OnlyAt o.name IsNotThere u) 1 u v → Throughout (OnlyAt o.name (IsWholeOrNot text) u) 4 u v
moments_none o text u v first = more_time (OnlyAt o.name (IsWholeOrNot text) u) 1 4 u v (omega arith) (or_whole o.name text 1 u v first)
