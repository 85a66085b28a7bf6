-- Each moment of writing a cut, from those of its parts.
use Rattle.std.proofs.Common.{◌≡◌, ℕ, ◌+◌, ◌≤◌, List, length, sym, ap, ◌∙◌, subst, arith}
use Rattle.cell_model.specs.Order.{NumberedCell, Content, cells_of}
use Rattle.log_model.specs.declared.name.Name.{Name}
use Rattle.cell_model.specs.declared.form.Form.TheVariants.{Tagged}
use Rattle.log_model.specs.StoreText.{Store, IsStore, store_text}
use Rattle.disk_images.specs.Crash.{DiskView, IsInNoImage, Throughout, OnlyAt}
use Rattle.disk_images.proofs.Moments.{more_time}
use Rattle.disk_images.proofs.Torn.{then_only}
use Rattle.recovery_laws.specs.Kept.{IsNotThere}
use Rattle.store_file.specs.Open.{OpenStore, IsAlike, IsFilling, store_of}
use Rattle.store_file.specs.Whole.{IsWholeOrNot}
use Rattle.store_file.proofs.Stores.{not_begun, or_whole}
use Rattle.store_file.proofs.Writing.{same_store}
use Rattle.flush_snapshot.specs.Cut.{segment_store}

-- the calls left it not there
pub filled_moments : (name : Name) (text : List ℕ) (m n : ℕ) (u v : DiskView) → m ≤ n → Throughout (OnlyAt name IsNotThere u) m u v → Throughout (OnlyAt name (IsWholeOrNot text) u) n u v
filled_moments name text m n u v le over = more_time (OnlyAt name (IsWholeOrNot text) u) m n u v le (or_whole name text m u v over)

-- and the others may have left it whole
pub committed_moments : (name : Name) (text : List ℕ) (m n : ℕ) (u v w : DiskView) → Throughout (OnlyAt name IsNotThere u) m u v → Throughout (OnlyAt name (IsWholeOrNot text) v) n v w
    → Throughout (OnlyAt name (IsWholeOrNot text) u) (m + n) u w
committed_moments name text m n u v w first second = then_only name (IsWholeOrNot text) m n u v w (or_whole name text m u v first) second

-- the rows are filled in, and the store is committed
pub rows_moments : (o now : OpenStore) (u v w : DiskView) (rows : List NumberedCell) → IsAlike o now → IsStore (store_of o rows) → o.count ≡ length rows → IsFilling now v rows
    → Throughout (OnlyAt o.name IsNotThere u) (length rows) u v
    → ((cells : List NumberedCell) → IsFilling now v cells → IsStore (store_of now cells) → length cells ≡ now.count → Throughout (OnlyAt now.name (IsWholeOrNot (store_text Tagged (store_of now cells))) v) 4 v w)
    → Throughout (OnlyAt o.name (IsWholeOrNot (store_text Tagged (store_of o rows))) u) (length rows + 4) u w
rows_moments o now u v w rows same whole count filling first second =
    let is : store_of now rows ≡ store_of o rows = same_store o now rows same in
    let over = second rows filling (subst IsStore (sym is) whole) (sym count ∙ sym same.count) in
    committed_moments o.name (store_text Tagged (store_of o rows)) (length rows) 4 u v w first
    (subst (λ (n : Name). Throughout (OnlyAt n (IsWholeOrNot (store_text Tagged (store_of o rows))) v) 4 v w) same.name
    (subst (λ (s : Store). Throughout (OnlyAt now.name (IsWholeOrNot (store_text Tagged s)) v) 4 v w) is over))

-- the store of a segment, as it was begun with these rows
pub record IsOfSegment (o : OpenStore) (rows : List NumberedCell) (name : Name) (family : List ℕ) (from to : ℕ) (segment : Content) : Type 0 where
  pub name_is : o.name ≡ name
  pub scope_is : o.scope ≡ 0
  pub family_is : o.family ≡ family
  pub from_is : o.from ≡ from
  pub to_is : o.to ≡ to
  pub rows_are : rows ≡ cells_of segment

pub same_segment : (o : OpenStore) (rows : List NumberedCell) (name : Name) (family : List ℕ) (from to : ℕ) (segment : Content) → IsOfSegment o rows name family from to segment → store_of o rows ≡ segment_store name family from to segment
same_segment o rows name family from to segment of = λ i. record { region = ap (λ (n : Name). n.region) of.name_is i; scope = of.scope_is i; family = of.family_is i; from = of.from_is i; to = of.to_is i; cells = of.rows_are i }

pub segment_moments : (o : OpenStore) (rows : List NumberedCell) (name : Name) (family : List ℕ) (from to : ℕ) (segment : Content) (u v w : DiskView) → IsOfSegment o rows name family from to segment → Throughout (OnlyAt name IsNotThere u) 3 u v
    → Throughout (OnlyAt o.name (IsWholeOrNot (store_text Tagged (store_of o rows))) v) (length rows + 4) v w
    → Throughout (OnlyAt name (IsWholeOrNot (store_text Tagged (segment_store name family from to segment))) u) (7 + length (cells_of segment)) u w
segment_moments o rows name family from to segment u v w of first second =
    let text : List ℕ = store_text Tagged (segment_store name family from to segment) in
    let over = subst (λ (s : Store). Throughout (OnlyAt name (IsWholeOrNot (store_text Tagged s)) v) (length rows + 4) v w) (same_segment o rows name family from to segment of)
    (subst (λ (n : Name). Throughout (OnlyAt n (IsWholeOrNot (store_text Tagged (store_of o rows))) v) (length rows + 4) v w) of.name_is second) in
    more_time (OnlyAt name (IsWholeOrNot text) u) (3 + (length rows + 4)) (7 + length (cells_of segment)) u w (omega (arith, ap length of.rows_are))
    (committed_moments name text 3 (length rows + 4) u v w first over)

-- nothing is begun
pub none_begun : (name : Name) (text : List ℕ) (m : ℕ) (v : DiskView) → IsInNoImage v name → Throughout (OnlyAt name (IsWholeOrNot text) v) m v v
none_begun name text m v none = or_whole name text m v v (not_begun name m v none)
