-- What was found is kept by each image that fits, so also where a run finds no memory for its report, or can't be closed.
use Rattle.std.proofs.Common.{◌≡◌, ℕ, ◌⊎◌, ◌+◌, ◌≤◌, ◌↔◌, true, cond, List, [], ◌∷◌, Some, refl, sym, ap, ◌∙◌, arith, inl, inr, leb, ◌<◌, Bool, subst}
use Rattle.std.specs.FinMap.{get, insert, get-insert}
use Rattle.std.specs.Ordering.{eq_by_cmp, is_eq}
use Rattle.std.specs.declared.cmp.Ordering.{Ordering}
use Rattle.std.specs.declared.cmp.Ordering.TheVariants.{Less, Equal, Greater}
use Rattle.std.proofs.lemmas.Bool.{cases_Bool, cases_lt}
use Rattle.cell_model.specs.Cell.{Cell}
use Rattle.cell_model.specs.Order.{VersionKey, Payload, Content, version_cmp, key_of, payload_of, put_cells}
use Rattle.cell_model.proofs.OrderLaws.{version_cmp_total, version_cmp_exact}
use Rattle.log_model.specs.Files.{Files, IsFit}
use Rattle.log_model.specs.Recovered.{IsRecovered, IsLast, IsGreatest, RecoversAlike}
use Rattle.region_model.specs.Journal.{Base, Edit, Follows, put_edits, cut_at}
use Rattle.region_model.specs.Crash.{Fits}
use Rattle.disk_images.specs.Crash.{DiskView, IsImageNow}
use Rattle.script_model.specs.Calls.{Script}
use Rattle.server_model.specs.Pass.{Naming, Pass}
use Rattle.server_model.specs.Closing.{Region, Handled, passes_of, IsClosedRegion, Survives, Leaves}
use Rattle.run_model.specs.Headline.{AllKeep, KeepsFound, KeepsIn, IsHalfOpened}
use Rattle.run_model.specs.Closed.{IsFound, MayOpen, ClosedAt, Closed}
use Rattle.disk_images.proofs.Moments.{at_end}
use Rattle.std.proofs.Math.Logic.{∥∥₁_map, ∥∥₁_map₂}
use Rattle.run_model.proofs.FromClose.{region_there}
use Rattle.run_model.proofs.Choices.{each_up_to}

is_equal : (o : Ordering) → is_eq o ≡ true → o ≡ Equal
is_equal Less e = absurd cc
is_equal Equal e = refl
is_equal Greater e = absurd cc

-- putting in another version changes nothing here
other_version : (m : Content) (k v : VersionKey) (p : Payload) → (v.number ≡ k.number → ⊥) → get (insert m k p) v ≡ get m v
other_version m k v p differ = get-insert version_cmp_total m k p v ∙ elim (cases_Bool (eq_by_cmp version_cmp v k)) [
  | inl is_so ↦ absurd (differ (ap (λ (w : VersionKey). w.number) (version_cmp_exact v k (is_equal (version_cmp v k) is_so))))
  | inr not_so ↦ ap (λ b. cond b (Some p) (get m v)) not_so
]

other_cells : (cs : List Cell) (m : Content) (n : ℕ) (v : VersionKey) → (v.number ≡ n → ⊥) → get (put_cells m n cs) v ≡ get m v
other_cells [] m n v differ = refl
other_cells (c ∷ cs) m n v differ = other_cells cs (insert m (record { key = key_of c; number = n }) (payload_of c)) n v differ ∙ other_version m (record { key = key_of c; number = n }) v (payload_of c) differ

-- edits above a number leave the versions up to it
pub later_edits : (last : ℕ) (es : List Edit) (m : Content) (p : ℕ) (v : VersionKey) → Follows last es → v.number ≤ last → get (put_edits m (cut_at p es)) v ≡ get m v
later_edits last [] m p v f low = refl
later_edits last (e ∷ es) m p v f low = elim (cases_Bool (leb e.entry.number p)) [
  | inl is_so ↦ ap (λ b. get (put_edits m (cond b (e ∷ cut_at p es) (cut_at p es))) v) is_so ∙ later_edits (last + 1) es (put_cells m e.entry.number e.entry.batch.cells) p v f.1 (omega (arith, low))
      ∙ other_cells e.entry.batch.cells m e.entry.number v (λ same. omega (arith, same, f.0, low))
  | inr not_so ↦ ap (λ b. get (put_edits m (cond b (e ∷ cut_at p es) (cut_at p es))) v) not_so ∙ later_edits (last + 1) es m p v f.1 (omega (arith, low))
]

-- An image that fits has the cells of the base, and no other ones numbered up to its last number.
pub keeps_base : (J : Files) (r : ℕ) (base : Base) (edits : List Edit) (m : ℕ) (v : VersionKey) (p : Payload) → Follows base.last edits → Fits J r base edits m → v.number ≤ base.last
    → (get base.content v ≡ Some p) ↔ IsRecovered J r v p
keeps_base J r base edits m v p f fits low =
    let same : get (put_edits base.content (cut_at m edits)) v ≡ get base.content v = later_edits base.last edits base.content m v f low in
    ((λ e. (fits.content v p).0 (same ∙ e)), (λ is. sym same ∙ (fits.content v p).1 is))

greatest_le : (P : ℕ → Type 0) (m n : ℕ) → IsGreatest P m → IsGreatest P n → m ≤ n
greatest_le P m n a b = elim a.reached as (λ _. m ≤ n) [ inl there ↦ b.bound m there | inr none ↦ omega (arith, none) ]

pub one_last : (files : Files) (r m n : ℕ) → IsLast files r m → IsLast files r n → m ≡ n
one_last files r m n a b = omega (arith, greatest_le _ m n a b, greatest_le _ n m b a)

-- Each region of a server stands in the image, or recovers as it did.
pub record Stands (found : Files) (regions : ℕ) (J : Files) : Type 0 where
  pub fit : IsFit J
  pub within : (r : ℕ) → 1 ≤ r → r ≤ regions → (base : Base) × (edits : List Edit) × (m : ℕ) × Follows base.last edits × Fits J r base edits m × IsFound found r base
  pub above : (r : ℕ) → regions < r → RecoversAlike found J r

pub stands_keeps : (found : Files) (regions : ℕ) (J : Files) → Stands found regions J → KeepsIn found J
stands_keeps found regions J s = record { fit = s.fit; cells = cells }
  where
    cells : (r last : ℕ) → 1 ≤ r → IsLast found r last → (v : VersionKey) (p : Payload) → v.number ≤ last → (IsRecovered J r v p → IsRecovered found r v p) × (IsRecovered found r v p → IsRecovered J r v p)
    cells r last pos is v p low = elim (cases_lt regions r) [
      | inl above ↦ (let alike = (s.above r above).content v p in (alike.1, alike.0))
      | inr within ↦ (let x = s.within r pos (omega (arith, within)) in
          let number : last ≡ x.0.last = one_last found r last x.0.last is x.5.last in
          let kept = keeps_base J r x.0 x.1 x.2 v p x.3 x.4 (omega (arith, low, number)) in
          let held = x.5.content v p in
          ((λ j. held.0 (kept.1 j)), (λ f. kept.0 (held.1 f))))
    ]

-- The regions of a server stand in an image, where each has a journal that the image fits.
standing : (found : Files) (left : DiskView) (name : Naming) (passes : List Pass) (regions : ℕ) (broken : Bool) → 1 ≤ regions
    → ((r : ℕ) → 1 ≤ r → r ≤ regions → (x : Region) × IsClosedRegion name r passes x × Survives left broken r x) → Leaves found left broken regions
    → ((r : ℕ) → 1 ≤ r → r ≤ regions → IsFound found r (name.bases r)) → (J : Files) → IsImageNow left J → KeepsIn found J
standing found left name passes regions broken some each leaves bases J image = stands_keeps found regions J record {
  fit = (at 1 (omega arith) some).4.fit;
  within = at;
  above = λ r high. leaves.others J r image high;
}
  where
    at : (r : ℕ) → 1 ≤ r → r ≤ regions → (base : Base) × (edits : List Edit) × (m : ℕ) × Follows base.last edits × Fits J r base edits m × IsFound found r base
    at r low high =
        let x = each r low high in
        let i = x.2.images J image in
        (x.0.base, x.0.edits, i.0, x.1.journal.numbers, i.1, subst (IsFound found r) (sym x.1.base) (bases r low high))

-- where no memory was found to close it
pub left_keeps : (found : Files) (left : DiskView) (name : Naming) (passes : List Pass) (regions : ℕ) (broken : Bool) → 1 ≤ regions
    → ((r : ℕ) → 1 ≤ r → r ≤ regions → ∥ ((x : Region) × IsClosedRegion name r passes x × Survives left broken r x) ∥₁) → ∥ Leaves found left broken regions ∥₁
    → ((r : ℕ) → 1 ≤ r → r ≤ regions → IsFound found r (name.bases r)) → AllKeep found left
left_keeps found left name passes regions broken some each leaves bases J image =
    ∥∥₁_map₂ (each_up_to (λ r. (x : Region) × IsClosedRegion name r passes x × Survives left broken r x) regions each) leaves
    (λ regions_so left_so. standing found left name passes regions broken some regions_so left_so bases J image)

-- where it was closed
pub closed_keeps : {script : Script} (found : Files) (left : DiskView) {name : Naming} {hs : List Handled} {xs : List ClosedAt} {broken : Bool} → Closed script found left name hs xs broken
    → AllKeep found left
closed_keeps {script} found left {name} {hs} {xs} {broken} c = left_keeps found left name (passes_of hs) script.regions broken c.script_right.some_region at c.leaves c.bases
  where
    at : (r : ℕ) → 1 ≤ r → r ≤ script.regions → ∥ ((x : Region) × IsClosedRegion name r (passes_of hs) x × Survives left broken r x) ∥₁
    at r low high =
        let x = region_there c r low high in
        ∥∥₁_map (c.survives x.0 x.1) (λ kept. (x.0.it, subst (λ k. IsClosedRegion name k (passes_of hs) x.0.it) x.2 (c.regions x.0 x.1), subst (λ k. Survives left broken k x.0.it) x.2 kept))

pub alike_keeps : (found J : Files) → ((r : ℕ) → RecoversAlike found J r) → KeepsIn found J
alike_keeps found J alike = record {
  fit = (alike 1).fit;
  cells = λ r last pos is v p low. (((alike r).content v p).1, ((alike r).content v p).0);
}

-- where an opening was left
pub half_keeps : (found left : DiskView) → IsHalfOpened found left → KeepsFound found left
half_keeps found left half J image = ∥∥₁_map half (λ over. elim (at_end (MayOpen found) over.0 found left over.1 J image) as (λ _. IsImageNow found J ⊎ KeepsIn found.files J) [
  | inl was ↦ inl was
  | inr alike ↦ inr (alike_keeps found.files J alike)
])

-- what is kept in each image is kept
pub all_keep : (found left : DiskView) → AllKeep found.files left → KeepsFound found left
all_keep found left all J image = ∥∥₁_map (all J image) (λ kept. inr kept)
