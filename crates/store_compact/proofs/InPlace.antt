-- One store takes the place of a region's others, from its first byte to the last of them that goes.
use Rattle.std.proofs.Common.{◌≡◌, ◌≢◌, inl, inr, ℕ, ◌+◌, List, Contains, refl, sym, ap, ◌∙◌, arith}
use Rattle.std.specs.FinMap.{empty}
use Rattle.cell_model.specs.declared.form.Form.TheVariants.{Tagged}
use Rattle.cell_model.specs.Order.{Content, cells_of}
use Rattle.cell_model.specs.Merge.{put_numbered}
use Rattle.log_model.specs.declared.name.Name.{Name}
use Rattle.log_model.specs.declared.name.NameKind.TheVariants as kinds
use Rattle.log_model.specs.StoreText.{Store, IsStore, store_text}
use Rattle.log_model.specs.Files.{Files, content, IsAbsent, IsFit, Reads}
use Rattle.disk_images.specs.Crash.{DiskView, Throughout, OnlyAt}
use Rattle.disk_images.specs.OneFile.{Touches, IsDurableFile}
use Rattle.disk_images.specs.Calls.{IsTrueDisk}
use Rattle.disk_images.proofs.Moments.{at_once, joined, weaker}
use Rattle.disk_images.proofs.Settled.{present_cases}
use Rattle.store_file.specs.Whole.{IsWholeOrNot}
use Rattle.found_files.specs.declared.found.FoundStore.{FoundStore}
use Rattle.region_replay.specs.Dealt as dealt
use Rattle.wal_split.specs.Moments.{During}
use Rattle.store_compact.specs.declared.kind.CompactKind.{CompactKind}
use Rattle.store_compact.specs.Compacting.{kept_by, WasOrCompacted, WasOrCompactedIn, IsCompacted, IsCompactedIn, HasOneStore, AreStoredCells, IsOtherFile}
use Rattle.store_compact.specs.Ready.{IsAtRest}
use Rattle.store_compact.specs.Plan.{whole_store, AreCovered, AreToReplace, IsReplaced, IsReplacing}
use Rattle.store_compact.proofs.InRegion.{first_in, all_in}
use Rattle.store_compact.proofs.Planned.{IsPlan, compacted, compacted_in, one_left}
use Rattle.store_compact.proofs.Planning.{stored_cells, planned}
use Rattle.store_compact.proofs.Moments.{was, written_moments, written}
use Rattle.store_compact.proofs.Leaving.{AreOthers}

-- nothing is done yet
pub none_done : (v : DiskView) → IsAtRest v → IsFit v.files → (r : ℕ) (kind : CompactKind) → During (WasOrCompacted v.files r kind) v v
none_done v rest fit r kind = (0, at_once (WasOrCompacted v.files r kind) v (λ J now. was v rest fit J now r kind))

module _ (told : Type 0) (is_told : told) (found : Files) (name : Name) (names : List Name) (ss : List FoundStore) (these : AreToReplace told found name names ss) where
  pub absent : IsAbsent found name
  absent = elim (present_cases found name) as (λ _. IsAbsent found name) [
    | inl none ↦ none
    | inr some ↦ (let lower = these.number.above name (these.every is_told name these.kind refl (λ none. absurd (cc (sym none ∙ some.1)))) these.kind in absurd (omega (arith, lower)))
  ]

  pub apart : (m : Name) → Contains names m → m ≢ name
  apart m has at = these.there is_told m has (ap (λ (n : Name). content found n) at ∙ absent)

  pub are_others : AreOthers name names
  are_others m has = (these.of m has, apart m has)

  pub still_there : (v w : DiskView) → v.files ≡ found → Touches name v w → (m : Name) → Contains names m → ∥ ((c : List ℕ) × Reads w.files m c) ∥₁
  still_there v w same touches m has = elim (present_cases found m) as (λ _. ∥ ((c : List ℕ) × Reads w.files m c) ∥₁) [
    | inl none ↦ absurd (these.there is_told m has none)
    | inr some ↦ ∣ (some.0, touches.others m (apart m has) ∙ ap (λ (f : Files). content f m) same ∙ some.1) ∣₁
  ]

  -- what isn't the region's store is neither the new one nor one of the others
  pub other_named : (m : Name) → IsOtherFile name.region m → (m ≢ name) × (Contains names m → m.kind ≢ kinds.Store)
  other_named m other = (
    λ at. other (ap (λ (n : Name). n.kind) at ∙ these.kind) (ap (λ (n : Name). n.region) at),
    λ has store. other store (these.of m has),
  )

module _ {told : Type 0} (is_told : told) (v : DiskView) (rest : IsAtRest v) (name : Name) (names : List Name) (ss : List FoundStore) (these : AreToReplace told v.files name names ss) (from to : ℕ) (covered : AreCovered ss from to)
    (merged : Content) (is : merged ≡ put_numbered empty (dealt.cells_of ss)) (kind : CompactKind) (store : IsStore (whole_store name from to (kept_by kind (cells_of merged)))) where
  abbrev pub new : Store
  new = whole_store name from to (kept_by kind (cells_of merged))

  pub cells_stored : AreStoredCells v.files name.region (cells_of merged)
  cells_stored = stored_cells told is_told v.files name names ss these merged is

  plan : IsPlan v.files kind name new
  plan = planned told is_told v.files name names ss these rest.no_logs from to covered kind (cells_of merged) cells_stored store

  here : IsAbsent v.files name
  here = absent told is_told v.files name names ss these

  module _ (by : ℕ) (w : DiskView) (over : Throughout (OnlyAt name (IsWholeOrNot (store_text Tagged new)) v) by v w) where
    pub first_moments : IsFit v.files → During (WasOrCompacted v.files name.region kind) v w
    first_moments fit = (by, written_moments v rest name these.kind here kind new plan fit by w over)

    pub first_moments_in : During (WasOrCompactedIn v.files name.region kind) v w
    first_moments_in = first_in v rest name these.kind here kind new plan by w over

    pub all_moments_in : (n : ℕ) (x : DiskView) → Throughout (IsReplaced v.files name (store_text Tagged new)) n w x → During (WasOrCompactedIn v.files name.region kind) v x
    all_moments_in n x second = all_in v rest name these.kind here kind new plan by w over n x second

    pub ready_to_go : IsTrueDisk v → Touches name v w → IsDurableFile w name (store_text Tagged new) → IsReplacing v.files name (store_text Tagged new) w
    ready_to_go sound touches durable = written v rest name these.kind here kind new plan sound by w over touches durable

    pub all_moments : IsFit v.files → (n : ℕ) (x : DiskView) → Throughout (IsReplaced v.files name (store_text Tagged new)) n w x → During (WasOrCompacted v.files name.region kind) v x
    all_moments fit n x second = (
      by + n,
      joined (WasOrCompacted v.files name.region kind) by n v w x (written_moments v rest name these.kind here kind new plan fit by w over)
          (weaker (IsReplaced v.files name (store_text Tagged new)) (WasOrCompacted v.files name.region kind) n w x (λ J r. inr (compacted v.files J kind name new plan r fit)) second),
    )

  pub done : IsFit v.files → (J : Files) → IsReplaced v.files name (store_text Tagged new) J → ((m : Name) → Contains names m → m.kind ≡ kinds.Store → IsAbsent J m) → IsCompacted v.files name.region kind J × HasOneStore v.files name.region J
  done fit J replaced gone = (
    compacted v.files J kind name new plan replaced fit,
    one_left v.files J kind name new plan replaced (λ m is_store region present. gone m (these.every is_told m is_store region present) is_store),
  )

  pub done_in : (J : Files) → IsReplaced v.files name (store_text Tagged new) J → ((m : Name) → Contains names m → m.kind ≡ kinds.Store → IsAbsent J m) → IsCompactedIn v.files name.region kind J × HasOneStore v.files name.region J
  done_in J replaced gone = (
    compacted_in v.files J kind name new plan replaced,
    one_left v.files J kind name new plan replaced (λ m is_store region present. gone m (these.every is_told m is_store region present) is_store),
  )
