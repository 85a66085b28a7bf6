-- Images of a compaction in which nothing is asked of other regions' stores.
use Rattle.std.proofs.Common.{◌≡◌, ◌≢◌, inl, inr, ℕ, ◌+◌, ◌≤◌, sym, ap, ◌∙◌, subst, arith}
use Rattle.cell_model.specs.declared.form.Form.TheVariants.{Tagged}
use Rattle.log_model.specs.declared.name.Name.{Name}
use Rattle.log_model.specs.declared.name.NameKind.TheVariants as kinds
use Rattle.log_model.specs.StoreText.{Store, store_text}
use Rattle.log_model.specs.Files.{Files, content, IsAbsent, IsStoreFile}
use Rattle.log_model.specs.Recovered.{IsCounting, IsSeen}
use Rattle.disk_images.specs.Crash.{DiskView, IsImageNow, Throughout, OnlyAt}
use Rattle.disk_images.proofs.Moments.{at_once, joined, weaker}
use Rattle.store_file.specs.Whole.{IsWholeOrNot}
use Rattle.found_files.specs.Watching.{OnlyWatches}
use Rattle.recovery_laws.specs.Kept.{HasNoLogs, IsNotThere}
use Rattle.recovery_laws.proofs.Lasts.{same_last}
use Rattle.recovery_laws.proofs.Stores.{Counts, stored_by}
use Rattle.wal_split.specs.Moments.{During}
use Rattle.store_compact.specs.declared.kind.CompactKind.{CompactKind}
use Rattle.store_compact.specs.Compacting.{IsAsFound, IsCompactedIn, WasOrCompactedIn}
use Rattle.store_compact.specs.Ready.{IsAtRest}
use Rattle.store_compact.specs.Plan.{IsReplaced}
use Rattle.store_compact.proofs.Moments.{replaced, no_logs_here}
use Rattle.store_compact.proofs.Planned.{IsPlan, compacted_in}
use Rattle.store_compact.proofs.Stores.{none_logged}

-- each store that is there and whole is there in the other files
abbrev HaveStores : Files → Files → Type 0
HaveStores I J = (q : ℕ) (m : Name) (s : Store) → IsStoreFile I q m s → IsStoreFile J q m s

counts_as : (I J : Files) → HaveStores I J → HaveStores J I → Counts I J
counts_as I J there back q n s c = record { file = there q n s c.file; stands = λ other t f one. c.stands other t (back q other t f) one }

seen_as : (I J : Files) → HaveStores I J → HaveStores J I → HasNoLogs I → (q m : ℕ) → IsSeen I q m → (n : ℕ) × IsSeen J q n × (m ≤ n)
seen_as I J there back none q m (inl f) = (m, inl (f.0, f.1, counts_as I J there back q f.0 f.1 f.2, f.3), omega arith)
seen_as I J there back none q m (inr e) = absurd (none_logged I none e.0 e.1)

as_found : (I J : Files) (r : ℕ) → HaveStores I J → HaveStores J I → HasNoLogs I → HasNoLogs J → ((m : Name) → m.kind ≡ kinds.Store → m.region ≢ r → content J m ≡ content I m) → IsAsFound I r J
as_found I J r there back none_i none_j others = record {
  stored = λ v p. (stored_by I J (counts_as I J there back) (counts_as J I back there) r v p, stored_by J I (counts_as J I back there) (counts_as I J there back) r v p);
  last = λ n. same_last I J r (seen_as I J there back none_i r) (seen_as J I back there none_j r) n;
  others = others;
}

same_file : (I J : Files) (q : ℕ) (m : Name) (s : Store) → content J m ≡ content I m → IsStoreFile I q m s → IsStoreFile J q m s
same_file I J q m s same f = record { kind = f.kind; of = f.of; bytes = f.bytes; there = same ∙ f.there; gate = f.gate; text = f.text }

module _ (v : DiskView) (rest : IsAtRest v) where
  -- an image of a disk at rest
  was_in : (r : ℕ) (kind : CompactKind) (J : Files) → IsImageNow v J → WasOrCompactedIn v.files r kind J
  was_in r kind J now =
      inl (as_found v.files J r
      (λ q m s f. same_file v.files J q m s (rest.stores_in J m now f.kind) f)
      (λ q m s f. same_file J v.files q m s (sym (rest.stores_in J m now f.kind)) f)
      rest.no_logs (rest.no_logs_in J now) (λ m store other. rest.stores_in J m now store))

  pub none_done_in : (r : ℕ) (kind : CompactKind) → During (WasOrCompactedIn v.files r kind) v v
  none_done_in r kind = (0, at_once (WasOrCompactedIn v.files r kind) v (was_in r kind))

  pub watched_in : (w : DiskView) → OnlyWatches v w → (r : ℕ) (kind : CompactKind) → During (WasOrCompactedIn v.files r kind) v w
  watched_in w watches r kind = (watches.0, weaker (IsImageNow v) (WasOrCompactedIn v.files r kind) watches.0 v w (was_in r kind) watches.1.moments)

  module _ (name : Name) (store_kind : name.kind ≡ kinds.Store) (absent : IsAbsent v.files name) where
    -- one that has the new store in part
    part_in : (I J : Files) → IsImageNow v I → ((m : Name) → m ≢ name → content J m ≡ content I m) → IsNotThere (content J name) → IsAsFound v.files name.region J
    part_in I J now same part = as_found v.files J name.region
        (λ q m s f. same_file v.files J q m s (same m (λ at. absurd (cc (sym (ap (λ (n : Name). content v.files n) at ∙ absent) ∙ f.there))) ∙ rest.stores_in I m now f.kind) f)
        (λ q m s f. same_file J v.files q m s (sym (same m (λ at. part f.bytes (ap (λ (n : Name). content J n) (sym at) ∙ f.there) f.gate) ∙ rest.stores_in I m now f.kind)) f)
        rest.no_logs (no_logs_here v rest name store_kind absent I J now same)
        (λ m store other. same m (λ at. other (ap (λ (n : Name). n.region) at)) ∙ rest.stores_in I m now store)

    module _ (kind : CompactKind) (s : Store) (plan : IsPlan v.files kind name s) (by : ℕ) (w : DiskView) (over : Throughout (OnlyAt name (IsWholeOrNot (store_text Tagged s)) v) by v w) where
      written_in : (J : Files) → OnlyAt name (IsWholeOrNot (store_text Tagged s)) v J → WasOrCompactedIn v.files name.region kind J
      written_in J only = elim only.here as (λ _. WasOrCompactedIn v.files name.region kind J) [
        | inl part ↦ inl (part_in only.base J only.was only.elsewhere part)
        | inr whole ↦ inr (compacted_in v.files J kind name s plan (replaced v rest name store_kind absent (store_text Tagged s) only.base J only.was only.elsewhere whole))
      ]

      pub first_in : During (WasOrCompactedIn v.files name.region kind) v w
      first_in = (by, weaker (OnlyAt name (IsWholeOrNot (store_text Tagged s)) v) (WasOrCompactedIn v.files name.region kind) by v w written_in over)

      pub all_in : (n : ℕ) (x : DiskView) → Throughout (IsReplaced v.files name (store_text Tagged s)) n w x → During (WasOrCompactedIn v.files name.region kind) v x
      all_in n x second =
          let P = WasOrCompactedIn v.files name.region kind in
          let first = first_in in
          (first.0 + n, joined P first.0 n v w x first.1 (weaker (IsReplaced v.files name (store_text Tagged s)) P n w x (λ J r. inr (compacted_in v.files J kind name s plan r)) second))

pub then_in : (u v w : DiskView) → OnlyWatches u v → IsAtRest u → (r : ℕ) (kind : CompactKind) → During (WasOrCompactedIn v.files r kind) v w → During (WasOrCompactedIn u.files r kind) u w
then_in u v w watches rest r kind second =
    let P = WasOrCompactedIn u.files r kind in
    let first = watched_in u rest v watches r kind in
    let over : During P v w = subst (λ (f : Files). During (WasOrCompactedIn f r kind) v w) watches.1.files second in
    (first.0 + over.0, joined P first.0 over.0 u v w first.1 over.1)
