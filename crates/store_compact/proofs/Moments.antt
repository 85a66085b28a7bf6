-- Each moment of writing the store that takes the place of the others.
use Rattle.std.proofs.Common.{◌≡◌, ◌≢◌, inl, inr, ℕ, List, Some, sym, ap, ◌∙◌, subst}
use Rattle.cell_model.specs.declared.form.Form.TheVariants.{Tagged}
use Rattle.log_model.specs.declared.name.Name.{Name}
use Rattle.log_model.specs.declared.name.NameKind.TheVariants as kinds
use Rattle.log_model.specs.StoreText.{Store, store_text}
use Rattle.log_model.specs.Files.{Files, content, IsAbsent, IsFit}
use Rattle.disk_images.specs.Crash.{DiskView, IsImageNow, Throughout, OnlyAt}
use Rattle.disk_images.specs.OneFile.{Touches, IsDurableFile}
use Rattle.disk_images.specs.Calls.{IsTrueDisk}
use Rattle.disk_images.specs.Settled.{Watches}
use Rattle.disk_images.proofs.Moments.{at_end, weaker}
use Rattle.disk_images.proofs.Watching.{was_image}
use Rattle.store_file.specs.Whole.{IsWholeOrNot}
use Rattle.recovery_laws.specs.Alike.{AllAlike}
use Rattle.recovery_laws.specs.Kept.{HasNoLogs, IsNotThere}
use Rattle.recovery_laws.proofs.Names.{store_apart}
use Rattle.recovery_laws.proofs.OpeningProved.{hidden}
use Rattle.recovery_laws.proofs.Turns.{in_turn, same_alike}
use Rattle.region_replay.specs.Cleared.{IsReady}
use Rattle.store_compact.specs.declared.kind.CompactKind.{CompactKind}
use Rattle.store_compact.specs.Compacting.{WasOrCompacted}
use Rattle.store_compact.specs.Ready.{IsAtRest}
use Rattle.store_compact.specs.Plan.{IsReplaced, IsReplacing}
use Rattle.store_compact.proofs.Planned.{IsPlan, compacted}

-- an image of a disk at rest
module _ (v : DiskView) (rest : IsAtRest v) (fit : IsFit v.files) (J : Files) (now : IsImageNow v J) where
  image_alike : AllAlike v.files J
  image_alike = same_alike v.files J (λ m store. rest.stores_in J m now store) (λ m holds. rest.no_logs_in J now m holds ∙ sym (rest.no_logs m holds)) fit

  pub was : (r : ℕ) (kind : CompactKind) → WasOrCompacted v.files r kind J
  was r kind = inl (rest.no_logs_in J now, image_alike)

-- reading leaves it at rest
pub rest_watched : (by : ℕ) (u v : DiskView) → Watches by u v → IsAtRest u → IsAtRest v
rest_watched by u v watches rest = record {
  none_gone = λ m gone. rest.none_gone m (watches.gone m gone);
  no_logs = subst HasNoLogs (sym watches.files) rest.no_logs;
  no_logs_in = λ J now. rest.no_logs_in J (was_image by u v watches J now);
  stores_in = λ J m now store. rest.stores_in J m (was_image by u v watches J now) store ∙ sym (ap (λ (f : Files). content f m) watches.files);
  small = λ m here. rest.small m (λ gone. here (ap (λ (f : Files). content f m) watches.files ∙ gone));
}

module _ (v : DiskView) (rest : IsAtRest v) (name : Name) (store_kind : name.kind ≡ kinds.Store) (absent : IsAbsent v.files name) where
  none_there : (I : Files) → IsImageNow v I → IsNotThere (content I name)
  none_there I now bytes there gate = absurd (cc (sym (rest.stores_in I name now store_kind ∙ absent) ∙ there))

  pub no_logs_here : (I J : Files) → IsImageNow v I → ((m : Name) → m ≢ name → content J m ≡ content I m) → HasNoLogs J
  no_logs_here I J now same m holds = same m (λ at. store_apart name m store_kind holds (sym at)) ∙ rest.no_logs_in I now m holds

  -- an image that has the store
  pub replaced : (text : List ℕ) (I J : Files) → IsImageNow v I → ((m : Name) → m ≢ name → content J m ≡ content I m) → content J name ≡ Some text → IsReplaced v.files name text J
  replaced text I J now same whole = record {
    no_logs = no_logs_here I J now same;
    new = whole;
    others = λ m store other. same m (λ at. other (ap (λ (n : Name). n.region) at)) ∙ rest.stores_in I m now store;
    own = λ m store region apart. inl (same m apart ∙ rest.stores_in I m now store);
  }

  module _ (kind : CompactKind) (s : Store) (plan : IsPlan v.files kind name s) where
    written_image : IsFit v.files → (J : Files) → OnlyAt name (IsWholeOrNot (store_text Tagged s)) v J → WasOrCompacted v.files name.region kind J
    written_image fit J only = elim only.here as (λ _. WasOrCompacted v.files name.region kind J) [
      | inl not_there ↦ (
          let alike = image_alike v rest fit only.base only.was in
          inl (
            no_logs_here only.base J only.was only.elsewhere,
            in_turn v.files only.base J alike (hidden only.base J name (record { kind = store_kind; others = only.elsewhere; before = none_there only.base only.was; after = not_there }) (alike 0).fit),
          ))
      | inr whole ↦ inr (compacted v.files J kind name s plan (replaced (store_text Tagged s) only.base J only.was only.elsewhere whole) fit)
    ]

    pub written_moments : IsFit v.files → (by : ℕ) (w : DiskView) → Throughout (OnlyAt name (IsWholeOrNot (store_text Tagged s)) v) by v w → Throughout (WasOrCompacted v.files name.region kind) by v w
    written_moments fit by w over = weaker (OnlyAt name (IsWholeOrNot (store_text Tagged s)) v) (WasOrCompacted v.files name.region kind) by v w (written_image fit) over

    -- once it is durable the others may go
    pub written : IsTrueDisk v → (by : ℕ) (w : DiskView) → Throughout (OnlyAt name (IsWholeOrNot (store_text Tagged s)) v) by v w → Touches name v w → IsDurableFile w name (store_text Tagged s) → IsReplacing v.files name (store_text Tagged s) w
    written sound by w over touches durable = record {
      images = λ J now. (
          let only = at_end (OnlyAt name (IsWholeOrNot (store_text Tagged s)) v) by v w over J now in
          replaced (store_text Tagged s) only.base J only.was only.elsewhere (durable.durable J now));
      unmoved = λ n m former. rest.none_gone m (sound.former_gone n m (touches.formerly n m former));
    }

-- an opening leaves a disk at rest
pub opened_at_rest : (v : DiskView) → IsReady v → IsAtRest v
opened_at_rest v ready = record { none_gone = ready.none_gone; no_logs = ready.no_logs; no_logs_in = ready.no_logs_in; stores_in = ready.stores_in; small = ready.small }
