-- A store of a region's unflushed cells, as it appears.
use Rattle.std.proofs.Common.{◌≡◌, inl, inr, ℕ, ◌≤◌, List, [], refl, sym, ap, ◌∙◌, arith}
use Rattle.cell_model.specs.declared.form.Form.TheVariants.{Tagged}
use Rattle.cell_model.specs.Order.{NumberedCell}
use Rattle.log_model.specs.declared.name.Name.{Name}
use Rattle.log_model.specs.declared.name.NameKind.TheVariants as kinds
use Rattle.log_model.specs.StoreText.{Store, IsStore, IsThere, store_text}
use Rattle.log_model.specs.Files.{Files, IsAbsent, SameBut, content}
use Rattle.log_model.specs.Recovered.{FlushesTo}
use Rattle.disk_images.specs.Crash.{DiskView, IsImageNow, Throughout, OnlyAt}
use Rattle.disk_images.specs.OneFile.{Touches, IsDurableFile}
use Rattle.disk_images.specs.Calls.{IsTrueDisk}
use Rattle.disk_images.proofs.Moments.{at_once}
use Rattle.store_file.specs.Whole.{IsWholeOrNot}
use Rattle.store_file.proofs.Texts.{tagged_text}
use Rattle.flush_snapshot.specs.Cut.{cut_store}
use Rattle.flush_snapshot.proofs.Holds.{cut_holds}
use Rattle.recovery_laws.specs.Alike.{AllAlike}
use Rattle.recovery_laws.specs.Kept.{IsNotReplaced}
use Rattle.recovery_laws.proofs.Names.{name_cases}
use Rattle.recovery_laws.specs.OpeningSteps.{IsWholeCut}
use Rattle.wal_split.specs.Held.{IsHeld}
use Rattle.wal_split.proofs.Holding.{held_moments, still_held}
use Rattle.region_replay.proofs.Showing.{cut_in}
use Rattle.region_replay.specs.Cuts.{IsUnflushedCut}

pub gate_of : (s : Store) → IsThere (store_text Tagged s)
unfolding store_text
gate_of s = (omega arith, refl)

whole_cut : (files : Files) (name : Name) (from to : ℕ) (cut : List NumberedCell) → IsUnflushedCut files name to cut → IsWholeCut files name.region (cut_store name [] from to cut)
whole_cut files name from to cut c = record {
  region = refl;
  scope = refl;
  family = refl;
  holds = λ v p. (λ h. (c.puts v p).0 ((cut_holds name [] from to cut v p).0 h), λ u. (cut_holds name [] from to cut v p).1 ((c.puts v p).1 u));
  reached = c.reached;
}

module _ (base : Files) (v w : DiskView) (held : IsHeld base v) (sound : IsTrueDisk v) (name : Name) (from to : ℕ) (cut : List NumberedCell) (kind : name.kind ≡ kinds.Store) (absent : IsAbsent v.files name) (free : ¬ v.gone name)
    (is : IsUnflushedCut v.files name to cut) (store : IsStore (cut_store name [] from to cut)) (by : ℕ)
    (over : Throughout (OnlyAt name (IsWholeOrNot (store_text Tagged (cut_store name [] from to cut))) v) by v w) where
  nothing : (I J : Files) → IsImageNow v I → SameBut name I J → IsWholeOrNot (store_text Tagged (cut_store name [] from to cut)) (content J name) → AllAlike I J
  nothing I J now same here =
      cut_in base v held sound name (cut_store name [] from to cut) kind absent free (whole_cut v.files name from to cut is) is.stands (gate_of (cut_store name [] from to cut)) (tagged_text (cut_store name [] from to cut) store) I J now same here

  pub cut_moments : (by : ℕ) × Throughout (AllAlike base) by v w
  cut_moments = (by, held_moments base v w name held (IsWholeOrNot (store_text Tagged (cut_store name [] from to cut))) by nothing over)

  pub cut_held : Touches name v w → IsDurableFile w name (store_text Tagged (cut_store name [] from to cut)) → IsHeld base w
  cut_held touches durable = still_held base v w name held (IsWholeOrNot (store_text Tagged (cut_store name [] from to cut))) by (store_text Tagged (cut_store name [] from to cut)) nothing over touches durable

-- it counts, and so each family is flushed up to its last sequence id
pub cut_flushes : (v w : DiskView) (name : Name) (from to : ℕ) (cut : List NumberedCell) → name.kind ≡ kinds.Store → IsStore (cut_store name [] from to cut) → Touches name v w → IsDurableFile w name (store_text Tagged (cut_store name [] from to cut))
    → IsNotReplaced v.files name → (f : List ℕ) → FlushesTo w.files name.region f to
cut_flushes v w name from to cut kind store touches durable stands f = (
  name,
  cut_store name [] from to cut,
  record {
    file = record { kind = kind; of = refl; bytes = store_text Tagged (cut_store name [] from to cut); there = durable.reads; gate = gate_of (cut_store name [] from to cut); text = tagged_text (cut_store name [] from to cut) store };
    stands = λ other t file scope. elim (name_cases other name) as (λ _. other.number ≤ name.number) [
      | inl is ↦ (let number : other.number ≡ name.number = ap (λ (m : Name). m.number) is in omega (arith, number))
      | inr apart ↦ stands other t (record { kind = file.kind; of = file.of; bytes = file.bytes; there = sym (touches.others other apart) ∙ file.there; gate = file.gate; text = file.text }) scope
    ];
  },
  inl refl,
  refl,
)

pub none_written : (base : Files) (v : DiskView) → IsHeld base v → (by : ℕ) × Throughout (AllAlike base) by v v
none_written base v held = (0, at_once (AllAlike base) v held.alike)
