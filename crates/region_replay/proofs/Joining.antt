-- Between the store and the removals.
use Rattle.std.proofs.Common.{◌≡◌, ◌≢◌, ℕ, ◌+◌, List, Contains, Option, sym, ap, ◌∙◌, subst}
use Rattle.log_model.specs.declared.name.Name.{Name}
use Rattle.log_model.specs.declared.name.NameKind.TheVariants as kinds
use Rattle.log_model.specs.Files.{Files, content}
use Rattle.log_model.specs.Recovered.{FlushesTo}
use Rattle.disk_images.specs.Crash.{DiskView, Throughout}
use Rattle.disk_images.specs.OneFile.{Touches}
use Rattle.disk_images.proofs.Moments.{joined}
use Rattle.recovery_laws.specs.Change.{HasText}
use Rattle.recovery_laws.proofs.Stores.{flushes_kept}
use Rattle.recovery_laws.specs.Alike.{AllAlike}
use Rattle.region_replay.specs.Cuts.{AreEdits, EditsFlushed, EditsUpTo}

module _ (v w : DiskView) (name : Name) (names : List Name) (store : name.kind ≡ kinds.Store) {told : Type 0} (edits : AreEdits told names) (touches : Touches name v w) where
  pub same_edits : (m : Name) → Contains names m → content w.files m ≡ content v.files m
  same_edits m has = touches.others m (λ is. absurd (cc (sym (edits.kind m has) ∙ ap (λ (x : Name). x.kind) is ∙ store)))

  pub now_flushed : (to : ℕ) → ((f : List ℕ) → FlushesTo w.files name.region f to) → EditsUpTo v.files name.region to names → EditsFlushed w.files names
  now_flushed to flushes up m has =
      let u = up m has in
      (u.0, u.1, subst (λ (o : Option (List ℕ)). HasText m u.0 u.1 o) (sym (same_edits m has)) u.2, λ e member f has_family. (let b = u.3 e member in (to, subst (λ (r : ℕ). FlushesTo w.files r f to) (sym b.0) (flushes f), b.1)))

-- the store stays where edits files go
pub still_flushes : (v w : DiskView) (names : List Name) (r to : ℕ) {told : Type 0} → AreEdits told names → ((m : Name) → ((n : Name) → Contains names n → m ≢ n) → content w.files m ≡ content v.files m) → (f : List ℕ) → FlushesTo v.files r f to → FlushesTo w.files r f to
still_flushes v w names r to edits others f flushes =
    flushes_kept v.files w.files (λ m store. others m (λ n has is. absurd (cc (sym store ∙ ap (λ (x : Name). x.kind) is ∙ edits.kind n has)))) r f to flushes

pub then_both : (base : Files) (u v w : DiskView) (n : ℕ) → (m : ℕ) × Throughout (AllAlike base) m u v → Throughout (AllAlike base) n v w → (by : ℕ) × Throughout (AllAlike base) by u w
then_both base u v w n first second = (first.0 + n, joined (AllAlike base) first.0 n u v w first.1 second)
