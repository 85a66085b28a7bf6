-- What a settle at the end of an opening leaves.
use Rattle.std.proofs.Common.{◌≡◌, false, List, ℕ, Option, Some, None, is_some, refl, sym, ap, ◌∙◌, subst}
use Rattle.log_model.specs.declared.name.Name.{Name}
use Rattle.log_model.specs.Files.{Files, content, IsFit}
use Rattle.recovery_laws.specs.Kept.{HasNoLogs}
use Rattle.disk_images.specs.Crash.{DiskView, IsImageNow, Throughout}
use Rattle.disk_images.specs.Calls.{Looks, IsTrueDisk}
use Rattle.disk_images.proofs.Moments.{in_one_call}
use Rattle.recovery_laws.specs.Alike.{AllAlike, StoresStand}
use Rattle.wal_split.specs.Held.{IsHeld}
use Rattle.region_replay.specs.Alone.{IsPinned}
use Rattle.region_replay.specs.Cleared.{IsCleared}

none_of : (o : Option (List ℕ)) → is_some o ≡ false → o ≡ None
none_of None is = refl
none_of (Some c) is = absurd cc

pub clear_moments : (base : Files) (v w : DiskView) → IsHeld base v → Looks v w → Throughout (AllAlike base) 1 v w
clear_moments base v w held looks = in_one_call (AllAlike base) v w held.alike looks.time (λ J now. held.alike J (looks.crash J now))

pub cleared : (base : Files) (v w : DiskView) → IsHeld base v → IsTrueDisk v → HasNoLogs v.files → Looks v w → ((J : Files) (m : Name) → IsImageNow w J → is_some (content J m) ≡ is_some (content w.files m)) → ((m : Name) → ¬ w.gone m) → IsCleared w
cleared base v w held sound none looks pinned none_gone = record {
  none_gone = none_gone;
  fit = subst IsFit (sym looks.files) (held.alike v.files sound.reads 0).fit;
  no_logs = λ m holds. ap (λ (f : Files). content f m) looks.files ∙ none m holds;
  no_logs_in = λ J now m holds. none_of (content J m) (pinned J m now ∙ ap is_some (ap (λ (f : Files). content f m) looks.files ∙ none m holds));
  stores_in = λ J m now store. held.stores J (looks.crash J now) m store ∙ sym (ap (λ (f : Files). content f m) looks.files);
}

-- calls that change no file leave it held
pub held_on : (base : Files) (v w : DiskView) → IsHeld base v → w.files ≡ v.files → ((m : Name) → w.gone m → v.gone m) → ((n m : Name) → w.formerly n m → v.formerly n m) → ((J : Files) → IsImageNow w J → IsImageNow v J) → IsHeld base w
held_on base v w held same gone formerly shrinks = record {
  stores = λ J now. subst (λ (f : Files). StoresStand f J) (sym same) (held.stores J (shrinks J now));
  there = λ J m now holds present. held.there J m (shrinks J now) holds (λ none. present (ap (λ (f : Files). content f m) same ∙ none)) ∙ sym (ap (λ (f : Files). content f m) same);
  alike = λ J now. held.alike J (shrinks J now);
  unmoved = λ n m other former. held.unmoved n m other (formerly n m former);
  gone = λ m was. held.gone m (gone m was);
}

pub pinned_by : (w : DiskView) → ((J : Files) (m : Name) → IsImageNow w J → is_some (content J m) ≡ is_some (content w.files m)) → ((m : Name) → ¬ w.gone m) → IsPinned w
pinned_by w pinned none_gone = record { none_gone = none_gone; absent = λ J m now none. none_of (content J m) (pinned J m now ∙ ap is_some none) }
