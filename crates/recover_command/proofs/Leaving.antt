-- What a disk on which a store was opened leaves.
use Rattle.std.proofs.Common.{◌≡◌, ℕ, suc, ◌+◌, List, [], ◌∷◌, length, inl, inr, refl, sym, ◌∙◌}
use Rattle.log_model.specs.declared.name.NameKind.{NameKind}
use Rattle.log_model.specs.declared.name.NameKind.TheVariants as kinds
use Rattle.log_model.specs.Files.{Files, content, IsSound}
use Rattle.disk_images.specs.Crash.{DiskView, IsImageNow}
use Rattle.disk_images.proofs.Moments.{at_end}
use Rattle.recovery_laws.specs.Alike.{AllAlike, SameButOld}
use Rattle.recovery_laws.proofs.Turns.{but_old, in_turn}
use Rattle.wal_split.specs.Moments.{During, WasOrAlike}
use Rattle.region_replay.specs.Cleared.{IsReady}
use Rattle.region_replay.specs.Ready.{Found}
use Rattle.region_replay.specs.Opened.{AreOf}
use Rattle.recover_command.specs.Lines.{lines_from}
use Rattle.script_model.specs.Outputs.{recover_text}
use Rattle.command_base.specs.Invocation.{invocation}
use Rattle.recover_command.specs.Recovered.{AreRecoveredLines, RecoverDone}

-- ---- images

-- an image has the stores as they read, and no log
same_but_old : (v : DiskView) (J : Files) → IsReady v → IsImageNow v J → SameButOld v.files J
same_but_old v J ready now m other = by m.kind refl
  where
    by : (k : NameKind) → m.kind ≡ k → content J m ≡ content v.files m
    by kinds.Log is = ready.no_logs_in J now m (inl is) ∙ sym (ready.no_logs m (inl is))
    by kinds.Old is = absurd (other is)
    by kinds.Store is = ready.stores_in J m now is
    by kinds.Edits is = ready.no_logs_in J now m (inr is) ∙ sym (ready.no_logs m (inr is))

alike_in : (F : Files) (v : DiskView) → IsReady v → AllAlike F v.files → (J : Files) → IsImageNow v J → AllAlike F J
alike_in F v ready alike J now = in_turn F v.files J alike (but_old v.files J (same_but_old v J ready now) ready.fit)

pub opens_again : (v w : DiskView) → During (WasOrAlike v) v w → (J : Files) → IsImageNow w J → WasOrAlike v J
opens_again v w over J now = at_end (WasOrAlike v) over.0 v w over.1 J now

-- ---- the lines

lines_told : (old new : Files) (r : ℕ) (xs : List Found) → AreOf old new r xs → AreRecoveredLines old r (lines_from r xs)
lines_told old new r [] of = tt
lines_told old new r (x ∷ xs) of = (record { region = refl; last = of.0.last; content = x.base.content; recovered = of.0.content; count = refl }, lines_told old new (r + 1) xs of.1)

lines_length : (r : ℕ) (xs : List Found) → length (lines_from r xs) ≡ length xs
lines_length r [] = refl
lines_length r (x ∷ xs) = λ i. suc (lines_length (r + 1) xs i)

-- ---- all of it

pub recovered : (script had has : List ℕ) (v w : DiskView) (xs : List Found) → IsSound v.files → length xs ≡ 64 → AreOf v.files w.files 1 xs → IsReady w → AllAlike v.files w.files
    → RecoverDone (invocation script v w had has) (recover_text (lines_from 1 xs))
recovered script had has v w xs sound all of ready alike = record {
  sound = sound;
  lines = lines_from 1 xs;
  regions = lines_length 1 xs ∙ all;
  each = lines_told v.files w.files 1 xs of;
  is = refl;
  no_logs = ready.no_logs;
  alike = alike;
  no_logs_in = ready.no_logs_in;
  alike_in = alike_in v.files w ready alike;
}
