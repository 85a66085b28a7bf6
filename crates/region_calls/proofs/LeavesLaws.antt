-- What a server that is closed leaves besides, of the files as its store was found.
use Rattle.std.proofs.Common.{inl, inr, ℕ, ◌≤◌, ◌^◌, Bool, arith}
use Rattle.log_model.specs.declared.name.Name.{Name}
use Rattle.log_model.specs.Files.{Files, IsSound, IsFit, IsPresent}
use Rattle.log_model.specs.Recovered.{RecoversAlike}
use Rattle.recovery_laws.specs.Alike.{AllAlike}
use Rattle.disk_images.specs.Crash.{DiskView}
use Rattle.pass_calls.specs.log_service.Closed.{LeavesFiles}
use Rattle.pass_calls.specs.log_service.Moments.{GoesOnFrom, OthersSince}
use Rattle.region_replay.specs.Opened.{AtMostOneHigher}
use Rattle.server_model.specs.Closing.{Leaves}
use Rattle.region_calls.specs.Cleared.{AreCleared}
use Rattle.region_calls.specs.Closes.{HasElapsed}

-- files with no logs whose names are in their ranges are sound, where they are fit
sound_of : (found begun : Files) → AreCleared begun → IsFit begun → AtMostOneHigher found begun → ((m : Name) → IsPresent found m → m.number ≤ 2 ^ 61) → IsSound begun
sound_of found begun cleared fit higher small = record {
  fit = fit;
  regions = λ m there kind. elim kind as (λ _. (1 ≤ m.region) × (m.region ≤ 64)) [
    | inl store ↦ cleared.regions m there store
    | inr edits ↦ absurd (there (cleared.no_logs m (inr edits)))
  ];
  numbers = λ m there. let n = higher (2 ^ 61) small m there in omega (arith, n);
  apart = λ a b there _ log _ _. there (cleared.no_logs a (inl log));
}

-- a region that recovers alike twice does so from the first files to the last ones
alike_on : (found begun J : Files) (r : ℕ) → RecoversAlike found begun r → RecoversAlike begun J r → RecoversAlike found J r
alike_on found begun J r first second = record {
  fit = second.fit;
  content = λ v p. (λ h. (second.content v p).0 ((first.content v p).0 h), λ h. (first.content v p).1 ((second.content v p).1 h));
  last = λ n. (λ h. (second.last n).0 ((first.last n).0 h), λ h. (first.last n).1 ((second.last n).1 h));
}

-- what the service leaves of the files that it began on is what is left of those found
pub leaves_of : (found begun : Files) (disk : DiskView) (broken : Bool) (regions : ℕ) → AreCleared begun → AllAlike found begun → AtMostOneHigher found begun → LeavesFiles begun disk broken regions → Leaves found disk broken regions
leaves_of found begun disk broken regions cleared alike higher l = record {
  sound = λ J image small. l.sound J image (sound_of found begun cleared (alike 1).fit higher small) (higher (2 ^ 61) small);
  others = λ J r image above. alike_on found begun J r (alike r) (l.others J r image above);
  archived = l.archived;
}

-- the moments since the service began on them are moments of those found
pub elapsed_of : (start : ℕ) (past : ℕ → Files → Type 0) (found begun : Files) (disk : DiskView) (regions : ℕ) → AllAlike found begun → GoesOnFrom start past disk → OthersSince start begun regions disk → HasElapsed start past found regions disk
elapsed_of start past found begun disk regions alike on since = record {
  goes_on = on;
  others = λ t J r low high image above. alike_on found begun J r (alike r) (since.each t J low high image r above);
}
