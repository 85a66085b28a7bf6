-- The command that recovers a store.
use Rattle.std.specs.Prelude.{◌≡◌, ℕ, ◌+◌, List, [], ◌∷◌, length}
use Rattle.std.specs.FinMap.{len}
use Rattle.cell_model.specs.Order.{Content}
use Rattle.log_model.specs.declared.damage.Damage.{Damage}
use Rattle.log_model.specs.Files.{Files, IsSound}
use Rattle.log_model.specs.Damage.{IsDamage}
use Rattle.log_model.specs.Recovered.{IsLast, IsRecovered, IsContent}
use Rattle.disk_images.specs.Crash.{IsImageNow}
use Rattle.recovery_laws.specs.Alike.{AllAlike}
use Rattle.recovery_laws.specs.Kept.{HasNoLogs}
use Rattle.wal_split.specs.Moments.{WasOrAlike}
use Rattle.script_model.specs.Outputs.{RecoveredLine, recover_text}
use Rattle.command_base.specs.Invocation.{Invocation}
use Rattle.command_base.specs.Ends.{Effects, EndsAs}
use Rattle.command_base.specs.declared.status.Status.{Status}

-- What is told of a region: the greatest sequence id that the files have of it, and how many cells they recover to.
pub record IsRecoveredLine (files : Files) (r : ℕ) (x : RecoveredLine) : Type 0 where
  pub region : x.region ≡ r
  pub last : IsLast files r x.last
  pub content : Content
  pub recovered : IsContent (IsRecovered files r) content
  pub count : x.count ≡ len content

-- one of each region, from this one on
abbrev pub AreRecoveredLines : Files → ℕ → List RecoveredLine → Type 0
AreRecoveredLines files r [] = Unit {0}
AreRecoveredLines files r (x ∷ xs) = IsRecoveredLine files r x × AreRecoveredLines files (r + 1) xs

-- The files as found were sound, and what was printed is what they recover to, region by region. No log and no edits file is
-- left, and every crash leaves files that recover to the same.
pub record RecoverDone (o : Invocation) (text : List ℕ) : Type 0 where
  pub sound : IsSound o.before.files
  pub lines : List RecoveredLine
  pub regions : length lines ≡ 64
  pub each : AreRecoveredLines o.before.files 1 lines
  pub is : text ≡ recover_text lines
  pub no_logs : HasNoLogs o.after.files
  pub alike : AllAlike o.before.files o.after.files
  pub no_logs_in : (J : Files) → IsImageNow o.after J → HasNoLogs J
  pub alike_in : (J : Files) → IsImageNow o.after J → AllAlike o.before.files J

-- each crash leaves an image of the disk as found, or files that are fit and recover to the same
abbrev pub MayOpenAgain : Invocation → Type 0
MayOpenAgain o = (J : Files) → IsImageNow o.after J → WasOrAlike o.before J

-- what stands with a text that the command printed
abbrev pub recovers : Invocation → Effects
recovers o = record {
  done = λ text. RecoverDone o text;
  failed = λ text. ⊥;
  no_memory = MayOpenAgain o;
  no_disk = MayOpenAgain o;
}

-- what stands with each status of the command
abbrev pub EndsRecover : Status → Invocation → Type 0 → Type 0 → Type 0
EndsRecover status o rose sank = EndsAs (recovers o) status rose sank o.taken

-- the files aren't sound, and this shows it first
abbrev pub IsStoreDamage : Files → Damage → Type 0
IsStoreDamage files damage = (¬ IsSound files) × IsDamage files damage

-- files have one damage at most
abbrev pub DamageIsOne : Type 0
DamageIsOne = (files : Files) (d e : Damage) → IsDamage files d → IsDamage files e → d ≡ e
