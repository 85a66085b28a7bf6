-- What a load leaves of the puts that its script asks.
use Rattle.std.specs.Prelude.{◌≡◌, ℕ, Bool, zero, suc, ◌+◌, ◌≤◌, List, AllPairs, Contains}
use Rattle.std.specs.FinMap.{empty, len}
use Rattle.cell_model.specs.Batch.{Batch}
use Rattle.log_model.specs.Files.{Files, IsFit}
use Rattle.log_model.specs.Recovered.{IsRecovered, IsContent}
use Rattle.region_model.specs.Journal.{Edit, Follows, InCallOrder, put_edits}
use Rattle.region_model.specs.Calls.{Put}
use Rattle.disk_images.specs.Crash.{DiskView, IsImageNow}
use Rattle.recovery_laws.specs.Kept.{HasNoLogs}
use Rattle.script_model.specs.Calls.{Script, Asked, asked}
use Rattle.run_model.specs.Closed.{caller_of}
use Rattle.run_model.specs.Headline.{IsHeadline}
use Rattle.made_script.specs.Made.{AreOptions, made_script}
use Rattle.made_script.specs.Counts.{counts_of}
use Rattle.made_script.specs.declared.options.LoadOptions.{LoadOptions}
use Rattle.load_model.specs.Text.{load_text, ended_text}

-- These edits are the puts that a script asks of a region, each once, numbered 1, 2 and so on, with the script's time.
pub record ArePuts (script : Script) (r : ℕ) (edits : List Edit) : Type 0 where
  pub numbers : Follows 0 edits
  pub puts : (e : Edit) → Contains edits e
      → (sync : Bool) × Contains (asked script) (record { handler = e.caller.handler; number = e.caller.call; call = Put r sync e.entry.batch })
  pub all : (a : Asked) (sync : Bool) (batch : Batch) → Contains (asked script) a → a.call ≡ Put r sync batch
      → (e : Edit) × Contains edits e × (e.caller ≡ caller_of a) × (e.entry.batch ≡ batch)
  pub once : AllPairs InCallOrder edits
  pub time : (e : Edit) → Contains edits e → e.entry.time ≡ script.time

-- Every crash leaves, region by region, exactly the cells of the puts that the script asks of it, and no log and no edits file. What
-- was printed has the number of these cells, which is the number of the puts.
pub record HasLoaded (options : LoadOptions) (after : DiskView) (text : List ℕ) : Type 0 where
  pub is : text ≡ load_text (counts_of (made_script options)) (counts_of (made_script options)).puts
  pub edits : ℕ → List Edit
  pub puts : (r : ℕ) → 1 ≤ r → ArePuts (made_script options) r (edits r)
  pub holds : (J : Files) (r : ℕ) → IsImageNow after J → 1 ≤ r → IsContent (IsRecovered J r) (put_edits empty (edits r))
  pub fit : (J : Files) → IsImageNow after J → IsFit J
  pub no_logs : HasNoLogs after.files
  pub no_logs_in : (J : Files) → IsImageNow after J → HasNoLogs J

-- A fault of the disk ended the log. There is a report of the run which says what every crash leaves.
pub record HasBroken (options : LoadOptions) (before after : DiskView) (text : List ℕ) : Type 0 where
  pub is : text ≡ ended_text (counts_of (made_script options)) 5
  pub report : List ℕ
  pub headline : IsHeadline (made_script options) before after 5 report

-- The run was done, and a fault of the disk ended the opening after it: every crash still leaves, region by region, exactly the cells of the puts.
pub record HasStopped (options : LoadOptions) (after : DiskView) (text : List ℕ) : Type 0 where
  pub is : text ≡ ended_text (counts_of (made_script options)) 5
  pub edits : ℕ → List Edit
  pub puts : (r : ℕ) → 1 ≤ r → ArePuts (made_script options) r (edits r)
  pub holds : (J : Files) (r : ℕ) → IsImageNow after J → 1 ≤ r → IsContent (IsRecovered J r) (put_edits empty (edits r))
  pub fit : (J : Files) → IsImageNow after J → IsFit J

-- ---- how the cells are counted

-- of so many regions from this one on
abbrev pub sum_over : (ℕ → ℕ) → (first n : ℕ) → ℕ
sum_over f first zero = 0
sum_over f first (suc n) = f first + sum_over f (first + 1) n

-- the cells of the puts of all regions are as many as the puts
abbrev pub EachPutIsCountedOnce : Type 0
EachPutIsCountedOnce = (options : LoadOptions) (edits : ℕ → List Edit) → AreOptions options → ((r : ℕ) → 1 ≤ r → ArePuts (made_script options) r (edits r))
    → sum_over (λ r. len (put_edits empty (edits r))) 1 64 ≡ (counts_of (made_script options)).puts
