-- What the report of a run tells of its handlers' writes, and what any crash leaves of them.
use Rattle.std.specs.Prelude.{◌≡◌, ◌≢◌, ℕ, ◌^◌, ◌<◌, ◌≤◌, ◌⊎◌, Bool, true, IsTrue, List, length, map, Contains, AllPairs, Some, None}
use Rattle.std.specs.List.{range_with_len}
use Rattle.cell_model.specs.Batch.{Batch}
use Rattle.cell_model.specs.Order.{VersionKey, Payload, cells_of}
use Rattle.log_model.specs.declared.name.Name.{Name}
use Rattle.log_model.specs.declared.name.NameKind.TheVariants as kinds
use Rattle.log_model.specs.Entry.{Entry}
use Rattle.log_model.specs.Files.{Files, IsFit, IsLogFile, IsSound, IsPresent, IsLastLog}
use Rattle.log_model.specs.Recovered.{IsRecovered, IsContent, IsLast, IsStored, IsFlushed, HasFamily, RecoversAlike}
use Rattle.region_model.specs.Journal.{Base, Edit, IsJournal, last_of, is_completed, is_done}
use Rattle.region_model.specs.Calls.{Put, Flush, Roll, Answer, PutOk, PutFault, Scanned, FlushOk, FlushNothing, FlushBusy, RollOk, RollNothing, PutMemory, ScanMemory, FlushMemory, RollMemory, Reply, is_get}
use Rattle.region_model.specs.Lawful.{IsLawful, flushed_of}
use Rattle.region_model.specs.Crash.{Fits, Receipted}
use Rattle.script_model.specs.Report.{EditLine, RegionLine, ReplyLine, Report, report_text}
use Rattle.disk_images.specs.Crash.{DiskView, IsImageNow, Throughout}
use Rattle.server_model.specs.Steps.{IsRolled, IsFault}
use Rattle.script_model.specs.Calls.{Script, asked, asked_by}
use Rattle.run_model.specs.declared.spent.Spent.{Spent}
use Rattle.run_model.specs.Spent.{IsSpent, IsFirstSpent}
use Rattle.run_model.specs.Closed.{FitsFrom, MayOpen}
use Rattle.serial_history.specs.History.{IsHistory}

-- one region's base and its one list of edits
pub record History : Type 0 where
  pub region : ℕ
  pub base : Base
  pub edits : List Edit

-- ---- the report

abbrev pub edit_line : Edit → EditLine
edit_line e = record { number = e.entry.number; handler = e.caller.handler; call = e.caller.call; done = is_done e.outcome }

abbrev pub region_line : History → RegionLine
region_line h = record { region = h.region; last = h.base.last; count = length (cells_of h.base.content); edits = map edit_line h.edits }

abbrev pub reply_line : Reply → ReplyLine
reply_line r = record { handler = r.handler; call = r.number; answer = r.answer; got = is_get r.call }

abbrev pub report_of : List History → List Reply → ℕ → Report
report_of histories replies status = record { regions = map region_line histories; replies = map reply_line replies; status = status }

-- It has each region and one reply for each call, and its bases are what the files as found recovered to.
pub record IsOneReport (script : Script) (found : Files) (histories : List History) (replies : List Reply) : Type 0 where
  pub regions : map (λ (h : History). h.region) histories ≡ range_with_len 1 script.regions
  pub calls : map asked_by replies ≡ asked script
  pub last : (h : History) → Contains histories h → IsLast found h.region h.base.last
  pub content : (h : History) → Contains histories h → IsContent (IsRecovered found h.region) h.base.content
  -- an edit that failed was asked for with `sync`
  pub fault_sync : (reply : Reply) (r n : ℕ) (sync : Bool) (batch : Batch) → Contains replies reply → reply.call ≡ Put r sync batch
      → reply.answer ≡ PutFault (Some n) → sync ≡ true

-- The edits are one journal of the script's puts, each is completed, and their sequence ids are at most 2^48-1.
pub record IsOneJournal (script : Script) (h : History) : Type 0 where
  pub journal : IsJournal h.region h.base h.edits
  pub completed : (e : Edit) → Contains h.edits e → IsTrue (is_completed e.outcome)
  pub asked : (e : Edit) → Contains h.edits e
      → (sync : Bool) × Contains (asked script) (record { handler = e.caller.handler; number = e.caller.call; call = Put h.region sync e.entry.batch })
  pub time : (e : Edit) → Contains h.edits e → e.entry.time ≡ script.time
  pub limit : last_of h.base.last h.edits < 2 ^ 48

-- ---- what a crash leaves

-- Each crash leaves the base with a beginning of the edits, each receipted edit among them, and all of them where no fault ended the log.
pub record Endures (left : DiskView) (status : ℕ) (replies : List Reply) (h : History) : Type 0 where
  pub images : (J : Files) → IsImageNow left J
      → (m : ℕ) × Fits J h.region h.base h.edits m × ((n : ℕ) → Receipted h.region n replies → n ≤ m) × (status ≢ 5 → m ≡ last_of h.base.last h.edits)

-- a synced put of a handler, and a later roll of that handler
pub record IsRolledBehind (r n : ℕ) (a b : Reply) : Type 0 where
  pub handler : a.handler ≡ b.handler
  pub batch : Batch
  pub put : a.call ≡ Put r true batch
  pub answer : a.answer ≡ PutOk n
  pub roll : b.call ≡ Roll
  pub rolled : IsRolled b.answer

-- Flushes of whole regions, rolls and archiving that were told were done.
pub record AreDone (left : DiskView) (status : ℕ) (replies : List Reply) : Type 0 where
  pub flushes : (reply : Reply) (r n : ℕ) → Contains replies reply → reply.call ≡ Flush r None → flushed_of reply.answer ≡ Some n
      → (J : Files) (v : VersionKey) (p : Payload) → IsImageNow left J → IsRecovered J r v p → v.number ≤ n → IsStored J r v p
  pub rolls : AllPairs (λ put roll. (r n : ℕ) → IsRolledBehind r n put roll
      → (J : Files) (log : Name) (es : List Entry) (e : Entry) → IsImageNow left J → IsLastLog J log → IsLogFile J log es → Contains es e → e.region ≡ r → n < e.number) replies
  pub archived : status ≢ 5 → (log : Name) (es : List Entry) → log.kind ≡ kinds.Log → IsLogFile left.files log es → (IsLastLog left.files log → ⊥)
      → (e : Entry) × (f : List ℕ) × Contains es e × HasFamily e f × ((n : ℕ) → IsFlushed left.files e.region f n → n < e.number)

-- ---- which answers a report of this status has

abbrev pub IsClean : Answer → Type 0
IsClean (PutOk n) = Unit {0}
IsClean (Scanned p cells) = Unit {0}
IsClean (FlushOk n) = Unit {0}
IsClean (FlushNothing n) = Unit {0}
IsClean (FlushBusy h c) = Unit {0}
IsClean (RollOk f n) = Unit {0}
IsClean (RollNothing f) = Unit {0}
IsClean _ = ⊥

-- out of memory
abbrev pub IsWant : Answer → Type 0
IsWant (PutMemory n) = Unit {0}
IsWant ScanMemory = Unit {0}
IsWant FlushMemory = Unit {0}
IsWant RollMemory = Unit {0}
IsWant _ = ⊥

-- The status of a report: 5 where the log is broken, else 8 where a put found the numbers spent, else 1 or 0.
pub record FitsStatus (status : ℕ) (replies : List Reply) : Type 0 where
  pub one_of : (status ≡ 0) ⊎ ((status ≡ 1) ⊎ ((status ≡ 5) ⊎ (status ≡ 8)))
  pub faults : (reply : Reply) → Contains replies reply → IsFault reply.answer → status ≡ 5
  pub clean : status ≡ 0 → (reply : Reply) → Contains replies reply → IsClean reply.answer
  pub spent : (reply : Reply) → Contains replies reply → IsSpent reply.answer → (status ≡ 5) ⊎ (status ≡ 8)
  pub memory : status ≡ 1 → (reply : Reply) × Contains replies reply × IsWant reply.answer
  pub spent_only : status ≡ 8 → (reply : Reply) × Contains replies reply × IsSpent reply.answer

-- ---- the whole

pub record IsHeadline (script : Script) (found left : DiskView) (status : ℕ) (text : List ℕ) : Type 0 where
  pub histories : List History
  pub replies : List Reply
  pub is : text ≡ report_text (report_of histories replies status)
  pub statuses : FitsStatus status replies
  pub sound : IsSound found.files
  pub report : IsOneReport script found.files histories replies
  pub journals : (h : History) → Contains histories h → IsOneJournal script h
  pub lawful : (h : History) → Contains histories h → IsLawful h.region h.base h.edits replies
  -- so of each region the puts, scans and gets of all handlers are a history of one thread
  pub serial_history : (h : History) → Contains histories h → (history : List Reply) × IsHistory h.region h.base h.edits replies history
  pub endures : (h : History) → Contains histories h → Endures left status replies h
  pub others : (J : Files) (r : ℕ) → IsImageNow left J → script.regions < r → RecoversAlike found.files J r
  pub images_sound : ((name : Name) → IsPresent found.files name → name.number ≤ 2 ^ 61) → (J : Files) → IsImageNow left J → IsSound J
  pub done : AreDone left status replies
  -- from the moment at which the server was begun a crash leaves of each region the base with a beginning of the edits; up to it, what an opening may
  pub throughout : ∥ ((start : ℕ) × FitsFrom found left start (λ J. (h : History) → Contains histories h → (m : ℕ) × Fits J h.region h.base h.edits m)) ∥₁

-- a headline whose status names the first put that was answered spent
abbrev pub IsSpentHeadline : Script → DiskView → DiskView → Spent → List ℕ → Type 0
IsSpentHeadline script found left spent text = (h : IsHeadline script found left 8 text) × IsFirstSpent spent h.replies

-- ---- a run that no memory was found to report

-- Up to the last number found of each region the cells are the same.
pub record KeepsIn (found J : Files) : Type 0 where
  pub fit : IsFit J
  pub cells : (r last : ℕ) → 1 ≤ r → IsLast found r last → (v : VersionKey) (p : Payload) → v.number ≤ last
      → (IsRecovered J r v p → IsRecovered found r v p) × (IsRecovered found r v p → IsRecovered J r v p)

-- Each image has the cells that were there before, and no other ones of their numbers.
abbrev pub AllKeep : Files → DiskView → Type 0
AllKeep found left = (J : Files) → IsImageNow left J → ∥ KeepsIn found J ∥₁

-- what a crash may leave of a run: an image of the disk as found, or files with the cells that were found, and no other ones of their numbers
abbrev pub MayKeep : DiskView → Files → Type 0
MayKeep found J = ∥ IsImageNow found J ⊎ KeepsIn found.files J ∥₁

-- each image is one of these
abbrev pub KeepsFound : DiskView → DiskView → Type 0
KeepsFound found left = (J : Files) → IsImageNow left J → MayKeep found J

-- so it is at each moment from the one at which the disk was found so; the images of former moments stay
abbrev pub KeepsThroughout : DiskView → DiskView → Type 0
KeepsThroughout found left = ∥ ((moments : ℕ) × Throughout (MayKeep found) moments found left) ∥₁

-- ---- a run whose store could not be opened

-- At each moment each image was one before, or recovers for every region to what was found; the images of former moments stay.
abbrev pub IsHalfOpened : DiskView → DiskView → Type 0
IsHalfOpened found left = ∥ ((moments : ℕ) × Throughout (MayOpen found) moments found left) ∥₁
