-- The command that writes a log.
use Rattle.std.specs.Prelude.{◌≡◌, ◌≢◌, false, ℕ, zero, suc, ◌+◌, ◌-◌, ◌<◌, ◌⊎◌, List, [], ◌∷◌, ◌++◌, length, take, Some, None}
use Rattle.std.specs.List.{flat_map}
use Rattle.log_model.specs.declared.name.Name.{Name}
use Rattle.log_model.specs.Entry.{Entry}
use Rattle.log_model.specs.Files.{Files, content, IsAbsent, SameBut}
use Rattle.region_model.specs.Calls.{Call, Put, Scan, Flush, Roll, Answer, PutOk, PutFault}
use Rattle.script_model.specs.Calls.{Script, Says}
use Rattle.script_model.specs.Report.{ReplyLine, replies_text}
use Rattle.script_model.specs.declared.command.Command.TheVariants.{Log}
use Rattle.disk_images.specs.Crash.{DiskView, IsImageNow}
use Rattle.recovery_laws.specs.Change.{HasText, HasEntries}
use Rattle.command_base.specs.Invocation.{Invocation, IsImageAtEntry, IsUnchanged}
use Rattle.command_base.specs.LogFiles.{log_name}
use Rattle.command_base.specs.Ends.{Effects, EndsAs}
use Rattle.command_base.specs.declared.status.Status.{Status}

-- the entries of puts, numbered from n
abbrev pub entries_from : ℕ → ℕ → List Call → List Entry
entries_from time n [] = []
entries_from time n (Put r sync batch ∷ calls) = record { region = r; number = n; time = time; batch = batch } ∷ entries_from time (n + 1) calls
entries_from time n (Scan view r from to ∷ calls) = entries_from time n calls
entries_from time n (Flush r family ∷ calls) = entries_from time n calls
entries_from time n (Roll ∷ calls) = entries_from time n calls

-- the calls of all handlers, one handler after the other
abbrev pub calls_in : Script → List Call
calls_in s = flat_map (λ calls. calls) s.handlers

abbrev pub entries_in : Script → List Entry
entries_in s = entries_from s.time 1 (calls_in s)

-- the files have log 1 with these entries, and no end frame
abbrev pub LogHolds : Files → List Entry → Type 0
LogHolds files es = HasText (log_name 1) es None (content files (log_name 1))

-- no file but log 1 is there
abbrev pub IsAlone : Files → Type 0
IsAlone files = (m : Name) → m ≢ log_name 1 → IsAbsent files m

-- No other file is there, and log 1 is absent or has the first so many of these entries.
pub record HasFirst (es : List Entry) (files : Files) : Type 0 where
  pub alone : IsAlone files
  pub count : ℕ
  pub first : HasEntries (log_name 1) (take count es) (content files (log_name 1))

-- What a stop of the command may leave: an image of the disk as it was found, or the first of the script's puts.
abbrev pub LogMayLeave : List ℕ → DiskView → Files → Type 0
LogMayLeave text before J = IsImageNow before J ⊎ ((script : Script) × Says Log text script × HasFirst (entries_in script) J)

abbrev pub put_reply : ℕ → Answer → ReplyLine
put_reply call answer = record { handler = 1; call = call; answer = answer; got = false }

-- so many puts from call n on, each answered ok with its number
abbrev pub oks : ℕ → ℕ → List ReplyLine
oks n zero = []
oks n (suc count) = put_reply n (PutOk n) ∷ oks (n + 1) count

-- so many puts from call n on, each refused without a number
abbrev pub faults : ℕ → ℕ → List ReplyLine
faults n zero = []
faults n (suc count) = put_reply n (PutFault None) ∷ faults (n + 1) count

-- of so many puts the first ones answer ok, the next one a fault with its number, and those after it a fault
abbrev pub stopped_replies : ℕ → ℕ → List ReplyLine
stopped_replies count done = oks 1 done ++ put_reply (done + 1) (PutFault (Some (done + 1))) ∷ faults (done + 2) (count - (done + 1))

-- Log 1 holds the script's puts in order with the numbers 1, 2 and so on, every crash leaves them and no other file, and
-- each was answered. The other files read as before.
pub record LogDone (o : Invocation) (text : List ℕ) : Type 0 where
  pub script : Script
  pub says : Says Log o.script script
  pub reads : LogHolds o.after.files (entries_in script)
  pub others : SameBut (log_name 1) o.before.files o.after.files
  pub images : (J : Files) → IsImageNow o.after J → LogHolds J (entries_in script)
  pub alone : (J : Files) → IsImageNow o.after J → IsAlone J
  pub is : text ≡ replies_text (oks 1 (length (entries_in script))) 0

-- A fault ended the log in the put after the first ones: these are in each image, and that put may be.
pub record LogFailed (o : Invocation) (text : List ℕ) : Type 0 where
  pub script : Script
  pub says : Says Log o.script script
  pub done : ℕ
  pub fewer : done < length (entries_in script)
  pub others : SameBut (log_name 1) o.before.files o.after.files
  pub images : (J : Files) → IsImageNow o.after J → LogHolds J (take done (entries_in script)) ⊎ LogHolds J (take (done + 1) (entries_in script))
  pub alone : (J : Files) → IsImageNow o.after J → IsAlone J
  pub is : text ≡ replies_text (stopped_replies (length (entries_in script)) done) 5

-- log 1 is absent or has no entry, and no other file is there
abbrev pub HasNone : Files → Type 0
HasNone J = IsAlone J × HasEntries (log_name 1) [] (content J (log_name 1))

-- Nothing was begun, or log 1 is absent or has no entry. The other files read as before.
pub record NoLogBegun (o : Invocation) : Type 0 where
  pub others : SameBut (log_name 1) o.before.files o.after.files
  pub images : (J : Files) → IsImageNow o.after J → IsImageAtEntry o J ⊎ HasNone J

-- what stands with a text that the command printed
abbrev pub logs : Invocation → Effects
logs o = record {
  done = λ text. LogDone o text;
  failed = λ text. LogFailed o text;
  no_memory = IsUnchanged o.before o.after;
  no_disk = NoLogBegun o;
}

-- what stands with each status of the command
abbrev pub EndsLog : Status → Invocation → Type 0 → Type 0 → Type 0
EndsLog status o rose sank = EndsAs (logs o) status rose sank o.taken
