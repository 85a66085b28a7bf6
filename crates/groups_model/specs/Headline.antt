-- What the report of a run on several disks tells, and what any crash leaves on each of them.
use Rattle.std.specs.Prelude.{◌≡◌, ◌≢◌, ◌↔◌, ℕ, ◌^◌, ◌<◌, ◌≤◌, ◌⊎◌, Bool, true, List, map, Contains, Some}
use Rattle.std.specs.List.{range_with_len}
use Rattle.log_model.specs.declared.name.Name.{Name}
use Rattle.log_model.specs.Files.{Files, IsSound, IsPresent}
use Rattle.log_model.specs.Recovered.{IsRecovered, IsContent, IsLast, RecoversAlike}
use Rattle.cell_model.specs.Batch.{Batch}
use Rattle.region_model.specs.Journal.{last_of}
use Rattle.region_model.specs.Calls.{Put, PutFault, Reply}
use Rattle.region_model.specs.Lawful.{IsLawful}
use Rattle.region_model.specs.Crash.{Fits}
use Rattle.script_model.specs.Report.{report_text}
use Rattle.script_model.specs.Calls.{Script, asked, asked_by}
use Rattle.disk_images.specs.Crash.{DiskView, IsImageNow}
use Rattle.disk_images.specs.Calls.{Rose}
use Rattle.server_model.specs.Steps.{IsFault}
use Rattle.serial_history.specs.History.{IsHistory}
use Rattle.run_model.specs.Headline.{History, report_of, IsOneJournal, Endures, AreDone, FitsStatus, IsHeadline}
use Rattle.run_model.specs.Closed.{FitsFrom}
use Rattle.groups_model.specs.Groups.{group_of, IsGroup, replies_on}

-- Of one region: its base is what its group's files as found recovered to, its edits are one journal, the replies of the calls on its group are
-- lawful for it, and a crash leaves on the group's disk the base with a beginning of the edits. `rose` says of each group that the count of faults
-- of its disk did.
pub record IsTold (groups : ℕ) (script : Script) (found left : ℕ → DiskView) (rose : ℕ → Type 0) (status : ℕ) (replies : List Reply) (h : History) : Type 0 where
  pub last : IsLast (found (group_of groups h.region)).files h.region h.base.last
  pub content : IsContent (IsRecovered (found (group_of groups h.region)).files h.region) h.base.content
  pub journal : IsOneJournal script h
  pub lawful : IsLawful h.region h.base h.edits (replies_on groups (group_of groups h.region) replies)
  pub serial_history : (history : List Reply) × IsHistory h.region h.base h.edits replies history
  pub endures : Endures (left (group_of groups h.region)) status replies h
  -- where that count didn't rise, each image has all its edits, whatever the status
  pub whole : (rose (group_of groups h.region) → ⊥) → (J : Files) → IsImageNow (left (group_of groups h.region)) J
      → Fits J h.region h.base h.edits (last_of h.base.last h.edits)

-- Of one group: its files were sound, its calls were answered a fault for its own disk alone, and what else a crash leaves on that disk.
pub record IsKept (groups : ℕ) (script : Script) (k : ℕ) (found left : DiskView) (rose : Type 0) (status : ℕ) (histories : List History)
    (replies : List Reply) : Type 0 where
  pub sound : IsSound found.files
  -- a put, a flush or a roll on the group reports a fault only where the count of faults of its own disk rose
  pub faults : (reply : Reply) → Contains (replies_on groups k replies) reply → IsFault reply.answer → rose
  -- a region above these, or of another group, recovers as it was found
  pub others : (J : Files) (r : ℕ) → IsImageNow left J → (script.regions < r) ⊎ ((1 ≤ r) × (group_of groups r ≢ k)) → RecoversAlike found.files J r
  pub images_sound : ((name : Name) → IsPresent found.files name → name.number ≤ 2 ^ 61) → (J : Files) → IsImageNow left J → IsSound J
  -- its flushes and rolls that were told were done, and no log but the last is wholly flushed
  pub done : AreDone left status (replies_on groups k replies)
  -- from the moment at which its server was begun a crash leaves of each of its regions the base with a beginning of the edits; up to it, what
  -- an opening may
  pub throughout : ∥ ((start : ℕ) × FitsFrom found left start
      (λ J. (h : History) → Contains histories h → group_of groups h.region ≡ k → (m : ℕ) × Fits J h.region h.base h.edits m)) ∥₁

-- The headline of a run on so many disks. An image is chosen for each disk by itself.
pub record IsGroupsHeadline (groups : ℕ) (script : Script) (found left : ℕ → DiskView) (rose : ℕ → Type 0) (status : ℕ) (text : List ℕ) : Type 0 where
  pub histories : List History
  pub replies : List Reply
  pub is : text ≡ report_text (report_of histories replies status)
  pub statuses : FitsStatus status replies
  -- the status is 5 only where the count of faults of some group's disk rose
  pub cause : status ≡ 5 → (k : ℕ) × IsGroup groups k × rose k
  pub regions : map (λ (h : History). h.region) histories ≡ range_with_len 1 script.regions
  pub calls : map asked_by replies ≡ asked script
  -- an edit that failed was asked for with `sync`
  pub fault_sync : (reply : Reply) (r n : ℕ) (sync : Bool) (batch : Batch) → Contains replies reply → reply.call ≡ Put r sync batch
      → reply.answer ≡ PutFault (Some n) → sync ≡ true
  pub each_region : (h : History) → Contains histories h → IsTold groups script found left rose status replies h
  pub each_group : (k : ℕ) → IsGroup groups k → IsKept groups script k (found k) (left k) (rose k) status histories replies

-- With one group the headline is that of a run on its disk, whose status is 5 only where that disk's count of faults rose.
abbrev pub OneGroupIsARun : {D : Type 0} → (D → DiskView) → (D → ℕ) → Type 0
OneGroupIsARun {D} view faults = (script : Script) (before after : ℕ → D) (status : ℕ) (text : List ℕ)
    → IsGroupsHeadline 1 script (λ k. view (before k)) (λ k. view (after k)) (λ k. Rose (faults (before k)) (faults (after k))) status text
    ↔ (IsHeadline script (view (before 1)) (view (after 1)) status text × (status ≡ 5 → Rose (faults (before 1)) (faults (after 1))))
