-- The commands, each with its profile.
use Rattle.std.specs.Prelude.{◌≡◌, ℕ, [], ◌∷◌, Option, Some, None}
use Rattle.std.specs.FinMap.{keys}
use Rattle.log_model.specs.declared.name.Name.{Name}
use Rattle.log_model.specs.Files.{IsSound}
use Rattle.chronicle_model.specs.Chronicle.{Position}
use Rattle.script_model.specs.Script.{script_fault}
use Rattle.script_model.specs.declared.command.Command.TheVariants.{Log, Run}
use Rattle.compact_command.specs.wal_split.Moments.{WasOrAlike}
use Rattle.store_compact.specs.declared.kind.CompactKind.{CompactKind}
use Rattle.made_script.specs.declared.options.LoadOptions.{LoadOptions}
use Rattle.run_model.specs.Headline.{MayKeep}
use Rattle.command_base.specs.LogFiles.{log_name, IsDamagedLog, IsLogDamage}
use Rattle.command_base.specs.Status.{IsRefusal}
use Rattle.command_base.specs.declared.status.Status.{Status}
use Rattle.command_base.specs.declared.status.Status.TheVariants as statuses
use Rattle.log_command.specs.Logged.{EndsLog, LogMayLeave}
use Rattle.log_command.specs.Parts.{IsLogEnd}
use Rattle.show_command.specs.Shown.{EndsShow}
use Rattle.dump_command.specs.Dumped.{EndsDump, IsDumped, IsDumpDamage}
use Rattle.ship_command.specs.Shipped.{EndsShip, IsShipDamage, IsShipEnd, IsShipComplete, LacksPosition}
use Rattle.compact_command.specs.recover_command.Recovered.{EndsRecover, IsStoreDamage}
use Rattle.compact_command.specs.Compacted.{EndsCompact, CompactMayLeave}
use Rattle.load_command.specs.run_command.Ends.{RunEnds, IsRunEnd, IsRunRefusal, LeavesStore, IsRunComplete}
use Rattle.load_command.specs.Ends.{EndsLoad}
use Rattle.load_command.specs.Statuses.{IsLoadEnd, LeavesStore as LeavesFullStore}
use Rattle.load_run.specs.Words.{Word, To_log, To_show, To_dump, To_ship, To_recover, To_compact, To_run, To_load}
use Rattle.load_run.specs.Profile.{Profile, plain}

-- ---- words that name no command

abbrev pub IsNoCommandEnd : Status → Type 0
IsNoCommandEnd statuses.Memory = Unit {0}
IsNoCommandEnd statuses.Usage = Unit {0}
IsNoCommandEnd _ = ⊥

abbrev pub no_command : Profile
no_command = record plain { may_end = IsNoCommandEnd }

-- ---- the commands

-- What a stop may leave is told by the script for this command alone. After a fault of the disk it may print its replies.
abbrev pub log : Profile
log = record plain {
  ends = EndsLog;
  may_end = IsLogEnd;
  may_leave = LogMayLeave;
  wants_source = λ told. told;
  line = IsRefusal;
  leaves_disk = IsRefusal;
  script = Some Log;
  wants_empty = Unit {0};
  ready = λ script found. (script_fault Log script ≡ None) × (keys found ≡ []);
}

abbrev pub show : Profile
show = record plain {
  ends = EndsShow;
  damage = λ found left. IsLogDamage found (log_name 1);
  must_tell = λ found. IsLogDamage found (log_name 1);
  ready = λ script found. (at : ℕ) → IsDamagedLog found (log_name 1) at → ⊥;
}

abbrev pub dump : ℕ → Profile
dump n = record plain {
  ends = EndsDump n;
  damage = λ found left. IsDumpDamage n found;
  must_tell = IsDumpDamage n;
  ready = λ script found. (name : Name) (at : ℕ) → IsDumped found n name → IsDamagedLog found name at → ⊥;
}

-- Its line stands after what was shipped. It takes any store, so where nothing fails it may also end with damage, or where there is
-- no such position.
abbrev pub ship : Position → Profile
ship p = record plain {
  ends = λ status o rose sank. EndsShip p status o sank;
  may_end = IsShipEnd;
  line = λ status. ⊥;
  damage = λ found left. IsShipDamage p found;
  must_tell = IsShipDamage p;
  earlier = statuses.DiskFault ∷ statuses.SinkFault ∷ [];
  no_position = LacksPosition p;
  complete = IsShipComplete;
}

-- It tells damage where the files aren't sound, and then what shows it first.
abbrev pub recover : Profile
recover = record plain {
  ends = EndsRecover;
  may_leave = λ script. WasOrAlike;
  leaves_disk = λ status. ⊥;
  damage = λ found left. IsStoreDamage found;
  must_tell = IsStoreDamage;
  ready = λ script. IsSound;
}

-- as `recover`, which it does first
abbrev pub compact : CompactKind → (region : ℕ) → Profile
compact kind r = record recover {
  ends = EndsCompact r kind;
  may_leave = λ script. CompactMayLeave r kind;
}

-- After a fault of the disk, or where memory was refused, it may print its report.
abbrev pub run : Profile
run = record plain {
  ends = RunEnds;
  may_end = IsRunEnd;
  may_leave = λ script. MayKeep;
  line = IsRunRefusal;
  leaves_disk = LeavesStore;
  script = Some Run;
  damage = λ found left. IsStoreDamage found;
  must_tell = IsStoreDamage;
  earlier = statuses.SourceFault ∷ statuses.DiskFault ∷ [];
  may_spend = Unit {0};
  ready = λ script found. (script_fault Run script ≡ None) × IsSound found;
  complete = IsRunComplete;
}

-- After a fault of the disk it may print its counts. Damage is of the files that it left. With a disk and a sink that tell, its
-- puts never find numbers spent.
abbrev pub load : LoadOptions → Profile
load options = record plain {
  ends = λ status. EndsLoad status options;
  may_end = IsLoadEnd;
  may_leave = λ script. MayKeep;
  line = IsRefusal;
  leaves_disk = LeavesFullStore;
  damage_leaves = ⊥;
  damage = λ found left. IsStoreDamage left;
  wants_empty = Unit {0};
  may_spend = Unit {0};
  ready = λ script found. keys found ≡ [];
}

abbrev pub profile : Word → Profile
profile To_log = log
profile To_show = show
profile (To_dump n) = dump n
profile (To_ship p) = ship p
profile To_recover = recover
profile (To_compact kind r) = compact kind r
profile To_run = run
profile (To_load options) = load options

-- the profile of what words name
abbrev pub profile_of : Option Word → Profile
profile_of None = no_command
profile_of (Some word) = profile word
