-- What an opening's steps change of what a store recovers to: nothing.
use Rattle.std.specs.Prelude.{◌≡◌, List, Contains}
use Rattle.log_model.specs.declared.name.Name.{Name}
use Rattle.log_model.specs.declared.name.NameKind.TheVariants as kinds
use Rattle.log_model.specs.Entry.{Entry}
use Rattle.log_model.specs.StoreText.{Store}
use Rattle.log_model.specs.Files.{Files, content, SameBut, IsLogged, IsFit, IsLogFile, IsStoreFile}
use Rattle.recovery_laws.specs.Laws.{Goes, Extends}
use Rattle.recovery_laws.specs.Kept.{IsNotThere, IsNotReplaced}
use Rattle.recovery_laws.specs.Alike.{AllAlike, SameButOld, StoresStand}
use Rattle.recovery_laws.specs.OpeningSteps.{Hides, IsWholeCut, AreKept}

-- step after step
abbrev pub AlikeInTurn : Type 0
AlikeInTurn = (old mid new : Files) → AllAlike old mid → AllAlike mid new → AllAlike old new

-- old logs count for nothing
abbrev pub OldLogsAreNothing : Type 0
OldLogsAreNothing = (old new : Files) → SameButOld old new → IsFit old → AllAlike old new

-- a store file after a closed gate counts for nothing
abbrev pub HiddenStoreIsNothing : Type 0
HiddenStoreIsNothing = (old new : Files) (name : Name) → Hides name old new → IsFit old → AllAlike old new

-- Where a store appears with all that files recover beyond what is flushed, in whatever image of them, each region
-- recovers alike.
abbrev pub ReplayChangesNothing : Type 0
ReplayChangesNothing = (files old new : Files) (name : Name) (s : Store) → AllAlike files old → StoresStand files old → IsWholeCut files name.region s
    → ((m : Name) (es : List Entry) → m.kind ≡ kinds.Edits → IsLogFile files m es → IsLogFile old m es) → name.kind ≡ kinds.Store → SameBut name old new → IsNotThere (content old name) → IsNotReplaced files name → IsStoreFile new name.region name s
    → AllAlike files new

-- Where a log or an edits file goes whose entries are each flushed, or stand in an edits file that stays, each region
-- recovers alike.
abbrev pub KeptFileMayGo : Type 0
KeptFileMayGo = (old new : Files) (name : Name) (entries : List Entry) → Goes name entries old new → IsFit old → AreKept new entries → AllAlike old new

-- Where copies of logged entries go into an edits file, each region recovers alike.
abbrev pub CopiesChangeNothing : Type 0
CopiesChangeNothing = (old new : Files) (name : Name) (entries copies : List Entry) → Extends name entries copies old new → IsFit old → ((e : Entry) → Contains copies e → IsLogged old e) → AllAlike old new
