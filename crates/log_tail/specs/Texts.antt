-- Files of which there is a chronicle.
use Rattle.std.specs.Prelude.{ℕ, List, Option}
use Rattle.log_model.specs.Entry.{Entry}
use Rattle.log_model.specs.LogText.{IsLogText}
use Rattle.log_model.specs.Files.{Files, Reads, IsFit}
use Rattle.chronicle_model.specs.Chronicle.{old_name, LogIsThere, HasLog, Placed, IsChronicle}

-- each log that is there is a text
abbrev pub AreLogTexts : Files → Type 0
AreLogTexts files = (number : ℕ) → LogIsThere files number → (entries : List Entry) × (ended : Option ℕ) × HasLog files number entries ended

-- each old log is one
abbrev pub AreOldTexts : Files → Type 0
AreOldTexts files =
    (number : ℕ) (bytes : List ℕ) → Reads files (old_name number) bytes
    → (entries : List Entry) × (ended : Option ℕ) × IsLogText (record { region = 0; number = number }) bytes entries ended

-- ---- laws

-- Where each log is a text, the files have a chronicle.
abbrev pub TextsHaveAChronicle : Type 0
TextsHaveAChronicle = (files : Files) → AreLogTexts files → (c : List Placed) × IsChronicle files c

-- So have the files of a sound store whose old logs are texts.
abbrev pub FitFilesHaveAChronicle : Type 0
FitFilesHaveAChronicle = (files : Files) → IsFit files → AreOldTexts files → (c : List Placed) × IsChronicle files c
