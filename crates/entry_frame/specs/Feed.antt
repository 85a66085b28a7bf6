-- What a feed of a file's bytes has come to.
use Rattle.std.specs.Prelude.{◌≡◌, ℕ, ◌+◌, ◌<◌, ◌≤◌, ◌^◌, List, [], ◌∷◌, ◌++◌, length, Option, Some, None, Result, Ok, Err}
use Rattle.std.specs.List.{flat_map, AllByRecursion}
use Rattle.log_model.specs.Entry.{Entry, entry_frame}
use Rattle.log_model.specs.LogText.{FileKey, TextKey, in_version, IsVersion, IsEntryOf, header, opened, Begins, IsLogText, IsDamaged}
use Rattle.entry_frame.specs.declared.phase.FileKey.{FileKey as NameKey}
use Rattle.entry_frame.specs.declared.phase.Phase.{Phase}
use Rattle.entry_frame.specs.declared.phase.Phase.TheVariants.{Open, Ended, Damaged}
use Rattle.entry_frame.specs.declared.phase.FeedRefusal.{FeedRefusal}
use Rattle.entry_frame.specs.declared.phase.FeedRefusal.TheVariants as refusals

abbrev pub key_of : NameKey → FileKey
key_of file = record { region = file.region; number = file.number }

-- the file that a feed reads, the version of its text once an entry was taken, how it goes on, how many entries were taken,
-- the offset of the first byte not read, and the bytes from there on
pub record Feeding : Type 0 where
  pub key : FileKey
  pub version : ℕ
  pub phase : Phase
  pub count : ℕ
  pub at : ℕ
  pub unread : List ℕ

-- one more whole entry of the file, with its next gate, stands after these
abbrev pub HasNext : FileKey → List ℕ → List Entry → Entry → Type 0
HasNext key given taken e =
    (version : ℕ) × IsVersion version × (rest : List ℕ) × (0 < length rest) × Begins (in_version version key) given (taken ++ e ∷ []) rest

abbrev pub HasNoNext : FileKey → List ℕ → List Entry → Type 0
HasNoNext key given taken = (e : Entry) → HasNext key given taken e → ⊥

-- what entries leave after them when they are taken: the header goes with the first
abbrev pub passed : TextKey → List Entry → List ℕ
passed key [] = []
passed key (e ∷ es) = header key.version key.number ++ flat_map (λ d. opened (entry_frame d)) (e ∷ es)

abbrev pub Stands : Phase → FileKey → (version at : ℕ) → List ℕ → List ℕ → List Entry → Type 0
Stands Open key version at unread given taken =
    (given ≡ passed (in_version version key) taken ++ unread) × (at ≡ length (passed (in_version version key) taken))
-- however the bytes go on, they are this text
Stands (Ended told) key version at unread given taken = (more : List ℕ) → IsLogText key (given ++ more) taken told
-- however the bytes go on, they are damaged here
Stands (Damaged place) key version at unread given taken = HasNoNext key given taken × ((more : List ℕ) → IsDamaged key (given ++ more) place)

abbrev pub HasEnded : Phase → Type 0
HasEnded Open = ⊥
HasEnded (Ended told) = Unit {0}
HasEnded (Damaged place) = ⊥

-- the feed was given these bytes so far, and these entries were taken from it
pub record IsFed (feed : Feeding) (given : List ℕ) (taken : List Entry) : Type 0 where
  pub count : feed.count ≡ length taken
  pub known : IsVersion feed.version
  pub each : AllByRecursion (IsEntryOf (in_version feed.version feed.key)) taken
  pub within : feed.at + length feed.unread ≤ length given
  pub stands : Stands feed.phase feed.key feed.version feed.at feed.unread given taken

-- whatever it was given and what was taken, no further whole entry is there
abbrev pub IsDrained : Feeding → Type 0
IsDrained feed = (given : List ℕ) (taken : List Entry) → IsFed feed given taken → HasNoNext feed.key given taken

-- the entry that a feed gives
abbrev pub entry_given : Result (Option Entry) FeedRefusal → List Entry
entry_given (Ok (Some e)) = e ∷ []
entry_given (Ok None) = []
entry_given (Err refusal) = []

-- the refusal is that of a damaged feed, or memory
abbrev pub IsOfPhase : FeedRefusal → Phase → Type 0
IsOfPhase refusals.Memory phase = Unit {0}
IsOfPhase (refusals.Damaged at) phase = phase ≡ Damaged at

-- the refusal is damage, and the bytes are damaged there
abbrev pub IsDamage : FileKey → List ℕ → FeedRefusal → Type 0
IsDamage key bytes refusals.Memory = ⊥
IsDamage key bytes (refusals.Damaged at) = IsDamaged key bytes at

abbrev pub IsMemoryOrDamage : FileKey → List ℕ → FeedRefusal → Type 0
IsMemoryOrDamage key bytes refusals.Memory = Unit {0}
IsMemoryOrDamage key bytes (refusals.Damaged at) = IsDamaged key bytes at

-- so much of what was given is read, and it is below 2^63 bytes; after an entry there is a byte
pub record IsWithin (count at read held : ℕ) : Type 0 where
  pub part : read ≤ held
  pub file : at + held < 2 ^ 63 + read
  pub entries : count ≤ at
  pub some : 0 < count → read < held
