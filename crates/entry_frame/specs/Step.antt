-- What a reader finds in bytes of which more may come.
use Rattle.std.specs.Prelude.{◌≡◌, ℕ, ◌<◌, List, [], ◌∷◌, ◌++◌, length, drop, Some, None}
use Rattle.log_model.specs.declared.format.TheConstants.{OPEN_GATE}
use Rattle.log_model.specs.Entry.{Entry, IsEntry, entry_frame, end_frame}
use Rattle.std.specs.List.{AllByRecursion}
use Rattle.log_model.specs.LogText.{FileKey, TextKey, in_version, IsVersion, IsEntryOf, IsClosed, Ends, opened, IsLogText, IsDamaged}
use Rattle.log_model.specs.Frame.{IsStop}
use Rattle.entry_frame.specs.declared.step.Step.{Step}
use Rattle.entry_frame.specs.declared.step.Step.TheVariants as steps
use Rattle.entry_frame.specs.Frame.{IsRefOf}
use Rattle.entry_frame.specs.Feed.{HasNoNext, passed}

-- after so many entries of the file the text neither ends at these bytes, nor goes on
pub record IsDead (key : TextKey) (count : ℕ) (bytes : List ℕ) : Type 0 where
  pub no_stop : IsStop bytes → ⊥
  pub no_entry : (e : Entry) (rest : List ℕ) → IsEntryOf key e → 0 < length rest → bytes ≡ opened (entry_frame e) ++ rest → ⊥
  pub no_end : (rest : List ℕ) → IsClosed rest → bytes ≡ opened (end_frame count) ++ rest → ⊥

-- what stands at a gate after so many entries of the file
abbrev pub IsAtGate : TextKey → ℕ → ℕ → List ℕ → Step → Type 0
IsAtGate key count at bytes (steps.Entry version entry used) =
    (version ≡ key.version) × (e : Entry) × IsEntryOf key e × IsRefOf entry e × (used < length bytes)
    × (bytes ≡ opened (entry_frame e) ++ drop used bytes)
IsAtGate key count at bytes (steps.Ended told) = (more : List ℕ) → Ends count (bytes ++ more) told
IsAtGate key count at bytes (steps.Damaged place) = (place ≡ at) × ((more : List ℕ) → IsDead key count (bytes ++ more))
IsAtGate key count at bytes (steps.Wait None) = bytes ≡ OPEN_GATE ∷ []
IsAtGate key count at bytes (steps.Wait (Some place)) = (place ≡ at) × IsDead key count bytes

-- what comes next of a file that was fed so
abbrev pub IsNext : FileKey → List ℕ → List ℕ → List Entry → Step → Type 0
IsNext key unread given taken (steps.Entry version entry used) =
    IsVersion version × (e : Entry) × AllByRecursion (IsEntryOf (in_version version key)) (taken ++ e ∷ []) × IsRefOf entry e
    × (given ≡ passed (in_version version key) (taken ++ e ∷ []) ++ drop used unread)
IsNext key unread given taken (steps.Ended told) = (more : List ℕ) → IsLogText key (given ++ more) taken told
IsNext key unread given taken (steps.Damaged place) = HasNoNext key given taken × ((more : List ℕ) → IsDamaged key (given ++ more) place)
IsNext key unread given taken (steps.Wait None) = HasNoNext key given taken × IsLogText key given taken None
IsNext key unread given taken (steps.Wait (Some place)) = HasNoNext key given taken × IsDamaged key given place

-- an entry that is taken is whole
abbrev pub IsWhole : List ℕ → Step → Type 0
IsWhole unread (steps.Entry version entry used) = IsVersion version × (0 < used) × (used < length unread) × ((e : Entry) × IsEntry e × IsRefOf entry e)
IsWhole unread (steps.Ended told) = Unit {0}
IsWhole unread (steps.Damaged place) = Unit {0}
IsWhole unread (steps.Wait place) = Unit {0}
