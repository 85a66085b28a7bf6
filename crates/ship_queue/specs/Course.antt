-- How far a call has come: what it read, and what its peer was told.
use Rattle.std.specs.Prelude.{◌≡◌, ◌-◌, ◌^◌, ◌≤◌, ◌<◌, ℕ, List, [], ◌∷◌, ◌++◌, min, Option, Some, Result, Err}
use Rattle.log_model.specs.declared.name.Name.{Name}
use Rattle.log_model.specs.Entry.{Entry}
use Rattle.log_model.specs.Files.{Files}
use Rattle.chronicle_model.specs.Chronicle.{Placed, Position, bytes_of, HasLog, IsChronicle, behind}
use Rattle.log_tail.specs.declared.refusal.TailRefusal.{TailRefusal}
use Rattle.log_tail.specs.declared.refusal.TailRefusal.TheVariants.{Damaged, NoPosition}
use Rattle.log_tail.specs.Reads.{IsRead, IsDamagedAt, IsNoPosition, IsOrEarlier}

-- a count that stands at the end of its type
abbrev pub counted : ℕ → ℕ
counted n = min n (2 ^ 64 - 1)

-- the log of this number is a text, where it is there
abbrev pub IsText : Files → ℕ → Type 0
IsText files number =
    (bytes : List ℕ) → bytes_of files number ≡ Some bytes → (entries : List Entry) × (ended : Option ℕ) × HasLog files number entries ended

-- A tail went from p to q, and read these between them.
pub record HasReadOn (files : Files) (p q : Position) (xs : List Placed) : Type 0 where
  pub read : (c : List Placed) → IsChronicle files c → behind c p ≡ xs ++ behind c q
  pub texts : (number : ℕ) → p.file ≤ number → number < q.file → IsText files number
  pub forward : p.file ≤ q.file

-- After q there is nothing.
pub record IsAtEnd (files : Files) (q : Position) : Type 0 where
  pub none : (c : List Placed) → IsChronicle files c → behind c q ≡ []
  pub texts : (number : ℕ) → q.file ≤ number → IsText files number

-- ---- readings

-- Readings of a tail lead from the first position to the last one, over these.
abbrev pub LeadOver : Files → Position → List Position → Position → Type 0
LeadOver files p [] r = p ≡ r
LeadOver files p (q ∷ qs) r = ((given : List Entry) × IsRead files p given q) × LeadOver files q qs r

-- they lead from the first position to the last one
abbrev pub LeadsTo : Files → Position → Position → Type 0
LeadsTo files p r = (qs : List Position) × LeadOver files p qs r

-- A reading at the position is refused where its log is damaged, and where nothing can be read from it on, and where memory or
-- the disk failed before.
pub record IsRefusedAt {T : Type 0} (files : Files) (p : Position) (result : Result T TailRefusal) : Type 0 where
  pub damaged : (name : Name) (at : ℕ) → result ≡ Err (Damaged name at) → IsDamagedAt files p.file name at
  pub damage : (name : Name) (at : ℕ) → IsDamagedAt files p.file name at → IsOrEarlier result (Damaged name at)
  pub no_position : (file has : ℕ) → result ≡ Err (NoPosition file has) → IsNoPosition files p file has
  pub out : (file has : ℕ) → IsNoPosition files p file has → IsOrEarlier result (NoPosition file has)
