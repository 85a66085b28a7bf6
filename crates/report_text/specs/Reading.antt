-- A report has one reading.
use Rattle.std.specs.Prelude.{◌≡◌, ℕ, ◌<◌, ◌^◌, IsTrue, List, [], ◌∷◌, length, Option, Some, None}
use Rattle.std.specs.List.{AllByRecursion}
use Rattle.cell_model.specs.Cell.{IsCell}
use Rattle.cell_model.specs.Order.{NumberedCell}
use Rattle.kv_cell.specs.Laws.{AreBytes}
use Rattle.region_model.specs.Calls.{Answer, PutOk, PutMemory, PutFault, PutSpent, Scanned, ScanMemory, FlushOk, FlushNothing, FlushBusy, FlushFault, FlushMemory, RollOk, RollNothing, RollFault, RollMemory, is_scan}
use Rattle.script_model.specs.Text.{token_of, printed}
use Rattle.script_model.specs.Report.{EditLine, RegionLine, ReplyLine, Report, cells_told, report_text}

abbrev pub AreNumbers : List ℕ → Type 0
AreNumbers ns = AllByRecursion (λ n. n < 2 ^ 64) ns

abbrev pub option_numbers : Option ℕ → List ℕ
option_numbers None = []
option_numbers (Some n) = n ∷ []

-- the numbers that an answer tells
abbrev pub numbers_of : Answer → List ℕ
numbers_of (PutOk n) = n ∷ []
numbers_of (PutMemory n) = option_numbers n
numbers_of (PutFault n) = option_numbers n
numbers_of (PutSpent last) = last ∷ []
numbers_of (Scanned point cells) = point ∷ length cells ∷ []
numbers_of ScanMemory = []
numbers_of (FlushOk n) = n ∷ []
numbers_of (FlushNothing n) = n ∷ []
numbers_of (FlushBusy handler call) = handler ∷ call ∷ []
numbers_of FlushFault = []
numbers_of FlushMemory = []
numbers_of (RollOk file entries) = file ∷ entries ∷ []
numbers_of (RollNothing file) = file ∷ []
numbers_of RollFault = []
numbers_of RollMemory = []

-- a cell within its limits, whose fields are bytes
pub record IsNumberedCell (x : NumberedCell) : Type 0 where
  pub number : x.0 < 2 ^ 64
  pub cell : IsCell x.1
  pub row : AreBytes x.1.row
  pub family : AreBytes x.1.family
  pub qualifier : AreBytes x.1.qualifier
  pub value : AreBytes x.1.value
  pub tags : AreBytes x.1.tags

abbrev pub IsEditLine : EditLine → Type 0
IsEditLine e = AreNumbers (e.number ∷ e.handler ∷ e.call ∷ [])

pub record IsRegionLine (r : RegionLine) : Type 0 where
  pub numbers : AreNumbers (r.region ∷ r.last ∷ r.count ∷ [])
  pub edits : AllByRecursion IsEditLine r.edits

pub record IsReplyLine (r : ReplyLine) : Type 0 where
  pub numbers : AreNumbers (r.handler ∷ r.call ∷ [])
  pub answer : AreNumbers (numbers_of r.answer)
  pub cells : AllByRecursion IsNumberedCell (cells_told r.answer)
  -- a get is answered as a scan is
  pub got : IsTrue r.got → IsTrue (is_scan r.answer)

-- its numbers are below 2 ^ 64, and its cells are within their limits
pub record IsReport (r : Report) : Type 0 where
  pub regions : AllByRecursion IsRegionLine r.regions
  pub replies : AllByRecursion IsReplyLine r.replies
  pub status : r.status < 2 ^ 64

-- two reports with one text are one
abbrev pub HasOneReading : Type 0
HasOneReading = (a b : Report) → IsReport a → IsReport b → report_text a ≡ report_text b → a ≡ b

-- a printed token stands for its bytes
abbrev pub IsReadAgain : Type 0
IsReadAgain = (bytes : List ℕ) → AreBytes bytes → token_of (printed bytes) ≡ Some bytes
