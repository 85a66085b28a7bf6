-- The words of an answer tell it, with the cells that it tells.
use Rattle.std.proofs.Common.{◌≡◌, ℕ, ◌<◌, ◌^◌, Bool, true, false, IsTrue, ◌||◌, if◌then◌else◌, List, [], ◌∷◌, codes, Some, None, refl, sym, ap, ◌∙◌}
use Rattle.std.specs.Fmt.{decimal}
use Rattle.std.specs.Str.Parse.{digits_value}
use Rattle.std.proofs.lemmas.Fmt.{decimal_is_IsNumeral}
use Rattle.cell_model.specs.Order.{NumberedCell}
use Rattle.region_model.specs.Calls.{Answer, PutOk, PutMemory, PutFault, PutSpent, Scanned, ScanMemory, FlushOk, FlushNothing, FlushBusy, FlushFault, FlushMemory, RollOk, RollNothing, RollFault, RollMemory, is_scan}
use Rattle.script_model.specs.Fields.{is}
use Rattle.script_model.specs.Report.{read_name, answer_words, cells_told}
use Rattle.report_text.specs.Reading.{AreNumbers, numbers_of}

abbrev value_of : List ℕ → ℕ
value_of w = digits_value 10 w

back : (n : ℕ) → n < 2 ^ 64 → value_of (decimal n) ≡ n
back n h = (decimal_is_IsNumeral n h).1

abbrev is_read : List ℕ → Bool
is_read call = is call (codes "scan") || is call (codes "get")

-- the answer of a call's name, an outcome and the numbers after it
abbrev named : List ℕ → List ℕ → List (List ℕ) → List NumberedCell → Answer
named call outcome [] cells =
    if is call (codes "put") then (if is outcome (codes "memory") then PutMemory None else PutFault None)
    else (if is_read call then ScanMemory
    else (if is call (codes "flush") then (if is outcome (codes "fault") then FlushFault else FlushMemory)
    else (if is outcome (codes "fault") then RollFault else RollMemory)))
named call outcome (n ∷ []) cells =
    if is call (codes "put") then (if is outcome (codes "ok") then PutOk (value_of n) else (if is outcome (codes "memory") then PutMemory (Some (value_of n)) else (if is outcome (codes "fault") then PutFault (Some (value_of n)) else PutSpent (value_of n))))
    else (if is_read call then Scanned (value_of outcome) cells
    else (if is call (codes "flush") then (if is outcome (codes "ok") then FlushOk (value_of n) else FlushNothing (value_of n))
    else RollNothing (value_of n)))
named call outcome (n ∷ m ∷ rest) cells = if is call (codes "flush") then FlushBusy (value_of n) (value_of m) else RollOk (value_of n) (value_of m)

abbrev answer_from : List (List ℕ) → List NumberedCell → Answer
answer_from (call ∷ outcome ∷ rest) cells = named call outcome rest cells
answer_from _ cells = RollMemory

read_back : (got : Bool) (p : ℕ) (cells : List NumberedCell) → p < 2 ^ 64 → answer_from (answer_words got (Scanned p cells)) cells ≡ Scanned p cells
read_back true p cells h = ap (λ (x : ℕ). Scanned x cells) (back p h)
read_back false p cells h = ap (λ (x : ℕ). Scanned x cells) (back p h)

no_memory_back : (got : Bool) → answer_from (answer_words got ScanMemory) [] ≡ ScanMemory
no_memory_back true = refl
no_memory_back false = refl

answer_back : (got : Bool) (a : Answer) → AreNumbers (numbers_of a) → answer_from (answer_words got a) (cells_told a) ≡ a
answer_back got (PutOk n) h = ap (λ (x : ℕ). PutOk x) (back n h.0)
answer_back got (PutMemory None) h = refl
answer_back got (PutMemory (Some n)) h = ap (λ (x : ℕ). PutMemory (Some x)) (back n h.0)
answer_back got (PutFault None) h = refl
answer_back got (PutFault (Some n)) h = ap (λ (x : ℕ). PutFault (Some x)) (back n h.0)
answer_back got (PutSpent n) h = ap (λ (x : ℕ). PutSpent x) (back n h.0)
answer_back got (Scanned p cells) h = read_back got p cells h.0
answer_back got ScanMemory h = no_memory_back got
answer_back got (FlushOk n) h = ap (λ (x : ℕ). FlushOk x) (back n h.0)
answer_back got (FlushNothing n) h = ap (λ (x : ℕ). FlushNothing x) (back n h.0)
answer_back got (FlushBusy n m) h = ap (λ (x : ℕ). FlushBusy x (value_of (decimal m))) (back n h.0) ∙ ap (λ (x : ℕ). FlushBusy n x) (back m h.1.0)
answer_back got FlushFault h = refl
answer_back got FlushMemory h = refl
answer_back got (RollOk n m) h = ap (λ (x : ℕ). RollOk x (value_of (decimal m))) (back n h.0) ∙ ap (λ (x : ℕ). RollOk n x) (back m h.1.0)
answer_back got (RollNothing n) h = ap (λ (x : ℕ). RollNothing x) (back n h.0)
answer_back got RollFault h = refl
answer_back got RollMemory h = refl

-- ---- whether it answers a get

abbrev got_from : List (List ℕ) → Bool
got_from [] = false
got_from (call ∷ rest) = is call (codes "get")

not_got : (got : Bool) → (IsTrue got → IsTrue false) → false ≡ got
not_got true h = h refl
not_got false h = refl

read_got : (got : Bool) → is (read_name got) (codes "get") ≡ got
read_got true = refl
read_got false = refl

got_back : (got : Bool) (a : Answer) → (IsTrue got → IsTrue (is_scan a)) → got_from (answer_words got a) ≡ got
got_back got (PutOk n) h = not_got got h
got_back got (PutMemory n) h = not_got got h
got_back got (PutFault n) h = not_got got h
got_back got (PutSpent n) h = not_got got h
got_back got (Scanned p cells) h = read_got got
got_back got ScanMemory h = read_got got
got_back got (FlushOk n) h = not_got got h
got_back got (FlushNothing n) h = not_got got h
got_back got (FlushBusy n m) h = not_got got h
got_back got FlushFault h = not_got got h
got_back got FlushMemory h = not_got got h
got_back got (RollOk n m) h = not_got got h
got_back got (RollNothing n) h = not_got got h
got_back got RollFault h = not_got got h
got_back got RollMemory h = not_got got h

pub gets_apart : (g k : Bool) (a b : Answer) → (IsTrue g → IsTrue (is_scan a)) → (IsTrue k → IsTrue (is_scan b)) → answer_words g a ≡ answer_words k b → g ≡ k
gets_apart g k a b ha hb words = sym (got_back g a ha) ∙ ap got_from words ∙ got_back k b hb

pub answers_apart : (g k : Bool) (a b : Answer) → AreNumbers (numbers_of a) → AreNumbers (numbers_of b) → answer_words g a ≡ answer_words k b → cells_told a ≡ cells_told b → a ≡ b
answers_apart g k a b ha hb words cells =
    sym (answer_back g a ha) ∙ ap (λ (x : List (List ℕ)). answer_from x (cells_told a)) words ∙ ap (λ (x : List NumberedCell). answer_from (answer_words k b) x) cells ∙ answer_back k b hb
