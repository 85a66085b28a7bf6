-- The answers by their positions: puts that drew a sequence id, and scans.
use Rattle.std.proofs.Common.{◌≡◌, ℕ, ◌==◌, ◌&&◌, ◌⊎◌, Bool, true, false, List, filter, Contains, Some, None, refl, sym, ap, ◌∙◌, inl, inr}
use Rattle.std.proofs.lemmas.Bool.{eqb-true, eq-eqb, and_parts, and_from}
use Rattle.cell_model.specs.Order.{NumberedCell}
use Rattle.region_model.specs.Calls.{Call, Put, Scan, Flush, Roll, Answer, PutOk, PutMemory, PutFault, PutSpent, Scanned, ScanMemory, FlushOk, FlushNothing, FlushBusy, FlushFault, FlushMemory, RollOk, RollNothing, RollFault, RollMemory, Reply, IsAnswerTo, View}
use Rattle.region_model.specs.Lawful.{IsOn, place_of, number_of}
use Rattle.serial_history.specs.History.{position_of}
use Rattle.serial_history.proofs.Lists.{filter_kept, filter_passed, filter_has}

pub same_some : (m n : ℕ) → Some m ≡ Some n → m ≡ n
same_some m n e = cc

-- an answer with a position is that of a put with this number, or of a scan at this point
pub kinds : (a : Answer) (n : ℕ) → position_of a ≡ Some n → (number_of a ≡ Some n) ⊎ ((cells : List NumberedCell) × (a ≡ Scanned n cells))
kinds (PutOk m) n e = inl e
kinds (PutMemory m) n e = inl e
kinds (PutFault m) n e = inl e
kinds (PutSpent m) n e = absurd cc
kinds (Scanned p cells) n e = inr (cells, ap (λ q. Scanned q cells) (same_some p n e))
kinds ScanMemory n e = absurd cc
kinds (FlushOk m) n e = absurd cc
kinds (FlushNothing m) n e = absurd cc
kinds (FlushBusy h c) n e = absurd cc
kinds FlushFault n e = absurd cc
kinds FlushMemory n e = absurd cc
kinds (RollOk f m) n e = absurd cc
kinds (RollNothing f) n e = absurd cc
kinds RollFault n e = absurd cc
kinds RollMemory n e = absurd cc

pub numbered : (a : Answer) (n : ℕ) → number_of a ≡ Some n → position_of a ≡ Some n
numbered (PutOk m) n e = e
numbered (PutMemory m) n e = e
numbered (PutFault m) n e = e
numbered (PutSpent m) n e = absurd cc
numbered (Scanned p cells) n e = absurd cc
numbered ScanMemory n e = absurd cc
numbered (FlushOk m) n e = absurd cc
numbered (FlushNothing m) n e = absurd cc
numbered (FlushBusy h c) n e = absurd cc
numbered FlushFault n e = absurd cc
numbered FlushMemory n e = absurd cc
numbered (RollOk f m) n e = absurd cc
numbered (RollNothing f) n e = absurd cc
numbered RollFault n e = absurd cc
numbered RollMemory n e = absurd cc

pub placed : (a : Answer) (n : ℕ) → place_of a ≡ Some n → position_of a ≡ Some n
placed (PutOk m) n e = e
placed (PutMemory m) n e = absurd cc
placed (PutFault m) n e = absurd cc
placed (PutSpent m) n e = absurd cc
placed (Scanned p cells) n e = e
placed ScanMemory n e = absurd cc
placed (FlushOk m) n e = absurd cc
placed (FlushNothing m) n e = absurd cc
placed (FlushBusy h c) n e = absurd cc
placed FlushFault n e = absurd cc
placed FlushMemory n e = absurd cc
placed (RollOk f m) n e = absurd cc
placed (RollNothing f) n e = absurd cc
placed RollFault n e = absurd cc
placed RollMemory n e = absurd cc

-- a placed answer with a number is that of a put that went well
pub put_ok : (a : Answer) (p n : ℕ) → place_of a ≡ Some p → number_of a ≡ Some n → a ≡ PutOk n
put_ok (PutOk m) p n e f = ap PutOk (same_some m n f)
put_ok (PutMemory m) p n e f = absurd cc
put_ok (PutFault m) p n e f = absurd cc
put_ok (PutSpent m) p n e f = absurd cc
put_ok (Scanned q cells) p n e f = absurd cc
put_ok ScanMemory p n e f = absurd cc
put_ok (FlushOk m) p n e f = absurd cc
put_ok (FlushNothing m) p n e f = absurd cc
put_ok (FlushBusy h c) p n e f = absurd cc
put_ok FlushFault p n e f = absurd cc
put_ok FlushMemory p n e f = absurd cc
put_ok (RollOk g m) p n e f = absurd cc
put_ok (RollNothing g) p n e f = absurd cc
put_ok RollFault p n e f = absurd cc
put_ok RollMemory p n e f = absurd cc

pub not_both : (a : Answer) (n p : ℕ) (cells : List NumberedCell) → number_of a ≡ Some n → a ≡ Scanned p cells → ⊥
not_both a n p cells number scan = let none : None ≡ Some n = sym (ap number_of scan) ∙ number in absurd cc

-- ---- the scans at a point

-- the call is a scan of the region
abbrev pub is_scan_on : ℕ → Call → Bool
is_scan_on r (Put region sync cells) = false
is_scan_on r (Scan view region from to) = region == r
is_scan_on r (Flush region family) = false
is_scan_on r Roll = false

-- the answer is one at this point
abbrev pub is_at : ℕ → Answer → Bool
is_at p (Scanned q cells) = q == p
is_at p _ = false

-- the replies of scans of the region that read at this point
abbrev pub scans_at : ℕ → ℕ → List Reply → List Reply
scans_at r p replies = filter (λ (x : Reply). is_scan_on r x.call && is_at p x.answer) replies

scan_there : (r : ℕ) (c : Call) → is_scan_on r c ≡ true → (view : View) × (from : List ℕ) × (to : List ℕ) × (c ≡ Scan view r from to)
scan_there r (Put region sync cells) e = absurd cc
scan_there r (Scan view region from to) e = (view, from, to, ap (λ q. Scan view q from to) (eqb-true region r e))
scan_there r (Flush region family) e = absurd cc
scan_there r Roll e = absurd cc

answer_there : (p : ℕ) (a : Answer) → is_at p a ≡ true → (cells : List NumberedCell) × (a ≡ Scanned p cells)
answer_there p (Scanned q cells) e = (cells, ap (λ n. Scanned n cells) (eqb-true q p e))
answer_there p (PutOk m) e = absurd cc
answer_there p (PutMemory m) e = absurd cc
answer_there p (PutFault m) e = absurd cc
answer_there p (PutSpent m) e = absurd cc
answer_there p ScanMemory e = absurd cc
answer_there p (FlushOk m) e = absurd cc
answer_there p (FlushNothing m) e = absurd cc
answer_there p (FlushBusy h c) e = absurd cc
answer_there p FlushFault e = absurd cc
answer_there p FlushMemory e = absurd cc
answer_there p (RollOk f m) e = absurd cc
answer_there p (RollNothing f) e = absurd cc
answer_there p RollFault e = absurd cc
answer_there p RollMemory e = absurd cc

-- a scan of the region that read at this point
pub record IsScanAt (r p : ℕ) (reply : Reply) : Type 0 where
  pub view : View
  pub from : List ℕ
  pub to : List ℕ
  pub call : reply.call ≡ Scan view r from to
  pub cells : List NumberedCell
  pub answer : reply.answer ≡ Scanned p cells

pub is_scan_in : (r p : ℕ) (replies : List Reply) (x : Reply) → Contains (scans_at r p replies) x → IsScanAt r p x
is_scan_in r p replies x is =
    let both = and_parts (is_scan_on r x.call) (is_at p x.answer) (filter_passed (λ (y : Reply). is_scan_on r y.call && is_at p y.answer) replies x is) in
    let call = scan_there r x.call both.0 in
    let answer = answer_there p x.answer both.1 in
    record { view = call.0; from = call.1; to = call.2; call = call.3; cells = answer.0; answer = answer.1 }

pub is_reply : (r p : ℕ) (replies : List Reply) (x : Reply) → Contains (scans_at r p replies) x → Contains replies x
is_reply r p replies x is = filter_kept (λ (y : Reply). is_scan_on r y.call && is_at p y.answer) replies x is

pub has_scan : (r p : ℕ) (replies : List Reply) (x : Reply) → Contains replies x → IsScanAt r p x → Contains (scans_at r p replies) x
has_scan r p replies x is scan =
    filter_has (λ (y : Reply). is_scan_on r y.call && is_at p y.answer) replies x is
    (and_from (is_scan_on r x.call) (is_at p x.answer) (ap (is_scan_on r) scan.call ∙ eq-eqb r r refl) (ap (is_at p) scan.answer ∙ eq-eqb p p refl))

-- a call of the region that was answered with cells is a scan of it
pub scan_of : (r : ℕ) (c : Call) (p : ℕ) (cells : List NumberedCell) → IsOn r c → IsAnswerTo c (Scanned p cells) → (view : View) × (from : List ℕ) × (to : List ℕ) × (c ≡ Scan view r from to)
scan_of r (Put region sync cs) p cells on answers = absurd cc
scan_of r (Scan view region from to) p cells on answers = (view, from, to, ap (λ q. Scan view q from to) on)
scan_of r (Flush region family) p cells on answers = absurd cc
scan_of r Roll p cells on answers = absurd on
