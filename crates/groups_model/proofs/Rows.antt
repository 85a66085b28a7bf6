-- Worked examples: regions in two groups, and a fault of one group's disk, which stops no put of the other.
use Rattle.std.proofs.Common.{◌≡◌, ℕ, ◌≤◌, true, [], ◌∷◌, map, Some, None, refl, arith, Contains, AllPairs}
use Rattle.std.specs.FinMap.{empty}
use Rattle.std.proofs.lemmas.List.Elements.{All-from_recursion, All-contains}
use Rattle.std.proofs.lemmas.List.Kept.{AllPairs-cons}
use Rattle.cell_model.specs.Batch.{batch_of}
use Rattle.cell_model.specs.Cell.{Cell}
use Rattle.region_model.specs.Journal.{Base, Edit, Done, visible}
use Rattle.region_model.specs.Calls.{Put, Scan, viewed, IsFlushOf, Roll, PutOk, PutFault, PutSpent, Scanned, FlushBusy, RollOk, Reply, IsAnswerTo}
use Rattle.region_model.specs.Lawful.{IsOn, IsLawful, InOrder, KeepsPlaces, StopsAtFault, IsEditOf, number_of, flushed_of}
use Rattle.groups_model.specs.Groups.{group_of, replies_on}

-- ---- which group a region is of

in_one_group : map (group_of 1) (1 ∷ 2 ∷ 3 ∷ []) ≡ 1 ∷ 1 ∷ 1 ∷ []
in_one_group = refl

in_two_groups : map (group_of 2) (1 ∷ 2 ∷ 3 ∷ 4 ∷ []) ≡ 1 ∷ 2 ∷ 1 ∷ 2 ∷ []
in_two_groups = refl

in_four_groups : map (group_of 4) (1 ∷ 4 ∷ 5 ∷ 64 ∷ []) ≡ 1 ∷ 4 ∷ 1 ∷ 4 ∷ []
in_four_groups = refl

-- ---- a handler's put into region 1 fails in the log of the first group, and its put into region 2 goes well

abbrev base : Base
base = record { content = empty; last = 0 }

abbrev cell : Cell
cell = record { row = 114 ∷ []; family = 102 ∷ []; qualifier = 113 ∷ []; ts = 1; kind = 4; value = 97 ∷ []; tags = [] }

abbrev faults : Reply
faults = record { handler = 1; number = 1; call = Put 1 true (batch_of (cell ∷ [])); answer = PutFault (Some 1) }

abbrev puts : Reply
puts = record { handler = 1; number = 2; call = Put 2 true (batch_of (cell ∷ [])); answer = PutOk 1 }

-- a roll of handler 2 is of the second group
abbrev rolls : Reply
rolls = record { handler = 2; number = 1; call = Roll; answer = RollOk 1 1 }

on_the_first : replies_on 2 1 (faults ∷ puts ∷ rolls ∷ []) ≡ faults ∷ []
on_the_first = refl

on_the_second : replies_on 2 2 (faults ∷ puts ∷ rolls ∷ []) ≡ puts ∷ rolls ∷ []
on_the_second = refl

abbrev edit : Edit
edit = record { entry = record { region = 2; number = 1; time = 1000; batch = batch_of (cell ∷ []) }; caller = record { handler = 1; call = 2 }; outcome = Done }

only : (P : Reply → Type 0) → P puts → (reply : Reply) → Contains (puts ∷ []) reply → P reply
only P holds reply is = All-contains P (puts ∷ []) reply (All-from_recursion P (puts ∷ []) (holds, tt)) is

alone : (R : Reply → Reply → Type 0) → AllPairs R (puts ∷ [])
alone R = AllPairs-cons R puts [] (λ k d lt. absurd (omega arith)) (λ i j d lt le. absurd (omega arith))

-- the replies on the second group are lawful for region 2
pub lawful_by_group : IsLawful 2 base (edit ∷ []) (replies_on 2 2 (faults ∷ puts ∷ []))
lawful_by_group = record {
  order = alone InOrder;
  answers = λ reply is. only (λ r. IsAnswerTo r.call r.answer) refl reply is;
  places = alone (KeepsPlaces 2);
  scans = λ reply view from to p cells is. only
      (λ r. r.call ≡ Scan view 2 from to → r.answer ≡ Scanned p cells → (0 ≤ p) × (p ≤ 1) × (cells ≡ viewed view (visible empty (edit ∷ []) p from to))) (λ e. absurd cc) reply is;
  puts = λ reply n is. only (λ r. IsOn 2 r.call → number_of r.answer ≡ Some n → (e : Edit) × Contains (edit ∷ []) e × (e.entry.number ≡ n) × IsEditOf r e)
      (λ o e. (edit, (0, omega arith, refl), cc, record { handler = refl; call = refl; sync = true; put = refl; number = refl; outcome = refl })) reply is;
  told = λ e is. All-contains (λ (e : Edit). (reply : Reply) × Contains (puts ∷ []) reply × IsEditOf reply e) (edit ∷ []) e
      (All-from_recursion (λ (e : Edit). (reply : Reply) × Contains (puts ∷ []) reply × IsEditOf reply e) (edit ∷ [])
      ((puts, (0, omega arith, refl), record { handler = refl; call = refl; sync = true; put = refl; number = refl; outcome = refl }), tt)) is;
  faults = alone StopsAtFault;
  flushes = λ reply n is. only (λ r. IsOn 2 r.call → flushed_of r.answer ≡ Some n → (0 ≤ n) × (n ≤ 1)) (λ o e. absurd cc) reply is;
  busy = λ reply h c is. only
      (λ r. IsOn 2 r.call → r.answer ≡ FlushBusy h c → (h ≡ r.handler → ⊥) × ((other : Reply) × Contains (puts ∷ []) other × (other.handler ≡ h) × (other.number ≡ c) × IsFlushOf 2 other.call))
      (λ o e. absurd cc) reply is;
  spent = λ reply n is. only (λ r. IsOn 2 r.call → r.answer ≡ PutSpent n → (n ≡ 281474976710655) × (1 ≡ n)) (λ o e. absurd cc) reply is;
}

-- on one server they would not be
some_none : (n : ℕ) → Some n ≡ None → ⊥
some_none n e = absurd cc

pub unlawful_together : IsLawful 2 base (edit ∷ []) (faults ∷ puts ∷ []) → ⊥
unlawful_together law = some_none 1 (law.faults 0 1 faults (omega arith) (omega arith) refl tt)
