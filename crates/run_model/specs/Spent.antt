-- The put that found no sequence id left.
use Rattle.std.specs.Prelude.{◌≡◌, ℕ, Bool, List, [], ◌∷◌, ◌++◌, Contains, Option, Some, None}
use Rattle.cell_model.specs.Batch.{Batch}
use Rattle.region_model.specs.Calls.{Call, Put, Scan, Flush, Roll, Answer, PutSpent, Reply}
use Rattle.run_model.specs.declared.spent.Spent.{Spent}

abbrev pub IsSpent : Answer → Type 0
IsSpent (PutSpent n) = Unit {0}
IsSpent _ = ⊥

-- the first put that was answered spent, by handler and then call: its region, and the last number that it was told
pub record IsFirstSpent (spent : Spent) (replies : List Reply) : Type 0 where
  pub before : List Reply
  pub reply : Reply
  pub after : List Reply
  pub split : replies ≡ before ++ reply ∷ after
  pub none_before : (x : Reply) → Contains before x → IsSpent x.answer → ⊥
  pub sync : Bool
  pub batch : Batch
  pub put : reply.call ≡ Put spent.region sync batch
  pub answer : reply.answer ≡ PutSpent spent.last

-- ---- as it is found

abbrev pub region_of : Call → ℕ
region_of (Put region sync batch) = region
region_of (Scan view region from to) = region
region_of (Flush region family) = region
region_of Roll = 0

-- what an answer tells of a region, where it tells that numbers are spent
abbrev pub told_at : ℕ → Answer → Option Spent
told_at region (PutSpent last) = Some (record { region = region; last = last })
told_at region _ = None

abbrev pub told_spent : Call → Answer → Option Spent
told_spent call answer = told_at (region_of call) answer

-- the first of the two
abbrev pub first_of : Option Spent → Option Spent → Option Spent
first_of None later = later
first_of (Some s) later = Some s

abbrev pub first_spent : List Reply → Option Spent
first_spent [] = None
first_spent (x ∷ xs) = first_of (told_spent x.call x.answer) (first_spent xs)

-- only puts are answered spent
abbrev pub OnlyPuts : List Reply → Type 0
OnlyPuts replies = (x : Reply) → Contains replies x → IsSpent x.answer → (region : ℕ) × (sync : Bool) × (batch : Batch) × (x.call ≡ Put region sync batch)

abbrev pub FirstSpentIsFirst : Type 0
FirstSpentIsFirst = (replies : List Reply) → OnlyPuts replies
    → ((s : Spent) → first_spent replies ≡ Some s → IsFirstSpent s replies)
    × (first_spent replies ≡ None → (x : Reply) → Contains replies x → IsSpent x.answer → ⊥)
