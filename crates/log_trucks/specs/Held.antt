-- Entries that a chain of trucks keeps.
use Rattle.std.specs.Prelude.{◌≡◌, ℕ, List, [], ◌∷◌, slice_set}
use Rattle.log_model.specs.Entry.{Entry, IsEntry, entry_frame}
use Rattle.seq_accounting.specs.Accounts.{AreFamiliesOf}

-- an entry that is kept: its region, its number and its bytes, and the families that it brings to the accounting
pub record Held : Type 0 where
  pub region : ℕ
  pub number : ℕ
  pub bytes : List ℕ
  pub families : List (List ℕ)

-- an entry on its way, and what stands after it in its chain
pub record Haul : Type 0 where
  pub region : ℕ
  pub number : ℕ
  pub bytes : List ℕ
  -- the families that it brings to the accounting
  pub families : List (List ℕ)
  pub behind : List Held

abbrev pub held_of : Haul → Held
held_of t = record { region = t.region; number = t.number; bytes = t.bytes; families = t.families }

-- the same once its entry was noted
abbrev pub noted_of : Haul → Held
noted_of t = record { region = t.region; number = t.number; bytes = t.bytes; families = [] }

-- the truck has this entry, with the families of its cells
pub record Carries (t : Haul) (e : Entry) : Type 0 where
  pub entry : IsEntry e
  pub bytes : t.bytes ≡ entry_frame e
  pub region : e.region ≡ t.region
  pub number : e.number ≡ t.number
  pub families : AreFamiliesOf e.batch.cells t.families

-- what is kept is this entry
pub record IsHeld (held : Held) (e : Entry) : Type 0 where
  pub region : held.region ≡ e.region
  pub number : held.number ≡ e.number
  pub bytes : held.bytes ≡ entry_frame e
  pub entry : IsEntry e

-- what is kept are these entries, one after the other
abbrev pub AreHeld : List Held → List Entry → Type 0
AreHeld [] [] = Unit {0}
AreHeld [] (e ∷ es) = ⊥
AreHeld (h ∷ hs) [] = ⊥
AreHeld (h ∷ hs) (e ∷ es) = IsHeld h e × AreHeld hs es

-- one region's chain is another one now, which has P
pub record IsSetTo (old new : List (List Held)) (r : ℕ) (P : List Held → Type 0) : Type 0 where
  pub now : List Held
  pub set : new ≡ slice_set old r now
  pub has : P now
