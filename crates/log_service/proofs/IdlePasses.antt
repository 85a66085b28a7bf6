-- The keys of the ring of chains, of which the first one is handed out at the start.
use Rattle.std.proofs.Common.{◌≡◌, ◌<◌, ℕ, List, [], ◌∷◌, length, refl, arith}
use Rattle.std.specs.Prelude.{Option, Some, None}
use Rattle.atomic_table.specs.Seated.{TableId}
use Rattle.append_ring.specs.declared.pass.RingKey.{RingKey}
use Rattle.append_ring.specs.Parts.{IsNew, AreNew, AreNewAfter, first_there, without_first}

pub record Parted {T : Type 0} (id : TableId) (lasts : List ℕ) (places : List (Option (RingKey T))) : Type 0 where
  pub pass : RingKey T
  pub is : first_there places ≡ Some pass
  pub new : IsNew id lasts 1 pass
  pub left : AreNewAfter id lasts 0 1 (without_first places)
  pub all : length (without_first places) ≡ length places

pub first_parted : {T : Type 0} (id : TableId) (lasts : List ℕ) (places : List (Option (RingKey T))) → 0 < length places → AreNew id lasts 0 places → Parted id lasts places
first_parted id lasts [] some new = absurd (omega (arith, some))
first_parted id lasts (None ∷ places) some new = absurd new
first_parted id lasts (Some p ∷ places) some new = record { pass = p; is = refl; new = new.0; left = new.1; all = refl }
