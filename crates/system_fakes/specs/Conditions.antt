-- What a history begins with, and that its conditions are known in one way.
use Rattle.std.proofs.Common.{◌≡◌, ℕ, ◌<◌, List, [], ◌∷◌, length, true, Option, Some, None, arith}
use Rattle.std.proofs.Props.{props}
use Rattle.std.specs.Ordering.{eq_by_cmp}
use Rattle.std.specs.FinMap.{get}
use Rattle.log_model.specs.declared.name.Name.{Name}
use Rattle.log_model.specs.Files.{IsName, name_cmp}
use Rattle.system_fakes.specs.declared.op.Op.{Op}
use Rattle.system_fakes.specs.declared.op.Op.TheVariants.{Create, Begin, Write, Tear, Doubt, Sync, Move, Unlink, Place, SyncFolder, Tick}
use Rattle.system_fakes.specs.Order.{same_name}
use Rattle.system_fakes.specs.Held.{Held}
use Rattle.system_fakes.specs.History.{State, step, Meets, MeetAll}
use Rattle.system_fakes.specs.Fair.{IsStart}

-- log and old files have region 0
abbrev pub AreNamed : Held → Type 0
AreNamed h = (m : Name) (i : ℕ) → get h.folder m ≡ Some i → IsName m

-- no hard links
abbrev pub AreSingle : Held → Type 0
AreSingle h = (m q : Name) (i : ℕ) → get h.folder m ≡ Some i → get h.folder q ≡ Some i → eq_by_cmp name_cmp m q ≡ true

abbrev pub AreGiven : Held → Type 0
AreGiven h = (m : Name) (i : ℕ) → get h.folder m ≡ Some i → i < length h.files

abbrev pub HasNoPart : Held → Type 0
HasNoPart h = (m : Name) → get h.parts m ≡ None

abbrev pub IsCertain : Held → Type 0
IsCertain h = length h.doubtful ≡ 0

pub no_length : (l : List ℕ) → length l ≡ 0 → l ≡ []
no_length [] e = λ i. []
no_length (x ∷ l) e = absurd (omega (arith, e))

pub start_of : (h : Held) → AreNamed h → AreSingle h → AreGiven h → HasNoPart h → IsCertain h → IsStart h
start_of h named single given parts certain = record {
  plain = record { named = named; single = λ m q i first second. same_name m q (single m q i first second); given = given };
  parts = parts;
  certain = no_length h.doubtful certain;
}

meets_prop : (h : Held) (op : Op) → IsProp (Meets h op)
meets_prop h (Create name) = hlevel props
meets_prop h (Begin name) = hlevel props
meets_prop h (Write i at bytes) = hlevel props
meets_prop h (Tear i at bytes) = hlevel props
meets_prop h (Doubt i) = hlevel props
meets_prop h (Sync i) = hlevel props
meets_prop h (Move i from to) = hlevel props
meets_prop h (Unlink i name) = hlevel props
meets_prop h (Place i name) = hlevel props
meets_prop h SyncFolder = hlevel props
meets_prop h Tick = hlevel props

pub meet_all_prop : (s : State) (ops : List Op) → IsProp (MeetAll s ops)
meet_all_prop s [] = hlevel props
meet_all_prop s (op ∷ ops) = hlevel (props, meets_prop s.held op, meet_all_prop (step s op) ops)
