-- Items of the ring.
use Rattle.std.specs.Prelude.{◌≡◌, ℕ, Bool, true, false, ◌||◌, List, [], ◌∷◌, Option, Some, None}
use Rattle.log_trucks.specs.Held.{Held, held_of}
use Rattle.log_halves.specs.declared.item.Item.{Item}
use Rattle.log_halves.specs.declared.item.Item.TheVariants as items
use Rattle.log_halves.specs.Trucks.{IsSpelled}

abbrev pub region_of : Item → ℕ
region_of (items.Append truck) = truck.value.region
region_of (items.Sync region number) = region

abbrev pub number_of : Item → Option ℕ
number_of (items.Append truck) = Some truck.value.number
number_of (items.Sync region number) = None

abbrev pub IsWholeItem : Item → Type 0
IsWholeItem (items.Append truck) = IsSpelled (held_of truck.value) × (truck.value.behind ≡ [])
IsWholeItem (items.Sync region number) = Unit {0}

-- the trucks of the appends among these items
abbrev pub appended : List Item → List Held
appended [] = []
appended (items.Append truck ∷ xs) = held_of truck.value ∷ appended xs
appended (items.Sync region number ∷ xs) = appended xs

abbrev pub is_sync : Item → Bool
is_sync (items.Append truck) = false
is_sync (items.Sync region number) = true

-- a sync request is among these items
abbrev pub asks : List Item → Bool
asks [] = false
asks (x ∷ xs) = is_sync x || asks xs

-- the one held item
abbrev pub held_in : Option Item → List Item
held_in None = []
held_in (Some x) = x ∷ []
