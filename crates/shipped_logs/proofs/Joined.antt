-- Calls of a device and calls that ship, put together.
use Rattle.std.proofs.Common.{◌≡◌, ◌⊎◌, inl, inr, List, [], ◌∷◌, ◌++◌, Option, Some, None, refl, sym, ap, ◌∙◌, subst, arith, append_assoc}
use Rattle.log_model.specs.Files.{Files}
use Rattle.chronicle_model.specs.Chronicle.{HasLog, Placed, Position, IsChronicle, StandsBefore}
use Rattle.chronicle_model.specs.Growth.{Prolongs, IsReached, IsGoingOn, LaterEntriesAreBehind, ReachedStays}
use Rattle.chronicle_model.specs.Shipping.{Shipping, HasShipped, Step, Grows, Steps, unshipped, ShippingGoesOn}
use Rattle.chronicle_model.specs.Shipping as shippings
use Rattle.chronicle_model.proofs.Grown.{one_chronicle}
use Rattle.ship_queue.specs.Messages.{Message, shipped_in, recorded_in}
use Rattle.ship_queue.specs.Shipping.{IsOnward, IsStop, IsShipStep, position_or, recorded_or, PartShipIsAStep}
use Rattle.shipped_logs.specs.Following.{Moment, Call, OfDevice, OfShipping, Calls, last_of, HaveBeenMade, shipping_at, IsAt, HasFollowed, ShippedBeginsTheChronicle}

onward_itself : (p : Position) → IsOnward p p
onward_itself p = inr (refl, omega arith)

onward_on : (p q r : Position) → IsOnward p q → IsOnward q r → IsOnward p r
onward_on p q r (inl lt) (inl more) = inl (omega (arith, lt, more))
onward_on p q r (inl lt) (inr same) = inl (omega (arith, lt, same.0))
onward_on p q r (inr same) (inl lt) = inl (omega (arith, same.0, lt))
onward_on p q r (inr same) (inr both) = inr (same.0 ∙ both.0, omega (arith, same.1, both.1))

-- a position before one that is reached is reached
reached_before : (files : Files) (p q : Position) → IsOnward p q → IsReached files q → IsReached files p
reached_before files p q (inl lt) (inl (m, above, there)) = inl (m, omega (arith, lt, above), there)
reached_before files p q (inl lt) (inr (es, ended, log, le)) = inl (q.file, lt, (log.0, log.1))
reached_before files p q (inr same) (inl (m, above, there)) = inl (m, omega (arith, same.0, above), there)
reached_before files p q (inr same) (inr (es, ended, log, le)) = inr (es, ended, subst (λ n. HasLog files n es ended) (sym same.0) log, omega (arith, same.1, le))

-- The recorded position is the first one or further on, and where it isn't the first one a reader has reached it.
record Holds (first : Position) (m : Moment) : Type 0 where
  pub onward : IsOnward first (recorded_or first m.messages)
  pub reached : (recorded_or first m.messages ≡ first) ⊎ IsReached m.files (recorded_or first m.messages)
  pub goes_on : IsGoingOn m.files

module _ (behind_law : LaterEntriesAreBehind) (stays : ReachedStays) (part_law : PartShipIsAStep) (goes_on : ShippingGoesOn) (first : Position) where
  module _ (old new : Moment) (on : Prolongs old.files new.files) (going : IsGoingOn new.files) (same : new.messages ≡ old.messages) (holds : Holds first old) where
    abbrev more : List Placed
    more = (on.begins old.chronicle new.chronicle old.is new.is).0

    grows : new.chronicle ≡ old.chronicle ++ more
    grows = (on.begins old.chronicle new.chronicle old.is new.is).1

    is_now : IsChronicle new.files (old.chronicle ++ more)
    is_now = subst (IsChronicle new.files) grows new.is

    past : (p : Position) → IsReached old.files p → StandsBefore p more
    past p reached = behind_law old.files new.files old.chronicle more p on old.is is_now reached

    recorded_same : recorded_or first new.messages ≡ recorded_or first old.messages
    recorded_same = ap (recorded_or first) same

    step_of_device : Step first (shipping_at first old) (shipping_at first new)
    step_of_device = Grows more grows new.is.order (ap shipped_in same) recorded_same (elim holds.reached as (λ _. (recorded_or first old.messages ≡ first) ⊎ (StandsBefore (recorded_or first old.messages) more × StandsBefore first more)) [
      | inl is ↦ inl is
      | inr reached ↦ inr (past (recorded_or first old.messages) reached, past first (reached_before old.files first (recorded_or first old.messages) holds.onward reached))
    ])

    holds_after_device : Holds first new
    holds_after_device = record {
      onward = subst (IsOnward first) (sym recorded_same) holds.onward;
      reached = subst (λ q. (q ≡ first) ⊎ IsReached new.files q) (sym recorded_same) (elim holds.reached as (λ _. (recorded_or first old.messages ≡ first) ⊎ IsReached new.files (recorded_or first old.messages)) [
        | inl is ↦ inl is
        | inr reached ↦ inr (stays old.files new.files (recorded_or first old.messages) on reached)
      ]);
      goes_on = going;
    }

  module _ (old new : Moment) (same : new.files ≡ old.files) (ship : IsShipStep old.files old.chronicle (recorded_or first old.messages) old.messages new.messages) (holds : Holds first old) where
    one : new.chronicle ≡ old.chronicle
    one = one_chronicle old.files new.chronicle old.chronicle (subst (λ f. IsChronicle f new.chronicle) same new.is) old.is

    step_of_shipping : Step first (shipping_at first old) (shipping_at first new)
    step_of_shipping =
        subst (λ c. Step first (shipping_at first old) (record { chronicle = c; shipped = shipped_in new.messages; recorded = recorded_or first new.messages })) (sym one)
        (part_law first old.chronicle old.messages new.messages ship.part)

    abbrev Stands : Position → Type 0
    Stands q = IsOnward first q × ((q ≡ first) ⊎ IsReached old.files q)

    stands_before : Stands (recorded_or first old.messages)
    stands_before = (holds.onward, holds.reached)

    at_stop : (q : Position) → IsStop old.files (recorded_or first old.messages) q → Stands q
    at_stop q stop = (
      onward_on first (recorded_or first old.messages) q holds.onward stop.onward,
      elim stop.reached as (λ _. (q ≡ first) ⊎ IsReached old.files q) [
        | inl is ↦ subst (λ r. (r ≡ first) ⊎ IsReached old.files r) (sym is) holds.reached
        | inr reached ↦ inr reached
      ],
    )

    stands_now : (r : Option Position) → recorded_in new.messages ≡ r → Stands (position_or first r)
    stands_now None is = (onward_itself first, inl refl)
    stands_now (Some q) is = elim (ship.stop q is) as (λ _. Stands q) [
      | inl was ↦ subst Stands (ap (position_or first) was) stands_before
      | inr stop ↦ at_stop q stop
    ]

    holds_after_shipping : Holds first new
    holds_after_shipping =
        let now = stands_now (recorded_in new.messages) refl in record {
          onward = now.0;
          reached = subst (λ f. (recorded_or first new.messages ≡ first) ⊎ IsReached f (recorded_or first new.messages)) (sym same) now.1;
          goes_on = subst IsGoingOn (sym same) holds.goes_on;
        }

  step_of : (old new : Moment) → Call first old new → Holds first old → Step first (shipping_at first old) (shipping_at first new) × Holds first new
  step_of old new (OfDevice on going same) holds = (step_of_device old new on going same holds, holds_after_device old new on going same holds)
  step_of old new (OfShipping same ship) holds = (step_of_shipping old new same ship holds, holds_after_shipping old new same ship holds)

  abbrev shippings_at : List Moment → List Shipping
  shippings_at [] = []
  shippings_at (m ∷ ms) = shipping_at first m ∷ shippings_at ms

  steps_of : (m : Moment) (ms : List Moment) → Calls first m ms → Holds first m → Steps first (shipping_at first m) (shippings_at ms)
  steps_of m [] calls holds = tt
  steps_of m (n ∷ ns) calls holds = let one = step_of m n calls.0 holds in (one.0, steps_of n ns calls.1 one.1)

  last_is : (m : Moment) (ms : List Moment) → shippings.last_of (shipping_at first m) (shippings_at ms) ≡ shipping_at first (last_of m ms)
  last_is m [] = refl
  last_is m (n ∷ ns) = last_is n ns

  shipped_so : (start : Moment) (later : List Moment) → HaveBeenMade first start later → HasShipped first (shipping_at first (last_of start later))
  shipped_so start later made =
      let begun : shipping_at first start ≡ unshipped start.chronicle first = ap (λ (ms : List Message). record { chronicle = start.chronicle; shipped = shipped_in ms; recorded = recorded_or first ms }) made.untold in
      let holds : Holds first start = record {
        onward = subst (λ (ms : List Message). IsOnward first (recorded_or first ms)) (sym made.untold) (onward_itself first);
        reached = inl (ap (recorded_or first) made.untold);
        goes_on = made.goes_on;
      } in
      let steps : Steps first (unshipped start.chronicle first) (shippings_at later) = subst (λ s. Steps first s (shippings_at later)) begun (steps_of start later made.calls holds) in
      subst (HasShipped first) (ap (λ s. shippings.last_of s (shippings_at later)) (sym begun) ∙ last_is start later) (goes_on first start.chronicle (shippings_at later) start.is.order steps)

pub law : LaterEntriesAreBehind → ReachedStays → PartShipIsAStep → ShippingGoesOn → ShippedBeginsTheChronicle
law behind_law stays part_law goes_on first start later made = shipped_so behind_law stays part_law goes_on first start later made

-- ---- one more call

pub calls_on : (first : Position) (m n : Moment) (ms : List Moment) → Calls first m ms → Call first (last_of m ms) n → Calls first m (ms ++ n ∷ [])
calls_on first m n [] calls call = (call, tt)
calls_on first m n (k ∷ ks) calls call = (calls.0, calls_on first k n ks calls.1 call)

pub last_on : (m n : Moment) (ms : List Moment) → last_of m (ms ++ n ∷ []) ≡ n
last_on m n [] = refl
last_on m n (k ∷ ks) = last_on k n ks

going_on : (first : Position) (m : Moment) (ms : List Moment) → IsGoingOn m.files → Calls first m ms → IsGoingOn (last_of m ms).files
going_on first m [] going calls = going
going_on first m (n ∷ ns) going calls = going_on first n ns (going_after calls.0) calls.1
  where
    going_after : Call first m n → IsGoingOn n.files
    going_after (OfDevice on still same) = still
    going_after (OfShipping same ship) = subst IsGoingOn (sym same) going

pub made_on : (first : Position) (start now : Moment) (later : List Moment) → HaveBeenMade first start later → Call first (last_of start later) now → HaveBeenMade first start (later ++ now ∷ [])
made_on first start now later made call = record { goes_on = made.goes_on; untold = made.untold; calls = calls_on first start now later made.calls call }

pub last_goes_on : (first : Position) (start : Moment) (later : List Moment) → HaveBeenMade first start later → IsGoingOn (last_of start later).files
last_goes_on first start later made = going_on first start later made.goes_on made.calls

module _ {P : Type 0} (has : P → List Message → Type 0) (first : Position) (start : Moment) (later : List Moment) (files : Files) (peer : P) (at : Position) (is : IsAt has first start later files peer at) where
  pub going_now : IsGoingOn files
  going_now = subst IsGoingOn is.disk (last_goes_on first start later is.made)

  pub chronicle_now : IsChronicle files (last_of start later).chronicle
  chronicle_now = subst (λ f. IsChronicle f (last_of start later).chronicle) is.disk (last_of start later).is

  module _ (law_of : ShippedBeginsTheChronicle) (now_files : Files) (same : now_files ≡ files) (ns : List Message) (ship : IsShipStep files (last_of start later).chronicle at (last_of start later).messages ns) where
    abbrev last : Moment
    last = last_of start later

    abbrev now : Moment
    now = record { files = now_files; chronicle = last.chronicle; is = subst (λ f. IsChronicle f last.chronicle) (sym same) chronicle_now; messages = ns }

    step : IsShipStep last.files last.chronicle (recorded_or first last.messages) last.messages ns
    step = subst (λ f. IsShipStep f last.chronicle (recorded_or first last.messages) last.messages ns) (sym is.disk) (subst (λ q. IsShipStep files last.chronicle q last.messages ns) (sym is.recorded) ship)

    made : HaveBeenMade first start (later ++ now ∷ [])
    made = made_on first start now later is.made (OfShipping (same ∙ sym is.disk) step)

    pub followed : HasFollowed first start later now_files ns
    followed = record {
      more = [];
      now = now;
      made = made;
      disk = refl;
      told = refl;
      shipped = subst (λ m. HasShipped first (shipping_at first m)) (last_on start now later) (law_of first start (later ++ now ∷ []) made);
    }

-- ---- a call of the device before it

module _ {P : Type 0} (has : P → List Message → Type 0) (first : Position) (start : Moment) (later : List Moment) (files now_files : Files) (peer : P) (at : Position) (is : IsAt has first start later files peer at)
    (on : Prolongs files now_files) (going : IsGoingOn now_files) (d : List Placed) (of : IsChronicle now_files d) where
  abbrev pub after_device : Moment
  after_device = record { files = now_files; chronicle = d; is = of; messages = (last_of start later).messages }

  pub at_after_device : IsAt has first start (later ++ after_device ∷ []) now_files peer at
  at_after_device =
      let back : after_device ≡ last_of start (later ++ after_device ∷ []) = sym (last_on start after_device later) in
      record {
        made = made_on first start after_device later is.made (OfDevice (subst (λ f. Prolongs f now_files) (sym is.disk) on) going refl);
        disk = ap (λ (m : Moment). m.files) (sym back);
        told = subst (λ (m : Moment). has peer m.messages) back is.told;
        recorded = subst (λ (m : Moment). recorded_or first m.messages ≡ at) back is.recorded;
      }

pub followed_from : (first : Position) (start m : Moment) (later : List Moment) (files : Files) (ns : List Message) → HasFollowed first start (later ++ m ∷ []) files ns → HasFollowed first start later files ns
followed_from first start m later files ns h = record {
  more = m ∷ h.more;
  now = h.now;
  made = subst (HaveBeenMade first start) (append_assoc later (m ∷ []) (h.more ++ h.now ∷ [])) h.made;
  disk = h.disk;
  told = h.told;
  shipped = h.shipped;
}

-- a call of the device and then one that ships
module _ {P : Type 0} (has : P → List Message → Type 0) (has_now : List Message → Type 0) (first : Position) (start : Moment) (later : List Moment) (files mid now_files : Files) (peer : P) (at : Position) where
  pub device_and_shipping : IsAt has first start later files peer at → Prolongs files mid → IsGoingOn mid → (d : List Placed) → now_files ≡ mid → IsChronicle now_files d
      → ((ms : List Moment) → IsAt has first start ms mid peer at → (ns : List Message) × has_now ns × HasFollowed first start ms now_files ns)
      → (ns : List Message) × has_now ns × HasFollowed first start later now_files ns
  device_and_shipping is on going d same of ship =
      let of_mid : IsChronicle mid d = subst (λ f. IsChronicle f d) same of in
      let m = after_device has first start later files mid peer at is on going d of_mid in
      let all = ship (later ++ m ∷ []) (at_after_device has first start later files mid peer at is on going d of_mid) in
      (all.0, all.1, followed_from first start m later now_files all.0 all.2)
