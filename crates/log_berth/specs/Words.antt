-- The words of a berth, the ware in its slot and what each seat knows.
-- The words are the synced number of each region, region 1 first, then the fault word, then the turn word.
use Rattle.std.specs.Prelude.{◌≡◌, ◌≢◌, ℕ, zero, suc, ◌+◌, ◌-◌, ◌<◌, ◌≤◌, ◌==◌, ◌||◌, max, min, Bool, true, false, cond, List, [], ◌∷◌, length, take, slice_index, Option, Some}
use mathlib.Core.Option.{some}
use lib.ListN.{get_elem?}
use Rattle.atomic_table.specs.Table.{State, Me, Step, rest}
use Rattle.log_berth.specs.declared.known.Known.{Known}
use Rattle.log_berth.specs.declared.known.Tally.{Tally}
use Rattle.log_berth.specs.declared.known.Plan.{Plan}

-- each number of xs is at most that of ys; a number past the end is 0
abbrev pub NoMore : List ℕ → List ℕ → Type 0
NoMore xs ys = (i : ℕ) → slice_index xs i ≤ slice_index ys i

abbrev pub Same : List ℕ → List ℕ → Type 0
Same xs ys = (i : ℕ) → slice_index xs i ≡ slice_index ys i

-- the list with x at i, longer if need be
abbrev pub noted : List ℕ → ℕ → ℕ → List ℕ
noted [] zero x = x ∷ []
noted [] (suc i) x = 0 ∷ noted [] i x
noted (y ∷ ys) zero x = x ∷ ys
noted (y ∷ ys) (suc i) x = y ∷ noted ys i x

-- the greater number at each place
abbrev pub greater : List ℕ → List ℕ → List ℕ
greater [] ys = ys
greater (x ∷ xs) [] = x ∷ xs
greater (x ∷ xs) (y ∷ ys) = max x y ∷ greater xs ys

-- the lesser number at each place
abbrev pub lesser : List ℕ → List ℕ → List ℕ
lesser [] ys = []
lesser (x ∷ xs) [] = []
lesser (x ∷ xs) (y ∷ ys) = min x y ∷ lesser xs ys

-- the numbers of the first n regions
abbrev pub starts : ℕ → List ℕ → List ℕ
starts zero xs = []
starts (suc n) [] = 0 ∷ starts n []
starts (suc n) (x ∷ xs) = x ∷ starts n xs

-- no step was made
abbrev pub idle : Tally
idle = record { looks = 0; tries = 0; found = 0 }

-- one load of the fault word more
abbrev pub looked : Tally → Tally
looked z = record { looks = z.looks + 1; tries = z.tries; found = z.found }

-- one try for the turn more, which found x
abbrev pub tried : Tally → ℕ → Tally
tried z x = record { looks = z.looks; tries = z.tries + 1; found = x }

abbrev pub known : ℕ → Bool → List ℕ → Bool → List ℕ → Tally → Known
known p t xs b ys z = record { parts = p; turn = t; seen = xs; broken = b; last = ys; tally = z }

-- the first seat has all parts, and knows the words at the start
abbrev pub new_seat : Plan → Known
new_seat k = known k.seats false (take k.regions k.words.items) false [] idle

-- a seat that may do nothing
abbrev pub nobody : Known
nobody = known 0 false [] false [] idle

abbrev pub less_one : Known → Known
less_one v = known (v.parts - 1) v.turn v.seen v.broken v.last v.tally

abbrev pub one_part : Known → Known
one_part v = known 1 false v.seen v.broken v.last v.tally

-- the word of region i + 1 is seen at x
abbrev pub saw : Known → ℕ → ℕ → Known
saw v i x = known v.parts v.turn (noted v.seen i x) v.broken v.last v.tally

-- the turn word was found at x at one try, which is not 0
abbrev pub missed : Known → ℕ → Known
missed v x = known v.parts v.turn v.seen v.broken v.last (tried v.tally x)

-- the fault word is set, and the words stand as they are
abbrev pub fault_set : Known → Known
fault_set v = known v.parts true v.seen true v.seen v.tally

abbrev pub without_turn : Known → Known
without_turn v = known v.parts false v.seen v.broken v.last v.tally

-- what the words had reached: they stand at the last ones once the fault was seen
abbrev pub reached : Known → List ℕ
reached v = cond v.broken (greater v.seen v.last) v.seen

-- no more than the words, of two seats of which one saw the fault
abbrev pub ended : Known → Known → List ℕ
ended v w = cond v.broken (cond w.broken (lesser v.last w.last) v.last) w.last

-- what the first seat knows once the second is joined to it
abbrev pub informed : Known → Known → Known
informed v w = known (v.parts + w.parts) v.turn (greater (reached v) (reached w)) (v.broken || w.broken) (ended v w) v.tally

-- w knows at least what v does: where v saw the fault, the numbers that it saw last lie between those of w
pub record Informs (v w : Known) : Type 0 where
  pub seen : NoMore v.seen (reached w)
  pub fault : v.broken ≡ true → (w.broken ≡ true) × NoMore v.last (reached w) × NoMore w.last v.last

-- the parts of all views
abbrev pub parts_of : List Known → ℕ
parts_of [] = 0
parts_of (v ∷ vs) = v.parts + parts_of vs

-- what a seat knows is so
pub record Fits (numbers : List ℕ) (fault : ℕ) (v : Known) : Type 0 where
  pub seen : NoMore v.seen numbers
  pub stands : v.broken ≡ true → (fault ≡ 1) × Same v.last numbers
  pub exact : v.turn ≡ true → Same v.seen numbers × (v.broken ≡ (fault == 1)) × (0 < v.parts)

-- the numbers are durable, and the ware is broken exactly where the fault word is 1
pub record Backs {W : Type 0} (numbers_of : W → List ℕ) (is_broken : W → Bool) (numbers : List ℕ) (fault : ℕ) (w : W) : Type 0 where
  pub below : NoMore numbers (numbers_of w)
  pub same : is_broken w ≡ (fault == 1)

-- some seat has the turn
abbrev pub HasHolder : List Known → Type 0
HasHolder views = (j : ℕ) × (v : Known) × (get_elem? views j ≡ some v) × (v.turn ≡ true)

-- the rule of a berth with k.0 regions and k.1 seats
pub record Kept {W : Type 0} (numbers_of : W → List ℕ) (is_broken : W → Bool) (k : ℕ × ℕ) (s : State (Option W) Known) : Type 0 where
  pub wide : length s.words ≡ k.0 + 2
  pub home : slice_index s.words (k.0 + 1) ≡ 0 → (w : W) × (get_elem? s.homes 0 ≡ some (some (Some w))) × Backs numbers_of is_broken (take k.0 s.words) (slice_index s.words k.0) w
  pub away : (j : ℕ) (v : Known) → get_elem? s.views j ≡ some v → v.turn ≡ true → slice_index s.words (k.0 + 1) ≡ 1
  pub one : (i j : ℕ) (v u : Known) → get_elem? s.views i ≡ some v → get_elem? s.views j ≡ some u → v.turn ≡ true → u.turn ≡ true → i ≡ j
  pub holder : slice_index s.words (k.0 + 1) ≢ 0 → HasHolder s.views
  pub each : (j : ℕ) (v : Known) → get_elem? s.views j ≡ some v → Fits (take k.0 s.words) (slice_index s.words k.0) v
  pub all : parts_of s.views ≡ k.1

abbrev pub keeps_plan : {W : Type 0} → (W → List ℕ) → (W → Bool) → Plan → State (Option W) Known → Type 0
keeps_plan numbers_of is_broken plan = Kept numbers_of is_broken (plan.regions, plan.seats)

module _ {W : Type 0} where
  -- the number found is not below what was seen, and is that of all later loads once the fault was seen
  abbrev pub sees_word : Step (Option W) → Me (Option W) Known → ℕ → Me (Option W) Known → Type 0
  sees_word st m found m' = (m'.1 ≡ m.1) × (m'.0 ≡ saw m.0 st.word found) × (slice_index m.0.seen st.word ≤ found) × (m.0.broken ≡ true → found ≡ slice_index m.0.last st.word)

  abbrev pub sees_fault : Step (Option W) → Me (Option W) Known → ℕ → Me (Option W) Known → Type 0
  sees_fault st m found m' =
      (m'.1 ≡ m.1) × (m'.0.parts ≡ m.0.parts) × (m'.0.turn ≡ m.0.turn) × (m'.0.seen ≡ m.0.seen) × (m'.0.broken ≡ (found == 1)) × (m'.0.tally ≡ looked m.0.tally)
      × (m.0.broken ≡ true → (found ≡ 1) × (m'.0.last ≡ m.0.last)) × (found ≡ 1 → NoMore m.0.seen m'.0.last) × (m.0.turn ≡ true → (found == 1) ≡ m.0.broken)

  abbrev pub raised : Step (Option W) → Me (Option W) Known → ℕ → Me (Option W) Known → Type 0
  raised st m found m' = (m'.1 ≡ m.1) × (m'.0 ≡ saw m.0 st.word st.first)

  abbrev pub broke : Step (Option W) → Me (Option W) Known → ℕ → Me (Option W) Known → Type 0
  broke st m found m' = (m'.1 ≡ m.1) × (m'.0 ≡ fault_set m.0)

  abbrev pub gave : Step (Option W) → Me (Option W) Known → ℕ → Me (Option W) Known → Type 0
  gave st m found m' = (m'.1 ≡ rest m.1) × (m'.0 ≡ without_turn m.0)

  module _ (numbers_of : W → List ℕ) (is_broken : W → Bool) where
    -- the seat with the view v now knows w: it has the turn, and the ware is durable and broken as the seat has then seen the words
    pub record Holds (v w : Known) (ware : W) : Type 0 where
      pub turn : w.turn ≡ true
      pub parts : w.parts ≡ v.parts
      pub tally : w.tally ≡ tried v.tally 0
      pub seen : NoMore v.seen w.seen
      pub below : NoMore w.seen (numbers_of ware)
      pub broken : is_broken ware ≡ w.broken
      pub stands : v.broken ≡ true → (w.broken ≡ true) × Same v.last w.last

    -- the same of a seat that holds the ware's slot
    abbrev pub Owns : Me (Option W) Known → Me (Option W) Known → Type 0
    Owns m m' = (ware : W) × (m'.1 ≡ (0, Some ware) ∷ m.1) × Holds m.0 m'.0 ware

    abbrev pub took : Step (Option W) → Me (Option W) Known → ℕ → Me (Option W) Known → Type 0
    took st m found m' = (found ≡ 0 → Owns m m') × (found ≢ 0 → m' ≡ (missed m.0 found, m.1))
