-- A load's script is a script.
use Rattle.std.proofs.Common.{◌≡◌, ℕ, zero, suc, ◌+◌, ◌/◌, ◌%◌, ◌^◌, ◌≤◌, ◌==◌, ◌&&◌, Bool, true, false, if◌then◌else◌, length, All, refl, ap, arith}
use Rattle.std.specs.List.{AllByRecursion}
use Rattle.std.proofs.lemmas.List.Elements.{All-from_recursion}
use Rattle.region_model.specs.Calls.{Call}
use Rattle.script_model.specs.Calls.{IsAmong, IsScript}
use Rattle.made_script.specs.Made.{AreOptions, next_x, first_x, made_call, made_calls, made_handlers, made_script}
use Rattle.made_script.specs.declared.options.LoadOptions.{LoadOptions}

either_call : (P : Call → Type 0) (b : Bool) (c d : Call) → P c → P d → P (if b then c else d)
either_call P true c d p q = p
either_call P false c d p q = q

within : (n x : ℕ) → 1 ≤ n → (1 ≤ 1 + x % n) × (1 + x % n ≤ n)
within n x some = (omega arith, omega arith)

made_among : (n h i x : ℕ) → 1 ≤ n → IsAmong n (made_call n h i x)
unfolding made_call
made_among n h i x some =
    let w = within n (x / 2 ^ 33) some in
    either_call (IsAmong n) (i % 8 == 0) _ _ w
    (either_call (IsAmong n) (i % 64 == 31) _ _ (w.0, w.1, tt)
    (either_call (IsAmong n) ((h == 1) && (i % 256 == 129)) _ _ tt w))

calls_among : (n h k i x : ℕ) → 1 ≤ n → AllByRecursion (IsAmong n) (made_calls n h k i x)
calls_among n h zero i x some = tt
calls_among n h (suc k) i x some = (made_among n h i (next_x x) some, calls_among n h k (i + 1) (next_x x) some)

calls_length : (n h k i x : ℕ) → length (made_calls n h k i x) ≡ k
calls_length n h zero i x = refl
calls_length n h (suc k) i x = ap suc (calls_length n h k (i + 1) (next_x x))

handlers_length : (o : LoadOptions) (k h : ℕ) → length (made_handlers o k h) ≡ k
handlers_length o zero h = refl
handlers_length o (suc k) h = ap suc (handlers_length o k (h + 1))

all_among : (o : LoadOptions) (k h : ℕ) → 1 ≤ o.regions → AllByRecursion (All (IsAmong o.regions)) (made_handlers o k h)
all_among o zero h some = tt
all_among o (suc k) h some = (All-from_recursion (IsAmong o.regions) (made_calls o.regions h o.count 1 (first_x o.start h)) (calls_among o.regions h o.count 1 (first_x o.start h) some), all_among o k (h + 1) some)

all_few : (o : LoadOptions) (k h : ℕ) → o.count ≤ 10000 → AllByRecursion (λ calls. length calls ≤ 16777216) (made_handlers o k h)
all_few o zero h few = tt
all_few o (suc k) h few = (omega (arith, few, calls_length o.regions h o.count 1 (first_x o.start h)), all_few o k (h + 1) few)

pub made_right : (o : LoadOptions) → AreOptions o → IsScript (made_script o)
made_right o r = record {
  time_below = omega arith;
  some_region = r.some_region;
  regions_below = r.regions_most;
  some_handler = omega (arith, handlers_length o o.handlers 1, r.some_handler);
  handlers_below = omega (arith, handlers_length o o.handlers 1, r.handlers_most);
  calls_among = All-from_recursion (All (IsAmong o.regions)) (made_handlers o o.handlers 1) (all_among o o.handlers 1 r.some_region);
  calls_few = All-from_recursion (λ calls. length calls ≤ 16777216) (made_handlers o o.handlers 1) (all_few o o.handlers 1 r.count_most);
}
