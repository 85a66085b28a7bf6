use Rattle.std.proofs.Common.{◌≡◌, ℕ, ◌+◌, ◌-◌, ◌<◌, ◌≤◌, length, vec_capacity, slice_get, Some}
use Rattle.region_calls.specs.Hands.{Deal, deal_of}
use Rattle.region_calls.specs.Passes.{AreNewHands}
use Rattle.region_calls.proofs.dealing.deal.Given as goal

abbrev pub invariant-dealing : goal.invariant-dealing
invariant-dealing g l = record {
  done : (k : ℕ) (d : Deal) → k < l.place → slice_get l.regions.items k ≡ Some d → d ≡ deal_of (k + 1) (l.handler + 1) (l.left - 1);
  rest : (k : ℕ) (d : Deal) → l.place ≤ k → slice_get l.regions.items k ≡ Some d → d ≡ deal_of (k + 1) l.handler l.left;
  count : length l.regions.items ≡ length l.fn.regions.items;
  hands : AreNewHands l.handler l.hands.items;
  made : length l.hands.items ≡ l.place;
  room : length l.fn.regions.items ≤ vec_capacity l.hands;
}
