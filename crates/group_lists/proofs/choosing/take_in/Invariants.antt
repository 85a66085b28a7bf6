use Rattle.std.proofs.Common.{◌≡◌, ℕ, ◌+◌, ◌<◌, ◌≤◌, ◌==◌, cond, slice_get}
use Rattle.groups_model.specs.Groups.{group_of}
use Rattle.group_lists.proofs.choosing.take_in.Given as goal

abbrev pub invariant-taking : goal.invariant-taking
invariant-taking g l = record {
  done : (k : ℕ) → k < l.place → slice_get l.chosen k ≡ cond (group_of l.fn.groups (k + 1) == l.fn.group) (slice_get l.fn.from k) (slice_get l.fn.chosen k);
  rest : (k : ℕ) → l.place ≤ k → (slice_get l.chosen k ≡ slice_get l.fn.chosen k) × (slice_get l.from k ≡ slice_get l.fn.from k);
}
