use Rattle.std.proofs.Common.{◌≡◌}
use Rattle.log_model.specs.declared.name.Name.{Name}
use Rattle.log_model.specs.declared.name.NameKind.TheVariants as kinds
use Rattle.disk_fakes.specs.Views.{view_of}
use Rattle.device_trials.proofs.replays.all_replay.Given as goal

abbrev pub invariant-loop-before : goal.invariant-loop-before
invariant-loop-before l = (m : Name) → m.kind ≡ kinds.Store → ¬ (view_of l.disk).gone m
