use Rattle.log_model.specs.declared.name.Name.{Name}
use Rattle.disk_fakes.specs.Views.{view_of}
use Rattle.device_trials.proofs.logs.add_logs.Given as goal

abbrev pub invariant-loop-before : goal.invariant-loop-before
invariant-loop-before l = (m : Name) → ¬ (view_of l.disk).gone m
