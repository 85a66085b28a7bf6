use Rattle.log_model.specs.declared.name.Name.{Name}
use Rattle.disk_fakes.specs.Views.{view_of}
use Rattle.device_trials.proofs.files.add_all.Given as goal

abbrev pub invariant-loop-file : goal.invariant-loop-file
invariant-loop-file l = (m : Name) → ¬ (view_of l.disk).gone m
