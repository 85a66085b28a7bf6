use Rattle.std.proofs.Common.{List, ◌∙◌, ap}
use Rattle.std.specs.FinMap.{get-empty}
use Rattle.log_model.specs.Files.{content, name_cmp}
use Rattle.disk_fakes.specs.declared.safe_call.SafeCall.{SafeCall}
use Rattle.disk_fakes.specs.Safe.{no_files, files_after}
use Rattle.disk_fakes.proofs.safe_disk.SafeDisk.new.Goals as goal

pub returns-clause-empty : goal.returns-clause-empty
returns-clause-empty c m = ap (λ (l : List SafeCall). content (files_after c.in_ok-with_capacity-2.field-0.items no_files l) m) c.in_ok-with_capacity.ensures.items ∙ get-empty name_cmp m
