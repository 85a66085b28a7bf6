use Rattle.std.proofs.Common.{replicate}
use Rattle.log_device.specs.Whole.{disk_of}
use Rattle.disk_fakes.specs.Watch.{watched}
use Rattle.disk_fakes.specs.Views.{view_of, faults_of}
use Rattle.service_trials.proofs.held.on_disk.Given as goal

abbrev pub ghosts-over_held : goal.ghosts-over_held
ghosts-over_held g a = record {
  ring = a.rings.items.ring.id;
  chain_ring = a.rings.chains.ring.id;
  lasts = replicate 16 0;
  begun = (view_of (watched a._found.value)).files;
  start = (view_of (watched (disk_of a.device))).clock;
  faults = faults_of (watched (disk_of a.device));
  past = (view_of (watched (disk_of a.device))).image;
  came = λ items held. Unit {0};
  came_out = λ v w x pops was got. tt;
  came_in = λ items x was. tt;
}
