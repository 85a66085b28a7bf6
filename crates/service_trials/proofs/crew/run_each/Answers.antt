use denote.Exit.{no}
use denote.Param.{param}
use denote.Param.Send.{IsSync, sendable, shr_sync}
use Rattle.std.proofs.Crossing.{crosses, sync}
use Rattle.log_service.proofs.Crossing.{service_sync}
use Rattle.service_trials.proofs.Captured.{five_sync}
use Rattle.service_trials.proofs.Sent.{disk_send, member_send}
use Rattle.service_trials.specs.contracts.steps.Trial as trying
use Rattle.service_trials.specs.contracts.watch.Watch as watching
use Rattle.service_trials.proofs.crew.run_each.Goals as goal

watch_sync : IsSync watching.the_row
watch_sync = search (sendable, crosses) fits 5000 depth 30

trial_sync : IsSync trying.the_row
trial_sync = search (sendable, crosses) fits 5000 depth 30

pub for_each_mut-requires-sync-F : goal.for_each_mut-requires-sync-F
for_each_mut-requires-sync-F g c κs within =
    five_sync 2 _ no _ _ _ _ _ _ (shr_sync _ _ _ c.type_bounds.sync-R) (shr_sync _ _ _ sync) (shr_sync _ _ _ (service_sync _ (param 0 g.row.N) _ g.N.ServiceNaming disk_send)) (shr_sync _ _ _ watch_sync) (shr_sync _ _ _ trial_sync)

pub for_each_mut-requires-send-T : goal.for_each_mut-requires-send-T
for_each_mut-requires-send-T g c κs within = search (member_send, sendable, crosses) fits 5000 depth 30
