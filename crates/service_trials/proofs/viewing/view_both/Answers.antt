-- A viewer may cross threads.
use denote.Param.Send.{sendable}
use Rattle.std.proofs.Crossing.{crosses}
use Rattle.region_versions.proofs.Crossing.{viewer_send}
use Rattle.service_trials.proofs.viewing.view_both.Goals as goal

pub join-requires-send-F : goal.join-requires-send-F
join-requires-send-F g c κs within = search (viewer_send, sendable, crosses) fits 5000 depth 30
