-- A shower and a viewer may cross threads. A version keeps snapshots, through which the check's own search doesn't go, so
-- each step is shown by itself: the version, the version with its beginning, and then the ends that hold it.
use denote.RattleType.{RattleType}
use denote.Param.Send.{IsSend, IsSync, sendable}
use Rattle.std.proofs.Crossing.{crosses}
use Rattle.left_right.proofs.writer.Writer.TheSendSync as writer
use Rattle.left_right.proofs.reader.Reader.TheSendSync as reader
use Rattle.logbook.proofs.tokens.Seen.TheSendSync as seen
use Rattle.mem_segments.proofs.layers.SegmentList.TheSendSync as segments
use Rattle.region_state.specs.contracts.version.Version as version
use Rattle.region_versions.specs.declared.naming.VersionsNaming.{Ghosts}
use Rattle.region_versions.specs.contracts.slot.Showing as showing
use Rattle.region_versions.specs.contracts.shower.Shower as shower
use Rattle.region_versions.specs.contracts.viewer.Viewer as viewer
use Rattle.region_versions.proofs.sight.Sight.TheSendSync as sight

version_send : IsSend version.the_row
version_send = search (segments.the_send, sendable, crosses) depth 20

version_sync : IsSync version.the_row
version_sync = search (segments.the_sync, sendable, crosses) depth 20

pub showing_send : IsSend showing.the_row
showing_send = search (version_send, version_sync, sendable, crosses, seen.the_send) fits 5000 depth 30

pub showing_sync : IsSync showing.the_row
showing_sync = search (version_send, version_sync, sendable, crosses, seen.the_sync) fits 5000 depth 30

module _ (N R : RattleType) (g : Ghosts N.Denot) where
  pub shower_send : IsSend N → IsSend R → IsSend (shower.the_row N R g)
  shower_send n r = search (showing_send, showing_sync, writer.the_send, sight.the_send, sendable, crosses) fits 5000 depth 30

  pub viewer_send : IsSend N → IsSend (viewer.the_row N g)
  viewer_send n = search (showing_sync, reader.the_send, sight.the_send, sendable, crosses) fits 5000 depth 30
