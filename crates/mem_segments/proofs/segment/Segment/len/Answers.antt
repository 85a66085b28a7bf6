use Rattle.std.proofs.Common.{refl}
use Rattle.mem_segments.proofs.Contents.{len_is}
use Rattle.mem_segments.proofs.segment.Segment.len.Goals as goal

pub returns : goal.returns
returns c = len_is _ _ _ _ refl c.as_slice.ensures.value c.self.invariant c.self.view_is
