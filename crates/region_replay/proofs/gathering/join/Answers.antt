use Rattle.std.proofs.Common.{sym}
use Rattle.region_replay.proofs.BaseLaws.{joined_behind_none}
use Rattle.region_replay.proofs.gathering.join.Goals as goal

pub returns-then-is_empty : goal.returns-then-is_empty
returns-then-is_empty c = sym (joined_behind_none c.args.stored c.args.unflushed (c.is_empty.ensures.0 c.if-is_empty.true))
