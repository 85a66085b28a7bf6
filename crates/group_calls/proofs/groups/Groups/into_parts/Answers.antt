use Rattle.std.proofs.Common.{sym}
use Rattle.group_calls.proofs.groups.Groups.into_parts.Goals as goal

pub returns-clause-is : goal.returns-clause-is
returns-clause-is g c = sym c.self.view_is

pub returns-clause-some : goal.returns-clause-some
returns-clause-some g c = c.self.invariant.some
