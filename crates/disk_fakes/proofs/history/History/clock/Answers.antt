use Rattle.std.proofs.Common.{arith}
use Rattle.disk_fakes.specs.Table.{files_in}
use Rattle.disk_fakes.specs.History.{quiet, after-clock}
use Rattle.disk_fakes.proofs.history.History.clock.Goals as goal

pub returns : goal.returns
returns c = omega (arith, c.len.ensures, c.args.self.now.ops.ok.0, after-clock (quiet (files_in c.args.self.now.first)) c.args.self.now.ops.items)
