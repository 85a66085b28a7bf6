use Rattle.std.proofs.Common.{sym, rules}
use Rattle.mem_segments.proofs.Resuming.{all_come}
use Rattle.mem_segments.proofs.rest.Rest.behind.Goals as goal

pub returns-in-None : goal.returns-in-None
returns-in-None c = let all = all_come c.args.self in search (rules, sym all)
