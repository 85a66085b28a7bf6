use Rattle.std.proofs.Common.{Some, arith, rules}
use Rattle.std.proofs.lemmas.List.Sorted.{IsPartitionPoint-from_clause}
use Rattle.mem_segments.specs.Walk.{is_given}
use Rattle.mem_segments.proofs.Ranges.{front_passes}
use Rattle.mem_segments.proofs.Resuming.{given_parted}
use Rattle.mem_segments.proofs.rest.given.Goals as goal

pub returns-clause-others : goal.returns-clause-others
returns-clause-others c =
    let test = is_given (Some c.args.last.now) in
    let rows = c.args.rows.now in
    let point = IsPartitionPoint-from_clause test rows c.partition_point.result c.partition_point.ensures.partitioned (given_parted c.args.last.now rows c.requires) (λ a r q k. search rules) in
    (front_passes test rows c.partition_point.result c.partition_point.ensures.bound (λ k d lt. point.0 k d (omega arith) lt) point.1).1
