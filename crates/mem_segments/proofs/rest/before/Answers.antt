use Rattle.std.proofs.Common.{arith, rules}
use Rattle.std.proofs.lemmas.List.Sorted.{IsPartitionPoint-from_clause}
use Rattle.mem_segments.specs.Walk.{is_before}
use Rattle.mem_segments.proofs.Ranges.{parted, front_passes}
use Rattle.mem_segments.proofs.rest.before.Goals as goal

pub returns-clause-below : goal.returns-clause-below
returns-clause-below c =
    let point = IsPartitionPoint-from_clause (is_before c.args.bound.now) c.args.rows.now c.partition_point.result c.partition_point.ensures.partitioned (parted c.args.bound.now c.args.rows.now c.requires) (λ a r q k. search rules) in
    (front_passes (is_before c.args.bound.now) c.args.rows.now c.partition_point.result c.partition_point.ensures.bound (λ k d lt. point.0 k d (omega arith) lt) point.1).0

pub returns-clause-others : goal.returns-clause-others
returns-clause-others c =
    let point = IsPartitionPoint-from_clause (is_before c.args.bound.now) c.args.rows.now c.partition_point.result c.partition_point.ensures.partitioned (parted c.args.bound.now c.args.rows.now c.requires) (λ a r q k. search rules) in
    (front_passes (is_before c.args.bound.now) c.args.rows.now c.partition_point.result c.partition_point.ensures.bound (λ k d lt. point.0 k d (omega arith) lt) point.1).1
