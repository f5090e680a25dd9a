use Rattle.std.proofs.Common.{rules, ltb}
use Rattle.std.proofs.lemmas.List.Sorted.{IsPartitionPoint-from_clause}
use Rattle.ordered.proofs.Place.{asc_parted, point_is_bound}
use Rattle.ordered.proofs.lower_bound.Goals as goal

pub returns : goal.returns
returns c =
    let a = c.args in
    let f = c.partition_point in
    let point =
    IsPartitionPoint-from_clause (λ d. ltb d a.key) a.keys.now f.result f.ensures.partitioned (asc_parted a.key c.requires) (λ x b g k. search rules) in
    point_is_bound a.key c.requires f.result f.ensures.bound point
