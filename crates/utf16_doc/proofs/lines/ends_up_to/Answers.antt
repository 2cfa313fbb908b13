use Rattle.std.proofs.Common.{leb, rules}
use Rattle.std.proofs.lemmas.List.Sorted.{IsPartitionedBy-leb, IsPartitionPoint-from_clause}
use Rattle.utf16_doc.proofs.Ascending.{count_of_point}
use Rattle.utf16_doc.proofs.lines.ends_up_to.Goals as goal

pub returns-clause-count : goal.returns-clause-count
returns-clause-count c = count_of_point (λ end. leb end c.args.offset) c.args.ends.now c.partition_point.result c.partition_point.ensures.bound
    (IsPartitionPoint-from_clause (λ end. leb end c.args.offset) c.args.ends.now c.partition_point.result c.partition_point.ensures.partitioned
    (IsPartitionedBy-leb (λ x. x) c.args.ends.now c.args.offset c.requires) (λ a r f' k. search rules))
