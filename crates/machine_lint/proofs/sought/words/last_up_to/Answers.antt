use Rattle.std.proofs.Common.{rules}
use Rattle.std.proofs.lemmas.List.Sorted.{IsPartitionPoint-from_clause}
use Rattle.std.specs.Cmp.Lexicographic.{slice_cmp}
use Rattle.std.specs.Ordering.{is_le, nat_cmp}
use Rattle.machine_lint.proofs.InOrder.{parted, reach-point}
use Rattle.machine_lint.proofs.sought.words.last_up_to.Goals as goal

pub returns-clause-others : goal.returns-clause-others
returns-clause-others c =
    let point = IsPartitionPoint-from_clause (λ w. is_le (slice_cmp nat_cmp w.now c.args.text.now)) _ _ c.partition_point.ensures.partitioned (parted c.args.words.now c.args.text.now c.requires) (λ a r q k. search rules) in
    reach-point c.args.words.now c.args.text.now c.partition_point.result c.checked_sub.result c.requires c.partition_point.ensures.bound point c.checked_sub.ensures
