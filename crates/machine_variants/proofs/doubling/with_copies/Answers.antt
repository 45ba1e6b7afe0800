use Rattle.machine_variants.proofs.Doublings.{copies-right}
use Rattle.machine_variants.proofs.doubling.with_copies.Goals as goal

pub shared-requires : goal.shared-requires
shared-requires c =
    rw (c.in_ok-push_moved.ensures, c.as_slice-2.ensures.value, c.in_ok-push_copies.ensures, c.as_slice.ensures.value, c.in_ok-list.ensures.items)
    (copies-right c.args.unit c.args.new c.args.alternatives.now c.requires.few c.requires.others c.as_slice.ensures.well_formed c.requires.count)
