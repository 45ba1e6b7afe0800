use Rattle.machine_variants.proofs.Doublings.{moved-right}
use Rattle.machine_variants.proofs.doubling.moved.Goals as goal

pub new-requires : goal.new-requires
new-requires c = rw (c.in_ok-rows.ensures, c.rows.ensures.value) (moved-right c.args.unit c.args.new c.args.alternative.now c.requires.few c.requires.others c.rows.ensures.well_formed)
