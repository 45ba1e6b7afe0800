use Rattle.machine_variants.proofs.Doublings.{doubled-machine}
use Rattle.machine_variants.proofs.doubling.doubled_within.Goals as goal

pub new-requires : goal.new-requires
new-requires c =
    rw (c.in_ok-units.ensures, c.in_ok-tables.ensures, c.registers.ensures.value, c.units.ensures.value) (doubled-machine c.args.machine.now c.args.unit c.units.ensures.well_formed c.requires)
