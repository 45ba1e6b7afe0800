use Rattle.machine_variants.proofs.Shortenings.{shortened-machine}
use Rattle.machine_variants.proofs.shortening.shortened.Goals as goal

pub new-requires : goal.new-requires
new-requires c =
    rw (c.in_ok-units.ensures, c.in_ok-tables.ensures, c.registers.ensures.value, c.units.ensures.value)
    (shortened-machine c.args.machine.now c.args.opcode c.units.ensures.well_formed c.requires)
