use Rattle.std.proofs.Common.{sym}
use Rattle.machine_variants.proofs.doubling.doubled_table.Goals as goal

pub with_copies-requires-clause-others : goal.with_copies-requires-clause-others
with_copies-requires-clause-others c =
    rw (c.alternatives.ensures, c.units.ensures.value) (c.table.ensures.well_formed.tables c.args.opcode c.in-Some.table.now (sym c.in-Some.ensures.value)).1
