use Rattle.machine.proofs.checks.Parts.{table-missing, table-wrong_type, table-fine}
use Rattle.machine.proofs.read.read_table.Goals as goal

pub returns-in-None : goal.returns-in-None
returns-in-None c = λ ne. rw (c.missing.ensures ne, c.in-None.is) (table-missing _)

pub returns-in-None-as_table : goal.returns-in-None-as_table
returns-in-None-as_table c = λ ne. rw (c.wrong_type.ensures ne, c.in-Some.is) (table-wrong_type _ _ c.in-None-as_table.ensures)

pub returns-in-Some-as_table : goal.returns-in-Some-as_table
returns-in-Some-as_table c = rw c.in-Some.is (table-fine c.args.path.now _ _ c.in-Some-as_table.ensures)
