use Rattle.machine.proofs.checks.Faults.{ReadsPart-err, first-append, first-then, none-append}
use Rattle.machine.proofs.checks.Parts.{tables-of}
use Rattle.machine.proofs.read.tables.read_tables.Goals as goal

pub returns-in_err-ops : goal.returns-in_err-ops
returns-in_err-ops c = ReadsPart-err _ _ c.from_residual.result c.in_err-ops.field-0.0 c.from_residual.ensures.1 (λ ne.
    let first = rw c.top.ensures at (c.in_err-ops.ensures ne) in
    rw (tables-of _ _) (first-append _ _ _ first))

pub returns-in_err-fill_tables : goal.returns-in_err-fill_tables
returns-in_err-fill_tables c =
    let found = rw c.top.ensures at c.in_ok-ops.ensures in
    ReadsPart-err _ _ c.from_residual-in_err-fill_tables.result c.in_err-fill_tables.field-0.0 c.from_residual-in_err-fill_tables.ensures.1 (λ ne.
    let first = rw found.1 at (c.in_err-fill_tables.ensures ne) in
    rw (tables-of _ _) (first-then _ _ _ found.0 first))

pub returns : goal.returns
returns c =
    let found = rw c.top.ensures at c.in_ok-ops.ensures in
    let filled = rw found.1 at c.in_ok-fill_tables.ensures in
    (rw (tables-of _ _) (none-append _ _ found.0 filled.0), filled.1)
