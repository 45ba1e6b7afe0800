use Rattle.std.proofs.Common.{codes, ◌∙◌}
use Rattle.toml.proofs.Views.{table_get}
use Rattle.machine.proofs.checks.Faults.{ReadsPart-err, first-append, first-then, none-append}
use Rattle.machine.proofs.Laws.{units-law, machine-law}
use Rattle.machine.proofs.checks.TreeFaults.{tree-of, tree-is}
use Rattle.machine.proofs.read.read_tree.Goals as goal

pub returns-in_err-check_keys : goal.returns-in_err-check_keys
returns-in_err-check_keys c =
    ReadsPart-err _ _ c.from_residual.result c.in_err-check_keys.field-0.0 c.from_residual.ensures.1 (λ ne.
    let first = rw c.top.ensures at (c.in_err-check_keys.ensures ne) in
    rw (tree-of _) (first-append _ _ _ (first-append _ _ _ (first-append _ _ _ first))))

pub returns-in_err-units : goal.returns-in_err-units
returns-in_err-units c =
    let keys = rw c.top.ensures at c.in_ok-check_keys.ensures in
    let got = table_get c.get.result (codes "units") c.args.tree.now.entries c.get.ensures.value in
    ReadsPart-err _ _ c.from_residual-in_err-units.result c.in_err-units.field-0.0 c.from_residual-in_err-units.ensures.1 (λ ne.
    let first = rw got at (c.in_err-units.ensures ne) in
    rw (tree-of _) (first-append _ _ _ (first-append _ _ _ (first-then _ _ _ keys.0 first))))

pub returns-in_err-registers : goal.returns-in_err-registers
returns-in_err-registers c =
    let keys = rw c.top.ensures at c.in_ok-check_keys.ensures in
    let units = rw (table_get c.get.result (codes "units") c.args.tree.now.entries c.get.ensures.value) at c.in_ok-units.ensures in
    let got = table_get c.get-2.result (codes "registers") c.args.tree.now.entries c.get-2.ensures.value in
    ReadsPart-err _ _ c.from_residual-in_err-registers.result c.in_err-registers.field-0.0 c.from_residual-in_err-registers.ensures.1 (λ ne.
    let first = rw (c.top-path.ensures, got) at (c.in_err-registers.ensures ne) in
    rw (tree-of _) (first-append _ _ _ (first-then _ _ _ (none-append _ _ keys.0 units.0) first)))

pub returns-in_err-tables : goal.returns-in_err-tables
returns-in_err-tables c =
    let keys = rw c.top.ensures at c.in_ok-check_keys.ensures in
    let units = rw (table_get c.get.result (codes "units") c.args.tree.now.entries c.get.ensures.value) at c.in_ok-units.ensures in
    let registers = rw (c.top-path.ensures, table_get c.get-2.result (codes "registers") c.args.tree.now.entries c.get-2.ensures.value) at c.in_ok-registers.ensures in
    let got = table_get c.get-3.result (codes "ops") c.args.tree.now.entries c.get-3.ensures.value in
    ReadsPart-err _ _ c.from_residual-in_err-tables.result c.in_err-tables.field-0.0 c.from_residual-in_err-tables.ensures.1 (λ ne.
    let first = rw (c.as_slice.ensures.value, units.1, got) at (c.in_err-tables.ensures ne) in
    rw (tree-of _) (first-then _ _ _ (none-append _ _ (none-append _ _ keys.0 units.0) registers.0) first))

pub read_tables-requires : goal.read_tables-requires
read_tables-requires c =
    let units = rw (table_get c.get.result (codes "units") c.args.tree.now.entries c.get.ensures.value) at c.in_ok-units.ensures in
    rw (c.as_slice.ensures.value, units.1) (units-law _ units.0).1

pub new-requires : goal.new-requires
new-requires c =
    let units = rw (table_get c.get.result (codes "units") c.args.tree.now.entries c.get.ensures.value) at c.in_ok-units.ensures in
    let registers = rw (c.top-path.ensures, table_get c.get-2.result (codes "registers") c.args.tree.now.entries c.get-2.ensures.value) at c.in_ok-registers.ensures in
    let tables = rw (c.as_slice.ensures.value, units.1, table_get c.get-3.result (codes "ops") c.args.tree.now.entries c.get-3.ensures.value) at c.in_ok-tables.ensures in
    rw (units.1, registers.1, tables.1) (machine-law _ _ _ _ _ units.0 registers.0 tables.0)

pub returns : goal.returns
returns c =
    let keys = rw c.top.ensures at c.in_ok-check_keys.ensures in
    let units = rw (table_get c.get.result (codes "units") c.args.tree.now.entries c.get.ensures.value) at c.in_ok-units.ensures in
    let registers = rw (c.top-path.ensures, table_get c.get-2.result (codes "registers") c.args.tree.now.entries c.get-2.ensures.value) at c.in_ok-registers.ensures in
    let tables = rw (c.as_slice.ensures.value, units.1, table_get c.get-3.result (codes "ops") c.args.tree.now.entries c.get-3.ensures.value) at c.in_ok-tables.ensures in (
      rw (tree-of _) (none-append _ _ (none-append _ _ (none-append _ _ keys.0 units.0) registers.0) tables.0),
      c.new.ensures ∙ rw (units.1, registers.1, tables.1) (tree-is _),
    )
