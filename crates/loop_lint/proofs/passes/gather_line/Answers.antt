use Rattle.std.proofs.Common.{◌∙◌, sym}
use Rattle.loop_lines.specs.Parsed.{form_seen}
use Rattle.loop_lint.proofs.Passing.{gathers_yes, near_read}
use Rattle.loop_lint.proofs.Tables.{table_more}
use Rattle.loop_lint.proofs.passes.gather_line.Goals as goal

pub add-requires-clause-near : goal.add-requires-clause-near
add-requires-clause-near c = near_read c.args.line.now (form_seen c.in-Some.form) (sym c.in-Some.ensures)

pub returns-clause-table : goal.returns-clause-table
returns-clause-table c = λ before is.
    let form = form_seen c.in-Some.form in
    let added = c.in_ok-add.ensures in
    gathers_yes before c.args.line.now form c.add.new.self (sym c.in-Some.ensures) (sym c.is_end.ensures ∙ c.if-is_end.false) (sym (c.allows.ensures before is) ∙ c.if-not-allows.false)
    (table_more before form c.args.table.now c.add.new.self is (near_read c.args.line.now form (sym c.in-Some.ensures)) added.names added.order added.arrays added.params added.statements added.statement added.out)
