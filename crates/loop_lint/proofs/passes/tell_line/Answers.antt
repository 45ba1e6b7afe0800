use Rattle.std.proofs.Common.{◌∙◌, sym}
use Rattle.loop_lines.specs.Parsed.{form_seen}
use Rattle.loop_lint.proofs.Passing.{near_read, tells_no, tells_stands}
use Rattle.loop_lint.proofs.Tables.{table_more}
use Rattle.loop_lint.proofs.passes.tell_line.Goals as goal

pub returns-then-not-allows-clause-told : goal.returns-then-not-allows-clause-told
returns-then-not-allows-clause-told c = λ lines forms is whole.
    tells_no c.args.line.number lines c.args.line.bytes.now (form_seen c.in-Some.form) c.args.before.now c.args.faults.now.items c.tell.new.faults.items forms c.syntax_word-word.result
    (sym c.in-Some.ensures) (sym (c.allows.ensures lines is) ∙ c.if-not-allows.true) is c.syntax_word-word.ensures c.in_ok-tell.ensures

pub judge-found-requires : goal.judge-found-requires
judge-found-requires c = near_read c.args.line.bytes.now (form_seen c.in-Some.form) (sym c.in-Some.ensures)

pub add-requires-clause-near : goal.add-requires-clause-near
add-requires-clause-near c = near_read c.args.line.bytes.now (form_seen c.in-Some.form) (sym c.in-Some.ensures)

pub returns-clause-told : goal.returns-clause-told
returns-clause-told c = λ lines forms is whole.
    let form = form_seen c.in-Some.form in
    let added = c.in_ok-add.ensures in
    tells_stands c.args.line.number lines c.args.line.bytes.now form c.add.new.self c.args.faults.now.items c.tell_all.new.faults.items forms c.judge-found.result c.is_end.result
    (sym c.in-Some.ensures) (sym c.is_end.ensures) (sym (c.allows.ensures lines is) ∙ c.if-not-allows.false)
    (table_more lines form c.args.before.now c.add.new.self is (near_read c.args.line.bytes.now form (sym c.in-Some.ensures)) added.names added.order added.arrays added.params added.statements added.statement added.out)
    (c.judge-found.ensures lines forms is whole) (c.in_ok-tell_all.ensures forms whole)
