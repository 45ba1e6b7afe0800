use Rattle.machine_data.specs.declared.alternative.Row.{Row}
use Rattle.solution_text.specs.Operations.{hold_text}
use Rattle.solution_text.proofs.Loops.{listed-more}
use Rattle.solution_text.proofs.operations.push_holds.Goals as goal

pub loop-row-preserved : goal.loop-row-preserved
loop-row-preserved c =
    let none : Row = record { unit = 0; offset = 0 } in
    listed-more (hold_text c.args.draft.now) c.args.text.now.items c.loop-row.text.items c.push_hold.new.text.items c.args.rows.now c.loop-row.row-index none
    c.loop-row-test.true c.loop-row.invariant c.in_ok-push_hold.ensures.ok
