use Rattle.std.proofs.Common.{◌∙◌, ◌++◌, sym, ap, ap₂}
use Rattle.std.proofs.lemmas.Result.{on_ok_weaker}
use Rattle.loop_data.specs.Run.{opening_cells}
use Rattle.lines_of_runs.specs.Plain.{stretch_lines}
use Rattle.lines_of_runs.proofs.PlainLines.{stretch_all}
use Rattle.lines_of_runs.proofs.runs.push_array.Goals as goal

pub returns : goal.returns
returns c = on_ok_weaker c.push_cells.result
    (λ told opening opens.
    let after = c.args.after.now in
    let number = c.args.number in
    told opening (opens ∙ ap (λ written. opening_cells after.trip written) (sym c.as_slice.ensures))
    ∙ ap (λ t. c.args.text.now.items ++ t)
    (ap₂ (λ name n. stretch_lines opening after number name 0 n) c.as_str.ensures.value c.cells-end.ensures.many ∙ stretch_all opening after number c.args.array.now.name))
    c.push_cells.ensures
