use Rattle.std.proofs.Common.{◌≡◌, ◌<◌, ◌∙◌, ◌++◌, List, length, get_or, sym, ap, arith}
use Rattle.std.proofs.lemmas.List.{get_or_default}
use Rattle.std.proofs.lemmas.Result.{on_ok_weaker}
use Rattle.loop_data.specs.declared.language.lists.Array.{Array}
use Rattle.loop_data.specs.Run.{opening_cells, opening_of}
use Rattle.lines_of_runs.specs.Plain.{stretch_lines}
use Rattle.lines_of_runs.proofs.Openings.{opening-array}
use Rattle.lines_of_runs.proofs.runs.push_stretch.Goals as goal

pub returns : goal.returns
returns c = on_ok_weaker c.push_cells.result
    (λ told d.
    let loop = c.args.innermost.now in
    let after = c.args.after.now in
    let number = c.args.number in
    let array : Array = c.index-arrays-number.result in
    let within : number < length loop.arrays = omega (arith, c.requires.shape.same_arrays) in
    let is : get_or loop.arrays number d ≡ array
    = get_or_default loop.arrays number d array within ∙ ap (λ (xs : List Array). get_or xs number array) (sym c.arrays.ensures.value) ∙ sym c.index-arrays-number.is in
    told (opening_of loop after.trip)
    (opening-array loop after.trip number d within ∙ ap (opening_cells after.trip) (ap (λ (a : Array). a.cells) is ∙ sym c.as_slice.ensures))
    ∙ ap (λ name. c.args.text.now.items ++ stretch_lines (opening_of loop after.trip) after number name c.args.from c.args.end)
    (c.as_str.ensures.value ∙ ap (λ (a : Array). a.name) (sym is)))
    c.push_cells.ensures
