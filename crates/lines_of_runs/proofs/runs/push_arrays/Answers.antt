use Rattle.std.proofs.Common.{◌≡◌, ◌∙◌, ℕ, List, [], length, get_or, refl, sym, ap, arith}
use Rattle.loop_data.specs.declared.language.lists.Array.{Array}
use Rattle.loop_data.specs.Run.{MemoryData, opening_cells, opening_of}
use Rattle.lines_of_runs.specs.Plain.{cell_lines}
use Rattle.lines_of_runs.proofs.PlainLines.{array_more, array_all}
use Rattle.lines_of_runs.proofs.Openings.{opening-array}
use Rattle.lines_of_runs.proofs.runs.push_arrays.Goals as goal

pub loop-number-preserved : goal.loop-number-preserved
loop-number-preserved c =
    let loop = c.args.innermost.now in
    let opening : MemoryData = opening_of loop c.args.after.now.trip in
    let number : ℕ = c.loop-number.number in
    let array : Array = c.index-arrays-number.result in
    let long : length c.arrays-arrays.result.now ≡ length loop.arrays = ap length c.arrays-arrays.ensures.value in
    let is : get_or loop.arrays number array ≡ array
    = ap (λ (xs : List Array). get_or xs number array) (sym c.arrays-arrays.ensures.value) ∙ sym c.index-arrays-number.is in
    let opens : get_or opening.arrays number [] ≡ opening_cells c.args.after.now.trip array.cells
    = opening-array loop c.args.after.now.trip number array (omega arith) ∙ ap (opening_cells c.args.after.now.trip) (ap (λ (a : Array). a.cells) is) in
    c.in_ok-push_array.ensures opening opens
    ∙ array_more (λ (a : ℕ × Array). cell_lines opening c.args.after.now a.0 a.1.name) c.args.text.now.items c.loop-number.text.items _
    loop.arrays number array (omega arith) is c.loop-number.invariant refl

pub returns : goal.returns
returns c =
    let loop = c.args.innermost.now in
    let long : length c.arrays-arrays.result.now ≡ length loop.arrays = ap length c.arrays-arrays.ensures.value in
    array_all (λ (a : ℕ × Array). cell_lines (opening_of loop c.args.after.now.trip) c.args.after.now a.0 a.1.name) c.args.text.now.items c.loop-number.text.items
    loop.arrays c.loop-number.number (omega arith) c.loop-number.invariant
