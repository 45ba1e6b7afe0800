use Rattle.std.proofs.Common.{◌≡◌, ◌∙◌, ◌-◌, ◌-ℤ◌, ◌+ℤ◌, ◌++◌, ℕ, ℤ, List, [], get_or, map, pos, sym, ap, ap₂, arith, rules, nat_abs, w64, to_z, of_z}
use Rattle.std.specs.List.{flat_map, range_with_len}
use Rattle.std.proofs.lemmas.Int.{ints, to_z-of_z}
use Rattle.loop_data.specs.Run.{cell_of, cell_index, opening_cells}
use Rattle.lines_of_runs.specs.Plain.{changed_line, line_if_changed}
use Rattle.lines_of_runs.proofs.PlainLines.{stretch_more}
use Rattle.lines_of_runs.proofs.cells.push_cells.Goals as goal

-- a cell by its place in a list of the array's cells
read : (arrays : List (List ℤ)) (array : ℕ) (cells : List ℤ) (i : ℕ) (cell value : ℤ) → cell ≡ pos i -ℤ pos 64 → cells ≡ get_or arrays array [] → value ≡ get_or cells i (pos 0)
    → value ≡ cell_of arrays array cell
read arrays array cells i cell value place is e =
    let back : (pos i -ℤ pos 64) +ℤ pos 64 ≡ pos i = omega (arith, ints) in
    let there : cell_index cell ≡ i = ap cell_index place ∙ ap nat_abs back in
    e ∙ ap (λ (xs : List ℤ). get_or xs i (pos 0)) is ∙ ap (λ (n : ℕ). get_or (get_or arrays array []) n (pos 0)) (sym there)

pub loop-index-preserved : goal.loop-index-preserved
loop-index-preserved c = λ opening h.
    let i = c.loop-index.index in
    let number = c.args.number in
    let cell : ℤ = to_z w64 (of_z w64 (to_z w64 i -ℤ pos 64)) in
    let place : cell ≡ pos i -ℤ pos 64 = first_of (omega (arith, ints), grind (arith, ints)) in
    let value : ℤ = to_z w64 (of_z w64 (get_or c.cells-values.result.now i (pos 0))) in
    let same_value : value ≡ get_or c.cells-values.result.now i (pos 0) = first_of (grind (arith, ints, to_z-of_z), search (rules, to_z-of_z)) in
    let kept : ℤ = to_z w64 (of_z w64 c.kept_at-kept.result) in
    let same_kept : kept ≡ c.kept_at-kept.result = first_of (grind (arith, ints, to_z-of_z), search (rules, to_z-of_z)) in
    let is_kept : kept ≡ cell_of opening.arrays number cell
    = read opening.arrays number (opening_cells c.args.after.now.trip c.args.written.now) i cell kept place (sym h)
    (same_kept ∙ c.kept_at-kept.ensures c.args.after.now.trip (omega (arith, c.cells-values.ensures.many))) in
    let is_value : value ≡ cell_of c.args.after.now.arrays number cell
    = read c.args.after.now.arrays number c.cells-values.result.now i cell value place c.cells-values.ensures.value same_value in
    c.in_ok-push_changed.ensures ∙ stretch_more (changed_line opening c.args.after.now number c.args.name.now) c.args.text.now.items c.loop-index.text.items _
    c.args.from i cell (omega arith) place (c.loop-index.invariant opening h)
    (ap₂ (λ (k v : ℤ). line_if_changed c.args.name.now cell k v) is_kept is_value)

pub returns : goal.returns
returns c = λ opening h.
    let end : c.loop-index.index - c.args.from ≡ c.args.end - c.args.from = omega (arith, c.requires.order) in
    c.loop-index.invariant opening h
    ∙ ap (λ n. c.args.text.now.items ++ flat_map (changed_line opening c.args.after.now c.args.number c.args.name.now) (map (λ k. pos k -ℤ pos 64) (range_with_len c.args.from n))) end
