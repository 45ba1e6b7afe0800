use Rattle.std.proofs.Common.{◌≡◌, ◌<◌, ◌++◌, ℕ, List, ap, ◌∙◌, append_assoc, arith}
use Rattle.std.specs.List.{flat_map, range_with_len}
use Rattle.lower_bounds.proofs.Texts.{numbered-more}
use Rattle.schedule_lines.specs.Columns.{head_line, row_line}
use Rattle.figures.specs.Slots.{rows_in}
use Rattle.schedule_lines.proofs.Lines.{head-is, row-is, rows-counted}
use Rattle.schedule_lines.proofs.grids.grid.push_grid.Goals as goal

pub push_row-requires : goal.push_row-requires
push_row-requires c =
    let grid = c.args.grid.now in
    let lt : c.loop-row.row < grid.slots.ii = omega (arith, c.loop-row-test.true, c.rows-row-end.ensures) in
    let counted = rows-counted c.args.machine.now grid c.requires in
    record {
      units = c.requires.few;
      row = lt;
      count = omega (arith, grid.counts.ok.0);
    }

pub loop-row-preserved : goal.loop-row-preserved
loop-row-preserved c =
    let machine = c.args.machine.now in
    let grid = c.args.grid.now in
    let row = c.loop-row.row in
    let lt : row < grid.slots.ii = omega (arith, c.loop-row-test.true, c.rows-row-end.ensures) in
    let here : List ℕ = c.loop-row.text.items in
    numbered-more (row_line machine grid.slots) c.push_head.new.text.items here c.push_row.new.text.items row c.loop-row.invariant
    (c.in_ok-push_row.ensures.ok ∙ ap (λ t. here ++ t) (row-is machine grid c.requires row lt))

pub returns : goal.returns
returns c =
    let machine = c.args.machine.now in
    let grid = c.args.grid.now in
    let old : List ℕ = c.args.text.now.items in
    let f : ℕ → List ℕ = row_line machine grid.slots in
    let e : c.loop-row.row ≡ grid.slots.ii = omega (arith, c.loop-row-test.false, c.rows-row-end.ensures) in
    let head : c.push_head.new.text.items ≡ old ++ head_line machine grid.slots
    = c.in_ok-push_head.ensures.ok ∙ ap (λ t. old ++ t) (head-is machine grid c.requires) in
    record {
      ok = c.loop-row.invariant ∙ ap (λ n. c.push_head.new.text.items ++ flat_map f (range_with_len 0 n)) e
          ∙ ap (λ t. t ++ flat_map f (rows_in grid.slots)) head ∙ append_assoc old (head_line machine grid.slots) (flat_map f (rows_in grid.slots));
    }
