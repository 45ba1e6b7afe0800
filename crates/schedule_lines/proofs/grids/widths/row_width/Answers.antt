use Rattle.std.proofs.Common.{max, length, sym, ap, ◌∙◌}
use Rattle.std.specs.Prelude.{codes, decimal}
use Rattle.schedule_lines.proofs.Widths.{width-more}
use Rattle.schedule_lines.proofs.grids.widths.row_width.Goals as goal

pub loop-row-preserved : goal.loop-row-preserved
loop-row-preserved c =
    let width = c.loop-row.width in
    let row = c.loop-row.row in
    c.max-width.ensures ∙ ap (λ n. max width n) c.digits_of.ensures ∙ ap (λ w. max w (length (decimal row))) c.loop-row.invariant
    ∙ sym (width-more decimal (codes "row") row)
