use Rattle.std.proofs.Common.{◌≡◌, ◌∷◌, max, length, map, sym, ap, ◌∙◌, arith}
use Rattle.std.specs.List.{range_with_len}
use Rattle.schedule_lines.specs.Columns.{unit_name, unit_width, width_of}
use Rattle.schedule_lines.specs.SlotTexts.{slot_text}
use Rattle.schedule_lines.proofs.Widths.{width-more}
use Rattle.schedule_lines.proofs.grids.columns.unit_width.Goals as goal

pub loop-row-preserved : goal.loop-row-preserved
loop-row-preserved c =
    let slots = c.args.slots.now in
    let unit = c.args.unit in
    let row = c.loop-row.row in
    let width = c.loop-row.width in
    c.max-width.ensures ∙ ap (λ n. max width n) (ap length c.text.ensures)
    ∙ ap (λ w. max w (length (slot_text slots unit row))) c.loop-row.invariant ∙ sym (width-more (slot_text slots unit) (unit_name c.args.machine.now unit) row)

pub returns : goal.returns
unfolding unit_width
returns c =
    let slots = c.args.slots.now in
    let unit = c.args.unit in
    let e : c.loop-row.row ≡ slots.ii = omega (arith, c.loop-row-test.false, c.rows-row-end.ensures) in
    c.loop-row.invariant ∙ ap (λ n. width_of (unit_name c.args.machine.now unit ∷ map (slot_text slots unit) (range_with_len 0 n))) e
