use Rattle.std.proofs.Common.{◌<◌, sym, ap, ◌∙◌, arith, length}
use Rattle.std.proofs.lemmas.List.{length-take-le}
use Rattle.loop_lines.proofs.Short.{number_taken, short_taken}
use Rattle.loop_lines.proofs.cells.short_cell.Goals as goal

pub returns-then-begins_stop-clause-words : goal.returns-then-begins_stop-clause-words
returns-then-begins_stop-clause-words c =
    let count = c.count_digits-count in
    let some : 0 < count.result = omega arith in
    short_taken c.args.rest.now c.without_space.result.now c.sign_of-negative.result.1.now c.split_at.result.0.now c.split_at.result.1.now c.sign_of-negative.result.0 count.result
    c.without_space.ensures c.sign_of-negative.ensures some count.ensures.within count.ensures.digits
    c.split_at.ensures.front c.split_at.ensures.back (sym c.begins_stop.ensures ∙ c.if-begins_stop.true)

pub returns-then-begins_stop-clause-number : goal.returns-then-begins_stop-clause-number
returns-then-begins_stop-clause-number c =
    let count = c.count_digits-count in
    let some : 0 < count.result = omega arith in
    let text = c.sign_of-negative.result.1.now in
    number_taken text c.split_at.result.0.now count.result some count.ensures.within
    (ap length c.split_at.ensures.front ∙ length-take-le count.result text count.ensures.within) count.ensures.digits c.split_at.ensures.front
