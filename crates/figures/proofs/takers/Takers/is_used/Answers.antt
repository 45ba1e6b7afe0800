use Rattle.std.proofs.Common.{ltb, ap, ◌∙◌}
use Rattle.std.specs.Prelude.{is_some}
use Rattle.figures.specs.Slots.{busy_count, is_used, rows_in, slot_taker}
use Rattle.figures.proofs.Busy.{some-counted}
use Rattle.figures.proofs.takers.Takers.is_used.Goals as goal

pub returns : goal.returns
unfolding is_used busy_count
returns c =
    let schedule = c.args.self.now in
    ap (ltb 0) c.busy.ensures.count ∙ some-counted (λ row. is_some (slot_taker schedule c.args.unit row)) (rows_in schedule)
