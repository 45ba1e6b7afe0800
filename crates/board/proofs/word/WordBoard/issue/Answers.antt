use Rattle.std.proofs.Common.{ℕ, ◌-◌, ◌<◌, sym, ap, subst, arith}
use Rattle.atomic_table.specs.Table.{Splits}
use Rattle.board.specs.Views.{blank}
use Rattle.board.specs.inner.Steps.{Keeps, rest_of}
use Rattle.board.proofs.Opening.{splits}
use Rattle.board.proofs.word.WordBoard.issue.Goals as goal

pub split_seat-part-requires : goal.split_seat-part-requires
split_seat-part-requires c =
    let parts : ℕ = c.args.self.now.passes - c.loop-made._made in
    let some_part : 0 < parts = omega arith in
    let terms = c.args.self.now.table.shared.key in
    let id : ℕ = c.loop-made.seat.id in (
      c.loop-made.invariant.table,
      (let w = c.args.self.now.words in omega arith),
      subst (λ v. Splits (Keeps terms) id v (rest_of v) (blank 1)) (sym (ap (λ m. m.0) c.loop-made.invariant.rest)) (splits terms id parts some_part),
    )
