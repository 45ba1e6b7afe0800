-- Each draw draws one number more, and no pass draws more pieces than there are.
use Rattle.std.proofs.Common.{ap, sym, subst, arith, ◌+◌, ◌≡◌, length}
use Rattle.std.specs.Prelude.{is_none, false, not}
use Rattle.board.specs.Views.{DrawsUnlessDry}
use Rattle.board_threads.proofs.worker.drain.Goals as goal

pub loop-preserved : goal.loop-preserved
loop-preserved g c = (
  c.draw.ensures.same_board,
  (let i = c.loop.invariant.1 in omega arith),
  λ t.
      let before = c.loop.invariant.2 t in
      let v = g.B.Board.view c.loop.pass in
      let w = g.B.Board.view c.draw.new.pass in
      let told : DrawsUnlessDry c.args.pieces v c.draw.result w = subst (λ n. DrawsUnlessDry n v c.draw.result w) (sym c.requires.pieces) (c.draw.ensures.told t) in
      let some_piece : is_none c.draw.result ≡ false = ap not c.if-is_none.ensures in (
        (let a : length w.drawn ≡ length v.drawn + 1 = c.draws_end.ensures.count c.args.pieces v w c.draw.result before.1 told in let b = before.0 in omega arith),
        c.draws_end.ensures.ascend c.args.pieces v w c.draw.result before.1 told some_piece,
      ),
)

pub returns-then-is_none-clause-count : goal.returns-then-is_none-clause-count
returns-then-is_none-clause-count g c t =
    let before = c.loop.invariant.2 t in
    let v = g.B.Board.view c.loop.pass in
    let w = g.B.Board.view c.draw.new.pass in
    let told : DrawsUnlessDry c.args.pieces v c.draw.result w = subst (λ n. DrawsUnlessDry n v c.draw.result w) (sym c.requires.pieces) (c.draw.ensures.told t) in
    let a : length w.drawn ≡ length v.drawn + 1 = c.draws_end.ensures.count c.args.pieces v w c.draw.result before.1 told in
    let b = before.0 in
    omega arith

pub returns-clause-ends_dry : goal.returns-clause-ends_dry
returns-clause-ends_dry g c t = let i = c.loop.invariant.2 t in let e = c.draws_end.ensures.end c.args.pieces _ i.1 in absurd (omega arith)

pub returns-clause-view_dry : goal.returns-clause-view_dry
returns-clause-view_dry g c t = let i = c.loop.invariant.2 t in let e = c.draws_end.ensures.end c.args.pieces _ i.1 in absurd (omega arith)

pub returns-clause-count : goal.returns-clause-count
returns-clause-count g c t = let i = c.loop.invariant.2 t in let e = c.draws_end.ensures.end c.args.pieces _ i.1 in absurd (omega arith)
