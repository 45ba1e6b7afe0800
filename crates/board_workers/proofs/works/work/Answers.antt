use Rattle.std.proofs.Common.{sym, subst, refl, arith, ◌-◌, ◌≡◌, ◌<◌, ◌∙◌, ℕ}
use Rattle.std.specs.Prelude.{IsTrue, Some, None}
use Rattle.board.specs.Views.{DrawsUnlessDry}
use Rattle.reports.specs.Entries.{ReportData}
use Rattle.board.specs.declared.view.View.{View}
use Rattle.loop_listings.specs.Pieces.{PiecesData, piece_count, loop_of_piece, start_of_piece, end_of_piece}
use Rattle.board_workers.specs.inner.Turns.{Turned}
use Rattle.board_workers.specs.Worked.{WorkedAs}
use Rattle.board_workers.proofs.Working.{worked_none, worked_on, worked_dry, count_drawn, count_turned, lost_turned, turned_at}
use Rattle.board_workers.proofs.works.work.Goals.{else-loop-test, then-loop-test+then-not-go_on, then-loop-test+else-not-go_on+in_default}
use Rattle.board_workers.proofs.works.work.Goals as goal

pub loop-init : goal.loop-init
loop-init g c =
    let e = c.report_of-report.ensures in (
      c.requires.of,
      e.loops,
      (let k = e.lost in omega arith),
      e.dry,
      (λ dry. dry),
      (λ t. refl),
      λ t un. worked_none c.args.pieces.now (g.B.Board.view c.args.pass) c.report_of-report.result un e.entries e.lost e.dry,
    )

pub loop-preserved : goal.loop-preserved
loop-preserved g c =
    let i = c.loop.invariant in
    let n : ℕ = c.in-Some.number in
    let v = g.B.Board.view c.loop.pass in
    let u = g.B.Board.view c.draw.new.pass in
    let w = g.B.Board.view c.turn.new.pass in
    let turned : Turned g.B.Board.tells u w (loop_of_piece c.args.pieces.now n) (start_of_piece c.args.pieces.now n) (end_of_piece c.args.pieces.now n - start_of_piece c.args.pieces.now n) c.loop.report c.turn.new.report =
    turned_at g.B.Board.tells u w c.loop.report c.turn.new.report c.piece.result.loop_number (loop_of_piece c.args.pieces.now n) c.piece.result.start (start_of_piece c.args.pieces.now n) c.piece.result.end (end_of_piece c.args.pieces.now n)
    c.piece.ensures.its_loop c.piece.ensures.start c.piece.ensures.end c.turn.ensures.turned in
    let told : IsTrue g.B.Board.tells → DrawsUnlessDry (piece_count c.args.pieces.now) v (Some n) u = λ t. subst (λ m. DrawsUnlessDry m v (Some n) u) c.requires.pieces (c.in-Some.ensures.told t) in
    let few = lost_turned g.B.Board.tells u w (loop_of_piece c.args.pieces.now n) (start_of_piece c.args.pieces.now n) (end_of_piece c.args.pieces.now n - start_of_piece c.args.pieces.now n) c.loop.report c.turn.new.report turned in
    let lost = i.2 in (
      c.turn.ensures.of,
      c.turn.ensures.loops ∙ i.1,
      omega arith,
      c.turn.ensures.same_dry ∙ i.3,
      (λ dry. c.turn.ensures.same_dryness ∙ c.in-Some.ensures.dries),
      (λ t. count_turned g.B.Board.tells u w (loop_of_piece c.args.pieces.now n) (start_of_piece c.args.pieces.now n) (end_of_piece c.args.pieces.now n - start_of_piece c.args.pieces.now n) c.loop.report c.turn.new.report t turned
          ∙ count_drawn (piece_count c.args.pieces.now) v u (Some n) (told t) ∙ i.5 t),
      λ t un. worked_on g.B.Board.tells c.args.pieces.now n v u w c.loop.report c.turn.new.report c.loop.counter t (i.6 t un) (told t) (subst (λ m. n < m) c.requires.pieces c.in-Some.ensures.piece) turned c.turn.ensures.loops (c.turn.ensures.same_dry ∙ i.3),
    )

same_end : {P : Type 0} (view : P → View) (pieces : PiecesData) (p q : P) (r s : ReportData) → p ≡ q → r ≡ s → WorkedAs pieces (view q) s → WorkedAs pieces (view p) r
same_end view pieces p q r s a b h = subst (λ x. WorkedAs pieces (view x) r) (sym a) (subst (WorkedAs pieces (view q)) (sym b) h)

pub returns-clause-worked : goal.returns-clause-worked
returns-clause-worked g c = λ t un. elim c.loop-test.branch [
  | else-loop-test w ↦ same_end g.B.Board.view c.args.pieces.now c.loop-test.pass c.loop.pass c.loop-test.report c.loop.report w.pass-is w.report-is (c.loop.invariant.6 t un).worked
  | then-loop-test+then-not-go_on w ↦ same_end g.B.Board.view c.args.pieces.now c.loop-test.pass c.loop.pass c.loop-test.report c.loop.report w.pass-is w.report-is (c.loop.invariant.6 t un).worked
  | then-loop-test+else-not-go_on+in_default w ↦ same_end g.B.Board.view c.args.pieces.now c.loop-test.pass w.draw.new.pass c.loop-test.report w.go_dry.new.report w.pass-is w.report-is
      (worked_dry c.args.pieces.now (g.B.Board.view c.loop.pass) (g.B.Board.view w.draw.new.pass) c.loop.report w.go_dry.new.report c.loop.counter (c.loop.invariant.6 t un)
      (subst (λ m. DrawsUnlessDry m (g.B.Board.view c.loop.pass) None (g.B.Board.view w.draw.new.pass)) c.requires.pieces
      (subst (λ a. DrawsUnlessDry (g.B.Board.pieces c.args.board.now) (g.B.Board.view c.loop.pass) a (g.B.Board.view w.draw.new.pass)) w.in_default.is (w.draw.ensures.told t)))
      w.go_dry.ensures.loops w.go_dry.ensures.entries w.go_dry.ensures.lost w.go_dry.ensures.dry)
]
