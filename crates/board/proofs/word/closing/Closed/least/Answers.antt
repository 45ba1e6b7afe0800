use Rattle.std.proofs.Common.{◌+◌, sym, ap, ◌∙◌}
use Rattle.board.specs.Rule.{interval_of}
use Rattle.board.specs.Closes.{words_of}
use Rattle.board.proofs.Steps.{interval_none, interval_some}
use Rattle.board.proofs.Closing.{index_at}
use Rattle.board.proofs.word.closing.Closed.least.Goals as goal

pub returns-then-word : goal.returns-then-word
returns-then-word c =
    let found = index_at (words_of c.args.self.now) (1 + c.args.loop_number) c.word-word.result c.word-word.ensures in
    sym (interval_none c.word-word.result c.if-word.true) ∙ ap interval_of (sym found)

pub returns-else-word : goal.returns-else-word
returns-else-word c =
    let found = index_at (words_of c.args.self.now) (1 + c.args.loop_number) c.word-word.result c.word-word.ensures in
    sym (interval_some c.word-word.result c.if-word.false) ∙ ap interval_of (sym found)
