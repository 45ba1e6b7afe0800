use Rattle.std.proofs.Common.{rules, ap, sym, subst, arith, ◌<◌}
use Rattle.board.proofs.Steps.{looks}
use Rattle.board.proofs.word.WordBoardBoard.look.Goals as goal

pub load-word-requires : goal.load-word-requires
load-word-requires c =
    let near : c.args.loop_number < c.args.self.now.table.shared.key.loops = subst (λ n. c.args.loop_number < n) (sym (ap (λ t. t.loops) c.args.self.now.sizes)) c.requires.inside in
    (search rules, (let w = c.args.self.now.words in let i = c.requires.inside in omega arith), looks _ _ _ _ _ c.args.pass.now.one_part near)
