use Rattle.std.proofs.Common.{[], sym, ◌∙◌, subst}
use Rattle.atomic_table.specs.Table.{opening}
use Rattle.board.specs.Views.{blank}
use Rattle.board.specs.Names.{terms_of}
use Rattle.board.specs.inner.Steps.{Keeps}
use Rattle.board.proofs.Opening.{opens}
use Rattle.board.proofs.word.WordBoard.new.Goals as goal

pub of_words-requires : goal.of_words-requires
of_words-requires c =
    let terms = terms_of c.args.loops c.args.pieces c.args.passes in
    subst (λ words. Keeps terms (opening {S = Unit {0}} words [] (blank c.args.passes))) (sym (c.deref.ensures.value ∙ c.in_ok-words.ensures))
    (opens terms (c.requires.loops, c.requires.pieces, c.requires.some_pass, c.requires.passes))
