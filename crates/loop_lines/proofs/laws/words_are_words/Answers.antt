use Rattle.loop_lines.proofs.Columns.{same_words}
use Rattle.loop_lines.proofs.laws.words_are_words.Goals as goal

pub returns : goal.returns
returns c = same_words
