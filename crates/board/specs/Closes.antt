-- What clauses say of a closed board.
use Rattle.std.specs.Prelude.{ℕ, List}
use Rattle.board.specs.Last.{last_words}
use Rattle.board.specs.declared.word.closing.Closed.{Closed}

-- its words, of which the first is the next number
abbrev pub words_of : Closed → List ℕ
words_of c = last_words c.table

abbrev pub loops_of : Closed → ℕ
loops_of c = c.loops
