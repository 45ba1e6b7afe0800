-- The sizes of a board.
use Rattle.std.specs.Prelude.{ℕ}
use Rattle.board.specs.declared.view.Terms.{Terms}

abbrev pub terms_of : ℕ → ℕ → ℕ → Terms
terms_of loops pieces passes = record { loops = loops; pieces = pieces; passes = passes }
