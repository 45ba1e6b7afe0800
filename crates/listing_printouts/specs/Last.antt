-- The last line of several commands.
use Rattle.std.specs.Prelude.{ℕ, codes, List}
use Rattle.writing.specs.Words.{ended, told}

-- `loops A`
abbrev pub last_line : ℕ → List ℕ
last_line loops = ended (told (codes "loops ") loops)
