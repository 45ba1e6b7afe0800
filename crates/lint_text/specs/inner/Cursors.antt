-- How far a text has been gone through.
use Rattle.std.specs.Prelude.{◌≡◌, ℕ, List, drop}
use Rattle.loop_lines.specs.Words.{lines_of}
use Rattle.lint_text.specs.declared.lines.From.{From}

-- the rest has the lines of the text after those that are passed
abbrev pub IsFrom : List ℕ → From → Type 0
IsFrom text from = drop from.passed (lines_of text) ≡ lines_of from.rest.now
