use Rattle.std.proofs.Common.{◌≡◌, ◌++◌, string_bytes, take}
use Rattle.lint_text.specs.What.{inits_more}
use Rattle.lint_text.proofs.what.push_more.Given as goal

abbrev pub invariant-loop-number : goal.invariant-loop-number
invariant-loop-number l = string_bytes l.text ≡ string_bytes l.fn.text ++ inits_more l.word (take l.number-index l.numbers)
