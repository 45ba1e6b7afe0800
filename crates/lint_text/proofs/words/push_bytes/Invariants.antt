use Rattle.std.proofs.Common.{◌≡◌, ◌++◌, take}
use Rattle.lint_text.specs.Words.{shown}
use Rattle.lint_text.proofs.words.push_bytes.Given as goal

abbrev pub invariant-loop-byte : goal.invariant-loop-byte
invariant-loop-byte l = l.text.items ≡ l.fn.text.items ++ shown (take l.byte-index l.word)
