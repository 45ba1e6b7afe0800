use Rattle.std.proofs.Common.{◌≡◌, map, string_bytes, take}
use Rattle.command_line.proofs.line.given.owned.Given as goal

-- the texts are those of the words that were gone over
abbrev pub invariant-loop-word : goal.invariant-loop-word
invariant-loop-word l = map string_bytes l.texts.items ≡ map (λ w. w.now) (take l.word-index l.words)
