use Rattle.std.proofs.Common.{◌≡◌, map, take}
use Rattle.machine_lint.proofs.hints.bytes_of.Given as goal

abbrev pub invariant-loop-word : goal.invariant-loop-word
invariant-loop-word l = map (λ n. n.now) l.names.items ≡ take l.word-index l.words
