use Rattle.std.proofs.Common.{◌≡◌}
use Rattle.machine_lint.specs.Words.{first_word}
use Rattle.machine_lint.proofs.search.first_word.Given as goal

-- the offsets so far are none
abbrev pub invariant-loop-at : goal.invariant-loop-at
invariant-loop-at l = first_word l.text l.word l.at ≡ first_word l.text l.word l.from
