use Rattle.std.proofs.Common.{◌≡◌, take, false}
use Rattle.machine_lint.specs.Words.{comment_after, first_key}
use Rattle.machine_lint.proofs.search.first_key.Given as goal

-- the offsets so far are none, and the bytes so far end in a comment or not
abbrev pub invariant-loop-at : goal.invariant-loop-at
invariant-loop-at l = record {
  none : first_key l.text l.word l.at ≡ first_key l.text l.word l.from;
  begun : l.begun ≡ comment_after false (take l.at l.text);
}
