use Rattle.std.proofs.Common.{◌≡◌, drop, false}
use Rattle.machine_lint.specs.Words.{comment_after}
use Rattle.machine_lint.proofs.search.ends_in_comment.Given as goal

abbrev pub invariant-loop-byte : goal.invariant-loop-byte
invariant-loop-byte l = comment_after l.begun (drop l.byte-index l.text) ≡ comment_after false l.text
