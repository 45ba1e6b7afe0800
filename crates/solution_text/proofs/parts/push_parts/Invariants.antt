use Rattle.std.proofs.Common.{◌≡◌, ◌++◌, take}
use Rattle.solution_text.specs.inner.Parts.{joined}
use Rattle.solution_text.proofs.parts.push_parts.Given as goal

abbrev pub invariant-loop-part : goal.invariant-loop-part
invariant-loop-part l = l.text.items ≡ l.initial.text.items ++ joined l.draft (take l.part-index l.parts)
