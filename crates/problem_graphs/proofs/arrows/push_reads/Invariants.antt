use Rattle.std.proofs.Common.{◌≡◌, ℕ, List, ◌++◌, take}
use Rattle.problem_graphs.specs.Arrows.{AreReads}
use Rattle.problem_graphs.proofs.arrows.push_reads.Given as goal

abbrev pub invariant-loop-read : goal.invariant-loop-read
invariant-loop-read l = (arrows : List ℕ) × AreReads l.look l.draft l.circuit (take l.read-index l.draft.reads.items) arrows × (l.text.items ≡ l.initial.text.items ++ arrows)
