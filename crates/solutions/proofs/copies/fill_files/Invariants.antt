use Rattle.std.proofs.Common.{◌≡◌, map, take}
use Rattle.problems.specs.declared.draft.Value.{Value}
use Rattle.solutions.proofs.copies.fill_files.Given as goal

abbrev pub invariant-loop-k : goal.invariant-loop-k
invariant-loop-k l = take l.k l.files ≡ map (λ (value : Value). value.file) (take l.k l.values)
