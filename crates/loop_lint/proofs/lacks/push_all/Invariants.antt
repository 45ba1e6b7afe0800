use Rattle.std.proofs.Common.{◌≡◌, ◌++◌, map, take}
use Rattle.loop_lint.specs.declared.lacks.LoopLint.TheVariants as lint
use Rattle.loop_lint.proofs.lacks.push_all.Given as goal

abbrev pub invariant-loop-lack : goal.invariant-loop-lack
invariant-loop-lack l = l.lints.items ≡ l.fn.lints.items ++ map lint.NoTable (take l.lack-index l.lacks)
