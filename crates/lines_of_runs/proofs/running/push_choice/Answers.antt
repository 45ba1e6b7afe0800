use Rattle.std.proofs.Common.{sym, subst}
use Rattle.loop_data.specs.Loops.{LoopData}
use Rattle.lines_of_runs.specs.Runnable.{IsRunnable}
use Rattle.lines_of_runs.proofs.running.push_choice.Goals as goal

pub push_row-requires-clause-runs : goal.push_row-requires-clause-runs
push_row-requires-clause-runs c =
    subst (λ (l : LoopData). IsRunnable l c.args.listed.now.choice) (sym c.innermost.ensures.value) c.requires.runs
