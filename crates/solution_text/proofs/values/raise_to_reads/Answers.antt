use Rattle.solution_text.proofs.Owned.{no_read}
use Rattle.solution_text.proofs.Raising.{raised-more}
use Rattle.solution_text.proofs.values.raise_to_reads.Goals as goal

pub loop-read-preserved : goal.loop-read-preserved
loop-read-preserved c =
    let within = c.loop-read-test.true in
    raised-more c.args.reads.now c.args.iterations.now c.loop-read.iterations c.loop-read.read-index c.max-most.result no_read within
    (c.requires c.loop-read.read-index no_read within) c.max-most.ensures c.loop-read.invariant
