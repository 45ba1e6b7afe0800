use Rattle.std.proofs.Common.{◌<◌, length, arith}
use Rattle.loop_lint.proofs.Lacking.{lacks_more}
use Rattle.loop_lint.proofs.lacks.push_all.Goals as goal

pub loop-lack-preserved : goal.loop-lack-preserved
loop-lack-preserved c =
    let below : c.loop-lack.lack-index < length c.args.lacks.now = omega arith in
    lacks_more c.args.lacks.now c.loop-lack.lack-index _ c.args.lints.now.items _ _ below c.in_ok-push.ensures.items c.loop-lack.invariant
