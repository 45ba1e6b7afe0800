use Rattle.std.proofs.Common.{take}
use Rattle.figures.proofs.Later.{IsSlackBy}
use Rattle.figures.proofs.slacks.slack_of.Given as goal

abbrev pub invariant-loop-edge : goal.invariant-loop-edge
invariant-loop-edge l = IsSlackBy l.schedule l.op (take l.edge-index l.outgoing) l.slack
