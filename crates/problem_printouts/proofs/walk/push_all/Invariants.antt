use Rattle.std.proofs.Common.{◌≡◌}
use Rattle.problem_printouts.specs.inner.Asked.{Answering}
use Rattle.problem_printouts.proofs.Answered.{IsSofar}
use Rattle.problem_printouts.proofs.walk.push_all.Given as goal

-- the problems so far are answered, and the question is the same
abbrev pub invariant-loop-number : goal.invariant-loop-number
invariant-loop-number g l = record {
  ready : g.T.Teller.ready l.teller;
  same : g.T.Teller.asked l.teller ≡ g.T.Teller.asked l.initial.teller;
  answered : IsSofar (Answering (g.T.Teller.asked l.initial.teller)) (g.T.Teller.asked l.initial.teller).file.problems l.initial.text.items l.number l.text.items l.met;
}
