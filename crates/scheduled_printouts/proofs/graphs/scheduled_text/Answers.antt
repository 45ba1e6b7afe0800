use Rattle.std.proofs.Common.{List, subst}
use Rattle.graph.specs.Units.{first_lacking}
use Rattle.file_faults.proofs.Answering.{on_more}
use Rattle.loop_schedules.specs.Problems.{ProblemData}
use Rattle.candidates.specs.Files.{Prepares}
use Rattle.scheduled_printouts.specs.Graphs.{AreDrawn, AreScheduledGraphs}
use Rattle.scheduled_printouts.proofs.graphs.scheduled_text.Goals as goal

pub returns : goal.returns
returns c =
    let m = c.args.machine.now in
    let r = c.args.settings.now.ratio in
    let k = c.args.settings.now.ceiling in
    let ls = c.args.loops.items in
    let prepared = c.in_ok-prepared.prepared in
    let printout = c.in_ok-printout.printout in
    on_more (Prepares r k m ls) (AreScheduledGraphs r k m ls) (first_lacking m ls) prepared printout
    (λ are. record {
      problems = prepared.items;
      each_problem = are;
      drawn = subst (λ (ps : List ProblemData). AreDrawn ps printout.text printout.all_met) c.as_slice.ensures.value c.in_ok-printout.ensures;
    }) c.in_ok-prepared.ensures.exact
